-- At every step of condition 3's two series the chin forms of both images are equally long and agree at all but the literals' places.
use mathlib.Core.List.{List, map}
use mathlib.Core.Path.{◌≡◌, sym, subst₂}
use lib.ListN.{take}
use Rattle.definition.specs.Basic.{Bytes}
use Rattle.definition.specs.Limit.{session_size}
use Rattle.definition.specs.Session.{Words, word_list}
use Rattle.definition.specs.Call.{Called}
use Rattle.definition.specs.Series.{Call, Start, AllAlike, shapes}
use Rattle.compiler.specs.Promise.{MadeBy, Ran}
use Rattle.compiler.proofs.Conditions.{ran-calls, made-start}
use Rattle.records.specs.Call.{shaped_turns}
use Rattle.promises.specs.Alike.{ChinStepwise}
use Rattle.promises.specs.Mixed.{AnyCall, AnyDone, called_of, RanBy, RanMixed, AllAlikeAny, turn_of}
use Rattle.promises.proofs.Plain.{steps_in}
use Rattle.promises.proofs.Chin.{turns_chin, calls_chin}
use Rattle.promises.proofs.Mixed.{Gives, kept_done, ran_called, alike-turns}

-- of any calls that keep the promise of `compile`
pub compile_chin : {a b : Bytes} {u v : Words} → MadeBy a u → MadeBy b v → word_list u ≡ word_list v → (cs ds : List Call) → AllAlike cs ds
    → (xs ys : List Called)
    → Ran (take session_size a) cs xs → Ran (take session_size b) ds ys → ChinStepwise (shapes u cs) xs ys
compile_chin {u =
    u} m n e cs ds alike xs ys x y = subst₂ (ChinStepwise (shapes u cs)) (sym (ran-calls x)) (sym (ran-calls y)) (calls_chin (made-start m) (made-start n) e cs ds alike)

-- of any calls that give what the definition's turns give
pub any_chin : {K : Bytes → AnyCall → AnyDone → Type 0} → Gives K → {s t : Bytes} {u v : Words} → Start s u → Start t v
    → word_list u ≡ word_list v → {cs ds : List AnyCall} → AllAlikeAny cs ds → {xs ys : List AnyDone}
    → RanBy K s cs xs → RanBy K t ds ys → ChinStepwise (steps_in (shaped_turns u (map turn_of cs))) (map called_of xs) (map called_of ys)
any_chin g {u = u} a b e {cs} {ds} alike x y =
    subst₂ (ChinStepwise (steps_in (shaped_turns u (map turn_of cs)))) (sym (ran_called g x)) (sym (ran_called g y)) (turns_chin a b e (map turn_of cs) (map turn_of ds) (alike-turns alike))

-- of calls of `compile`, `compile_with_records` and `compile_names` in any order
pub mixed_chin : {a b : Bytes} {u v : Words} → MadeBy a u → MadeBy b v → word_list u ≡ word_list v → (cs ds : List AnyCall)
    → AllAlikeAny cs ds → (xs ys : List AnyDone)
    → RanMixed (take session_size a) cs xs → RanMixed (take session_size b) ds ys → ChinStepwise (steps_in (shaped_turns u (map turn_of cs))) (map called_of xs) (map called_of ys)
mixed_chin m n e cs ds alike xs ys x y = any_chin kept_done (made-start m) (made-start n) e alike x y
