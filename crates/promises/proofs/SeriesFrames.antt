-- At every step of condition 3's two series the functions on frames answer alike on both images: equal counts, rests and frame lengths.
use mathlib.Core.List.{List, map}
use mathlib.Core.Path.{◌≡◌, sym, subst₂}
use lib.ListN.{take}
use Rattle.definition.specs.Basic.{Bytes}
use Rattle.definition.specs.Limit.{session_size}
use Rattle.definition.specs.Session.{Words, word_list}
use Rattle.definition.specs.Call.{Called}
use Rattle.definition.specs.Series.{Call, Start, AllAlike}
use Rattle.compiler.specs.Promise.{MadeBy, Ran}
use Rattle.compiler.proofs.Conditions.{ran-calls, made-start}
use Rattle.promises.specs.Alike.{Stepwise, FramesAnswered}
use Rattle.promises.specs.Mixed.{AnyCall, AnyDone, called_of, RanBy, RanMixed, AllAlikeAny, turn_of}
use Rattle.promises.proofs.Frames.{turns_frames, calls_frames}
use Rattle.promises.proofs.Mixed.{Gives, kept_done, ran_called, alike-turns}

-- of any calls that keep the promise of `compile`
pub compile_frames : {a b : Bytes} {u v : Words} → MadeBy a u → MadeBy b v → word_list u ≡ word_list v → (cs ds : List Call)
    → AllAlike cs ds → (xs ys : List Called)
    → Ran (take session_size a) cs xs → Ran (take session_size b) ds ys → Stepwise FramesAnswered xs ys
compile_frames m n e cs ds alike xs ys x y =
    subst₂ (Stepwise FramesAnswered) (sym (ran-calls x)) (sym (ran-calls y)) (calls_frames (made-start m) (made-start n) e cs ds alike)

-- of any calls that give what the definition's turns give
pub any_frames : {K : Bytes → AnyCall → AnyDone → Type 0} → Gives K → {s t : Bytes} {u v : Words} → Start s u → Start t v
    → word_list u ≡ word_list v → {cs ds : List AnyCall} → AllAlikeAny cs ds → {xs ys : List AnyDone}
    → RanBy K s cs xs → RanBy K t ds ys → Stepwise FramesAnswered (map called_of xs) (map called_of ys)
any_frames g a b e {cs} {ds} alike x y =
    subst₂ (Stepwise FramesAnswered) (sym (ran_called g x)) (sym (ran_called g y)) (turns_frames a b e (map turn_of cs) (map turn_of ds) (alike-turns alike))

-- of calls of `compile`, `compile_with_records` and `compile_names` in any order
pub mixed_frames : {a b : Bytes} {u v : Words} → MadeBy a u → MadeBy b v → word_list u ≡ word_list v → (cs ds : List AnyCall)
    → AllAlikeAny cs ds → (xs ys : List AnyDone)
    → RanMixed (take session_size a) cs xs → RanMixed (take session_size b) ds ys → Stepwise FramesAnswered (map called_of xs) (map called_of ys)
mixed_frames m n e cs ds alike xs ys x y = any_frames kept_done (made-start m) (made-start n) e alike x y
