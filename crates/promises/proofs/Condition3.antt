-- Condition 3 of series in which plain calls, calls with records and calls with numbers follow one another in any order.
use mathlib.Core.List.{List, map}
use mathlib.Core.Path.{◌≡◌, sym, subst₂}
use lib.ListN.{take}
use Rattle.definition.specs.Basic.{Bytes}
use Rattle.definition.specs.Limit.{session_size}
use Rattle.definition.specs.Session.{Words, word_list, field_count}
use Rattle.definition.specs.Series.{Start}
use Rattle.compiler.specs.Promise.{MadeBy}
use Rattle.compiler.proofs.Conditions.{made-start}
use Rattle.records.specs.Call.{shaped_turns}
use Rattle.records.proofs.Turns.{condition_3_records}
use Rattle.promises.specs.Mixed.{AnyCall, AnyDone, RanBy, RanMixed, AllAlikeAny, turn_of, IndistinguishableMixed}
use Rattle.promises.proofs.Mixed.{Gives, kept_done, ran_done, alike-turns, same_dones}

-- of any calls that give what the definition's turns give
pub any_condition_3 : {K : Bytes → AnyCall → AnyDone → Type 0} → Gives K → {s t : Bytes} {u v : Words} → Start s u → Start t v
    → word_list u ≡ word_list v → {cs ds : List AnyCall} → AllAlikeAny cs ds → {xs ys : List AnyDone}
    → RanBy K s cs xs → RanBy K t ds ys → IndistinguishableMixed (field_count u ≡ field_count v) (shaped_turns u (map turn_of cs)) xs ys
any_condition_3 g {s} {t} {u} {v} a b e {cs} {ds} alike x y =
    subst₂ (IndistinguishableMixed (field_count u ≡ field_count v) (shaped_turns u (map turn_of cs))) (sym (ran_done g x)) (sym (ran_done g y))
    (same_dones alike s t (condition_3_records a b e (map turn_of cs) (map turn_of ds) (alike-turns alike)))

-- Condition 3: two series of calls of any kind, each from a session made in a buffer of its own, the lists of words equal, whose calls are
-- of the same kinds, whose lent lengths are equal and whose trees have equal shapes, call by call, give the same answers, counts and
-- records, and images and sessions that are equal at all but the literals' bytes
pub mixed_condition_3 : {a b : Bytes} {u v : Words} → MadeBy a u → MadeBy b v → word_list u ≡ word_list v → (cs ds : List AnyCall)
    → AllAlikeAny cs ds → (xs ys : List AnyDone)
    → RanMixed (take session_size a) cs xs → RanMixed (take session_size b) ds ys → IndistinguishableMixed (field_count u ≡ field_count v) (shaped_turns u (map turn_of cs)) xs ys
mixed_condition_3 m n e cs ds alike xs ys x y = any_condition_3 kept_done (made-start m) (made-start n) e alike x y
