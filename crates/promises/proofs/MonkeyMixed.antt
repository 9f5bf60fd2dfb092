-- The conditions and P2 of series of exported calls, in which calls with records and without follow one another in any order.
use mathlib.Core.List.{List, map}
use mathlib.Core.Path.{◌≡◌}
use lib.ListN.{take}
use Rattle.definition.specs.Basic.{Bytes}
use Rattle.definition.specs.Limit.{session_size}
use Rattle.definition.specs.Session.{Words, word_list, field_count}
use Rattle.definition.specs.Call.{Called}
use Rattle.definition.specs.Series.{Call, lent, ReadsBack}
use Rattle.definition.specs.Trusted.{TrustedCall}
use Rattle.definition.specs.Valid.{All, AreBytes}
use Rattle.compiler.proofs.Conditions.{made-start}
use Rattle.compiler.proofs.Trusted.{compile_trusted}
use Rattle.records.specs.Call.{shaped_turns}
use Rattle.names.specs.Promise.{call_names}
use Rattle.exported.specs.Packed.{MadeByPacked, RanPacked}
use Rattle.exported.proofs.Conditions.{made-unpacked, ran-unpacked}
use Rattle.promises.specs.Mixed.{AnyCall, AnyDone, call_of, called_of, RanBy, AllAlikeAny, turn_of, IndistinguishableMixed}
use Rattle.promises.specs.Ended.{EndedAny, ExactAny}
use Rattle.promises.specs.Monkey.{KeptPacked, RanMixedPacked}
use Rattle.promises.proofs.Mixed.{Gives}
use Rattle.promises.proofs.Ended.{any_condition_1}
use Rattle.promises.proofs.Exact.{any_condition_2}
use Rattle.promises.proofs.Condition3.{any_condition_3}
use Rattle.promises.proofs.Trusted.{any_trusted, any_read_back}

-- exported calls give what the definition's turns give
pub packed_done : Gives KeptPacked
unfolding call_names
packed_done s _ _ (KeptPacked.plain p) = λ i. AnyDone.plain (record { answer = p.back i; lent = p.lent i })
packed_done s _ _ (KeptPacked.names p) = λ i. AnyDone.names (record { answer = p.back i; lent = p.lent i }) (p.counted i) (p.rows i)

-- a series of exported plain calls is one of these
pub ran_mixed-packed : {s : Bytes} {cs : List Call} {xs : List Called} → RanPacked s cs xs
    → RanMixedPacked s (map AnyCall.plain cs) (map AnyDone.plain xs)
ran_mixed-packed RanPacked.none = RanBy.none
ran_mixed-packed (RanPacked.more p q) = RanBy.more (KeptPacked.plain p) (ran_mixed-packed q)

-- Condition 1: an answer, or a numbered refusal with its place that leaves session, output and records as they were
pub monkey_mixed_condition_1 : {s : Bytes} {c : AnyCall} {x : AnyDone} → AreBytes (take session_size (lent s (call_of c)).session)
    → KeptPacked s c x → EndedAny (lent s (call_of c)) c x
monkey_mixed_condition_1 a k = any_condition_1 packed_done a k

-- Condition 2: image, session and records are the definition's, and a tree is refused exactly when the definition refuses it
pub monkey_mixed_condition_2 : {s : Bytes} {c : AnyCall} {x : AnyDone} → AreBytes (take session_size (lent s (call_of c)).session)
    → KeptPacked s c x → ExactAny (lent s (call_of c)) c x
monkey_mixed_condition_2 a k = any_condition_2 packed_done a k

-- Condition 3: two series from sessions of equal words, whose calls are of the same kinds and whose lent lengths and shapes are equal, call
-- by call, can't be told apart but by the literals' bytes
pub monkey_mixed_condition_3 : {a b : Bytes} {u v : Words} → MadeByPacked a u → MadeByPacked b v → word_list u ≡ word_list v
    → (cs ds : List AnyCall) → AllAlikeAny cs ds → (xs ys : List AnyDone)
    → RanMixedPacked (take session_size a) cs xs → RanMixedPacked (take session_size b) ds ys → IndistinguishableMixed (field_count u ≡ field_count v) (shaped_turns u (map turn_of cs)) xs ys
monkey_mixed_condition_3 m n e cs ds alike xs ys x y =
    any_condition_3 packed_done (made-start (made-unpacked m)) (made-start (made-unpacked n)) e alike x y

-- P2 of plain calls: each image in the output reads as one that is trusted beside the session which its call left
pub monkey_trusted : {a : Bytes} {w : Words} → MadeByPacked a w → (cs : List Call) (xs : List Called)
    → RanPacked (take session_size a) cs xs → All TrustedCall xs
monkey_trusted m cs xs x = compile_trusted (made-unpacked m) cs xs (ran-unpacked x)

-- and of calls with records and without
pub monkey_mixed_trusted : {a : Bytes} {w : Words} → MadeByPacked a w → (cs : List AnyCall) (xs : List AnyDone)
    → RanMixedPacked (take session_size a) cs xs → All (λ (x : AnyDone). TrustedCall (called_of x)) xs
monkey_mixed_trusted m cs xs x = any_trusted packed_done (made-start (made-unpacked m)) x

-- a session that exported compile calls alone have written always reads back, and none of them is refused with 2
pub monkey_mixed_read_back : {a : Bytes} {w : Words} → MadeByPacked a w → (cs : List AnyCall) (xs : List AnyDone)
    → RanMixedPacked (take session_size a) cs xs → All (λ (x : AnyDone). ReadsBack (called_of x)) xs
monkey_mixed_read_back m cs xs x = any_read_back packed_done (made-start (made-unpacked m)) x
