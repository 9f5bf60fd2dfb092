-- Condition 1 of a call of any kind: an answer, or a numbered refusal with its place that leaves session, output and what is lent for
-- records as they were.
use Prim.Native.Nat.{ℕ, ◌*◌, ◌/◌}
use native.Mathlib.Omega.{arith}
use mathlib.Core.List.{List}
use mathlib.Core.Path.{◌≡◌, refl, sym, ap, subst, ◌∙◌}
use lib.ListN.{length, take, drop, length-replicate}
use lib.Seq.{take-append_seam, drop-append_seam, drop_at}
use Rattle.definition.specs.Basic.{Bytes}
use Rattle.definition.specs.Limit.{session_size}
use Rattle.definition.specs.Call.{Lent, Called, call}
use Rattle.definition.specs.Series.{lent}
use Rattle.definition.specs.Valid.{AreBytes}
use Rattle.compiler.specs.Promise.{Ended}
use Rattle.compiler.proofs.Conditions.{compile_condition_1}
use Rattle.records.specs.Call.{Recorded, over_records, turn}
use Rattle.records.specs.declared.Record.{Record}
use Rattle.records.proofs.Logged.{CallAgrees, call_agrees}
use Rattle.names.specs.Rows.{rows_of}
use Rattle.names.specs.Promise.{blanks, named}
use Rattle.promises.specs.Mixed.{AnyCall, AnyDone, call_of, turn_of, Kept}
use Rattle.promises.specs.Ended.{EndedCall, Behind, EndedAny}
use Rattle.promises.proofs.Mixed.{done_of, Gives, kept_done, rows-length}

-- the plain call
plain-ended : (tree : Bytes) (l : Lent) → AreBytes (take session_size l.session) → Ended l (call tree l).answer (call tree l).lent
plain-ended tree l a = compile_condition_1 tree l (call tree l).answer (call tree l).lent a (record { answer = refl; lent = refl })

module _ {tree : Bytes} {l : Lent} {rs : List Record} where
  -- the call with records, beside it
  call-ended : {x : Recorded} {y : Called} → CallAgrees tree l rs x y → Ended l y.answer y.lent → EndedCall l x.called
  call-ended (CallAgrees.refused r e) h = EndedCall.as_plain h
  call-ended (CallAgrees.accepted new e _ _) h = EndedCall.as_plain h
  call-ended (CallAgrees.few _) h = EndedCall.few refl refl refl (record { code = refl; table = refl })

  -- its records
  behind : {x : Recorded} {y : Called} → CallAgrees tree l rs x y → Behind 1 rs x.called x.count x.records
  behind (CallAgrees.refused r e) = record { room = omega arith; stays = refl; refused = λ _ _. (refl, refl) }
  behind (CallAgrees.accepted {c} {n} new e h _) =
      let z : 1 * length new ≡ length new = omega arith in
      record {
        room = omega arith;
        stays = ap (λ k. drop k (over_records new rs)) z ∙ drop-append_seam new (drop (length new) rs) ∙ ap (λ k. drop k rs) (sym z);
        refused = λ q f. let w : ◌≡◌ {A = ℕ} 0 1 = cc in absurd (omega arith);
      }
  behind (CallAgrees.few _) = record { room = omega arith; stays = refl; refused = λ _ _. (refl, refl) }

  -- its numbers, four for each record
  pub behind-rows : (xs : List ℕ) → length rs ≡ length xs / 4 → {x : Recorded} {y : Called} → CallAgrees tree l rs x y
      → Behind 4 xs x.called x.count (named xs x).rows
  unfolding rows_of
  behind-rows xs m (CallAgrees.refused r e) = record { room = omega arith; stays = refl; refused = λ _ _. (refl, refl) }
  behind-rows xs m (CallAgrees.accepted {c} {n} new e h _) =
      let k : length (rows_of (take (length new) (over_records new rs))) ≡ 4 * length new = ap (λ l. length (rows_of l)) (take-append_seam new (drop (length new) rs)) ∙ rows-length new in
      record {
        room = omega arith;
        stays = drop_at (rows_of (take (length new) (over_records new rs))) (drop (4 * length new) xs) (4 * length new) k;
        refused = λ q f. let w : ◌≡◌ {A = ℕ} 0 1 = cc in absurd (omega arith);
      }
  behind-rows xs m (CallAgrees.few _) = record { room = omega arith; stays = refl; refused = λ _ _. (refl, refl) }

-- what the definition's turn gives
ended_done : (s : Bytes) (c : AnyCall) → AreBytes (take session_size (lent s (call_of c)).session)
    → EndedAny (lent s (call_of c)) c (done_of c (turn s (turn_of c)))
ended_done s (AnyCall.plain c) a = EndedAny.plain (plain-ended c.tree (lent s c) a)
ended_done s (AnyCall.records c rs) a =
    let k = call_agrees c.tree (lent s c) rs in EndedAny.records (call-ended k (plain-ended c.tree (lent s c) a)) (behind k)
ended_done s (AnyCall.names c xs) a =
    let k = call_agrees c.tree (lent s c) (blanks (length xs / 4)) in
    EndedAny.names (call-ended k (plain-ended c.tree (lent s c) a)) (behind-rows xs (length-replicate (length xs / 4) _) k)

-- of any calls that give what the definition's turns give
pub any_condition_1 : {K : Bytes → AnyCall → AnyDone → Type 0} → Gives K → {s : Bytes} {c : AnyCall} {x : AnyDone}
    → AreBytes (take session_size (lent s (call_of c)).session) → K s c x → EndedAny (lent s (call_of c)) c x
any_condition_1 g {s} {c} {x} a k = subst (EndedAny (lent s (call_of c)) c) (sym (g s c x k)) (ended_done s c a)

-- Condition 1 of every call that keeps the promise of `compile`, `compile_with_records` or `compile_names`
pub mixed_condition_1 : {s : Bytes} {c : AnyCall} {x : AnyDone} → AreBytes (take session_size (lent s (call_of c)).session) → Kept s c x
    → EndedAny (lent s (call_of c)) c x
mixed_condition_1 a k = any_condition_1 kept_done a k
