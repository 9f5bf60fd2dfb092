-- What holds of refusals, and of every call of every plain series, holds of every call of a series of turns.
use mathlib.Core.List.{List, [], ◌∷◌}
use mathlib.Core.Path.{◌≡◌, refl, sym, subst}
use Rattle.std.specs.Prelude.{Err}
use Rattle.definition.specs.Basic.{Bytes}
use Rattle.definition.specs.Session.{Words, Session, begun}
use Rattle.definition.specs.Call.{Called}
use Rattle.definition.specs.Series.{Call, session_after, Start, lent, calls}
use Rattle.definition.specs.Valid.{All}
use Rattle.definition.specs.declared.reason.Refusal.{Refusal}
use Rattle.definition.proofs.Series.{Holds, before_after, call_does, start_holds}
use Rattle.records.specs.Call.{Recorded, Turn, turns}
use Rattle.records.specs.declared.Record.{Record}
use Rattle.records.proofs.Logged.{CallAgrees, call_agrees}
use Rattle.records.proofs.Turns.{held_size}

module _ (P : Called → Type 0) (refusals : (x : Called) (r : Refusal) → x.answer ≡ Err r → P x) where
  -- the first, and the others
  first : {x : Called} {xs : List Called} → All P (x ∷ xs) → P x
  first (All.more h hs) = h

  -- the calls behind it
  others : {x : Called} {xs : List Called} → All P (x ∷ xs) → All P xs
  others (All.more h hs) = hs

  -- the call with records is the plain call, or leaves the session
  either : (s : Bytes) (c : Call) (rs : List Record) (ts : List Turn) {x : Recorded} {y : Called} → CallAgrees c.tree (lent s c) rs x y
      → P y → session_after s (lent s c).session ≡ s
      → All (λ (x : Recorded). P x.called) (turns (session_after s y.lent.session) ts) → All (λ (x : Recorded). P x.called) (turns s ts)
      → All (λ (x : Recorded). P x.called) (x ∷ turns (session_after s x.called.lent.session) ts)
  either s c rs ts (CallAgrees.refused r e) p k f g = All.more p f
  either s c rs ts (CallAgrees.accepted new e _ _) p k f g = All.more p f
  either s c rs ts (CallAgrees.few _) p k f g =
      All.more (refusals _ _ refl) (subst (λ t. All (λ (x : Recorded). P x.called) (turns t ts)) (sym k) g)

  -- from a session that stands as bytes
  from : (ts : List Turn) (s : Bytes) (z : Session) → Holds s z → ((cs : List Call) → All P (calls s cs))
      → All (λ (x : Recorded). P x.called) (turns s ts)
  from [] s z h f = All.none
  from (Turn.plain c ∷ ts) s z h f = All.more (first (f (c ∷ []))) (from ts _ _ (call_does s z h c).holds (λ cs. others (f (c ∷ cs))))
  from (Turn.with_records c rs ∷ ts) s z h f =
      either s c rs ts (call_agrees c.tree (lent s c) rs) (first (f (c ∷ []))) (before_after s (held_size h) c.session)
      (from ts _ _ (call_does s z h c).holds (λ cs. others (f (c ∷ cs)))) (from ts s z h f)

  -- from a session that was made
  pub in_turns : {s : Bytes} {w : Words} → Start s w → ((cs : List Call) → All P (calls s cs)) → (ts : List Turn)
      → All (λ (x : Recorded). P x.called) (turns s ts)
  in_turns {s} {w} x f ts = from ts s (begun w) (start_holds x) f
