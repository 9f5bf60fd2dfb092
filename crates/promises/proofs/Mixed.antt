-- A series of calls of any kind that ran gives what the definition's turns give.
use Prim.Native.Nat.{ℕ, ◌*◌, ◌/◌}
use native.Mathlib.Omega.{arith}
use mathlib.Core.List.{List, [], ◌∷◌, ◌++◌, map}
use mathlib.Core.Path.{◌≡◌, refl, sym, ap, subst, ◌∙◌}
use lib.ListN.{length, take, drop}
use lib.Seq.{take_at}
use Rattle.definition.specs.Basic.{Bytes}
use Rattle.definition.specs.Call.{Called}
use Rattle.definition.specs.Series.{Call, session_after}
use Rattle.definition.specs.Valid.{All}
use Rattle.compiler.specs.Promise.{Ran}
use Rattle.records.specs.Records.{Traced}
use Rattle.records.specs.Call.{Recorded, turn, turns, AlikeTurn, AllAlikeTurns, SameTurn, IndistinguishableTurns}
use Rattle.records.specs.declared.Record.{Record}
use Rattle.names.specs.Rows.{rows_of}
use Rattle.names.specs.Promise.{blanks, named, call_names}
use Rattle.promises.specs.Mixed.{AnyCall, AnyDone, called_of, Kept, RanBy, RanMixed, AlikeAny, AllAlikeAny, turn_of, SameDone, IndistinguishableMixed}
use Rattle.promises.proofs.Plain.{called_in}

-- what a call of a kind gives, from the definition's turn
abbrev pub done_of : AnyCall → Recorded → AnyDone
done_of (AnyCall.plain c) t = AnyDone.plain t.called
done_of (AnyCall.records c rs) t = AnyDone.records t.called t.count t.records
done_of (AnyCall.names c xs) t = AnyDone.names t.called t.count (named xs t).rows

-- its answer and lent memory are the turn's
pub called_done : (c : AnyCall) (t : Recorded) → called_of (done_of c t) ≡ t.called
called_done (AnyCall.plain c) t = refl
called_done (AnyCall.records c rs) t = refl
called_done (AnyCall.names c xs) t = refl

-- each on the session that the last one left
abbrev pub dones : Bytes → List AnyCall → List AnyDone
dones s [] = []
dones s (c ∷ cs) = done_of c (turn s (turn_of c)) ∷ dones (session_after s (turn s (turn_of c)).called.lent.session) cs

-- calls that give what the definition's turns give
abbrev pub Gives : (Bytes → AnyCall → AnyDone → Type 0) → Type 0
Gives K = (s : Bytes) (c : AnyCall) (x : AnyDone) → K s c x → x ≡ done_of c (turn s (turn_of c))

-- those that keep the promise of `compile`, `compile_with_records` or `compile_names` do
pub kept_done : Gives Kept
unfolding call_names
kept_done s _ _ (Kept.plain p) = λ i. AnyDone.plain (record { answer = p.answer i; lent = p.lent i })
kept_done s _ _ (Kept.records p) = λ i. AnyDone.records (record { answer = p.answer i; lent = p.lent i }) (p.count i) (p.records i)
kept_done s _ _ (Kept.names p) = λ i. AnyDone.names (record { answer = p.answer i; lent = p.lent i }) (p.count i) (p.rows i)

-- a series of plain calls is one of these
pub ran_mixed : {s : Bytes} {cs : List Call} {xs : List Called} → Ran s cs xs → RanMixed s (map AnyCall.plain cs) (map AnyDone.plain xs)
ran_mixed Ran.none = RanBy.none
ran_mixed (Ran.more p q) = RanBy.more (Kept.plain p) (ran_mixed q)

-- so a series of them
pub ran_done : {K : Bytes → AnyCall → AnyDone → Type 0} → Gives K → {s : Bytes} {cs : List AnyCall} {xs : List AnyDone} → RanBy K s cs xs
    → xs ≡ dones s cs
ran_done g RanBy.none = refl
ran_done g (RanBy.more {s} {c} {x} {cs} p q) =
    λ i. g s c x p i ∷ (ran_done g q ∙ ap (λ (y : Called). dones (session_after s y.lent.session) cs) (ap called_of (g s c x p) ∙ called_done c (turn s (turn_of c)))) i

-- answers and lent memory are the turns'
pub dones_called : (s : Bytes) (cs : List AnyCall) → map called_of (dones s cs) ≡ called_in (turns s (map turn_of cs))
dones_called s [] = refl
dones_called s (c ∷ cs) =
    λ i. called_done c (turn s (turn_of c)) i ∷ dones_called (session_after s (turn s (turn_of c)).called.lent.session) cs i

-- so those of a series that ran
pub ran_called : {K : Bytes → AnyCall → AnyDone → Type 0} → Gives K → {s : Bytes} {cs : List AnyCall} {xs : List AnyDone} → RanBy K s cs xs
    → map called_of xs ≡ called_in (turns s (map turn_of cs))
ran_called g {s} {cs} r = ap (map called_of) (ran_done g r) ∙ dones_called s cs

-- what holds of every turn holds of every call
pub all_done : (P : Called → Type 0) (s : Bytes) (cs : List AnyCall) → All (λ (x : Recorded). P x.called) (turns s (map turn_of cs))
    → All (λ (x : AnyDone). P (called_of x)) (dones s cs)
all_done P s [] h = All.none
all_done P s (c ∷ cs) (All.more h hs) =
    All.more (subst P (sym (called_done c (turn s (turn_of c)))) h) (all_done P (session_after s (turn s (turn_of c)).called.lent.session) cs hs)

-- and of every call of a series that ran
pub all_ran : {K : Bytes → AnyCall → AnyDone → Type 0} → Gives K → (P : Called → Type 0) {s : Bytes} {cs : List AnyCall} {xs : List AnyDone}
    → RanBy K s cs xs → All (λ (x : Recorded). P x.called) (turns s (map turn_of cs))
    → All (λ (x : AnyDone). P (called_of x)) xs
all_ran g P {s} {cs} r h = subst (All (λ (x : AnyDone). P (called_of x))) (sym (ran_done g r)) (all_done P s cs h)

-- Two series

-- series that are alike are alike turns
pub alike-turns : {cs ds : List AnyCall} → AllAlikeAny cs ds → AllAlikeTurns (map turn_of cs) (map turn_of ds)
alike-turns AllAlikeAny.none = AllAlikeTurns.none
alike-turns (AllAlikeAny.more a rest) = AllAlikeTurns.more (one a) (alike-turns rest)
  where
    one : {c d : AnyCall} → AlikeAny c d → AlikeTurn (turn_of c) (turn_of d)
    one (AlikeAny.plain a) = AlikeTurn.plain a
    one (AlikeAny.records a e) = AlikeTurn.with_records a e
    one (AlikeAny.names a e) = AlikeTurn.with_records a (ap (λ n. length (blanks (n / 4))) e)

-- four numbers for each record
pub rows-length : (rs : List Record) → length (rows_of rs) ≡ 4 * length rs
unfolding rows_of
rows-length [] = refl
rows-length (r ∷ rs) = let h = rows-length rs in omega arith

-- they stand at the front
pub rows_front : (xs : List ℕ) (n : ℕ) (rs new : List Record) → n ≡ length new → take n rs ≡ new
    → take (4 * n) (rows_of (take n rs) ++ drop (4 * n) xs) ≡ rows_of new
rows_front xs n rs new e h =
    let l : length (rows_of (take n rs)) ≡ 4 * n = ap (λ (l : List Record). length (rows_of l)) h ∙ rows-length new ∙ ap (λ k. 4 * k) (sym e) in
    take_at (rows_of (take n rs)) (drop (4 * n) xs) (4 * n) l ∙ ap rows_of h

-- one step
same_done : {compared : Type 0} {p : Traced} {c d : AnyCall} (x y : Recorded) → AlikeAny c d → SameTurn compared p x y
    → SameDone compared p (done_of c x) (done_of d y)
same_done x y (AlikeAny.plain a) h = SameDone.plain h.called
same_done x y (AlikeAny.records a e) h = SameDone.records h.called h.counts.0 h.counts.1 h.records.0 h.records.1
same_done {p = p} x y (AlikeAny.names {xs = xs} {ys} a e) h =
    SameDone.names h.called h.counts.0 h.counts.1 (rows_front xs x.count x.records p.records h.counts.0 h.records.0) (rows_front ys y.count y.records p.records h.counts.1 h.records.1)

-- all steps
pub same_dones : {compared : Type 0} {ps : List Traced} {cs ds : List AnyCall} → AllAlikeAny cs ds → (s t : Bytes)
    → IndistinguishableTurns compared ps (turns s (map turn_of cs)) (turns t (map turn_of ds))
    → IndistinguishableMixed compared ps (dones s cs) (dones t ds)
same_dones AllAlikeAny.none s t IndistinguishableTurns.done = IndistinguishableMixed.done
same_dones (AllAlikeAny.more {c = c} {d} a rest) s t (IndistinguishableTurns.step h hs) =
    IndistinguishableMixed.step (same_done (turn s (turn_of c)) (turn t (turn_of d)) a h) (same_dones rest (session_after s (turn s (turn_of c)).called.lent.session) (session_after t (turn t (turn_of d)).called.lent.session) hs)
