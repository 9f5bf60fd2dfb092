-- How calls end that write into one lent output, or into none: what every theorem on condition 1 of an exported call is made of.
use Prim.Native.Nat.{ℕ, ◌≤◌}
use native.Mathlib.Omega.{arith}
use mathlib.Core.Bool.{Bool, true, false}
use mathlib.Core.List.{List, [], ◌++◌}
use mathlib.Core.Logic.{◌↔◌}
use mathlib.Core.Path.{◌≡◌, refl, sym, subst, subst₂, ◌∙◌}
use lib.Dec.{T, leb, ltb, ltb→lt}
use lib.ListN.{length, drop}
use lib.Seq.{drop-append_seam}
use borrow.Author.Tests.{leb-true}
use Rattle.std.specs.Prelude.{Ok, Err}
use Rattle.definition.specs.Basic.{pick}
use Rattle.definition.specs.Number.{refusal, number_of, is_one_of, short_buffer, output_short}
use Rattle.definition.specs.Output.{over, output_answer, output_after}
use Rattle.definition.specs.Valid.{All}
use Rattle.definition.specs.declared.reason.Refusal.{Refusal}
use Rattle.definition.specs.Answer.{Answer}
use Rattle.definition.proofs.Numbers.{each, of_each}
use Rattle.exported.specs.Packed.{high, low, Packs}
use Rattle.promises.specs.Ends.{Buffer, TooShort, Ended, Ends, output, nothing}

-- an answer ends so
abbrev pub EndsAs : List ℕ → ℕ → (ℕ → List Buffer) → List Buffer → Answer → Type 0
EndsAs numbers places buffers works a = Ended numbers places buffers works (high a) (low a)

-- then its number does
pub packed_ends : {numbers : List ℕ} {places : ℕ} {buffers : ℕ → List Buffer} {works : List Buffer} {a : Answer} {r : ℕ} → Packs a r
    → EndsAs numbers places buffers works a → Ends numbers places buffers works r
packed_ends {numbers} {places} {buffers} {works} k e = subst₂ (Ended numbers places buffers works) (sym k.number) (sym k.value) e

-- a number that is not 1
abbrev pub later : ℕ → Bool
later n = ltb 1 n

-- none of such a list is 1
pub not_one : (numbers : List ℕ) → T (each later numbers) → (n : ℕ) → T (is_one_of numbers n) → n ≡ number_of short_buffer → ⊥
not_one numbers h n t e = let l = ltb→lt 1 n (of_each later numbers h n t) in omega arith

-- 1 is answered exactly where a buffer or a work area is too short
pub short_exactly : {numbers : List ℕ} {places : ℕ} {buffers : ℕ → List Buffer} {works : List Buffer} {n v : ℕ}
    → Ended numbers places buffers works n v → (n ≡ number_of short_buffer) ↔ TooShort (buffers 0 ++ works)
short_exactly (Ended.answered e f _ _) = (λ i. let z : ◌≡◌ {A = ℕ} 0 1 = sym e ∙ i in absurd (omega arith), λ s. absurd (f s))
short_exactly (Ended.refused _ m f _ _ _) = (λ i. absurd (m i), λ s. absurd (f s))
short_exactly (Ended.short _ e _ s _) = (λ _. s, λ _. e)

-- none of no buffers is too short
pub no_buffer : TooShort [] → ⊥
no_buffer s = elim s [ ]

-- nor an output of which no size is asked
pub no_output : {o o' : List ℕ} → TooShort (output o o' 0 ++ []) → ⊥
no_output (TooShort.here h) = omega arith
no_output (TooShort.later s) = no_buffer s

module _ (numbers : List ℕ) (h : T (each later numbers)) (places : ℕ) where
  -- a refusal of a call that leaves its output
  pub kept : {o : List ℕ} (q : Refusal) → T (is_one_of numbers (number_of q.reason)) → q.place ≤ places
      → EndsAs numbers places (output o o) [] (Err q)
  kept q t p = Ended.refused t (not_one numbers h (number_of q.reason) t) (λ s. no_output s) p (All.more (record { same = refl }) All.none) All.none

  -- one of a call that has none
  pub bare : (q : Refusal) → T (is_one_of numbers (number_of q.reason)) → q.place ≤ places → EndsAs numbers places nothing [] (Err q)
  bare q t p = Ended.refused t (not_one numbers h (number_of q.reason) t) (λ s. no_buffer s) p All.none All.none

  -- bytes or numbers that are written where there is room, else 15
  pub wrote : T (is_one_of numbers (number_of output_short)) → (new o : List ℕ)
      → EndsAs numbers places (output o (output_after new o)) [] (output_answer new (length o))
  wrote t new o = go (leb (length new) (length o)) refl
    where
      go : (b : Bool) → leb (length new) (length o) ≡ b
          → EndsAs numbers places (output o (pick b (over new o) o)) [] (pick b (Ok (length new)) (Err (refusal output_short 0)))
      go true e =
          Ended.answered refl (λ s. no_output s) (All.more (record { room = leb-true (length new) (length o) e; behind = drop-append_seam new (drop (length new) o) }) All.none) All.none
      go false e = kept (refusal output_short 0) t (omega arith)

  -- an output that equals another
  pub kept_as : {o o₁ o₂ : List ℕ} (a : Answer) → o₂ ≡ o₁ → EndsAs numbers places (output o o₁) [] a
      → EndsAs numbers places (output o o₂) [] a
  kept_as {o} a e k = subst (λ x. EndsAs numbers places (output o x) [] a) (sym e) k
