-- What is answered is small: numbers, places and lengths.
use Prim.Native.Nat.{ℕ, zero, suc, ◌+◌, ◌-◌, ◌≤◌}
use native.Mathlib.Omega.{arith}
use mathlib.Core.List.{[], ◌∷◌}
use mathlib.Core.Path.{sym, subst}
use lib.ListN.{length}
use lib.Dec.{leb, ltb, eqb}
use borrow.Author.Tests.{ltb-false, eqb-true}
use Rattle.definition.specs.Basic.{Bytes, byte_at, both}
use Rattle.definition.specs.Limit.{name_limit, tree_limit, level_limit}
use Rattle.definition.specs.Field.{bytes}
use Rattle.definition.specs.Number.{refusal, number_of, bad_script, large_integer, too_deep, output_short}
use Rattle.definition.specs.declared.reason.Refusal.{Refusal}
use Rattle.definition.specs.Answer.{Answer}
use Rattle.std.specs.Prelude.{Ok, Err}
use Rattle.definition.proofs.Basic.{chosen}
use Rattle.text.specs.Kind.{bang, assign}
use Rattle.text.specs.Token.{Token, token}
use Rattle.definition.specs.Node.{Node, written, levels}
use Rattle.text.specs.Reader.{Result, ok, bad, starved}
use Rattle.text.specs.Scan.{Next, next_at, marks, kind_in, value, no_mark, ending, either, is_blank, is_letter, is_digit, is_inside, smaller, skip, up_to, word_at, integer_at, string_at, mark_at, text_limit, integer_limit, whole, stopped, scan_text}
use Rattle.text.specs.Machine.{Mode, Stack, Step, go, stuck, step, at_row_end}
use Rattle.text.specs.Recognize.{Recognized, recognition, recognize_text, large_step, next_step, recognize_next, recognize_from}
use Rattle.text.specs.Script.{Outcome, judged, read_row, read_text, answer_of}
use Rattle.text.proofs.Enough.{Moves, moves_next}
use Rattle.text.proofs.Skips.{skip_most}
use Rattle.text.proofs.Smaller.{smaller_right}
use Rattle.text.proofs.Settled.{settled, judged_row, settles}
use Rattle.text.proofs.Turns.{begins}
use Rattle.definition.specs.declared.reason.Reason.{Reason}

-- what is next stands at or before the limit
pub data Early : Next → Type 0 where
  found : {start end : ℕ} {t : Token} → start ≤ text_limit → Early (Next.found start end t)
  large : {start : ℕ} {t : Token} → start ≤ text_limit → Early (Next.large start t)
  broken : {start : ℕ} → start ≤ text_limit → Early (Next.broken start)
  finished : {end : ℕ} → end ≤ text_limit → Early (Next.finished end)

early_ending : (start end : ℕ) {t : Next} → start ≤ text_limit → Early t → Early (ending start end t)
early_ending start end h e = chosen Early (leb end text_limit) (λ _. e) (λ _. Early.broken h)

module _ (byte : ℕ → ℕ) (n : ℕ) where
  early_piece : (start : ℕ) → start ≤ text_limit → Early (word_at byte n start) × Early (integer_at byte n start) × Early (string_at byte n start) × Early (mark_at byte n start)
  early_piece start h =
      let k = kind_in marks no_mark (byte start ∷ []) in
      let w = up_to byte n is_letter (start + 1) in
      let i = up_to byte n is_digit (start + 1) in
      let s = up_to byte n is_inside (start + 1) in (
        chosen Early (leb (w - start) name_limit) (λ _. early_ending start w h (Early.found h)) (λ _. Early.broken h),
        early_ending start i h (chosen Early (leb (value 0 (bytes byte start (i - start))) integer_limit) (λ _. Early.found h) (λ _. Early.large h)),
        chosen Early (ltb s n) (λ _. early_ending start (s + 1) h (Early.found h)) (λ _. Early.broken h),
        chosen Early (both (either (eqb k assign) (eqb k bang)) (both (ltb (start + 1) n) (eqb (byte (start + 1)) 61))) (λ _. early_ending start (start + 2) h (Early.found h)) (λ _. chosen Early (eqb k no_mark) (λ _. Early.broken h) (λ _. Early.found h)),
      )

  pub early_next : (at : ℕ) → at ≤ text_limit → Early (next_at byte n at)
  unfolding next_at
  early_next at h =
      let left = smaller n text_limit - at in
      let start = skip byte n is_blank left at in
      let l : start ≤ text_limit = omega (arith, skip_most byte n is_blank left at, smaller_right n text_limit) in
      let p = early_piece start l in
      chosen Early (eqb start n) (λ e. Early.finished (omega (arith, eqb-true start n e)))
      (λ _. chosen Early (leb text_limit start) (λ _. Early.broken l)
      (λ _. chosen Early (is_letter (byte start)) (λ _. p.0) (λ _. chosen Early (is_digit (byte start)) (λ _. p.1) (λ _. chosen Early (eqb (byte start) 34) (λ _. p.2) (λ _. p.3)))))

-- a refusal's number and place
data Near : Recognized → Type 0 where
  script : Near (Ok tt)
  refused : {r : Refusal} → number_of r.reason ≤ 21 → r.place ≤ text_limit → Near (Err r)

near : (number : Reason) (place : ℕ) → number_of number ≤ 21 → place ≤ text_limit → Near (Err (refusal number place))
near number place a b = Near.refused a b

near_end : (end : ℕ) → end ≤ text_limit → (r : Result (Unit {0})) → Near (recognition (stopped (whole end)) r)
near_end end h (ok x us) = Near.script
near_end end h (bad []) = near bad_script end (omega arith) h
near_end end h (bad (t ∷ us)) = near bad_script 0 (omega arith) (omega arith)
near_end end h starved = near bad_script 0 (omega arith) (omega arith)

near_from : (byte : ℕ → ℕ) (n fuel at : ℕ) (m : Mode) (s : Stack) → at ≤ n → at ≤ text_limit → Near (recognize_from byte n fuel at m s)
unfolding recognize_from
near_from byte n zero at m s h k = near_end at k (at_row_end m s)
near_from byte n (suc fuel) at m s h k = by (early_next byte n at k) (moves_next byte n at h) (λ end m s h k. near_from byte n fuel end m s h k)
  where
    by : {x : Next} → Early x → Moves at n x → ((end : ℕ) (m : Mode) (s : Stack) → end ≤ n → end ≤ text_limit → Near (recognize_from byte n fuel end m s)) → Near (recognize_next x m s (λ end m s. recognize_from byte n fuel end m s))
    by (Early.found {start} {end} {t = token j b} e) (Moves.found a c d) f = at_step (step m s j)
      where
        at_step : (x : Step) → Near (next_step start x (λ m s. recognize_from byte n fuel end m s))
        at_step (go m s) = f end m s c d
        at_step stuck = near bad_script start (omega arith) e
    by (Early.large {start} {t = token j b} e) w f = at_step (step m s j)
      where
        at_step : (x : Step) → Near (large_step start x)
        at_step (go m s) = near large_integer start (omega arith) e
        at_step stuck = near bad_script start (omega arith) e
    by (Early.broken {start} e) w f = near bad_script start (omega arith) e
    by (Early.finished {end} e) w f = near_end end e (at_row_end m s)

near_text : (text : Bytes) → Near (recognize_text text)
near_text text =
    let g = begins text [] in
    subst Near (sym g.rest) (near_from (byte_at text) (length text) g.fuel 0 _ _ g.within g.early)

-- an answer's parts
pub data ReadWithin : Answer → Type 0 where
  wrote : {n : ℕ} → n ≤ tree_limit → ReadWithin (Ok n)
  refused : {r : Refusal} → number_of r.reason ≤ 21 → r.place ≤ text_limit → ReadWithin (Err r)

within : (number : Reason) (place : ℕ) → number_of number ≤ 21 → place ≤ text_limit → ReadWithin (Err (refusal number place))
within number place a b = ReadWithin.refused a b

judged_within : (lent : ℕ) (x : Node) → ReadWithin (answer_of (judged lent x))
judged_within lent x =
    let P : Outcome → Type 0 = λ o. ReadWithin (answer_of o) in
    chosen P (ltb level_limit (levels x)) (λ _. within too_deep 0 (omega arith) (omega arith))
    (λ _. chosen P (ltb (smaller lent tree_limit) (length (written x))) (λ _. within output_short 0 (omega arith) (omega arith)) (λ e. ReadWithin.wrote (omega (arith, ltb-false (smaller lent tree_limit) (length (written x)) e, smaller_right lent tree_limit))))

pub read_within : (lent : ℕ) (text : Bytes) → ReadWithin (answer_of (read_text lent text))
read_within lent text = subst (λ o. ReadWithin (answer_of o)) (sym (settles lent text)) (by (judged_row lent (read_row (scan_text text).tokens)) (near_text text) (row (read_row (scan_text text).tokens)))
  where
    row : (r : Result Node) → ReadWithin (answer_of (judged_row lent r))
    row (ok x us) = judged_within lent x
    row (bad us) = within bad_script 0 (omega arith) (omega arith)
    row starved = within bad_script 0 (omega arith) (omega arith)

    by : {r : Recognized} (o : Outcome) → Near r → ReadWithin (answer_of o) → ReadWithin (answer_of (settled r o))
    by o Near.script w = w
    by o (Near.refused a b) w = ReadWithin.refused a b
