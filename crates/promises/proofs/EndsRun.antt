-- Condition 1 of the exported trial run: nine bytes for each global, written at the front of the output; or 1, 17, 25, 27, 15, 28 or 29
-- with its place, the output as it was; the work area zeroed, untouched where it is too short.
use Prim.Native.Nat.{ℕ, zero, suc, ◌+◌, ◌*◌, ◌%◌, ◌≤◌}
use native.Mathlib.Omega.{arith}
use mathlib.Core.Bool.{Bool, true, false}
use mathlib.Core.List.{List, [], ◌∷◌, ◌++◌}
use mathlib.Core.Path.{◌≡◌, refl, sym, ap, subst, subst₂, ◌∙◌}
use lib.Dec.{T, leb, ltb}
use lib.ListN.{length, drop, get_or, length-append}
use lib.Seq.{drop-append_seam}
use borrow.Author.Tests.{leb-true, ltb-true, ltb-false}
use Rattle.std.specs.Prelude.{Option, None as none, Some as some}
use Rattle.definition.specs.Basic.{Bytes, pick}
use Rattle.definition.specs.Number.{refusal, number_of, numbers_of, is_one_of, short_buffer, bad_image, output_short, bad_heights}
use Rattle.definition.specs.Bytecode.{Image}
use Rattle.definition.specs.Decode.{Decoded, decoded, malformed, read_image}
use Rattle.definition.specs.Call.{cleared}
use Rattle.definition.specs.Output.{over}
use Rattle.definition.specs.Valid.{All, AreBytes}
use Rattle.definition.specs.declared.reason.Refusal.{Refusal}
use Rattle.definition.specs.declared.reason.Reason.{Reason}
use Rattle.definition.proofs.Basic.{chosen}
use Rattle.definition.proofs.Numbers.{among}
use Rattle.heights.specs.Pass.{Verdict, judged}
use Rattle.definition.specs.Number
use Rattle.trial.specs.declared.cells.Value.{Value}
use Rattle.trial.specs.declared.cells.Value.TheVariants.{Integer as integer, Boolean as boolean, Null as null}
use Rattle.trial.specs.Value.{Globals}
use Rattle.trial.specs.Run.{Trial, trial}
use Rattle.trial.specs.Output.{word_of, cell_of, named_globals, shown}
use Rattle.trial.specs.Cells.{work_size}
use Rattle.trial.specs.Call.{Outcome, trial_outcome, room_outcome, taken_outcome, judged_outcome, image_outcome, refused_with, outcome_answer, outcome_into}
use Rattle.trial.proofs.Bounds.{Small, run_small}
use Rattle.trial.proofs.Calling.{main_safe}
use Rattle.trial.proofs.Shown.{bytes_long}
use Rattle.exported.specs.Packed.{half_bound, Packs}
use Rattle.exported.specs.Framed.{Pairs}
use Rattle.exported.specs.Trial.{ran_answer, RunsPacked}
use Rattle.promises.specs.Ends.{buffer, Written, TooShort, Ended, Ends, shown_globals, run_reasons, run_numbers}
use Rattle.promises.proofs.Through.{StopNumber, trial_stops}
use Rattle.promises.proofs.Endings.{not_one, no_buffer}

-- the numbers of a run whose work area is long enough
abbrev later : List ℕ
later = numbers_of run_reasons

-- globals that the output has room for, or one of the numbers
data Numbered (room : ℕ) : Outcome → Type 0 where
  ran : {n : ℕ} {g : Globals} {k : ℕ} → 9 * n ≤ room → Numbered room (Outcome.ran n g k)
  refused : {q : Refusal} → T (is_one_of later (number_of q.reason)) → Numbered room (Outcome.refused q)

-- a run stops with two of them
stop_later : {k : Reason} → StopNumber k → T (is_one_of later (number_of k))
stop_later (StopNumber.operand e) = subst (λ k. T (is_one_of later (number_of k))) (sym e) tt
stop_later (StopNumber.unset e) = subst (λ k. T (is_one_of later (number_of k))) (sym e) tt

module _ (hs : List ℕ) (room : ℕ) where
  room_numbered : (m : Image) {ns : List ℕ} → judged hs m m.pool ≡ Verdict.tops ns → refused_with hs m ≡ none
      → Numbered room (room_outcome m room)
  room_numbered m e r =
      chosen (Numbered room) (leb (9 * named_globals m.code) room) (λ l. go (trial m) refl (leb-true (9 * named_globals m.code) room l)) (λ _. Numbered.refused {q = refusal output_short 0} tt)
    where
      go : (t : Trial) → trial m ≡ t → 9 * named_globals m.code ≤ room → Numbered room (trial_outcome (named_globals m.code) t)
      go (Trial.ran g k) q h = Numbered.ran h
      go (Trial.stopped k p) q h = Numbered.refused {q = refusal k p} (stop_later (trial_stops m (λ i p s. (main_safe hs m e r).runs s) q))

  image_numbered : (d : Decoded Image) → Numbered room (image_outcome d hs room)
  image_numbered (malformed p) = Numbered.refused {q = refusal bad_image p} tt
  image_numbered (decoded m n) = by (judged hs m m.pool) refl
    where
      taken : {ns : List ℕ} → judged hs m m.pool ≡ Verdict.tops ns → (o : Option ℕ) → refused_with hs m ≡ o
          → Numbered room (taken_outcome o m room)
      taken e (some p) r = Numbered.refused {q = refusal Number.not_runnable (3 + p)} tt
      taken e none r = room_numbered m e r

      by : (v : Verdict) → judged hs m m.pool ≡ v → Numbered room (judged_outcome v hs m room)
      by (Verdict.tops ns) e = taken e (refused_with hs m) refl
      by (Verdict.fails p) e = Numbered.refused {q = refusal bad_heights p} tt

-- nine bytes each
cell_long : (o : Option Value) → length (cell_of o) ≡ 9
cell_long none = ap suc (bytes_long 8 0)
cell_long (some (integer z)) = ap suc (bytes_long 8 (word_of z))
cell_long (some (boolean true)) = ap suc (bytes_long 8 1)
cell_long (some (boolean false)) = ap suc (bytes_long 8 0)
cell_long (some null) = ap suc (bytes_long 8 0)

shown_long : (n : ℕ) (g : Globals) → length (shown n g) ≡ 9 * n
unfolding shown
shown_long zero g = refl
shown_long (suc n) g =
    length-append (shown n g) (cell_of (get_or g n none)) ∙ (let e = shown_long n g in let f = cell_long (get_or g n none) in omega arith)

-- a work area that is long enough
run_long : {o o' w w' : List ℕ} → work_size ≤ length w → TooShort (shown_globals o o' 0 ++ buffer work_size w w' ∷ []) → ⊥
run_long l (TooShort.here h) = omega arith
run_long l (TooShort.later (TooShort.here h)) = omega arith
run_long l (TooShort.later (TooShort.later s)) = no_buffer s

-- `monkey_run`
pub ends_run : {image : Bytes} {hs w w' : List ℕ} {o o' : Bytes} {r : ℕ} → AreBytes image → RunsPacked image hs w o r w' o'
    → Ends run_numbers 65536 (shown_globals o o') (buffer work_size w w' ∷ []) r
ends_run {image} {hs} {w} {w'} {o} {o'} {r} a k =
    subst₂ (λ x y. Ends run_numbers 65536 (shown_globals o x) (buffer work_size w y ∷ []) r) (sym k.output) (sym k.work) (go (ltb (length w) work_size) refl (run_small image a hs (length w) (length o)) k.answer k.parts)
  where
    by : (x : Outcome) → Numbered (length o) x → Small x → work_size ≤ length w → Packs (ran_answer (outcome_answer x)) r
        → ((n : ℕ) (g : Globals) (i : ℕ) → x ≡ Outcome.ran n g i → Pairs n i (r % half_bound))
        → Ends run_numbers 65536 (shown_globals o (outcome_into x o)) (buffer work_size w (cleared work_size w) ∷ []) r
    by (Outcome.ran n g i) (Numbered.ran h) s l k p =
        let new = shown n g in
        let b : drop (9 * n) (over new o) ≡ drop (9 * n) o = ap (λ j. drop j (over new o)) (sym (shown_long n g)) ∙ drop-append_seam new (drop (length new) o) ∙ ap (λ j. drop j o) (shown_long n g) in
        let v : All Written (buffer (9 * n) o (over new o) ∷ []) = All.more (record { room = h; behind = b }) All.none in
        Ended.answered k.number (λ s. run_long l s) (subst (λ j. All Written (buffer (9 * j) o (over new o) ∷ [])) (sym (p n g i refl).first) v) (All.more (record { room = l; zeros = refl }) All.none)
    by (Outcome.refused q) (Numbered.refused t) (Small.refused _ _ m) l k p =
        Ended.refused (subst (λ n. T (is_one_of run_numbers n)) (sym k.number) (among later run_numbers tt (number_of q.reason) t)) (λ f. not_one later tt (number_of q.reason) t (sym k.number ∙ f)) (λ s. run_long l s) (subst (λ v. v ≤ 65536) (sym k.value) m)
        (All.more (record { same = refl }) All.none) (All.more (record { room = l; zeros = refl }) All.none)

    go : (b : Bool) → ltb (length w) work_size ≡ b
        → Small (pick b (Outcome.refused (refusal short_buffer 0)) (image_outcome (read_image image) hs (length o)))
        → Packs (ran_answer (outcome_answer (pick b (Outcome.refused (refusal short_buffer 0)) (image_outcome (read_image image) hs (length o))))) r
        → ((n : ℕ) (g : Globals) (i : ℕ) → pick b (Outcome.refused (refusal short_buffer 0)) (image_outcome (read_image image) hs (length o)) ≡ Outcome.ran n g i → Pairs n i (r % half_bound))
        → Ends run_numbers 65536 (shown_globals o (outcome_into (pick b (Outcome.refused (refusal short_buffer 0)) (image_outcome (read_image image) hs (length o))) o)) (buffer work_size w (pick b w (cleared work_size w)) ∷ []) r
    go true e s k p =
        Ended.short (subst (λ n. T (is_one_of run_numbers n)) (sym k.number) tt) k.number k.value (TooShort.later (TooShort.here (ltb-true (length w) work_size e)))
        (All.more (record { same = refl }) (All.more (record { same = refl }) All.none))
    go false e s k p = by (image_outcome (read_image image) hs (length o)) (image_numbered hs (length o) (read_image image)) s (ltb-false (length w) work_size e) k p
