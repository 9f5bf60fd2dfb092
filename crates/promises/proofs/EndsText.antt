-- Condition 1 of the exported calls that read a text: the tree, or a token's three numbers, written at the front of the output; or 20, 21,
-- 4 or 15 with its place, the output as it was.
use Prim.Native.Nat.{ℕ, zero, suc, ◌≤◌}
use native.Mathlib.Omega.{arith}
use mathlib.Core.List.{List, [], ◌∷◌}
use mathlib.Core.Path.{◌≡◌, refl}
use mathlib.Core.Bool.{false}
use lib.Dec.{T, leb, ltb}
use lib.ListN.{length, drop}
use lib.Seq.{drop-append_seam}
use borrow.Author.Tests.{leb-false, ltb-false}
use Rattle.definition.specs.Basic.{Bytes, byte_at}
use Rattle.definition.specs.Limit.{tree_limit, level_limit}
use Rattle.definition.specs.Number.{refusal, number_of, is_one_of, too_deep, output_short, bad_script, large_integer}
use Rattle.definition.specs.Valid.{All}
use Rattle.definition.specs.declared.reason.Refusal.{Refusal}
use Rattle.definition.specs.declared.reason.Reason.{Reason}
use Rattle.definition.proofs.Basic.{chosen}
use Rattle.definition.specs.Node.{Node, written, levels}
use Rattle.std.specs.Prelude.{Result as Answered, Ok, Err}
use Rattle.text.specs.Reader.{Result, ok, bad, starved}
use Rattle.text.specs.Scan.{Next, found, large, broken, finished, next_at, Tail, whole, Scanned, scan_next, scan, scan_text, smaller, text_limit}
use Rattle.text.specs.Script.{Outcome, tree, refused, judged, place_of, at_end, verdict, read_row, read_text, answer_of, output_of}
use Rattle.text.proofs.Small.{ReadWithin, read_within}
use Rattle.text.specs.Token.{token}
use Rattle.text.specs.Next.{told, token_at}
use Rattle.text.specs.Parts.{end_of}
use Rattle.text.proofs.Told.{ToldWithin, told_within}
use Rattle.exported.specs.Packed.{ReadsPacked}
use Rattle.exported.specs.Token.{numbers_answer, numbers_into, TokenPacked}
use Rattle.promises.specs.Ends.{Ended, Ends, output, text_numbers, token_numbers}
use Rattle.promises.proofs.Endings.{EndsAs, packed_ends, no_output, kept, wrote as written_or_15, kept_as}

-- the tree of a text fits the output; a refusal has one of the four numbers
data Reading (lent : ℕ) : Outcome → Type 0 where
  wrote : {b : Bytes} → length b ≤ lent → Reading lent (tree b)
  stopped : {q : Refusal} → T (is_one_of text_numbers (number_of q.reason)) → Reading lent (refused q)

-- a row that is cut ends with 20 or 21
data Ending : Tail → Type 0 where
  reached : {n : ℕ} → Ending (whole n)
  stops : {k : Reason} {p : ℕ} → T (is_one_of text_numbers (number_of k)) → Ending (Tail.cut k p)

tail_ends : (byte : ℕ → ℕ) (n fuel at : ℕ) → Ending (scan byte n fuel at).tail
unfolding scan
tail_ends byte n zero at = Ending.reached
tail_ends byte n (suc fuel) at = go (next_at byte n at) (λ end. tail_ends byte n fuel end)
  where
    go : (x : Next) → ((end : ℕ) → Ending (scan byte n fuel end).tail) → Ending (scan_next x (λ end. scan byte n fuel end)).tail
    go (found start end t) h = h end
    go (large start t) h = Ending.stops {k = large_integer} tt
    go (broken start) h = Ending.stops {k = bad_script} tt
    go (finished end) h = Ending.reached

module _ (lent : ℕ) where
  -- 4, then 15
  judged_reading : (x : Node) → Reading lent (judged lent x)
  judged_reading x =
      chosen (Reading lent) (ltb level_limit (levels x)) (λ _. Reading.stopped {q = refusal too_deep 0} tt)
      (λ _. chosen (Reading lent) (ltb (smaller lent tree_limit) (length (written x))) (λ _. Reading.stopped {q = refusal output_short 0} tt) (λ e. Reading.wrote (fits e)))
    where
      least : smaller lent tree_limit ≤ lent
      least = chosen (λ k. k ≤ lent) (leb lent tree_limit) (λ _. omega arith) (λ e. omega (arith, leb-false lent tree_limit e))

      fits : ltb (smaller lent tree_limit) (length (written x)) ≡ false → length (written x) ≤ lent
      fits e = omega (arith, ltb-false (smaller lent tree_limit) (length (written x)) e, least)

  end_reading : {t : Tail} (k : ℕ → Outcome) → Ending t → ((n : ℕ) → Reading lent (k n)) → Reading lent (at_end t k)
  end_reading k (Ending.reached {n}) h = h n
  end_reading k (Ending.stops {k = i} {p} t) h = Reading.stopped {q = refusal i p} t

  verdict_reading : (s : Scanned) → Ending s.tail → (r : Result Node) → Reading lent (verdict lent s r)
  verdict_reading s e (ok x us) = end_reading (λ _. judged lent x) e (λ _. judged_reading x)
  verdict_reading s e (bad []) = end_reading (λ n. refused (refusal bad_script n)) e (λ n. Reading.stopped {q = refusal bad_script n} tt)
  verdict_reading s e (bad (t ∷ us)) = Reading.stopped {q = refusal bad_script (place_of s (t ∷ us))} tt
  verdict_reading s e starved = Reading.stopped {q = refusal bad_script 0} tt

  reading : (text : Bytes) → Reading lent (read_text lent text)
  unfolding read_text
  reading text =
      verdict_reading (scan_text text) (tail_ends (byte_at text) (length text) (suc (length text)) 0) (read_row (scan_text text).tokens)

-- `monkey_read_text`
pub ends_read_text : {text o o' : Bytes} {r : ℕ} → ReadsPacked text o r o' → Ends text_numbers text_limit (output o o') [] r
ends_read_text {text} {o} k =
    let x = read_text (length o) text in
    packed_ends k.answer (kept_as text_numbers tt text_limit (answer_of x) k.output (go x (reading (length o) text) (read_within (length o) text)))
  where
    go : (x : Outcome) → Reading (length o) x → ReadWithin (answer_of x)
        → EndsAs text_numbers text_limit (output o (output_of x o)) [] (answer_of x)
    go (tree b) (Reading.wrote h) w =
        Ended.answered refl (λ s. no_output s) (All.more (record { room = h; behind = drop-append_seam b (drop (length b) o) }) All.none) All.none
    go (refused q) (Reading.stopped t) (ReadWithin.refused n p) = kept text_numbers tt text_limit q t p

-- what is told of an offset: numbers, or a refusal with one of the two
data Tells : Answered (List ℕ) Refusal → Type 0 where
  numbers : {ns : List ℕ} → Tells (Ok ns)
  refuses : {q : Refusal} → T (is_one_of token_numbers (number_of q.reason)) → Tells (Err q)

-- by what is next there
next_tells : (x : Next) → Tells (told x)
next_tells (found start end (token k b)) = Tells.numbers
next_tells (large start t) = Tells.refuses tt
next_tells (broken start) = Tells.refuses tt
next_tells (finished end) = Tells.numbers

token_tells : (text : Bytes) (at : ℕ) → Tells (token_at text at)
unfolding token_at
token_tells text at =
    chosen Tells (leb at (end_of text)) (λ _. next_tells (next_at (byte_at text) (length text) at)) (λ _. Tells.refuses tt)

-- `monkey_next_token`
pub ends_next_token : {text : Bytes} {at : ℕ} {o o' : List ℕ} {r : ℕ} → TokenPacked text at o r o'
    → Ends token_numbers text_limit (output o o') [] r
ends_next_token {text} {at} {o} k =
    let x = token_at text at in
    packed_ends k.answer (kept_as token_numbers tt text_limit (numbers_answer x (length o)) k.output (go x (token_tells text at) (told_within text at)))
  where
    go : (x : Answered (List ℕ) Refusal) → Tells x → ToldWithin x
        → EndsAs token_numbers text_limit (output o (numbers_into x o)) [] (numbers_answer x (length o))
    go (Ok ns) t w = written_or_15 token_numbers tt text_limit tt ns o
    go (Err q) (Tells.refuses t) (ToldWithin.refused n p) = kept token_numbers tt text_limit q t p
