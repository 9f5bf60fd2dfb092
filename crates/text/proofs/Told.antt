-- What a caller is told of an offset is what the scanner sees there, and all of it is small.
use Prim.Native.Nat.{ℕ, ◌≤◌, ◌<◌}
use native.Mathlib.Omega.{arith}
use mathlib.Core.List.{List}
use mathlib.Core.Path.{◌≡◌, refl, sym, ap, ◌∙◌}
use lib.ListN.{length}
use lib.Dec.{leb}
use borrow.Author.Tests.{leb-true, leb-false}
use Rattle.std.specs.Prelude.{Result, Ok, Err}
use Rattle.definition.specs.Basic.{Bytes, byte_at}
use Rattle.definition.specs.Number.{refusal, number_of, bad_script}
use Rattle.definition.specs.declared.reason.Refusal.{Refusal}
use Rattle.definition.proofs.Basic.{chosen}
use Rattle.text.specs.Token.{token}
use Rattle.text.specs.Scan.{Next, next_at, text_limit}
use Rattle.text.specs.Seen.{ahead, next_of}
use Rattle.text.specs.declared.scan.Token as piece
use Rattle.text.specs.declared.scan.Stop.{Stop}
use Rattle.text.specs.declared.scan.Stop.TheVariants.{Finished}
use Rattle.text.specs.Parts.{end_of}
use Rattle.text.specs.Next.{three, told, token_at}
use Rattle.text.proofs.Enough.{never}
use Rattle.text.proofs.RowAt.{Piece, piece_next, end_within, end_early}
use Rattle.text.proofs.Small.{Early, early_next}

-- without the bytes of a token nothing else is told
told_ahead : (x : Next) → told (ahead x) ≡ told x
told_ahead (Next.found start end (token k b)) = refl
told_ahead (Next.large start t) = refl
told_ahead (Next.broken start) = refl
told_ahead (Next.finished end) = refl

-- behind all tokens
pub told_behind : (text : Bytes) (at : ℕ) {last : ℕ} → last ≡ end_of text → last < at → Err (refusal bad_script last) ≡ token_at text at
unfolding token_at
told_behind text at {last} l h = ap (λ e. Err (refusal bad_script e)) l ∙ chosen (λ (r : Result (List ℕ) Refusal). Err (refusal bad_script (end_of text)) ≡ r) (leb at (end_of text)) (λ e. absurd (omega (arith, leb-true at (end_of text) e))) (λ _. refl)

-- before, by what the scanner answered
module _ (text : Bytes) (at : ℕ) {last : ℕ} (l : last ≡ end_of text) (h : at ≤ last) {r : Result piece.Token Stop} (s : next_of r ≡ ahead (next_at (byte_at text) (length text) at)) where
  pub told_seen : {y : Result piece.Token Stop} → r ≡ y → told (next_of y) ≡ token_at text at
  unfolding token_at
  told_seen e = ap (λ z. told (next_of z)) (sym e) ∙ ap told s ∙ told_ahead _ ∙ chosen (λ r. told (next_at (byte_at text) (length text) at) ≡ r) (leb at (end_of text)) (λ _. refl) (λ f. absurd (omega (arith, leb-false at (end_of text) f)))

  -- a token and the text's end are at or before the limit
  pub found_early : {t : piece.Token} → r ≡ Ok t → (t.start ≤ t.end) × (t.end ≤ text_limit)
  found_early {t} e = go (piece_next text at (omega (arith, end_within text))) (sym (ap next_of e) ∙ s)
    where
      go : {x : Next} → Piece text at x → next_of (Ok t) ≡ ahead x → (t.start ≤ t.end) × (t.end ≤ text_limit)
      go (Piece.found {start} {end} a o w c u v n) e =
          let p : start ≡ t.start = cc in
          let q : end ≡ t.end = cc in
          (omega (arith, o), omega (arith, w, end_early text))
      go Piece.large e = never cc
      go Piece.broken e = never cc
      go Piece.finished e = never cc

  pub finished_early : {end : ℕ} → r ≡ Err (Finished end) → end ≤ text_limit
  finished_early {end} e = go (early_next (byte_at text) (length text) at (omega (arith, end_early text))) (sym (ap next_of e) ∙ s)
    where
      go : {x : Next} → Early x → Next.finished end ≡ ahead x → end ≤ text_limit
      go (Early.found {t = token j b} a) e = never cc
      go (Early.large a) e = never cc
      go (Early.broken a) e = never cc
      go (Early.finished {end = d} a) e = let p : d ≡ end = cc in omega (arith, a)

-- what is told: three numbers, or a refusal's number and place
pub data ToldWithin : Result (List ℕ) Refusal → Type 0 where
  numbers : {start len k : ℕ} → ToldWithin (Ok (three start len k))
  refused : {r : Refusal} → number_of r.reason ≤ 21 → r.place ≤ text_limit → ToldWithin (Err r)

early_told : {x : Next} → Early x → ToldWithin (told x)
early_told (Early.found {t = token j b} l) = ToldWithin.numbers
early_told (Early.large l) = ToldWithin.refused (omega arith) l
early_told (Early.broken l) = ToldWithin.refused (omega arith) l
early_told (Early.finished l) = ToldWithin.numbers

pub told_within : (text : Bytes) (at : ℕ) → ToldWithin (token_at text at)
unfolding token_at
told_within text at = chosen ToldWithin (leb at (end_of text))
    (λ e. early_told (early_next (byte_at text) (length text) at (omega (arith, leb-true at (end_of text) e, end_early text))))
    (λ _. ToldWithin.refused (omega arith) (end_early text))
