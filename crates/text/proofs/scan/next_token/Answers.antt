-- `next_token` meets its contract: blanks, then a piece.
use native.Mathlib.Omega.{arith}
use mathlib.Core.Bool.{Bool, true, false}
use mathlib.Core.Path.{◌≡◌, refl, ap, ◌∙◌}
use lib.ListN.{length}
use lib.Dec.{ltb}
use borrow.Author.Tests.{ltb-true, ltb-false}
use Prim.Native.Nat.{ℕ, ◌+◌, ◌-◌, ◌≤◌}
use Rattle.definition.specs.Basic.{Bytes, byte_at}
use Rattle.text.specs.Parts.{end_of}
use Rattle.text.specs.Scan.{is_blank, smaller, skip}
use Rattle.text.proofs.Skips.{skip_most}
use Rattle.text.proofs.Pieces.{next_late, next_piece}
use Rattle.text.proofs.RowAt.{least_end, end_within, end_early}
use Rattle.text.proofs.Smaller.{smaller_left}
use Rattle.text.proofs.scan.next_token.Goals as goal

-- where the blanks end
blanks : (text : Bytes) (at end start : ℕ) → end ≡ end_of text → start ≡ skip (byte_at text) (length text) is_blank (end - at) at → start ≡ skip (byte_at text) (length text) is_blank (smaller (length text) 8192 - at) at
unfolding end_of
blanks text at end start e s = s ∙ ap (λ m. skip (byte_at text) (length text) is_blank (m - at) at) e

-- a place behind the last token's end and before the text's
late : (text : Bytes) (start : ℕ) → end_of text ≤ start → start ≤ length text → (start ≡ length text → ⊥) → 8192 ≤ start
late text start e l h = go (ltb start 8192) refl
  where
    go : (b : Bool) → ltb start 8192 ≡ b → 8192 ≤ start
    go true t = let z : start + 1 ≤ end_of text = least_end text (omega arith) (omega (arith, ltb-true start 8192 t)) in absurd (omega arith)
    go false t = ltb-false start 8192 t

pub returns-then-start-end : goal.returns-then-start-end
returns-then-start-end c =
    let t = c.args.text.now in
    let e = c.text_end-end.ensures in
    let l = end_within t in
    next_piece _ _ _ _ (blanks _ _ _ _ e c.skip-start.ensures) (omega (arith, c.if-start-end.true)) (omega (arith, c.if-start-end.true, end_early t)) c.piece_at.ensures

pub returns-else-start-text : goal.returns-else-start-text
returns-else-start-text c =
    let t = c.args.text.now in
    let n = length t in
    let s = blanks _ _ _ _ c.text_end-end.ensures c.skip-start.ensures in
    let l : c.skip-start.result ≤ n = omega (arith, c.requires, s, skip_most (byte_at t) n is_blank (smaller n 8192 - c.args.at) c.args.at, smaller_left n 8192) in
    next_late _ _ _ _ s c.if-start-text.false (late t _ (omega (arith, c.if-start-end.false, c.text_end-end.ensures)) l c.if-start-text.false)
