-- The table of words, and a word that is written.
use Prim.Native.Nat.{ℕ, ◌≤◌, ◌<◌}
use mathlib.Core.Path.{◌≡◌, ◌∙◌, ap, sym, refl, subst}
use mathlib.Core.Bool.{Bool, true, false}
use mathlib.Core.List.{List, [], map}
use native.Mathlib.Omega.{arith}
use denote.Bor.{Bor}
use lib.Dec.{leb, T}
use lib.ListN.{length, get_or}
use borrow.Author.Tests.{le-leb, leb-true}
use Rattle.std.proofs.lemmas.List.{get_or-map}
use Rattle.std.proofs.Math.ListN.{get_or-map as get_or-of-map}
use Rattle.std.specs.Prelude.{Ok, Err}
use Rattle.definition.specs.Basic.{Bytes}
use Rattle.definition.specs.Number.{refusal, output_short}
use Rattle.definition.specs.Opcode.{op_last}
use Rattle.definition.specs.Output.{over}
use Rattle.definition.specs.Text.{ascii}
use Rattle.definition.specs.Listing.{words, word}
use Rattle.opcode.specs.Words.{word_answer, word_into}
use Rattle.opcode.proofs.Encoding.{placing, refusing}
use Rattle.opcode.proofs.Tables.{every_at}

-- a table that holds the words
module _ (table : List (Bor Bytes)) (e : map (λ w. w.now) table ≡ map ascii words) (l : length table ≡ 30) (o op : ℕ) (p : o ≡ op) (h : op < 30) (d : Bor Bytes) where
  -- its entry is the byte's word
  pub word_there : (get_or table o d).now ≡ word op
  word_there = sym (get_or-map (λ w. w.now) table o d [] (omega arith)) ∙ ap (λ t. get_or t o []) e ∙ get_or-map ascii words o "" [] (omega arith) ∙ ap word p

  -- and no longer than 14 bytes
  pub word_small : length (get_or table o d).now ≤ 14
  word_small =
      let t = every_at (λ n. leb n 14) (map (λ w. length (ascii w)) words) tt tt op in
      let m = leb-true (length (word op)) 14 (go _ (subst (λ n. T (leb n 14)) (get_or-of-map (λ w. length (ascii w)) words op "") t)) in
      omega (arith, ap length word_there)
    where
      go : (b : Bool) → T b → b ≡ true
      go true t = refl
      go false t = absurd t

module _ {op n : ℕ} (out : Bytes) (h : op < 30) (e : length (word op) ≡ n) where
  known : leb op op_last ≡ true
  known = le-leb op op_last (omega arith)

  pub word_short : length out < n → (Err (refusal output_short 0) ≡ word_answer op (length out)) × (out ≡ word_into op out)
  word_short s = let p = refusing (word op) out n e s in (p.0 ∙ rw known, p.1 ∙ rw known)

  pub word_written : {r : Bytes} → n ≤ length out → r ≡ over (word op) out → (Ok n ≡ word_answer op (length out)) × (r ≡ word_into op out)
  word_written s w = let p = placing (word op) out n e s in (p.0 ∙ rw known, w ∙ p.1 ∙ rw known)
