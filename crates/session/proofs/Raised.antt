-- Bytes that are moved up, the last one first; and a session that is written back.
use Prim.Native.Nat.{ℕ, ◌+◌, ◌-◌, ◌≤◌}
use native.Mathlib.Omega.{arith}
use mathlib.Core.List.{◌++◌}
use mathlib.Core.Path.{◌≡◌, refl, sym, ap, ◌∙◌}
use lib.ListN.{length, take, drop}
use lib.Seq.{sets, length-take-le}
use Rattle.std.proofs.lemmas.List.Edits.{sets-eq}
use Rattle.std.specs.List.{copy_within}
use Rattle.definition.specs.Basic.{Bytes}
use Rattle.definition.specs.SymbolTable.{builtins}
use Rattle.definition.specs.Session.{listed, words_field}
use Rattle.session.specs.Write.{raised}
use Rattle.session.proofs.Stores.{sets_before}

-- the bytes before an offset, copied within
pub moved-up : (e : Bytes) (end by : ℕ) {m : Bytes} → by + end ≤ length e → m ≡ copy_within e 0 end by → m ≡ sets e by (take end e)
moved-up e end by h p =
    let n : end - 0 ≡ end = omega arith in
    let l : length (take end e) ≡ end = length-take-le end e (omega arith) in
    p ∙ (λ i. (take by e ++ take (n i) e) ++ drop (by + n i) e) ∙ (λ i. (take by e ++ take end e) ++ drop (by + sym l i) e) ∙ sym (sets-eq (take end e) e by (omega arith))

-- the six words' field in front of what was moved up
pub six_raised : (e : Bytes) (end : ℕ) {m r : Bytes} → end + 45 ≤ length e → m ≡ copy_within e 0 end 45 → r ≡ sets m 0 (words_field (listed builtins)) → r ≡ raised end e
six_raised e end h p q = q ∙ ap (λ m. sets m 0 (words_field (listed builtins))) (moved-up e end 45 (omega arith) p) ∙ sets_before e 0 (words_field (listed builtins)) (take end e) refl
