-- Heads and fields, as they are stored.
use Prim.Native.Nat.{ℕ, ◌+◌, ◌≤◌}
use native.Mathlib.Omega.{arith}
use mathlib.Core.List.{◌++◌, append_assoc}
use mathlib.Core.Path.{◌≡◌, refl, sym, ap, ◌∙◌}
use lib.ListN.{length, take, drop, length-append}
use lib.Seq.{sets, take_at, drop_at}
use Rattle.definition.specs.Basic.{Bytes}
use Rattle.definition.specs.Output.{over}
use Rattle.definition.specs.Field.{field}
use Rattle.session.specs.Write.{heading}
use Rattle.session.proofs.Stores.{sets_append, sets_over}

-- a head, then the content
pub field_stored : (l : Bytes) {m r : Bytes} (i t : ℕ) (c : Bytes) → m ≡ sets l i (heading t (length c)) → r ≡ sets m (i + 3) c → r ≡ sets l i (field t c)
field_stored l i t c p q = q ∙ ap (λ m. sets m (i + 3) c) p ∙ sets_append l i (heading t (length c)) c refl

-- two fields at the front
pub fields-stored : (l : Bytes) {m r : Bytes} (s t : ℕ) (b c : Bytes) → 6 + length b + length c ≤ length l → m ≡ sets l 0 (field s b) → r ≡ sets m (3 + length b) (field t c)
    → r ≡ over (field s b ++ field t c) l
fields-stored l s t b c h p q =
    q ∙ ap (λ m. sets m (3 + length b) (field t c)) p ∙ sets_append l 0 (field s b) (field t c) (omega arith) ∙ sets_over l (field s b ++ field t c) (omega (arith, length-append (field s b) (field t c)))

-- the second field's content stands in what was written
pub second_content : (l : Bytes) (s t : ℕ) (b c : Bytes) {i n : ℕ} → i ≡ 6 + length b → n ≡ length c → take n (drop i (over (field s b ++ field t c) l)) ≡ c
second_content l s t b c {i} {n} p q =
    let rest = drop (length (field s b ++ field t c)) l in
    let front = field s b ++ heading t (length c) in
    let e : field s b ++ field t c ≡ front ++ c = sym (append_assoc (field s b) (heading t (length c)) c) in
    ap (λ m. take n (drop i (m ++ rest))) e
    ∙ ap (λ m. take n (drop i m)) (append_assoc front c rest)
    ∙ ap (take n) (drop_at front (c ++ rest) i (omega (arith, length-append (field s b) (heading t (length c)))))
    ∙ take_at c rest n (omega arith)
