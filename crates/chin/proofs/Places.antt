-- The places of refusals are within the longest image, in either form: of 17 as the definition's ImagePlaces has it for images, and of 26.
use Prim.Native.Nat.{ℕ, zero, suc, ◌+◌, ◌≤◌, ◌<◌}
use native.Mathlib.Omega.{arith}
use mathlib.Core.Bool.{Bool, true}
use mathlib.Core.List.{List, [], ◌∷◌}
use mathlib.Core.Path.{◌≡◌, refl}
use lib.ListN.{length}
use lib.Dec.{leb, eqb}
use borrow.Author.Tests.{leb-true}
use Rattle.definition.specs.Basic.{Bytes, byte_at, both}
use Rattle.definition.specs.Limit.{code_size, pool_limit, constants_limit, image_limit}
use Rattle.definition.specs.Tag.{tag_pool, tag_integer_const, tag_string_const}
use Rattle.definition.specs.Opcode.{width, whole, op_last}
use Rattle.definition.specs.Field.{Head, tagged, fits, head}
use Rattle.definition.specs.Bytecode.{Code, size_of, Const, pool_size, Image}
use Rattle.definition.specs.Decode.{Decoded, malformed, then, ending, items, read_instr, read_code, read_head, pool_head, read_function, read_content}
use Rattle.definition.specs.Valid.{ValidImage}
use Rattle.definition.proofs.Basic.{chosen, both_true}
use Rattle.definition.proofs.ImagePlaces.{Reads}
use Rattle.definition.proofs.Instructions.{code-length}
use Rattle.bytecode.specs.declared.Form.{Form}
use Rattle.bytecode.specs.Form.{tag_main_in, tag_function_in, const_head_in, read_const_in, read_pool_in, main_head_in, read_in, read_form}
use Rattle.chin.specs.Turn.{Jump, Made, stopped, turn_image}
use Rattle.chin.specs.Refusals.{FirstBad, FirstBadConst, Judged}
use Rattle.chin.proofs.Refusals.{judges}

-- it ends at an offset or before it
abbrev Upto : {A : Type 0} → ℕ → A → ℕ → Type 0
Upto end _ n = n ≤ end

-- a reader of items before an end
record Each {A : Type 0} (bound : ℕ) (f : ℕ → ℕ → Decoded A) : Type 0 where
  each : (at end : ℕ) → at ≤ end → end ≤ bound → Reads bound (Upto end) (f at end)

-- a head that is right, of a field that stands before an end
record HeadBefore (good : Head → Bool) (at end : ℕ) (h : Head) (n : ℕ) : Type 0 where
  begins : n ≡ at + 3
  ends : n + h.len ≤ end
  right : good h ≡ true

module _ {bound : ℕ} where
  reads_then : {A B : Type 0} {P : A → ℕ → Type 0} {Q : B → ℕ → Type 0} {x : Decoded A} {k : A → ℕ → Decoded B} → Reads bound P x → ((a : A) (n : ℕ) → P a n → Reads bound Q (k a n)) → Reads bound Q (then x k)
  reads_then (Reads.right {a = a} {n = n} p) f = f a n p
  reads_then (Reads.wrong p h) f = Reads.wrong p h

  -- a later end
  reads_upto : {A : Type 0} {e end : ℕ} {x : Decoded A} → e ≤ end → Reads bound (Upto e) x → Reads bound (Upto end) x
  reads_upto {end = end} h (Reads.right {n = n} p) = let l : n ≤ end = omega arith in Reads.right l
  reads_upto h (Reads.wrong p k) = Reads.wrong p k

  -- nothing may follow
  reads_ending : {A : Type 0} {P : A → ℕ → Type 0} (a : A) (at end : ℕ) → at ≤ bound → P a at → Reads bound P (ending a at end)
  reads_ending {P = P} a at end h p = chosen (Reads bound P) (eqb at end) (λ _. Reads.right p) (λ _. Reads.wrong at h)

  -- items up to an end
  reads_items : {A : Type 0} {f : ℕ → ℕ → Decoded A} → Each bound f → (most : ℕ) (xs : List A) (at end : ℕ) → at ≤ end → end ≤ bound → Reads bound (Upto end) (items f most xs at end)
  unfolding items
  reads_items F zero xs at end h k = reads_ending xs at end (omega arith) h
  reads_items F (suc most) xs at end h k =
      chosen (Reads bound (Upto end)) (eqb at end) (λ _. Reads.right h) (λ _. reads_then (F.each at end h k) (λ x n l. reads_items F most (x ∷ xs) n end l k))

  module _ (f : Form) (byte : ℕ → ℕ) where
    -- an instruction
    reads_instr : Each bound (read_instr byte)
    reads_instr =
        record {
          each =
              λ at end h k. chosen (Reads bound (Upto end)) (whole byte at end)
              (λ e. Reads.right (omega (arith, leb-true (at + 1 + width (byte at)) end (both_true (leb (byte at) op_last) (leb (at + 1 + width (byte at)) end) e).1))) (λ _. Reads.wrong at (omega arith));
        }

    -- code over a part
    reads_code : (len at end : ℕ) → at ≤ end → end ≤ bound → Reads bound (Upto end) (read_code byte len at end)
    reads_code len at end h k = reads_items reads_instr len [] at end h k

    -- a head
    reads_head : (good : Head → Bool) (at end : ℕ) → at ≤ bound → Reads bound (HeadBefore good at end) (read_head byte good at end)
    reads_head good at end k =
        let h = head byte at in
        chosen (Reads bound (HeadBefore good at end)) (both (fits at end h) (good h))
        (λ e.
        let e₁ = both_true (fits at end h) (good h) e in
        Reads.right (record { begins = refl; ends = leb-true _ _ (both_true (leb (at + 3) end) (leb (at + 3 + h.len) end) e₁.0).1; right = e₁.1 })) (λ _. Reads.wrong at k)

    -- a function
    reads_function : (in₀ len : ℕ) → 3 ≤ len → in₀ + len ≤ bound → Reads bound (Upto (in₀ + len)) (read_function byte in₀ len)
    reads_function in₀ len h k = reads_then (reads_code len (in₀ + 3) (in₀ + len) (omega arith) k) (λ _ _ l. Reads.right l)

    -- what a constant holds
    reads_content : (h : Head) (in₀ : ℕ) → const_head_in f byte h ≡ true → in₀ + h.len ≤ bound → Reads bound (Upto (in₀ + h.len)) (read_content byte h in₀)
    reads_content h in₀ g k =
        let P = Reads bound (Upto (in₀ + h.len)) in
        chosen P (tagged tag_integer_const h) (λ _. Reads.right (omega arith)) (λ i.
        chosen P (tagged tag_string_const h) (λ _. Reads.right (omega arith)) (λ j.
        let g₁ : both (tagged (tag_function_in f) h) (leb 3 h.len) ≡ true = rw (i, j) at g in
        reads_function in₀ h.len (leb-true 3 h.len (both_true (tagged (tag_function_in f) h) (leb 3 h.len) g₁).1) k))

    -- a constant
    reads_const : Each bound (read_const_in f byte)
    reads_const =
        record {
          each = λ at end h k. reads_then (reads_head (const_head_in f byte) at end (omega arith)) (λ x n l. reads_upto l.ends (reads_content x n l.right (omega (arith, l.ends))));
        }

-- main code, the pool, and nothing more
reads_image : (f : Form) (byte : ℕ → ℕ) (n : ℕ) → Reads image_limit (Upto image_limit) (read_in f byte n)
unfolding read_in
reads_image f byte n =
    reads_then (reads_head f byte (main_head_in f byte) 0 n (omega arith)) (λ h in₀ p.
    let few : h.len ≤ code_size = leb-true h.len code_size (both_true (tagged (tag_main_in f) h) (leb h.len code_size) p.right).1 in
    reads_then (reads_code f byte h.len in₀ (in₀ + h.len) (omega arith) (omega (arith, p.begins))) (λ c at q.
    reads_then (reads_pool (omega (arith, p.begins))) (λ cs at₁ r. reads_ending _ at₁ n r r)))
  where
    reads_pool : {at : ℕ} → at ≤ 3 + code_size → Reads image_limit (Upto image_limit) (read_pool_in f byte at n)
    reads_pool {at} l =
        reads_then (reads_head f byte (pool_head byte) at n (omega arith)) (λ h in₀ p.
        let few : h.len ≤ pool_limit = leb-true h.len pool_limit (both_true (tagged tag_pool h) (leb h.len pool_limit) p.right).1 in
        let room : in₀ + h.len ≤ image_limit = omega (arith, p.begins) in
        reads_upto room (reads_items (reads_const f byte) constants_limit [] in₀ (in₀ + h.len) (omega arith) room))

-- the place of number 17
pub form_place : (f : Form) (b : Bytes) (p : ℕ) → read_form f b ≡ malformed p → p ≤ image_limit
form_place f b p e = go (reads_image f (byte_at b) (length b)) e
  where
    go : {d : Decoded Image} → Reads image_limit (Upto image_limit) d → d ≡ malformed p → p ≤ image_limit
    go (Reads.right _) e = let z : ◌≡◌ {A = ℕ} 0 1 = cc in absurd (omega arith)
    go (Reads.wrong q h) e = let i : q ≡ p = cc in omega arith

-- the place of number 26: a jump is inside its code, which is inside the image
module _ (jump : Jump) where
  bad_inside : {start : ℕ} {c : Code} {p : ℕ} → FirstBad jump start c p → p < start + size_of c
  bad_inside (FirstBad.here h b) = omega arith
  bad_inside (FirstBad.before h) = omega (arith, bad_inside h)

  bad_const_inside : {start : ℕ} {cs : List Const} {p : ℕ} → FirstBadConst jump start cs p → p < start + pool_size cs
  bad_const_inside (FirstBadConst.here {c = c} h b) = omega (arith, bad_inside b, code-length c)
  bad_const_inside (FirstBadConst.before h) = omega (arith, bad_const_inside h)

  pub jump-place : (m : Image) → ValidImage m → {p : ℕ} → turn_image jump m ≡ stopped p → p ≤ image_limit
  jump-place m v {p} e = go (turn_image jump m) (judges jump m) e
    where
      go : (r : Made Image) → Judged jump m r → r ≡ stopped p → p ≤ image_limit
      go _ (Judged.passes h k) e = let z : ◌≡◌ {A = ℕ} 0 1 = cc in absurd (omega arith)
      go _ (Judged.in_main {p = q} h) e = let i : q ≡ p = cc in omega (arith, bad_inside h, v.size)
      go _ (Judged.in_pool {p = q} h k) e = let i : q ≡ p = cc in omega (arith, bad_const_inside k, v.size, v.pool.size)
