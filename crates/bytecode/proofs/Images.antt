-- An image, from its main code and its pool.
use Prim.Native.Nat.{ℕ, ◌≤◌}
use mathlib.Core.Path.{◌≡◌, ◌∙◌, ap, sym, refl}
use mathlib.Core.List.{List, []}
use native.Mathlib.Omega.{arith}
use lib.ListN.{length}
use borrow.Author.Tests.{eq-eqb, ne_eqb}
use Rattle.definition.specs.Basic.{Bytes, byte_at}
use Rattle.definition.specs.Bytecode.{Code, Const, Image}
use Rattle.definition.specs.Decode.{Decoded, decoded, malformed, then, ending, read_head, read_instr, read_image_of, read_image}
use Rattle.bytecode.specs.declared.Form.{Form}
use Rattle.bytecode.specs.declared.Form.TheVariants.{Plain}
use Rattle.bytecode.specs.Form.{read_pool_in, main_head_in, read_in, read_form}
use Rattle.std.specs.Prelude.{Result, Ok, Err}
use Rattle.definition.specs.Number.{refusal, bad_image}
use Rattle.definition.specs.declared.reason.Refusal.{Refusal}
use Rattle.bytecode.specs.declared.item_check.Items.{Items}
use Rattle.bytecode.specs.declared.Malformed.{Malformed}
use Rattle.bytecode.specs.Checked.{item, checked, main_code, image_answer}
use Rattle.bytecode.proofs.Items.{ended}
use Rattle.bytecode.proofs.Fields.{item_next, item_wrong, head_read, main_content}
use Rattle.bytecode.proofs.ReadConstants.{checked_good, checked_wrong}

-- the plain form is read as the definition reads an image
pub read_plain : (b : Bytes) → read_form Plain b ≡ read_image b
unfolding read_in read_image_of
read_plain b = refl

then_assoc : {A B C : Type 0} (d : Decoded A) (f : A → ℕ → Decoded B) (g : B → ℕ → Decoded C) → then d (λ a n. then (f a n) g) ≡ then (then d f) g
then_assoc (decoded a n) f g = refl
then_assoc (malformed p) f g = refl

module _ (f : Form) (b : Bytes) where
  -- what follows main code
  after_main : Code → ℕ → Decoded Image
  after_main c at = then (read_pool_in f (byte_at b) at (length b)) (λ cs at₁. ending (record { code = c; pool = cs }) at₁ (length b))

  image_is : read_form f b ≡ then (main_code (byte_at b) f (length b)) after_main
  unfolding read_in after_main
  image_is = then_assoc (read_head (byte_at b) (main_head_in f (byte_at b)) 0 (length b)) (main_content (byte_at b)) after_main

  -- main code that is wrong
  pub image_main_wrong : {p : ℕ} → main_code (byte_at b) f (length b) ≡ malformed p → read_form f b ≡ malformed p
  image_main_wrong e = image_is ∙ ap (λ (d : Decoded Code). then d after_main) e

  module _ {c : Code} {at : ℕ} (m : main_code (byte_at b) f (length b) ≡ decoded c at) where
    pub main_ends : at ≤ length b
    main_ends =
        let h = head_read (byte_at b) 0 (length b) (main_head_in f (byte_at b)) (main_content (byte_at b)) m in
        let n = ended (read_instr (byte_at b)) _ _ [] _ h.1 in
        omega (arith, h.0.within, n.ends)

    image_after : read_form f b ≡ after_main c at
    image_after = image_is ∙ ap (λ (d : Decoded Code). then d after_main) m

    -- a pool that is wrong behind it
    pub image-pool_wrong : {p : ℕ} → read_pool_in f (byte_at b) at (length b) ≡ malformed p → read_form f b ≡ malformed p
    unfolding after_main
    image-pool_wrong e = image_after ∙ rw e

    module _ {cs : List Const} {n : ℕ} (e : read_pool_in f (byte_at b) at (length b) ≡ decoded cs n) where
      -- nothing behind both, and something
      pub image-whole : n ≡ length b → read_form f b ≡ decoded (record { code = c; pool = cs }) n
      unfolding after_main
      image-whole q = image_after ∙ rw (e, eq-eqb n (length b) q)

      pub image-longer : (n ≡ length b → ⊥) → read_form f b ≡ malformed n
      unfolding after_main
      image-longer q = image_after ∙ rw (e, ne_eqb n (length b) q)

  -- an image that is refused with number 17 there
  abbrev pub refused : ℕ → Result ℕ Refusal
  refused p = Err (refusal bad_image p)

  -- the same, from what the checks answered
  module _ {r : Result ℕ Malformed} (e : r ≡ item (main_code (byte_at b) f (length b))) where
    pub main_wrong : {x : Malformed} → r ≡ Err x → refused x.place ≡ image_answer (read_form f b)
    main_wrong w = sym (ap image_answer (image_main_wrong (item_wrong (main_code (byte_at b) f (length b)) e w)))

    module _ {at : ℕ} (w : r ≡ Ok at) where
      main_read : (c : Code) × (main_code (byte_at b) f (length b) ≡ decoded c at)
      main_read = item_next (main_code (byte_at b) f (length b)) e w

      pub main_within : at ≤ length b
      main_within = main_ends main_read.1

      module _ {s : Result Items Malformed} (g : s ≡ checked (read_pool_in f (byte_at b) at (length b))) where
        pub pool_wrong : {x : Malformed} → s ≡ Err x → refused x.place ≡ image_answer (read_form f b)
        pool_wrong v = sym (ap image_answer (image-pool_wrong main_read.1 (checked_wrong (read_pool_in f (byte_at b) at (length b)) g v)))

        module _ {v : Items} (j : s ≡ Ok v) where
          pool_read : (cs : List Const) × (read_pool_in f (byte_at b) at (length b) ≡ decoded cs v.end) × (length cs ≡ v.count)
          pool_read = checked_good (read_pool_in f (byte_at b) at (length b)) g j

          pub image_ends : v.end ≡ length b → Ok v.count ≡ image_answer (read_form f b)
          image_ends q = sym (ap image_answer (image-whole main_read.1 pool_read.1 q) ∙ ap (λ (n : ℕ). Ok n) pool_read.2)

          pub image_follows : (v.end ≡ length b → ⊥) → refused v.end ≡ image_answer (read_form f b)
          image_follows n = sym (ap image_answer (image-longer main_read.1 pool_read.1 n))
