-- An image that was read: its parts, and what listing it answers.
use Prim.Native.Nat.{ℕ, ◌+◌, ◌-◌, ◌≤◌}
use mathlib.Core.Path.{◌≡◌, ◌∙◌, ap, sym, refl, subst}
use mathlib.Core.Bool.{Bool, true, false}
use mathlib.Core.List.{List, [], ◌++◌, append_assoc}
use native.Mathlib.Omega.{arith}
use lib.Dec.{eqb}
use lib.ListN.{length}
use lib.Seq.{sets}
use borrow.Author.Tests.{eqb-true, eq-eqb, leb-true, le-leb}
use Rattle.definition.specs.Basic.{Bytes, byte_at}
use Rattle.definition.specs.Limit.{image_limit, pool_limit, constants_limit, code_size}
use Rattle.definition.specs.Number.{refusal, bad_image}
use Rattle.definition.specs.Tag.{tag_main, tag_pool}
use Rattle.definition.specs.Field.{Head, head, tagged}
use Rattle.definition.specs.Text.{ascii, decimal}
use Rattle.definition.specs.Bytecode.{Code, Const, Image, size_of}
use Rattle.definition.specs.Decode.{Decoded, decoded, malformed, then, ending, main_head, pool_head, read_instr, read_const, read_code, read_pool, read_image_of, read_image}
use Rattle.definition.specs.Listing.{also, newline, code_lines, constant_lines, listing, list_answer, list_into}
use Rattle.definition.specs.declared.reason.Refusal.{Refusal}
use Rattle.std.specs.Prelude.{Ok, Err, Result}
use Rattle.session.proofs.Stores.{sets_over}
use Rattle.bytecode.specs.declared.span.Parts.{Parts as Divided}
use Rattle.bytecode.specs.Parts.{Divides}
use Rattle.bytecode.specs.Checked.{constants}
use Rattle.definition.proofs.Basic.{both_true}
use Rattle.bytecode.proofs.Items.{ended, unlike}
use Rattle.bytecode.proofs.Fields.{main_content, pool_content, head_read, then_read}
use Rattle.listing.specs.declared.measure.MeasuredImage.{MeasuredImage}
use Rattle.listing.specs.Measured.{image_measured}
use Rattle.listing.specs.Reads.{CodeAt, PoolAt, CodeIn, HasCodeIn, PoolIn, HasPoolIn, ImageAt, HasImage, is_image, pool_text}
use Rattle.listing.proofs.Lines.{code-size}

-- nothing follows
ended-at : {A : Type 0} (x : A) (at end : ℕ) {y : A} {n : ℕ} → ending x at end ≡ decoded y n → (x ≡ y) × (at ≡ end) × (at ≡ n)
ended-at x at end {y} {n} e = go (eqb at end) refl
  where
    go : (b : Bool) → eqb at end ≡ b → (x ≡ y) × (at ≡ end) × (at ≡ n)
    go true t = let d : decoded x at ≡ decoded y n = rw t at e in (cc, eqb-true at end t, cc)
    go false t = absurd (unlike (rw t at e))

module _ (b : Bytes) where
  -- main code, from 3 on, then the pool
  pub record Parts (m : Image) (len : ℕ) : Type 0 where
    pub code : CodeAt b 3 (3 + len) m.code
    pub size : size_of m.code ≡ len
    pub pool : PoolAt b (3 + len + 3) (length b) m.pool
    pub small : length b ≤ image_limit

  -- a pool that was read up to the end
  record Pool (at : ℕ) (cs : List Const) : Type 0 where
    is : PoolAt b (at + 3) (length b) cs
    small : length b ≤ at + 3 + pool_limit

  pool-part : (at : ℕ) {cs : List Const} {n : ℕ} → read_pool (byte_at b) at (length b) ≡ decoded cs n → n ≡ length b → Pool at cs
  pool-part at {cs} {n} r q =
      let g = head_read (byte_at b) at (length b) (pool_head (byte_at b)) (pool_content (byte_at b)) r in
      let len = (head (byte_at b) at).len in
      let e : n ≡ at + 3 + len = (ended (read_const (byte_at b)) (at + 3 + len) constants_limit [] (at + 3) g.1).ends in
      let l : at + 3 + len ≡ length b = sym e ∙ q in
      let f = both_true (tagged tag_pool (head (byte_at b) at)) _ g.0.is in
      let s : len ≤ pool_limit = leb-true len pool_limit f.1 in
      record {
        is =
            record {
              order = omega arith;
              within = omega arith;
              reads = subst (λ k. constants (byte_at b) (at + 3) k ≡ decoded cs k) l (g.1 ∙ ap (decoded cs) e);
            };
        small = omega arith;
      }

  -- both parts
  joined : (m : Image) {c : Code} {cs : List Const} {at : ℕ} → 3 + (head (byte_at b) 0).len ≤ length b → (head (byte_at b) 0).len ≤ code_size
      → read_code (byte_at b) (head (byte_at b) 0).len 3 (3 + (head (byte_at b) 0).len) ≡ decoded c at → at ≡ 3 + (head (byte_at b) 0).len → Pool at cs
      → c ≡ m.code → cs ≡ m.pool → Parts m (head (byte_at b) 0).len
  joined m {c} {cs} {at} h s r k g p q =
      let len = (head (byte_at b) 0).len in
      let most : len ≡ 3 + len - 3 = omega arith in
      let size = code-size (byte_at b) (3 + len) 3 len r in
      record {
        code =
            subst (λ (x : Code). CodeAt b 3 (3 + len) x) p
            (record { order = omega arith; within = h; reads = subst (λ n. read_code (byte_at b) n 3 (3 + len) ≡ decoded c (3 + len)) most (r ∙ ap (decoded c) k) });
        size = ap size_of (sym p) ∙ (omega arith);
        pool = subst (λ (x : List Const). PoolAt b (3 + len + 3) (length b) x) q (subst (λ n. PoolAt b (n + 3) (length b) cs) k g.is);
        small = omega (arith, g.small);
      }

  module _ {m : Image} {n : ℕ} (e : read_image b ≡ decoded m n) where
    after-code : Code → ℕ → Decoded Image
    after-code c at = then (read_pool (byte_at b) at (length b)) (λ cs at₁. ending (record { code = c; pool = cs }) at₁ (length b))

    after_head : Head → ℕ → Decoded Image
    after_head h in₀ = then (main_content (byte_at b) h in₀) after-code

    pub image_parts : Parts m (head (byte_at b) 0).len × (n ≡ length b)
    unfolding read_image_of after-code after_head
    image_parts =
        let h = head_read (byte_at b) 0 (length b) (main_head (byte_at b)) after_head e in
        let len = (head (byte_at b) 0).len in
        let s : len ≤ code_size = leb-true len code_size (both_true (tagged tag_main (head (byte_at b) 0)) _ h.0.is).1 in
        let t = then_read _ h.1 in
        let k : t.1 ≡ 3 + len = (ended (read_instr (byte_at b)) (3 + len) len [] 3 t.2).ends in
        let p = then_read (read_pool (byte_at b) t.1 (length b)) t.3 in
        let d = ended-at (record { code = t.0; pool = p.0 }) p.1 (length b) p.3 in
        let c : t.0 ≡ m.code = ap (λ (i : Image). i.code) d.0 in
        let l : p.0 ≡ m.pool = ap (λ (i : Image). i.pool) d.0 in
        (joined m h.0.within s t.2 k (pool-part t.1 p.2 d.1) c l, sym d.2 ∙ d.1)

  pub parts : {m : Image} {len : ℕ} → ImageAt b m → len ≡ (head (byte_at b) 0).len → Parts m len
  parts {m} i e = subst (Parts m) (sym e) (image_parts i.reads).0

  module _ {m : Image} (i : ImageAt b m) where
    -- it is short
    pub image_short : length b ≤ image_limit
    image_short = (parts i refl).small

    -- it has the head that its division reads
    pub has_head : 3 ≤ length b
    has_head = let k = parts i refl in omega (arith, k.code.within)

    -- the parts that it is divided into
    module _ {p : Divided} (d : Divides b p) where
      pub code_in : CodeIn p.code m.code
      code_in = rw (d.main, d.first, d.behind) (parts i refl).code

      pub pool_in : PoolIn p.pool m.pool
      pool_in = rw (d.constants, d.next, d.last) (parts i refl).pool

-- an image is sound
module _ (b : Bytes) where
  pub has_image : is_image (read_image b) (length b) ≡ true → HasImage b
  has_image s = go (read_image b) refl s
    where
      go : (d : Decoded Image) → read_image b ≡ d → is_image d (length b) ≡ true → HasImage b
      go (decoded m n) e i = record { image = m; is = record { reads = e ∙ ap (decoded m) (eqb-true n (length b) i) } }
      go (malformed p) e i = let z : ◌≡◌ {A = ℕ} 0 1 = cc in absurd (omega arith)

  pub is_sound : {m : Image} → ImageAt b m → is_image (read_image b) (length b) ≡ true
  is_sound i = ap (λ d. is_image d (length b)) i.reads ∙ eq-eqb (length b) (length b) refl

-- so that its parts hold code and a pool
module _ (b : Bytes) (sound : is_image (read_image b) (length b) ≡ true) {p : Divided} (d : Divides b p) where
  pub has_code : HasCodeIn p.code
  has_code = let h = has_image b sound in record { code = h.image.code; is = code_in b h.is d }

  pub has_pool : HasPoolIn p.pool
  has_pool = let h = has_image b sound in record { pool = h.image.pool; is = pool_in b h.is d }

-- main code's lines and the pool's
pub listing_is : (m : Image) → (ascii "main" ++ also (decimal (size_of m.code)) ++ newline ++ code_lines m.code) ++ pool_text m.pool ≡ listing m
listing_is m = regrouped (ascii "main" ++ also (decimal (size_of m.code)) ++ newline ++ code_lines m.code) (decimal (length m.pool)) (constant_lines m.pool)
  where
    regrouped : (s n t : Bytes) → s ++ (ascii "pool" ++ also n ++ newline ++ t) ≡ s ++ ascii "pool" ++ also n ++ newline ++ t
    regrouped s n t = simp append_assoc

-- what the reading of an image says of it: it reads, has so many constants, and a listing of such a length
pub sound_image : (b : Bytes) {r : Result MeasuredImage Refusal} {v : MeasuredImage} → r ≡ image_measured (read_image b) → r ≡ Ok v
    → (h : HasImage b) × (v.constants ≡ length h.image.pool) × (length (listing h.image) ≡ v.size)
sound_image b {r} {v} e t = go (read_image b) refl
  where
    go : (d : Decoded Image) → read_image b ≡ d → (h : HasImage b) × (v.constants ≡ length h.image.pool) × (length (listing h.image) ≡ v.size)
    go (decoded m n) i =
        let made : MeasuredImage = record { constants = length m.pool; size = length (listing m) } in
        let g : ◌≡◌ {A = Result MeasuredImage Refusal} (Ok made) (Ok v) = sym (e ∙ ap image_measured i) ∙ t in
        let j : made ≡ v = cc in
        (record { image = m; is = record { reads = i ∙ ap (decoded m) (image_parts b i).1 } }, sym (ap (λ (x : MeasuredImage). x.constants) j), ap (λ (x : MeasuredImage). x.size) j)
    go (malformed p) i = let g : ◌≡◌ {A = Result MeasuredImage Refusal} (Err (refusal bad_image p)) (Ok v) = sym (e ∙ ap image_measured i) ∙ t in cc

pub wrong_image : (b out : Bytes) {r : Result MeasuredImage Refusal} {q : Refusal} → r ≡ image_measured (read_image b) → r ≡ Err q
    → (Err q ≡ list_answer (read_image b) (length out)) × (out ≡ list_into (read_image b) out)
wrong_image b out {r} {q} e t = go (read_image b) refl
  where
    go : (d : Decoded Image) → read_image b ≡ d → (Err q ≡ list_answer (read_image b) (length out)) × (out ≡ list_into (read_image b) out)
    go (decoded m n) i =
        let g : ◌≡◌ {A = Result MeasuredImage Refusal} (Ok (record { constants = length m.pool; size = length (listing m) })) (Err q) = sym (e ∙ ap image_measured i) ∙ t in
        cc
    go (malformed p) i =
        let g : ◌≡◌ {A = Result MeasuredImage Refusal} (Err (refusal bad_image p)) (Err q) = sym (e ∙ ap image_measured i) ∙ t in
        let f : refusal bad_image p ≡ q = cc in
        (ap Err (sym f) ∙ rw i, rw i)

-- what listing a sound image answers and leaves, by the length of the listing
module _ (b out : Bytes) {m : Image} (i : ImageAt b m) {size : ℕ} (counts : length (listing m) ≡ size) where
  pub listing-written : {last : Bytes} → size ≤ length out → last ≡ sets out 0 (listing m)
      → (Ok size ≡ list_answer (read_image b) (length out)) × (last ≡ list_into (read_image b) out)
  listing-written h p = (
    rw (i.reads, counts, le-leb size (length out) h),
    p ∙ sets_over out (listing m) (omega (arith, counts)) ∙ rw (i.reads, counts, le-leb size (length out) h),
  )
