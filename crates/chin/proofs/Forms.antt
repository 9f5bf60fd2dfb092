-- Images in a form: written then read, and read then written; the plain form is the definition's.
use Prim.Native.Nat.{ℕ, ◌+◌, ◌≤◌}
use native.Mathlib.Omega.{arith}
use mathlib.Core.Bool.{true}
use mathlib.Core.List.{List, [], ◌∷◌, ◌++◌}
use mathlib.Core.Path.{◌≡◌, refl, sym, ap, ◌∙◌}
use lib.ListN.{length, length-append}
use lib.Dec.{leb, eqb}
use borrow.Author.Tests.{le-leb, leb-true, eqb-true}
use Rattle.definition.specs.Basic.{Bytes, byte_at}
use Rattle.definition.specs.Limit.{code_size}
use Rattle.definition.specs.Tag.{tag_pool}
use Rattle.definition.specs.Field.{Head, field, tagged}
use Rattle.definition.specs.Bytecode.{Code, size_of, encode, Const, const_bytes, pool_bytes, pool_size, Image, image_bytes}
use Rattle.definition.specs.Decode.{Decoded, decoded, then, ending, read_instr, read_head, read_code}
use Rattle.definition.specs.Valid.{AreBytes, ValidImage}
use Rattle.definition.proofs.Basic.{both_left, both_right}
use Rattle.definition.proofs.Bytes.{Stands, stands_at, stands_left, stands_right, stands_append, stands_self, stands_whole}
use Rattle.definition.proofs.Items.{first, passed, ends, Rewritten, rewritten_same}
use Rattle.definition.proofs.Fields.{tagged_true, then_assoc, read_row, read-row, write_row}
use Rattle.definition.proofs.Instructions.{code-length, code-count, reads_instr, writes_instr}
use Rattle.bytecode.specs.declared.Form.{Form}
use Rattle.bytecode.specs.declared.Form.TheVariants.{Plain, Chin}
use Rattle.bytecode.specs.Form.{tag_main_in, const_in, pool_in, image_in, read_pool_in, main_head_in, read_in, read_form}
use Rattle.chin.proofs.Constants.{pool-length, read-pool, write_pool}

-- the plain form is written as the definition writes
const_plain : (c : Const) → const_in Plain c ≡ const_bytes c
const_plain (Const.integer b) = refl
const_plain (Const.string b) = refl
const_plain (Const.function l p c) = refl

pool-plain : (cs : List Const) → pool_in Plain cs ≡ pool_bytes cs
pool-plain [] = refl
pool-plain (c ∷ cs) = λ i. pool-plain cs i ++ const_plain c i

pub write_plain : (m : Image) → image_in Plain m ≡ image_bytes m
write_plain m = λ i. field (tag_main_in Plain) (encode m.code) ++ field tag_pool (pool-plain m.pool i)

-- an image is as long as its parts, in each form
pub image-length : (f : Form) (m : Image) → length (image_in f m) ≡ 6 + size_of m.code + pool_size m.pool
image-length f m =
    omega (arith, code-length m.code, pool-length f m.pool, length-append (field (tag_main_in f) (encode m.code)) (field tag_pool (pool_in f m.pool)))

module _ (f : Form) where
  -- main code
  abbrev read_main : (ℕ → ℕ) → ℕ → ℕ → Decoded Code
  read_main byte = read_row byte (main_head_in f byte) (λ h. h.len) (read_instr byte)

  -- an image of code and a pool, if nothing follows
  abbrev nothing_follows : ℕ → Code → List Const → ℕ → Decoded Image
  nothing_follows end c cs at = ending (record { code = c; pool = cs }) at end

  -- main code, the pool and nothing more
  abbrev parts : (ℕ → ℕ) → ℕ → Decoded Image
  parts byte n = then (read_main byte 0 n) (λ c at. then (read_pool_in f byte at n) (nothing_follows n c))

  image_reads : (byte : ℕ → ℕ) (n : ℕ) → parts byte n ≡ read_in f byte n
  unfolding read_in
  image_reads byte n =
      then_assoc (read_head byte (main_head_in f byte) 0 n) (λ h in₀. read_code byte h.len in₀ (in₀ + h.len)) (λ c at. then (read_pool_in f byte at n) (nothing_follows n c))

  main-head : (byte : ℕ → ℕ) (f : Form) (n : ℕ) → n ≤ code_size → main_head_in f byte (record { tag = tag_main_in f; len = n }) ≡ true
  main-head byte Plain n h = le-leb n code_size h
  main-head byte Chin n h = le-leb n code_size h

  -- a valid image's bytes read back as the image
  pub read-form : (m : Image) → ValidImage m → read_form f (image_in f m) ≡ decoded m (length (image_in f m))
  read-form m v =
      let b = image_in f m in
      let main = field (tag_main_in f) (encode m.code) in
      let pool = field tag_pool (pool_in f m.pool) in
      let l = length-append main pool in
      let k : size_of m.code ≤ code_size = v.size in
      let n = code-length m.code in
      let s = stands_self b in
      let e =
      read-row (main_head_in f (byte_at b)) (λ h. h.len) (tag_main_in f) reads_instr v.code (omega arith) (main-head (byte_at b) f (length (encode m.code)) (omega arith)) (omega (arith, code-count m.code)) (length b) (stands_left main pool s) (omega arith) in
      let q = read-pool f v.pool {at = 0 + length main} (length b) (stands_right main pool s) (omega arith) in
      let z : 0 + length main + length pool ≡ length b = omega arith in
      sym (image_reads (byte_at b) (length b))
      ∙ (λ i. then (e i) (λ c at. then (read_pool_in f (byte_at b) at (length b)) (nothing_follows (length b) c)))
      ∙ (λ i. then (q i) (nothing_follows (length b) m.code))
      ∙ ap (nothing_follows (length b) m.code m.pool) z
      ∙ ends m (length b)

  -- an image that is read is written back
  pub write-form : (b : Bytes) → AreBytes b → {m : Image} {n : ℕ} → read_form f b ≡ decoded m n → Rewritten (image_in f) ValidImage b m
  write-form b a {m} {n} e =
      let byte = byte_at b in
      let end = length b in
      let r = first (read_main byte 0 end) (λ c at. then (read_pool_in f byte at end) (nothing_follows end c)) (image_reads byte end ∙ e) in
      let q = first (read_pool_in f byte r.next end) (nothing_follows end r.value) r.rest in
      let tag : (h : Head) → main_head_in f byte h ≡ true → h.tag ≡ tag_main_in f = λ h t. tagged_true (tag_main_in f) h (both_left (tagged (tag_main_in f) h) (leb h.len code_size) t) in
      let main = write_row (main_head_in f byte) (λ h. h.len) (tag_main_in f) a.below tag (writes_instr a.below) 0 end r.read in
      let pool = write_pool f a.below r.next end q.read in
      let y : Image = record { code = r.value; pool = q.value } in
      let t = passed (eqb q.next end) y q.next q.next q.rest in
      let x = field (tag_main_in f) (encode r.value) in
      let z = field tag_pool (pool_in f q.value) in
      let stands : Stands byte 0 (x ++ z) = stands_append main.stands (stands_at (sym main.upto) pool.stands) in
      let long : length (x ++ z) ≡ end = omega (arith, length-append x z, main.upto, pool.upto, eqb-true q.next end t.test) in
      let size : size_of r.value ≤ code_size = omega (arith, fits r.value main.right, code-length r.value) in
      rewritten_same t.value (record { bytes = stands_whole b stands long; sound = record { size = size; code = main.each; pool = pool.sound } })
    where
      fits : (c : Code) → main_head_in f (byte_at b) (record { tag = tag_main_in f; len = length (encode c) }) ≡ true → length (encode c) ≤ code_size
      fits c h = leb-true (length (encode c)) code_size (both_right (tagged (tag_main_in f) (record { tag = tag_main_in f; len = length (encode c) })) (leb (length (encode c)) code_size) h)
