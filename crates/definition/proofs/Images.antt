-- Images: written then read, and read then written.
use Prim.Native.Nat.{ℕ, ◌+◌, ◌≤◌, ◌<◌}
use native.Mathlib.Omega.{arith}
use mathlib.Core.Bool.{true}
use mathlib.Core.List.{List}
use mathlib.Core.Path.{◌≡◌, sym, ap, ◌∙◌}
use lib.ListN.{length, length-append}
use lib.Dec.{leb, eqb}
use borrow.Author.Tests.{le-leb, leb-true, eqb-true}
use Rattle.definition.specs.Basic.{Bytes, byte_at}
use Rattle.definition.specs.Limit.{code_size}
use Rattle.definition.specs.Tag.{tag_main, tag_pool}
use Rattle.definition.specs.Field.{Head, field, tagged}
use Rattle.definition.specs.Opcode.{bytes_of}
use Rattle.definition.specs.Bytecode.{Code, size_of, encode, Const, pool_bytes, Image, image_bytes}
use Rattle.definition.specs.Decode.{Decoded, decoded, then, ending, read_instr, read_head, read_code, main_head, read_pool, read_image_of, read_image}
use Rattle.definition.specs.Valid.{All, AreBytes, ValidInstr, ValidImage}
use Rattle.definition.proofs.Bytes.{Stands, stands_left, stands_self, stands_whole}
use Rattle.definition.proofs.Basic.{both_left}
use Rattle.definition.proofs.Items.{passed, ends, Rewritten, rewritten_same}
use Rattle.definition.proofs.Fields.{tagged_true, then_assoc, read_row, RowField, read-row, write_row}
use Rattle.definition.proofs.Instructions.{code-length, code-count, reads_instr, writes_instr}
use Rattle.definition.proofs.Pools.{with_pool, read_with_pool, write_with_pool, joined}

-- an image of code and a pool, if nothing follows
abbrev nothing_follows : ℕ → Code → List Const → ℕ → Decoded Image
nothing_follows end c cs at = ending (record { code = c; pool = cs }) at end

module _ (byte : ℕ → ℕ) where
  -- an image's main code
  abbrev read_main : ℕ → ℕ → Decoded Code
  read_main = read_row byte (main_head byte) (λ h. h.len) (read_instr byte)

  -- an image is its main code, its pool and nothing more
  image_reads : (n : ℕ) → with_pool byte read_main n (nothing_follows n) ≡ read_image_of byte n
  unfolding read_image_of
  image_reads n =
      then_assoc (read_head byte (main_head byte) 0 n) (λ h in₀. read_code byte h.len in₀ (in₀ + h.len)) (λ c at. then (read_pool byte at n) (nothing_follows n c))

-- valid main code that stands before the end is read
read-main : {byte : ℕ → ℕ} {c : Code} → All ValidInstr c → size_of c ≤ code_size → {at : ℕ} (end : ℕ) → Stands byte at (field tag_main (encode c))
    → at + length (field tag_main (encode c)) ≤ end → read_main byte at end ≡ decoded c (at + length (field tag_main (encode c)))
read-main {byte} {c} v l end s h =
    let n = code-length c in
    read-row (main_head byte) (λ h. h.len) tag_main reads_instr v (omega arith) (le-leb (length (encode c)) code_size (omega arith)) (omega (arith, code-count c)) end s h

-- a valid image's bytes read back as the image
pub read-image : (m : Image) → ValidImage m → read_image (image_bytes m) ≡ decoded m (length (image_bytes m))
read-image m v =
    let b = image_bytes m in
    let main = field tag_main (encode m.code) in
    let pool = field tag_pool (pool_bytes m.pool) in
    let l = length-append main pool in
    let p : 0 + length main ≡ length main = omega arith in
    let s = stands_self b in
    let e = read-main v.code v.size (length b) (stands_left main pool s) (omega arith) ∙ ap (decoded m.code) p in
    sym (image_reads (byte_at b) (length b))
    ∙ read_with_pool (byte_at b) (read_main (byte_at b)) (length b) (nothing_follows (length b)) main e v.pool s (omega arith)
    ∙ ends m (length b)

-- main code that is read stands there
write_main : {byte : ℕ → ℕ} → ((i : ℕ) → byte i < 256) → (at end : ℕ) {c : Code} {n : ℕ} → read_main byte at end ≡ decoded c n
    → RowField byte (main_head byte) (λ h. h.len) bytes_of ValidInstr tag_main at end c n
write_main {byte} small at end e =
    let tag : (h : Head) → main_head byte h ≡ true → h.tag ≡ tag_main = λ h t. tagged_true tag_main h (both_left (tagged tag_main h) (leb h.len code_size) t) in
    write_row (main_head byte) (λ h. h.len) tag_main small tag (writes_instr small) at end e

-- an image that is read is written back
pub write-image : (b : Bytes) → AreBytes b → {m : Image} {n : ℕ} → read_image b ≡ decoded m n → Rewritten image_bytes ValidImage b m
write-image b a {m} {n} e =
    let f = write_with_pool (byte_at b) (read_main (byte_at b)) (length b) (nothing_follows (length b)) a.below (image_reads (byte_at b) (length b) ∙ e) in
    let main = write_main a.below 0 (length b) f.read in
    let y : Image = record { code = f.front; pool = f.constants } in
    let t = passed (eqb f.next (length b)) y f.next f.next f.rest in
    let j = joined main.stands main.upto f.pool in
    let same : image_bytes y ≡ b = stands_whole b j.stands (j.upto ∙ eqb-true f.next (length b) t.test) in
    let size : size_of f.front ≤ code_size = omega (arith, leb-true (length (encode f.front)) code_size main.right, code-length f.front) in
    rewritten_same t.value (record { bytes = same; sound = record { size = size; code = main.each; pool = f.pool.sound } })
