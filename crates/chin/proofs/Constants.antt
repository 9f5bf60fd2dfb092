-- Constants and the pool in a form: written then read, and read then written.
use Prim.Native.Nat.{ℕ, suc, ◌+◌, ◌*◌, ◌≤◌, ◌<◌}
use native.Mathlib.Omega.{arith}
use mathlib.Core.Bool.{Bool, true, false}
use mathlib.Core.List.{List, [], ◌∷◌}
use mathlib.Core.Path.{◌≡◌, refl, sym, ap, ◌∙◌}
use lib.ListN.{length, length-append}
use lib.Dec.{leb, eqb}
use borrow.Author.Tests.{le-leb, leb-true, eq-eqb, eqb-true}
use Rattle.definition.specs.Basic.{Bytes, pick, both}
use Rattle.definition.specs.Limit.{constants_limit, pool_limit}
use Rattle.definition.specs.Tag.{tag_pool, tag_integer_const, tag_string_const}
use Rattle.definition.specs.Field.{Head, field, tagged, bytes}
use Rattle.definition.specs.Bytecode.{Code, Const, encode, content, pool_size}
use Rattle.definition.specs.Decode.{Decoded, decoded, then, read_code, read_head, read_function, read_content, pool_head}
use Rattle.definition.specs.Valid.{ValidConst, ValidPool}
use Rattle.definition.proofs.Basic.{both_left}
use Rattle.definition.proofs.Bytes.{Stands, stands_cons, stands_head, stands_tail, stands_at, bytes_stand, length-bytes, stands_number, number_stands, one-byte}
use Rattle.definition.proofs.Items.{first, Reads, Item, Writes}
use Rattle.definition.proofs.Fields.{head_of, tagged_true, stands_content, read-head, headed, field_stands, read-row, write_row}
use Rattle.definition.proofs.Instructions.{code-length, read-code, write_code}
use Rattle.definition.proofs.Pools.{Storable, storable}
use Rattle.bytecode.specs.declared.Form.{Form}
use Rattle.bytecode.specs.declared.Form.TheVariants.{Plain, Chin}
use Rattle.bytecode.specs.Form.{tag_function_in, tag_in, const_in, pool_in, const_head_in, read_const_in, read_pool_in}

-- a pool is as long as its size says, in each form
pub pool-length : (f : Form) (cs : List Const) → length (pool_in f cs) ≡ pool_size cs
pool-length f [] = refl
pool-length f (c ∷ cs) = omega (arith, length-append (pool_in f cs) (const_in f c), pool-length f cs)

-- a constant's head passes
const-head : (f : Form) (byte : ℕ → ℕ) (c : Const) → ValidConst c → const_head_in f byte (head_of (tag_in f c) (content c)) ≡ true
const-head f byte (Const.integer b) v = eq-eqb (length b) 8 v
const-head f byte (Const.string b) v = refl
const-head Plain byte (Const.function l p c) v = le-leb 3 (suc (suc (suc (length (encode c))))) (omega arith)
const-head Chin byte (Const.function l p c) v = le-leb 3 (suc (suc (suc (length (encode c))))) (omega arith)

module _ {byte : ℕ → ℕ} where
  -- a function that stands is read
  read-function : {at : ℕ} (l p : ℕ) (c : Code) → ValidConst (Const.function l p c) → Stands byte at (content (Const.function l p c))
      → read_function byte at (length (content (Const.function l p c))) ≡ decoded (Const.function l p c) (at + length (content (Const.function l p c)))
  read-function {at} l p c v s =
      let locals = stands_number (at + 1) l refl v.0 s in
      let params = stands_head {at = at + 2} (stands_at (omega arith) (stands_tail (stands_tail s))) ∙ one-byte p v.1 in
      let n = length (content (Const.function l p c)) in
      let code = read-code v.2 n (at + 3) (at + n) (omega (arith, code-length c)) (stands_at (omega arith) (stands_tail (stands_tail (stands_tail s)))) (omega (arith, code-length c)) in
      λ i. then (code i) (λ c. decoded (Const.function (locals i) (params i) c))

  -- a constant's content that stands is read
  read-content : {at : ℕ} (f : Form) (c : Const) → ValidConst c → Stands byte at (content c) → read_content byte (head_of (tag_in f c) (content c)) at ≡ decoded c (at + length (content c))
  read-content {at} f (Const.integer b) v s = λ i. decoded (Const.integer (s.same i)) (at + length b)
  read-content {at} f (Const.string b) v s = λ i. decoded (Const.string (s.same i)) (at + length b)
  read-content Plain (Const.function l p c) v s = read-function l p c v s
  read-content Chin (Const.function l p c) v s = read-function l p c v s

  -- a constant that stands before the end is read
  read-const : (f : Form) {at : ℕ} (end : ℕ) {c : Const} → Storable c → Stands byte at (const_in f c) → at + length (const_in f c) ≤ end
      → read_const_in f byte at end ≡ decoded c (at + length (const_in f c))
  read-const f {at} end {c} v s h =
      let p : at + 3 + length (content c) ≡ at + length (const_in f c) = omega arith in
      (λ i. then (read-head (const_head_in f byte) end (tag_in f c) (content c) v.short (const-head f byte c v.valid) s h i) (read_content byte))
      ∙ read-content f c v.valid (stands_content (tag_in f c) (content c) s)
      ∙ ap (decoded c) p

  -- constants are items that read back
  reads_const : (f : Form) → Reads byte (const_in f) Storable (read_const_in f byte)
  reads_const f = record { some = λ c. omega arith; read = λ end v s h. read-const f end v s h }

  -- a valid pool that stands before the end is read
  pub read-pool : (f : Form) {cs : List Const} → ValidPool cs → {at : ℕ} (end : ℕ) → Stands byte at (field tag_pool (pool_in f cs)) → at + length (field tag_pool (pool_in f cs)) ≤ end
      → read_pool_in f byte at end ≡ decoded cs (at + length (field tag_pool (pool_in f cs)))
  read-pool f {cs} v end s h =
      let k : pool_size cs ≤ pool_limit = v.size in
      let n = pool-length f cs in
      read-row (pool_head byte) (λ _. constants_limit) tag_pool (reads_const f) (storable v.each (omega arith)) (omega arith) (le-leb (length (pool_in f cs)) pool_limit (omega arith)) v.count end s h

-- the content of a constant that was read
record Content (f : Form) (byte : ℕ → ℕ) (h : Head) (at : ℕ) (c : Const) (n : ℕ) : Type 0 where
  stands : Stands byte at (content c)
  tag : h.tag ≡ tag_in f c
  len : h.len ≡ length (content c)
  upto : at + h.len ≡ n
  sound : ValidConst c

-- what a pool was read as
pub record PoolField (f : Form) (byte : ℕ → ℕ) (at end : ℕ) (cs : List Const) (n : ℕ) : Type 0 where
  pub stands : Stands byte at (field tag_pool (pool_in f cs))
  pub upto : at + length (field tag_pool (pool_in f cs)) ≡ n
  pub sound : ValidPool cs

-- the same constant
content_same : {f : Form} {byte : ℕ → ℕ} {h : Head} {at m n : ℕ} {x c : Const} → ◌≡◌ {A = Decoded Const} (decoded x m) (decoded c n) → Content f byte h at x m → Content f byte h at c n
content_same {m = m} {n} {x} {c} e k =
    let p : x ≡ c = cc in
    let q : m ≡ n = cc in
    rw (p, q) at k

-- a content of bytes that is read stands there
write_bytes : {f : Form} {byte : ℕ → ℕ} {h : Head} {at : ℕ} (c : Const) → content c ≡ bytes byte at h.len → h.tag ≡ tag_in f c → ValidConst c → Content f byte h at c (at + h.len)
write_bytes {byte = byte} {h} {at} c e t v =
    record {
      stands = rw e (bytes_stand byte at h.len);
      tag = t;
      len = rw e (sym (length-bytes byte at h.len));
      upto = refl;
      sound = v;
    }

module _ (f : Form) {byte : ℕ → ℕ} (small : (i : ℕ) → byte i < 256) where
  -- a function that is read stands there
  write-function : (h : Head) (at : ℕ) → tagged (tag_function_in f) h ≡ true → {c : Const} {n : ℕ} → read_function byte at h.len ≡ decoded c n → Content f byte h at c n
  write-function h at t {c} {n} e =
      let l = byte at * 256 + byte (at + 1) in
      let p = byte (at + 2) in
      let r = first (read_code byte h.len (at + 3) (at + h.len)) (λ c. decoded (Const.function l p c)) e in
      let w = write_code small h.len (at + 3) (at + h.len) r.read in
      let code : Stands byte (at + 2 + 1) (encode r.value) = stands_at (omega arith) w.row.stands in
      content_same r.rest
      (record {
        stands = number_stands small (at + 1) refl refl (stands_at (omega arith) (stands_cons (sym (one-byte p (small (at + 2)))) code));
        tag = tagged_true (tag_function_in f) h t;
        len = omega (arith, w.row.upto);
        upto = sym w.ended;
        sound = (omega (arith, small at, small (at + 1)), small (at + 2), w.row.each);
      })

  -- a constant's content that is read stands there
  write_content : (h : Head) (at : ℕ) → const_head_in f byte h ≡ true → {c : Const} {n : ℕ} → read_content byte h at ≡ decoded c n → Content f byte h at c n
  write_content h at t {c} {n} e = go (tagged tag_integer_const h) (tagged tag_string_const h) refl refl t e
    where
      function : Decoded Const
      function = read_function byte at h.len

      b : Bytes
      b = bytes byte at h.len

      go : (i s : Bool) → tagged tag_integer_const h ≡ i → tagged tag_string_const h ≡ s → pick i (eqb h.len 8) (pick s true (both (tagged (tag_function_in f) h) (leb 3 h.len))) ≡ true
          → pick i (decoded (Const.integer b) (at + h.len)) (pick s (decoded (Const.string b) (at + h.len)) function) ≡ decoded c n → Content f byte h at c n
      go true s p q t e = content_same e (write_bytes (Const.integer b) refl (tagged_true tag_integer_const h p) (length-bytes byte at h.len ∙ eqb-true h.len 8 t))
      go false true p q t e = content_same e (write_bytes (Const.string b) refl (tagged_true tag_string_const h q) tt)
      go false false p q t e = write-function h at (both_left (tagged (tag_function_in f) h) (leb 3 h.len) t) e

  -- a constant that is read stands there, and is valid
  pub write_const : (at end : ℕ) {c : Const} {n : ℕ} → read_const_in f byte at end ≡ decoded c n → Item byte (const_in f) ValidConst at c n
  write_const at end {c} {n} e =
      let r = first (read_head byte (const_head_in f byte) at end) (read_content byte) e in
      let h = headed byte (const_head_in f byte) at end r.read in
      let k = write_content r.value r.next h.right r.rest in
      record {
        stands = field_stands small (h.stands ∙ (λ i. record { tag = k.tag i; len = k.len i })) (stands_at (sym h.inside) k.stands);
        upto = omega (arith, h.inside, k.upto, k.len);
        sound = k.sound;
      }

  -- constants are items that are written back
  writes_const : Writes byte (const_in f) ValidConst (read_const_in f byte)
  writes_const = record { wrote = λ at end e. write_const at end e }

  -- a pool that is read stands there
  pub write_pool : (at end : ℕ) {cs : List Const} {n : ℕ} → read_pool_in f byte at end ≡ decoded cs n → PoolField f byte at end cs n
  write_pool at end {cs} {n} e =
      let tag : (h : Head) → pool_head byte h ≡ true → h.tag ≡ tag_pool = λ h t. tagged_true tag_pool h (both_left (tagged tag_pool h) (leb h.len pool_limit) t) in
      let r = write_row (pool_head byte) (λ _. constants_limit) tag_pool small tag writes_const at end e in
      record {
        stands = r.stands;
        upto = r.upto;
        sound = record { count = r.count; size = omega (arith, leb-true (length (pool_in f cs)) pool_limit r.right, pool-length f cs); each = r.each };
      }
