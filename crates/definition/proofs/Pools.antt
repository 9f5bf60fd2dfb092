-- Constants and the pool: written then read, and read then written.
use Prim.Native.Nat.{ℕ, suc, ◌+◌, ◌*◌, ◌≤◌, ◌<◌}
use native.Mathlib.Omega.{arith}
use mathlib.Core.Bool.{Bool, true, false}
use mathlib.Core.List.{List, [], ◌∷◌, ◌++◌}
use mathlib.Core.Path.{◌≡◌, refl, sym, ap, ◌∙◌}
use lib.ListN.{length, length-append}
use lib.Dec.{leb, eqb}
use borrow.Author.Tests.{le-leb, leb-true, eq-eqb, eqb-true}
use Rattle.definition.specs.Basic.{Bytes, pick, both}
use Rattle.definition.specs.Limit.{constants_limit, pool_limit}
use Rattle.definition.specs.Tag.{tag_pool, tag_integer_const, tag_string_const, tag_function_const}
use Rattle.definition.specs.Field.{Head, field, tagged, bytes}
use Rattle.definition.specs.Bytecode.{Const, encode, content, tag_of, const_bytes, pool_bytes, pool_size}
use Rattle.definition.specs.Decode.{Decoded, decoded, then, read_code, const_head, read_head, read_function, read_content, read_const, pool_head, read_pool}
use Rattle.definition.specs.Valid.{All, none, more, ValidConst, ValidPool}
use Rattle.definition.proofs.Bytes.{Stands, stands_cons, stands_head, stands_tail, stands_at, stands_right, stands_append, bytes_stand, length-bytes, stands_number, number_stands, one-byte}
use Rattle.definition.proofs.Basic.{both_left}
use Rattle.definition.proofs.Items.{first, Reads, Item, Writes}
use Rattle.definition.proofs.Fields.{head_of, tagged_true, stands_content, read-head, headed, field_stands, read-row, write_row}
use Rattle.definition.proofs.Instructions.{code-length, read-code, write_code}

-- a pool is as long as its size says
pub pool-length : (cs : List Const) → length (pool_bytes cs) ≡ pool_size cs
pool-length [] = refl
pool-length (c ∷ cs) = omega (arith, length-append (pool_bytes cs) (const_bytes c), pool-length cs)

-- a constant that a field can hold
pub record Storable (c : Const) : Type 0 where
  pub valid : ValidConst c
  pub short : length (content c) < 65536

-- each constant of a pool within its limit can be held
pub storable : {cs : List Const} → All ValidConst cs → pool_size cs < 65536 → All Storable cs
storable none h = none
storable (more {x = c} {xs = cs} v vs) h = more {x = c} (record { valid = v; short = omega arith }) (storable vs (omega arith))

-- a constant's head passes
const-head : (byte : ℕ → ℕ) (c : Const) → ValidConst c → const_head byte (head_of (tag_of c) (content c)) ≡ true
const-head byte (Const.integer b) v = eq-eqb (length b) 8 v
const-head byte (Const.string b) v = refl
const-head byte (Const.function l p c) v = le-leb 3 (suc (suc (suc (length (encode c))))) (omega arith)

-- a pool's head passes
pool-head : (byte : ℕ → ℕ) (cs : List Const) → pool_size cs ≤ pool_limit → pool_head byte (head_of tag_pool (pool_bytes cs)) ≡ true
pool-head byte cs h = le-leb (length (pool_bytes cs)) pool_limit (omega (arith, pool-length cs))

module _ {byte : ℕ → ℕ} where
  -- a constant's content that stands is read
  read-content : {at : ℕ} (c : Const) → ValidConst c → Stands byte at (content c) → read_content byte (head_of (tag_of c) (content c)) at ≡ decoded c (at + length (content c))
  read-content {at} (Const.integer b) v s = λ i. decoded (Const.integer (s.same i)) (at + length b)
  read-content {at} (Const.string b) v s = λ i. decoded (Const.string (s.same i)) (at + length b)
  read-content {at} (Const.function l p c) v s =
      let locals = stands_number (at + 1) l refl v.0 s in
      let params = stands_head {at = at + 2} (stands_at (omega arith) (stands_tail (stands_tail s))) ∙ one-byte p v.1 in
      let n = length (content (Const.function l p c)) in
      let code = read-code v.2 n (at + 3) (at + n) (omega (arith, code-length c)) (stands_at (omega arith) (stands_tail (stands_tail (stands_tail s)))) (omega (arith, code-length c)) in
      λ i. then (code i) (λ c. decoded (Const.function (locals i) (params i) c))

  -- a constant that stands before the end is read
  read-const : {at : ℕ} (end : ℕ) {c : Const} → Storable c → Stands byte at (const_bytes c) → at + length (const_bytes c) ≤ end → read_const byte at end ≡ decoded c (at + length (const_bytes c))
  read-const {at} end {c} v s h =
      let p : at + 3 + length (content c) ≡ at + length (const_bytes c) = omega arith in
      (λ i. then (read-head (const_head byte) end (tag_of c) (content c) v.short (const-head byte c v.valid) s h i) (read_content byte))
      ∙ read-content c v.valid (stands_content (tag_of c) (content c) s)
      ∙ ap (decoded c) p

  -- constants are items that read back
  pub reads_const : Reads byte const_bytes Storable (read_const byte)
  reads_const = record { some = λ c. omega arith; read = λ end v s h. read-const end v s h }

  -- a valid pool that stands before the end is read
  pub read-pool : {cs : List Const} → ValidPool cs → {at : ℕ} (end : ℕ) → Stands byte at (field tag_pool (pool_bytes cs)) → at + length (field tag_pool (pool_bytes cs)) ≤ end
      → read_pool byte at end ≡ decoded cs (at + length (field tag_pool (pool_bytes cs)))
  read-pool {cs} v end s h =
      let k : pool_size cs ≤ pool_limit = v.size in
      read-row (pool_head byte) (λ _. constants_limit) tag_pool reads_const (storable v.each (omega arith)) (omega (arith, pool-length cs)) (pool-head byte cs v.size) v.count end s h

-- the content of a constant that was read
record Content (byte : ℕ → ℕ) (h : Head) (at : ℕ) (c : Const) (n : ℕ) : Type 0 where
  stands : Stands byte at (content c)
  tag : h.tag ≡ tag_of c
  len : h.len ≡ length (content c)
  upto : at + h.len ≡ n
  sound : ValidConst c

-- what a pool was read as
pub record PoolField (byte : ℕ → ℕ) (at end : ℕ) (cs : List Const) (n : ℕ) : Type 0 where
  pub stands : Stands byte at (field tag_pool (pool_bytes cs))
  pub upto : at + length (field tag_pool (pool_bytes cs)) ≡ n
  pub fit : n ≤ end
  pub sound : ValidPool cs

-- the same constant
content_same : {byte : ℕ → ℕ} {h : Head} {at m n : ℕ} {x c : Const} → ◌≡◌ {A = Decoded Const} (decoded x m) (decoded c n) → Content byte h at x m → Content byte h at c n
content_same {m = m} {n} {x} {c} e k =
    let p : x ≡ c = cc in
    let q : m ≡ n = cc in
    rw (p, q) at k

-- a content of bytes that is read stands there
write_bytes : {byte : ℕ → ℕ} {h : Head} {at : ℕ} (c : Const) → content c ≡ bytes byte at h.len → h.tag ≡ tag_of c → ValidConst c → Content byte h at c (at + h.len)
write_bytes {byte} {h} {at} c e t v =
    record {
      stands = rw e (bytes_stand byte at h.len);
      tag = t;
      len = rw e (sym (length-bytes byte at h.len));
      upto = refl;
      sound = v;
    }

module _ {byte : ℕ → ℕ} (small : (i : ℕ) → byte i < 256) where
  -- a function that is read stands there
  write-function : (h : Head) (at : ℕ) → tagged tag_function_const h ≡ true → {c : Const} {n : ℕ} → read_function byte at h.len ≡ decoded c n → Content byte h at c n
  write-function h at t {c} {n} e =
      let l = byte at * 256 + byte (at + 1) in
      let p = byte (at + 2) in
      let r = first (read_code byte h.len (at + 3) (at + h.len)) (λ c. decoded (Const.function l p c)) e in
      let w = write_code small h.len (at + 3) (at + h.len) r.read in
      let code : Stands byte (at + 2 + 1) (encode r.value) = stands_at (omega arith) w.row.stands in
      content_same r.rest
      (record {
        stands = number_stands small (at + 1) refl refl (stands_at (omega arith) (stands_cons (sym (one-byte p (small (at + 2)))) code));
        tag = tagged_true tag_function_const h t;
        len = omega (arith, w.row.upto);
        upto = sym w.ended;
        sound = (omega (arith, small at, small (at + 1)), small (at + 2), w.row.each);
      })

  -- a constant's content that is read stands there
  write_content : (h : Head) (at : ℕ) → const_head byte h ≡ true → {c : Const} {n : ℕ} → read_content byte h at ≡ decoded c n → Content byte h at c n
  write_content h at t {c} {n} e = go (tagged tag_integer_const h) (tagged tag_string_const h) refl refl t e
    where
      function : Decoded Const
      function = read_function byte at h.len

      b : Bytes
      b = bytes byte at h.len

      go : (i s : Bool) → tagged tag_integer_const h ≡ i → tagged tag_string_const h ≡ s → pick i (eqb h.len 8) (pick s true (both (tagged tag_function_const h) (leb 3 h.len))) ≡ true
          → pick i (decoded (Const.integer b) (at + h.len)) (pick s (decoded (Const.string b) (at + h.len)) function) ≡ decoded c n → Content byte h at c n
      go true s p q t e = content_same e (write_bytes (Const.integer b) refl (tagged_true tag_integer_const h p) (length-bytes byte at h.len ∙ eqb-true h.len 8 t))
      go false true p q t e = content_same e (write_bytes (Const.string b) refl (tagged_true tag_string_const h q) tt)
      go false false p q t e = write-function h at (both_left (tagged tag_function_const h) (leb 3 h.len) t) e

  -- a constant that is read stands there, and is valid
  write_const : (at end : ℕ) {c : Const} {n : ℕ} → read_const byte at end ≡ decoded c n → Item byte const_bytes ValidConst at c n
  write_const at end {c} {n} e =
      let r = first (read_head byte (const_head byte) at end) (read_content byte) e in
      let h = headed byte (const_head byte) at end r.read in
      let k = write_content r.value r.next h.right r.rest in
      record {
        stands = field_stands small (h.stands ∙ (λ i. record { tag = k.tag i; len = k.len i })) (stands_at (sym h.inside) k.stands);
        upto = omega (arith, h.inside, k.upto, k.len);
        sound = k.sound;
      }

  -- constants are items that are written back
  pub writes_const : Writes byte const_bytes ValidConst (read_const byte)
  writes_const = record { wrote = λ at end e. write_const at end e }

  -- a pool that is read stands there
  pub write_pool : (at end : ℕ) {cs : List Const} {n : ℕ} → read_pool byte at end ≡ decoded cs n → PoolField byte at end cs n
  write_pool at end {cs} {n} e =
      let tag : (h : Head) → pool_head byte h ≡ true → h.tag ≡ tag_pool = λ h t. tagged_true tag_pool h (both_left (tagged tag_pool h) (leb h.len pool_limit) t) in
      let r = write_row (pool_head byte) (λ _. constants_limit) tag_pool small tag writes_const at end e in
      record {
        stands = r.stands;
        upto = r.upto;
        fit = r.fit;
        sound = record { count = r.count; size = omega (arith, leb-true (length (pool_bytes cs)) pool_limit r.right, pool-length cs); each = r.each };
      }

-- What stands in front of a pool, the pool, and then `k`
module _ {A B : Type 0} (byte : ℕ → ℕ) (r : ℕ → ℕ → Decoded A) (end : ℕ) (k : A → List Const → ℕ → Decoded B) where
  -- the whole reading
  abbrev pub with_pool : Decoded B
  with_pool = then (r 0 end) (λ a at. then (read_pool byte at end) (k a))

  -- both are read where they stand
  pub read_with_pool : {a : A} {cs : List Const} (fields : Bytes) → r 0 end ≡ decoded a (length fields) → ValidPool cs → Stands byte 0 (fields ++ field tag_pool (pool_bytes cs))
      → length (fields ++ field tag_pool (pool_bytes cs)) ≤ end → with_pool ≡ k a cs (length (fields ++ field tag_pool (pool_bytes cs)))
  read_with_pool {a} {cs} fields e v s h =
      let pool = field tag_pool (pool_bytes cs) in
      let l = length-append fields pool in
      let p = read-pool v {at = length fields} end (stands_at (omega arith) (stands_right fields pool s)) (omega arith) in
      (λ i. then (e i) (λ a at. then (read_pool byte at end) (k a))) ∙ (λ i. then (p i) (k a)) ∙ ap (k a cs) (sym l)

  -- what was read in front of the pool, and the pool
  pub record FrontAndPool (b : B) (n : ℕ) : Type 0 where
    pub front : A
    pub at : ℕ
    pub read : r 0 end ≡ decoded front at
    pub constants : List Const
    pub next : ℕ
    pub pool : PoolField byte at end constants next
    pub rest : k front constants next ≡ decoded b n

  -- both stand where they were read
  pub write_with_pool : ((i : ℕ) → byte i < 256) → {b : B} {n : ℕ} → with_pool ≡ decoded b n → FrontAndPool b n
  write_with_pool small e =
      let f = first (r 0 end) (λ a at. then (read_pool byte at end) (k a)) e in
      let g = first (read_pool byte f.next end) (k f.value) f.rest in
      record {
        front = f.value;
        at = f.next;
        read = f.read;
        constants = g.value;
        next = g.next;
        pool = write_pool small f.next end g.read;
        rest = g.rest;
      }

-- bytes and the pool behind them, up to what follows
pub record Joined (byte : ℕ → ℕ) (x : Bytes) (cs : List Const) (n : ℕ) : Type 0 where
  pub stands : Stands byte 0 (x ++ field tag_pool (pool_bytes cs))
  pub upto : length (x ++ field tag_pool (pool_bytes cs)) ≡ n

-- a pool that was read joins what stands before it
pub joined : {byte : ℕ → ℕ} {x : Bytes} {at end n : ℕ} {cs : List Const} → Stands byte 0 x → 0 + length x ≡ at → PoolField byte at end cs n → Joined byte x cs n
joined {x = x} {cs = cs} s l p =
    record {
      stands = stands_append s (stands_at (sym l) p.stands);
      upto = omega (arith, length-append x (field tag_pool (pool_bytes cs)), p.upto);
    }
