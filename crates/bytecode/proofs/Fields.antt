-- What was read of a field: its head was good, and reading goes on after it.
use Prim.Native.Nat.{ℕ, ◌+◌, ◌≤◌, ◌<◌}
use mathlib.Core.Path.{◌≡◌, ap, refl}
use mathlib.Core.Bool.{Bool, true, false}
use mathlib.Core.List.{List, []}
use native.Mathlib.Omega.{arith}
use lib.Dec.{leb}
use borrow.Author.Tests.{leb-true}
use Rattle.definition.specs.Basic.{pick, both, Bytes}
use Rattle.definition.specs.Tag.{tag_integer_const, tag_string_const}
use Rattle.definition.specs.Field.{Head, head, fits, tagged, bytes}
use Rattle.definition.specs.Bytecode.{Code, Const}
use Rattle.definition.specs.Decode.{Decoded, decoded, malformed, then, read_head, read_instr, read_code, read_function, read_content, read_const}
use Rattle.bytecode.specs.declared.Form.{Form}
use Rattle.bytecode.specs.declared.Form.TheVariants.{Plain}
use Rattle.bytecode.specs.Form.{const_head_in, read_const_in}
use Rattle.std.specs.Prelude.{Result, Ok, Err}
use Rattle.bytecode.specs.declared.Malformed.{Malformed}
use Rattle.bytecode.specs.Checked.{item, constants, constants_in, name_fields}
use Rattle.definition.proofs.Basic.{both_true}
use Rattle.bytecode.proofs.Items.{unlike, ended}

-- what follows a name's head
abbrev pub name_content : (ℕ → ℕ) → Head → ℕ → Decoded Bytes
name_content byte h in₀ = decoded (bytes byte in₀ h.len) (in₀ + h.len)

-- what follows the head of a field of names
abbrev pub names_content : (ℕ → ℕ) → ℕ → Head → ℕ → Decoded (List Bytes)
names_content byte most h in₀ = name_fields byte most in₀ (in₀ + h.len)

-- what follows a pool's head
abbrev pub pool_content : (ℕ → ℕ) → Head → ℕ → Decoded (List Const)
pool_content byte h in₀ = constants byte in₀ (in₀ + h.len)

-- and in a form
abbrev pub pool_content_in : (ℕ → ℕ) → Form → Head → ℕ → Decoded (List Const)
pool_content_in byte f h in₀ = constants_in byte f in₀ (in₀ + h.len)

-- what follows the head of an image's main code
abbrev pub main_content : (ℕ → ℕ) → Head → ℕ → Decoded Code
main_content byte h in₀ = read_code byte h.len in₀ (in₀ + h.len)

-- what an item's answer says of the reading
pub item_next : {A : Type 0} (d : Decoded A) {r : Result ℕ Malformed} {n : ℕ} → r ≡ item d → r ≡ Ok n → (x : A) × (d ≡ decoded x n)
item_next (decoded x m) {r} {n} e w = (x, ap (decoded x) (cc))
item_next (malformed p) e w = cc

pub item_wrong : {A : Type 0} (d : Decoded A) {r : Result ℕ Malformed} {x : Malformed} → r ≡ item d → r ≡ Err x → d ≡ malformed x.place
item_wrong (decoded y m) e w = cc
item_wrong (malformed q) {r} {x} e w =
    let i : ◌≡◌ {A = Result ℕ Malformed} (Err (record { place = q })) (Err x) = cc in
    let j : record { place = q } ≡ x = cc in
    ap (λ (y : Malformed). malformed y.place) j

-- what was read in two steps
pub then_read : {A B : Type 0} (d : Decoded A) {k : A → ℕ → Decoded B} {y : B} {n : ℕ} → then d k ≡ decoded y n
    → (x : A) × (m : ℕ) × (d ≡ decoded x m) × (k x m ≡ decoded y n)
then_read (decoded x m) e = (x, m, refl, e)
then_read (malformed p) e = absurd (unlike e)

module _ (byte : ℕ → ℕ) (at end : ℕ) where
  -- a good head, of a field that stands whole
  pub record Good (good : Head → Bool) : Type 0 where
    pub fit : fits at end (head byte at) ≡ true
    pub is : good (head byte at) ≡ true
    pub within : at + 3 + (head byte at).len ≤ end

  pub head_read : (good : Head → Bool) {A : Type 0} (k : Head → ℕ → Decoded A) {x : A} {n : ℕ} → then (read_head byte good at end) k ≡ decoded x n
      → Good good × (k (head byte at) (at + 3) ≡ decoded x n)
  head_read good k {x} {n} e = go (both (fits at end (head byte at)) (good (head byte at))) refl
    where
      go : (b : Bool) → both (fits at end (head byte at)) (good (head byte at)) ≡ b → Good good × (k (head byte at) (at + 3) ≡ decoded x n)
      go true t =
          let p = both_true (fits at end (head byte at)) _ t in
          let q = both_true (leb (at + 3) end) _ p.0 in
          (record { fit = p.0; is = p.1; within = leb-true (at + 3 + (head byte at).len) end q.1 }, rw t at e)
      go false t = absurd (unlike (rw t at e))

  -- a content goes up to the end of its field
  content_end : (h : Head) (in₀ : ℕ) {x : Const} {n : ℕ} → read_content byte h in₀ ≡ decoded x n → n ≡ in₀ + h.len
  content_end h in₀ {x} {n} e = go (tagged tag_integer_const h) (tagged tag_string_const h) e
    where
      -- a content without a look into it
      whole : (Bytes → Const) → Decoded Const
      whole c = decoded (c (bytes byte in₀ h.len)) (in₀ + h.len)

      function_end : read_function byte in₀ h.len ≡ decoded x n → n ≡ in₀ + h.len
      function_end j =
          let t = then_read _ j in
          let m : t.1 ≡ in₀ + h.len = (ended (read_instr byte) (in₀ + h.len) h.len [] (in₀ + 3) t.2).ends in
          cc t.3

      go : (a b : Bool) → pick a (whole Const.integer) (pick b (whole Const.string) (read_function byte in₀ h.len)) ≡ decoded x n → n ≡ in₀ + h.len
      go true b j = cc
      go false true j = cc
      go false false j = function_end j

  -- an item ends after its beginning, and within its part
  pub const_end_in : (f : Form) {x : Const} {n : ℕ} → read_const_in f byte at end ≡ decoded x n → n ≡ at + 3 + (head byte at).len
  const_end_in f e = content_end (head byte at) (at + 3) (head_read (const_head_in f byte) (read_content byte) e).1

  pub const_ends_in : (f : Form) (x : Const) (n : ℕ) → read_const_in f byte at end ≡ decoded x n → (at < n) × (n ≤ end)
  const_ends_in f x n e =
      let p = head_read (const_head_in f byte) (read_content byte) e in
      let m = const_end_in f e in
      omega (arith, p.0.within)

  -- in a plain image, and in a session
  pub const_end : {x : Const} {n : ℕ} → read_const byte at end ≡ decoded x n → n ≡ at + 3 + (head byte at).len
  const_end e = const_end_in Plain e

  pub const_ends : (x : Const) (n : ℕ) → read_const byte at end ≡ decoded x n → (at < n) × (n ≤ end)
  const_ends x n e = const_ends_in Plain x n e
