-- The content of a constant, by its tag.
use Prim.Native.Nat.{ℕ, ◌+◌, ◌*◌, ◌≤◌}
use mathlib.Core.Path.{◌≡◌, ◌∙◌, ap, sym, refl}
use mathlib.Core.Bool.{Bool, true, false}
use mathlib.Core.List.{List}
use native.Mathlib.Omega.{arith}
use lib.Dec.{eqb}
use lib.ListN.{length}
use borrow.Author.Tests.{eq-eqb, ne_eqb, leb-true}
use Rattle.definition.specs.Tag.{tag_integer_const, tag_string_const}
use Rattle.definition.specs.Bytecode.{Code, Const}
use Rattle.definition.specs.Decode.{Decoded, decoded, malformed, then, read_code, read_function, read_content}
use Rattle.bytecode.specs.declared.Form.{Form}
use Rattle.bytecode.specs.declared.Form.TheVariants.{Plain, Chin}
use Rattle.bytecode.specs.Form.{tag_function_in}
use Rattle.std.specs.Prelude.{Result, Ok, Err}
use Rattle.bytecode.specs.declared.field_head.Head.{Head as Found}
use Rattle.bytecode.specs.declared.item_check.Items.{Items}
use Rattle.bytecode.specs.declared.Malformed.{Malformed}
use Rattle.bytecode.specs.Checked.{head_of, is_constant, item, checked}

-- what an answer of items says of the reading
pub checked_good : {A : Type 0} (d : Decoded (List A)) {r : Result Items Malformed} {v : Items} → r ≡ checked d → r ≡ Ok v
    → (xs : List A) × (d ≡ decoded xs v.end) × (length xs ≡ v.count)
checked_good (decoded xs m) {r} {v} e w =
    let i : ◌≡◌ {A = Result Items Malformed} (Ok (record { count = length xs; end = m })) (Ok v) = cc in
    let j : record { count = length xs; end = m } ≡ v = cc in
    (xs, ap (λ (x : Items). decoded xs x.end) j, ap (λ (x : Items). x.count) j)
checked_good (malformed p) e w = cc

pub checked_wrong : {A : Type 0} (d : Decoded (List A)) {r : Result Items Malformed} {x : Malformed} → r ≡ checked d → r ≡ Err x → d ≡ malformed x.place
checked_wrong (decoded xs m) e w = cc
checked_wrong (malformed q) {r} {x} e w =
    let i : ◌≡◌ {A = Result Items Malformed} (Err (record { place = q })) (Err x) = cc in
    let j : record { place = q } ≡ x = cc in
    ap (λ (y : Malformed). malformed y.place) j

-- a function's tag is no other constant's
pub not_integer : (f : Form) → tag_function_in f ≡ tag_integer_const → ⊥
not_integer Plain e = omega arith
not_integer Chin e = omega arith

pub not_string : (f : Form) → tag_function_in f ≡ tag_string_const → ⊥
not_string Plain e = omega arith
not_string Chin e = omega arith

module _ (f : Form) (byte : ℕ → ℕ) (in₀ : ℕ) (h : Found) (good : is_constant f (head_of h) ≡ true) where
  -- an integer or a string
  pub plain_constant : (h.tag ≡ tag_function_in f → ⊥) → item (read_content byte (head_of h) in₀) ≡ Ok (in₀ + h.len)
  plain_constant n = go (eqb h.tag tag_integer_const) refl (eqb h.tag tag_string_const) refl
    where
      go : (a : Bool) → eqb h.tag tag_integer_const ≡ a → (b : Bool) → eqb h.tag tag_string_const ≡ b
          → item (read_content byte (head_of h) in₀) ≡ Ok (in₀ + h.len)
      go true s b t = rw s
      go false s true t = rw (s, t)
      go false s false t =
          let z : false ≡ true = rw (s, t, ne_eqb h.tag (tag_function_in f) n) at good in
          let y : ◌≡◌ {A = ℕ} 0 1 = cc in
          absurd (omega arith)

  module _ (is : h.tag ≡ tag_function_in f) where
    not_tag : (t : ℕ) → (tag_function_in f ≡ t → ⊥) → eqb h.tag t ≡ false
    not_tag t n = ne_eqb h.tag t (λ e. n (sym is ∙ e))

    integer_not : eqb h.tag tag_integer_const ≡ false
    integer_not = not_tag tag_integer_const (not_integer f)

    string_not : eqb h.tag tag_string_const ≡ false
    string_not = not_tag tag_string_const (not_string f)

    -- a function has at least its three numbers
    pub function_long : 3 ≤ h.len
    function_long = leb-true 3 h.len (rw (integer_not, string_not, eq-eqb h.tag (tag_function_in f) is) at good)

    is_function : read_content byte (head_of h) in₀ ≡ read_function byte in₀ h.len
    is_function = rw (integer_not, string_not)

    -- its code decides
    pub function_item : item (read_code byte h.len (in₀ + 3) (in₀ + h.len)) ≡ item (read_content byte (head_of h) in₀)
    function_item = kept (read_code byte h.len (in₀ + 3) (in₀ + h.len)) ∙ sym (ap item is_function)
      where
        kept : (d : Decoded Code) → item d ≡ item (then d (λ c. decoded (Const.function (byte in₀ * 256 + byte (in₀ + 1)) (byte (in₀ + 2)) c)))
        kept (decoded c n) = refl
        kept (malformed p) = refl
