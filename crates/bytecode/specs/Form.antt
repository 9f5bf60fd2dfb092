-- Images in two forms, document 01's and the chin unit's: they differ in two tags, and in what operands mean. All else is the same.
use Rattle.std.specs.Prelude.{ℕ, ◌+◌, Bool, true, List, [], ◌++◌, length, leb, eqb}
use Rattle.definition.specs.Basic.{Bytes, byte_at, pick, both}
use Rattle.definition.specs.Limit.{code_size, constants_limit}
use Rattle.definition.specs.Tag.{tag_main, tag_pool, tag_integer_const, tag_string_const, tag_function_const}
use Rattle.definition.specs.Field.{Head, field, tagged}
use Rattle.definition.specs.Bytecode.{Const, content, Image, written, encode}
use Rattle.bytecode.specs.declared.Form.{Form}
use Rattle.bytecode.specs.declared.Form.TheVariants.{Plain, Chin}
use Rattle.definition.specs.Decode.{Decoded, then, ending, items, read_head, read_code, read_content, pool_head}

-- main code's tag
abbrev pub tag_main_in : Form → ℕ
tag_main_in Plain = tag_main
tag_main_in Chin = 0x58

-- a function's
abbrev pub tag_function_in : Form → ℕ
tag_function_in Plain = tag_function_const
tag_function_in Chin = 0x63

-- a constant's
abbrev pub tag_in : Form → Const → ℕ
tag_in f (Const.integer b) = tag_integer_const
tag_in f (Const.string b) = tag_string_const
tag_in f (Const.function l p c) = tag_function_in f

abbrev pub const_in : Form → Const → Bytes
const_in f c = field (tag_in f c) (content c)

-- a pool's content, its last constant first
abbrev pub pool_in : Form → List Const → Bytes
pool_in f = written (const_in f)

abbrev pub image_in : Form → Image → Bytes
image_in f m = field (tag_main_in f) (encode m.code) ++ field tag_pool (pool_in f m.pool)

-- Reading, as the definition reads an image
module _ (f : Form) (byte : ℕ → ℕ) where
  abbrev pub const_head_in : Head → Bool
  const_head_in h = pick (tagged tag_integer_const h) (eqb h.len 8) (pick (tagged tag_string_const h) true (both (tagged (tag_function_in f) h) (leb 3 h.len)))

  abbrev pub read_const_in : ℕ → ℕ → Decoded Const
  read_const_in at end = then (read_head byte const_head_in at end) (read_content byte)

  abbrev pub read_pool_in : ℕ → ℕ → Decoded (List Const)
  read_pool_in at end = then (read_head byte (pool_head byte) at end) (λ h in₀. items read_const_in constants_limit [] in₀ (in₀ + h.len))

  abbrev pub main_head_in : Head → Bool
  main_head_in h = both (tagged (tag_main_in f) h) (leb h.len code_size)

  unfoldable pub read_in : ℕ → Decoded Image
  read_in n =
      then (read_head byte main_head_in 0 n) (λ h in₀.
      then (read_code byte h.len in₀ (in₀ + h.len)) (λ c at.
      then (read_pool_in at n) (λ cs at₁. ending (record { code = c; pool = cs }) at₁ n)))

-- an image of a form
abbrev pub read_form : Form → Bytes → Decoded Image
read_form f b = read_in f (byte_at b) (length b)
