-- A constant that was read, by its tag.
use Prim.Native.Nat.{ℕ, ◌+◌, ◌-◌, ◌*◌, ◌≤◌}
use mathlib.Core.Path.{◌≡◌, ◌∙◌, ap, sym, subst, refl}
use mathlib.Core.List.{[], ◌++◌}
use native.Mathlib.Omega.{arith}
use lib.Dec.{eqb}
use lib.ListN.{length, take, drop, length-drop}
use lib.Seq.{take-length}
use borrow.Author.Tests.{eq-eqb, ne_eqb, eqb-true, leb-true, le-leb}
use Rattle.definition.specs.Basic.{Bytes, byte_at}
use Rattle.definition.proofs.Bytes.{bytes_slice}
use Rattle.definition.specs.Tag.{tag_integer_const, tag_string_const, tag_function_const}
use Rattle.definition.specs.Field.{head, bytes}
use Rattle.definition.specs.Bytecode.{Code, Const, size_of}
use Rattle.definition.specs.Decode.{decoded, const_head, read_instr, read_function, read_content}
use Rattle.definition.specs.Listing.{constant_fields, code_lines}
use Rattle.definition.proofs.Basic.{both_true}
use Rattle.bytecode.proofs.Items.{ended}
use Rattle.bytecode.proofs.Fields.{Good, head_read, then_read}
use Rattle.listing.specs.Reads.{CodeAt, ConstantAt, function_of, function_head}
use Rattle.listing.proofs.Lines.{code-size, code-enough}

-- the bytes from an offset on
pub rest : (b : Bytes) (at : ℕ) → take (length b - at) (drop at b) ≡ drop at b
rest b at = ap (λ n. take n (drop at b)) (sym (length-drop at b)) ∙ take-length (drop at b)

module _ (b : Bytes) (at end : ℕ) {x : Const} (h : ConstantAt b at end x) where
  -- the length of its content
  abbrev len : ℕ
  len = (head (byte_at b) at).len

  good : Good (byte_at b) at end (const_head (byte_at b))
  good = (head_read (byte_at b) at end (const_head (byte_at b)) (read_content (byte_at b)) h.reads).0

  content : read_content (byte_at b) (head (byte_at b) at) (at + 3) ≡ decoded x (at + 3 + len)
  content = (head_read (byte_at b) at end (const_head (byte_at b)) (read_content (byte_at b)) h.reads).1

  pub constant_within : at + 3 + (head (byte_at b) at).len ≤ end
  constant_within = good.within

  -- it stands before its own end too
  pub constant_own : {next : ℕ} → next ≡ at + 3 + (head (byte_at b) at).len → ConstantAt b at next x
  constant_own {next} e =
      let k = le-leb (at + 3) next (omega (arith, e)) in
      let l = le-leb (at + 3 + (head (byte_at b) at).len) next (omega (arith, e)) in
      record { within = omega (arith, e, good.within, h.within); reads = rw (k, l, good.is) content }

  -- as a part of the bytes
  slice : {k : ℕ} → k ≡ (head (byte_at b) at).len → end ≤ length b → take (at + 3 + k - (at + 3)) (drop (at + 3) b) ≡ bytes (byte_at b) (at + 3) len
  slice {k} f w =
      let n : at + 3 + k - (at + 3) ≡ len = omega (arith, f) in
      ap (λ n. take n (drop (at + 3) b)) n ∙ sym (bytes_slice b (at + 3) len (omega (arith, good.within, w)))

  -- an integer
  module _ (e : byte_at b at ≡ tag_integer_const) where
    pub integer-length : (head (byte_at b) at).len ≡ 8
    integer-length = eqb-true len 8 (rw (eq-eqb (byte_at b at) tag_integer_const e) at good.is)

    pub integer_is : end ≤ length b → constant_fields (Const.integer (take 8 (drop (at + 3) b))) ≡ constant_fields x
    integer_is w =
        let r : decoded (Const.integer (bytes (byte_at b) (at + 3) len)) (at + 3 + len) ≡ decoded x (at + 3 + len) = rw (eq-eqb (byte_at b at) tag_integer_const e) at content in
        let i : Const.integer (bytes (byte_at b) (at + 3) len) ≡ x = cc in
        let n : 8 ≡ at + 3 + len - (at + 3) = omega (arith, integer-length) in
        ap (λ k. constant_fields (Const.integer (take k (drop (at + 3) b)))) n ∙ ap (λ c. constant_fields (Const.integer c)) (slice refl w) ∙ ap constant_fields i

  module _ (n : byte_at b at ≡ tag_integer_const → ⊥) where
    -- a string
    pub string_is : {k : ℕ} → k ≡ (head (byte_at b) at).len → end ≤ length b → byte_at b at ≡ tag_string_const
        → constant_fields (Const.string (take (at + 3 + k - (at + 3)) (drop (at + 3) b))) ≡ constant_fields x
    string_is f w e =
        let r : decoded (Const.string (bytes (byte_at b) (at + 3) len)) (at + 3 + len) ≡ decoded x (at + 3 + len) =
        rw (ne_eqb (byte_at b at) tag_integer_const n, eq-eqb (byte_at b at) tag_string_const e) at content
        in
        let i : Const.string (bytes (byte_at b) (at + 3) len) ≡ x = cc in
        ap (λ c. constant_fields (Const.string c)) (slice f w) ∙ ap constant_fields i

    -- a function
    pub record Function (k : ℕ) : Type 0 where
      pub long : 3 ≤ k
      pub code : Code
      pub stands : CodeAt b (at + 3 + 3) (at + 3 + k) code
      pub is : function_of (byte_at b) (at + 3) code ≡ x

    function_read : (byte_at b at ≡ tag_string_const → ⊥) → end ≤ length b → Function len
    function_read m w =
        let g = both_true (eqb (byte_at b at) tag_function_const) _ (rw (ne_eqb (byte_at b at) tag_integer_const n, ne_eqb (byte_at b at) tag_string_const m) at good.is) in
        let l : 3 ≤ len = leb-true 3 len g.1 in
        let r : read_function (byte_at b) (at + 3) len ≡ decoded x (at + 3 + len) = rw (ne_eqb (byte_at b at) tag_integer_const n, ne_eqb (byte_at b at) tag_string_const m) at content in
        let t = then_read _ r in
        let k : t.1 ≡ at + 3 + len = (ended (read_instr (byte_at b)) (at + 3 + len) len [] (at + 3 + 3) t.2).ends in
        record {
          long = l;
          code = t.0;
          stands =
              record {
                order = omega arith;
                within = omega (arith, good.within);
                reads = code-enough (byte_at b) (at + 3 + len) (at + 3 + 3) len (at + 3 + len - (at + 3 + 3)) (omega arith) (omega arith) t.2 ∙ ap (decoded t.0) k;
              };
          is = cc t.3;
        }

    pub function_is : {k : ℕ} → k ≡ (head (byte_at b) at).len → (byte_at b at ≡ tag_string_const → ⊥) → end ≤ length b → Function k
    function_is e m w = subst Function (sym e) (function_read m w)

-- the line of a function and its code, from its numbers
pub function_text : (b : Bytes) (from end : ℕ) {c : Code} {l p : ℕ} → CodeAt b (from + 3) end c → l ≡ byte_at b from * 256 + byte_at b (from + 1) → p ≡ byte_at b (from + 2)
    → function_head l p (end - (from + 3)) ++ code_lines c ≡ constant_fields (function_of (byte_at b) from c)
function_text b from end {c} k e f =
    let s : end - (from + 3) ≡ size_of c = omega (arith, code-size (byte_at b) end (from + 3) (end - (from + 3)) k.reads) in
    λ j. function_head (e j) (f j) (s j) ++ code_lines c
