-- The reading that checks and counts: code an instruction a turn, constants one a turn, and an image.
use Prim.Native.Nat.{ℕ, ◌+◌, ◌-◌, ◌*◌, ◌≤◌, ◌<◌}
use mathlib.Core.Path.{◌≡◌, ◌∙◌, ap, sym, refl}
use mathlib.Core.Bool.{true}
use mathlib.Core.List.{List, [], ◌∷◌, ◌++◌}
use native.Mathlib.Omega.{arith}
use lib.Dec.{leb, eqb}
use lib.ListN.{length, take, drop, length-append}
use borrow.Author.Tests.{eq-eqb, ne_eqb, eqb-true, leb-true}
use Rattle.definition.specs.Basic.{Bytes, byte_at}
use Rattle.definition.proofs.Bytes.{bytes_slice}
use Rattle.definition.specs.Limit.{code_size, pool_limit, constants_limit}
use Rattle.definition.specs.Tag.{tag_main, tag_pool, tag_integer_const, tag_string_const}
use Rattle.definition.specs.Field.{head, bytes}
use Rattle.definition.specs.Opcode.{instr_at, op_last}
use Rattle.definition.specs.Text.{decimal}
use Rattle.definition.specs.Bytecode.{Code, Const, size_of}
use Rattle.definition.specs.Decode.{Decoded, decoded, malformed, main_head, read_instr, read_code, read_const, read_function, read_content, read_pool, read_image}
use Rattle.definition.specs.Listing.{code_line, code_lines, constant_fields, constant_lines, listing}
use Rattle.opcode.specs.Decoding.{size_at}
use Rattle.opcode.proofs.Decoding.{stands}
use Rattle.definition.proofs.Basic.{both_left, both_true}
use Rattle.bytecode.specs.Checked.{head_of, is_constant, is_pool, is_main, constants, main_code}
use Rattle.bytecode.specs.declared.Form.TheVariants.{Plain}
use Rattle.bytecode.proofs.Items.{ended}
use Rattle.bytecode.proofs.Fields.{main_content, head_read, const_end, const_ends}
use Rattle.bytecode.proofs.Instructions.{CodeRead, reads_begin, reads_end, reads_wrong, reads_again}
use Rattle.bytecode.proofs.Limited.{ItemsRead, items_begin, items_end, items_full, items_wrong, items_again}
use Rattle.bytecode.proofs.Images.{read_plain, image_main_wrong, main_ends, image-pool_wrong, image-whole, image-longer}
use Rattle.std.specs.Prelude.{Some, None, Result, Ok, Err}
use Rattle.definition.specs.Number.{refusal, bad_image}
use Rattle.definition.specs.declared.reason.Refusal.{Refusal}
use Rattle.bytecode.specs.declared.field_head.Head.{Head}
use Rattle.bytecode.specs.declared.Malformed.{Malformed}
use Rattle.bytecode.specs.Checked.{wrong}
use Rattle.listing.specs.declared.measure.Measured.{Measured}
use Rattle.listing.specs.declared.measure.MeasuredPool.{MeasuredPool}
use Rattle.listing.specs.declared.measure.MeasuredImage.{MeasuredImage}
use Rattle.listing.specs.Put.{per_byte}
use Rattle.listing.specs.Reads.{function_head}
use Rattle.listing.specs.Measured.{InstrAt, measured, code_measured, constant_measured, pool_measured, image_measured}
use Rattle.listing.proofs.Lines.{code-size}

-- a text of so many bytes, up to an offset
abbrev pub good : ℕ → ℕ → Result Measured Malformed
good t n = Ok (record { text = t; end = n })

-- what an answer says of the reading
pub measured_good : {A : Type 0} (text : A → Bytes) (d : Decoded A) {r : Result Measured Malformed} {v : Measured} → r ≡ measured text d → r ≡ Ok v
    → (x : A) × (d ≡ decoded x v.end) × (length (text x) ≡ v.text)
measured_good text (decoded x m) {r} {v} e w =
    let i : good (length (text x)) m ≡ Ok v = sym e ∙ w in
    let j : record { text = length (text x); end = m } ≡ v = cc in
    (x, ap (λ (y : Measured). decoded x y.end) j, ap (λ (y : Measured). y.text) j)
measured_good text (malformed p) e w = cc

pub measured_wrong : {A : Type 0} (text : A → Bytes) (d : Decoded A) {r : Result Measured Malformed} {x : Malformed} → r ≡ measured text d → r ≡ Err x → d ≡ malformed x.place
measured_wrong text (decoded y m) e w = cc
measured_wrong text (malformed q) {r} {x} e w =
    let i : ◌≡◌ {A = Result Measured Malformed} (wrong q) (Err x) = sym e ∙ w in
    let j : record { place = q } ≡ x = cc in
    ap (λ (y : Malformed). malformed y.place) j

-- code: the loop at an offset, with the length of the lines up to it
module _ (b : Bytes) (start end : ℕ) where
  pub record CodeLoop (at text : ℕ) : Type 0 where
    pub code : Code
    pub read : CodeRead (byte_at b) start end at code
    pub is : text ≡ length (code_lines code)
    pub from : start ≤ at
    pub order : at ≤ end
    pub short : text ≤ per_byte * (at - start)

  pub code-begins : start ≤ end → CodeLoop start 0
  code-begins h = record { code = []; read = reads_begin (byte_at b) start end h; is = refl; from = omega arith; order = h; short = omega arith }

  module _ {at text : ℕ} (l : CodeLoop at text) where
    pub code_ends : end ≤ at → (len : ℕ) → end ≤ start + len → good text at ≡ code_measured (read_code (byte_at b) len start end)
    code_ends e len k = ap (λ (t : ℕ). good t at) l.is ∙ sym (ap code_measured (reads_end (byte_at b) start end l.read e len k))

    module _ (before : at < end) where
      pub code_wrong : None ≡ size_at (byte_at b) at end → (len : ℕ) → end ≤ start + len → wrong at ≡ code_measured (read_code (byte_at b) len start end)
      code_wrong e len k = sym (ap code_measured (reads_wrong (byte_at b) start end l.read before e len k))

      module _ {size : ℕ} (e : Some size ≡ size_at (byte_at b) at end) where
        pub code-instr : end ≤ length b → InstrAt b at size
        code-instr w =
            let k = stands (byte_at b) at end e in
            record { known = omega (arith, leb-true (byte_at b at) op_last (both_left (leb (byte_at b at) op_last) _ k.found)); is = k.is; within = omega (arith, k.within) }

        pub code_again : {line : ℕ} → line ≡ length (code_line (at - start) (instr_at (byte_at b) at)) → line ≤ per_byte → CodeLoop (at + size) (text + line)
        code_again {line} g h =
            let k = stands (byte_at b) at end e in
            let s : at - start ≡ size_of l.code = omega (arith, l.read.sized) in
            record {
              code = instr_at (byte_at b) at ∷ l.code;
              read = reads_again (byte_at b) start end l.read before e;
              is =
                  omega
                  (arith, l.is, g, ap (λ p. length (code_line p (instr_at (byte_at b) at))) s, length-append (code_lines l.code) (code_line (size_of l.code) (instr_at (byte_at b) at)));
              from = omega (arith, l.from);
              order = k.within;
              short = omega (arith, l.short, l.from, k.is);
            }

-- a function's code decides
module _ (b : Bytes) (from len : ℕ) {r : Result Measured Malformed} (e : r ≡ code_measured (read_code (byte_at b) len (from + 3) (from + len))) where
  pub function_good : {v : Measured} {h : ℕ} {l p : ℕ} → r ≡ Ok v → 3 ≤ len → l ≡ byte_at b from * 256 + byte_at b (from + 1) → p ≡ byte_at b (from + 2)
      → h ≡ length (function_head l p (len - 3)) → good (h + v.text) v.end ≡ constant_measured (read_function (byte_at b) from len)
  function_good {v} {h} {l} {p} w long i j k =
      let g = measured_good code_lines (read_code (byte_at b) len (from + 3) (from + len)) e w in
      let m = (ended (read_instr (byte_at b)) (from + len) len [] (from + 3) g.1).ends in
      let s : len - 3 ≡ size_of g.0 = omega (arith, code-size (byte_at b) (from + len) (from + 3) len g.1) in
      let q : length (function_head l p (len - 3)) ≡ length (function_head (byte_at b from * 256 + byte_at b (from + 1)) (byte_at b (from + 2)) (size_of g.0)) =
      λ x. length (function_head (i x) (j x) (s x))
      in
      let c : h + v.text ≡ length (constant_fields (Const.function (byte_at b from * 256 + byte_at b (from + 1)) (byte_at b (from + 2)) g.0)) =
      omega
      (arith, k, g.2, q, length-append (function_head (byte_at b from * 256 + byte_at b (from + 1)) (byte_at b (from + 2)) (size_of g.0)) (code_lines g.0))
      in
      rw g.1 (ap (λ (x : ℕ). good x v.end) c)

-- a constant's content, whose head is good, by its tag
module _ (b : Bytes) (from : ℕ) (h : Head) (sound : is_constant Plain (head_of h) ≡ true) where
  pub integer_long : h.tag ≡ tag_integer_const → h.len ≡ 8
  integer_long e = eqb-true h.len 8 (rw (eq-eqb h.tag tag_integer_const e) at sound)

  pub integer_good : {t : ℕ} → h.tag ≡ tag_integer_const → from + h.len ≤ length b → t ≡ length (constant_fields (Const.integer (take 8 (drop from b))))
      → good t (from + h.len) ≡ constant_measured (read_content (byte_at b) (head_of h) from)
  integer_good e w k =
      let n : 8 ≡ h.len = sym (integer_long e) in
      let i = ap (λ n. take n (drop from b)) n ∙ sym (bytes_slice b from h.len w) in
      rw (eq-eqb h.tag tag_integer_const e) (ap (λ (x : ℕ). good x (from + h.len)) (k ∙ ap (λ c. length (constant_fields (Const.integer c))) i))

  module _ (n : h.tag ≡ tag_integer_const → ⊥) where
    pub string_good : {t : ℕ} → h.tag ≡ tag_string_const → t ≡ length (constant_fields (Const.string (bytes (byte_at b) from h.len)))
        → good t (from + h.len) ≡ constant_measured (read_content (byte_at b) (head_of h) from)
    string_good e k = rw (ne_eqb h.tag tag_integer_const n, eq-eqb h.tag tag_string_const e) (ap (λ (x : ℕ). good x (from + h.len)) k)

-- constants: the loop at an offset, after so many, with the length of their lines
module _ (b : Bytes) (start end : ℕ) where
  pub record PoolLoop (at count text : ℕ) : Type 0 where
    pub found : List Const
    pub read : ItemsRead (read_const (byte_at b)) constants_limit start end at found
    pub counted : length found ≡ count
    pub is : text ≡ length (constant_lines found)
    pub from : start ≤ at
    pub order : at ≤ end
    pub few : count ≤ constants_limit
    pub short : text ≤ per_byte * (at - start)

  pub pool-begins : start ≤ end → PoolLoop start 0 0
  pool-begins h =
      record {
        found = [];
        read = items_begin (read_const (byte_at b)) constants_limit start end h;
        counted = refl;
        is = refl;
        from = omega arith;
        order = h;
        few = omega arith;
        short = omega arith;
      }

  -- so many constants, lines of so many bytes, up to an offset
  abbrev pub constants_of : ℕ → ℕ → ℕ → Result MeasuredPool Malformed
  constants_of k t n = Ok (record { count = k; text = t; end = n })

  module _ {at count text : ℕ} (l : PoolLoop at count text) where
    pub pool_ends : end ≤ at → constants_of count text at ≡ pool_measured (constants (byte_at b) start end)
    pool_ends e =
        ap (λ (k : ℕ). constants_of k text at) (sym l.counted) ∙ ap (λ (t : ℕ). constants_of (length l.found) t at) l.is
        ∙ sym (ap pool_measured (items_end (read_const (byte_at b)) constants_limit start end l.read e))

    module _ (before : at < end) where
      pub pool_full : count ≡ constants_limit → wrong at ≡ pool_measured (constants (byte_at b) start end)
      pool_full e = sym (ap pool_measured (items_full (read_const (byte_at b)) constants_limit start end l.read before (l.counted ∙ e)))

      module _ (n : count ≡ constants_limit → ⊥) {r : Result Measured Malformed} (e : r ≡ constant_measured (read_const (byte_at b) at end)) where
        more : length l.found ≡ constants_limit → ⊥
        more m = n (sym l.counted ∙ m)

        pub pool_wrong : {x : Malformed} → r ≡ Err x → Err x ≡ pool_measured (constants (byte_at b) start end)
        pool_wrong w =
            sym (ap pool_measured (items_wrong (read_const (byte_at b)) constants_limit start end l.read before more (measured_wrong constant_fields (read_const (byte_at b) at end) e w)))

        module _ {v : Measured} (w : r ≡ Ok v) where
          constant : (x : Const) × (read_const (byte_at b) at end ≡ decoded x v.end) × (length (constant_fields x) ≡ v.text)
          constant = measured_good constant_fields (read_const (byte_at b) at end) e w

          -- where the constant ends
          pub record Ends : Type 0 where
            pub after : v.end ≡ at + 3 + (head (byte_at b) at).len
            pub within : v.end ≤ end

          pub pool_next : Ends
          pool_next =
              record {
                after = const_end (byte_at b) at end constant.1;
                within = (const_ends (byte_at b) at end constant.0 v.end constant.1).1;
              }

          pub pool_again : {k : ℕ} → k ≡ length (decimal count) → k ≤ 20 → v.text + 20 ≤ per_byte * (1 + (head (byte_at b) at).len) → PoolLoop v.end (count + 1) (text + k + v.text)
          pool_again {k} d s h =
              let x = constant.0 in
              let index = decimal (length l.found) in
              record {
                found = x ∷ l.found;
                read = items_again (read_const (byte_at b)) constants_limit start end l.read before more pool_next.within constant.1;
                counted = omega (arith, l.counted);
                is =
                    omega
                    (arith, l.is, d, constant.2, ap (λ m. length (decimal m)) l.counted, length-append (constant_lines l.found ++ index) (constant_fields x), length-append (constant_lines l.found) index);
                from = omega (arith, l.from, pool_next.after);
                order = pool_next.within;
                few = omega (arith, l.few);
                short = omega (arith, l.short, l.from, pool_next.after);
              }

-- heads of main code and of a pool that are short enough
pub main_short : (h : Head) → is_main Plain (head_of h) ≡ true → h.len ≤ code_size
main_short h g = leb-true h.len code_size (both_true (eqb h.tag tag_main) (leb h.len code_size) g).1

pub pool_short : (h : Head) → is_pool (head_of h) ≡ true → h.len ≤ pool_limit
pool_short h g = leb-true h.len pool_limit (both_true (eqb h.tag tag_pool) (leb h.len pool_limit) g).1

-- main code begins behind its head
pub main_size : (b : Bytes) {c : Code} {at : ℕ} → main_code (byte_at b) Plain (length b) ≡ decoded c at → 3 + size_of c ≡ at
main_size b e =
    let h = head_read (byte_at b) 0 (length b) (main_head (byte_at b)) (main_content (byte_at b)) e in
    code-size (byte_at b) _ 3 _ h.1

-- an image that is refused with number 17 there
abbrev pub refused : ℕ → Result MeasuredImage Refusal
refused p = Err (refusal bad_image p)

-- what an answer of constants says of the reading
pool-read : (d : Decoded (List Const)) {s : Result MeasuredPool Malformed} {v : MeasuredPool} → s ≡ pool_measured d → s ≡ Ok v
    → (cs : List Const) × (d ≡ decoded cs v.end) × (length cs ≡ v.count) × (length (constant_lines cs) ≡ v.text)
pool-read (decoded cs m) {s} {v} g w =
    let made : MeasuredPool = record { count = length cs; text = length (constant_lines cs); end = m } in
    let i : ◌≡◌ {A = Result MeasuredPool Malformed} (Ok made) (Ok v) = sym g ∙ w in
    let j : made ≡ v = cc in
    (cs, ap (λ (y : MeasuredPool). decoded cs y.end) j, ap (λ (y : MeasuredPool). y.count) j, ap (λ (y : MeasuredPool). y.text) j)
pool-read (malformed p) g w = cc

pool-refused : (d : Decoded (List Const)) {s : Result MeasuredPool Malformed} {x : Malformed} → s ≡ pool_measured d → s ≡ Err x → d ≡ malformed x.place
pool-refused (decoded cs m) g w = cc
pool-refused (malformed q) {s} {x} g w =
    let i : ◌≡◌ {A = Result MeasuredPool Malformed} (wrong q) (Err x) = sym g ∙ w in
    let j : record { place = q } ≡ x = cc in
    ap (λ (y : Malformed). malformed y.place) j

-- an image, from its main code and its pool
module _ (b : Bytes) {r : Result Measured Malformed} (e : r ≡ code_measured (main_code (byte_at b) Plain (length b))) where
  pub main_wrong : {x : Malformed} → r ≡ Err x → refused x.place ≡ image_measured (read_image b)
  main_wrong w = sym (ap image_measured (sym (read_plain b) ∙ image_main_wrong Plain b (measured_wrong code_lines (main_code (byte_at b) Plain (length b)) e w)))

  module _ {v : Measured} (w : r ≡ Ok v) where
    main : (c : Code) × (main_code (byte_at b) Plain (length b) ≡ decoded c v.end) × (length (code_lines c) ≡ v.text)
    main = measured_good code_lines (main_code (byte_at b) Plain (length b)) e w

    -- where it ends
    pub main_behind : 3 ≤ v.end
    main_behind = omega (arith, main_size b main.1)

    pub main_within : v.end ≤ length b
    main_within = main_ends Plain b main.1

    module _ {s : Result MeasuredPool Malformed} (f : s ≡ pool_measured (read_pool (byte_at b) v.end (length b))) where
      pub image-pool : {x : Malformed} → s ≡ Err x → refused x.place ≡ image_measured (read_image b)
      image-pool q = sym (ap image_measured (sym (read_plain b) ∙ image-pool_wrong Plain b main.1 (pool-refused (read_pool (byte_at b) v.end (length b)) f q)))

      module _ {u : MeasuredPool} (g : s ≡ Ok u) where
        pool : (cs : List Const) × (read_pool (byte_at b) v.end (length b) ≡ decoded cs u.end) × (length cs ≡ u.count) × (length (constant_lines cs) ≡ u.text)
        pool = pool-read (read_pool (byte_at b) v.end (length b)) f g

        pub image_follows : (u.end ≡ length b → ⊥) → refused u.end ≡ image_measured (read_image b)
        image_follows q = sym (ap image_measured (sym (read_plain b) ∙ image-longer Plain b main.1 pool.1 q))

        pub image_ends : {x y : ℕ} → u.end ≡ length b → x ≡ length (decimal (v.end - 3)) → y ≡ length (decimal u.count)
            → Ok (record { constants = u.count; size = 12 + x + y + v.text + u.text }) ≡ image_measured (read_image b)
        image_ends {x} {y} q i j =
            let c = main.0 in
            let cs = pool.0 in
            let size : v.end - 3 ≡ size_of c = omega (arith, main_size b main.1) in
            let long : 12 + x + y + v.text + u.text ≡ length (listing (record { code = c; pool = cs })) =
            simp length-append (omega (arith, i, j, ap (λ m. length (decimal m)) size, ap (λ m. length (decimal m)) pool.2, main.2, pool.3))
            in
            (λ z. Ok (record { constants = sym pool.2 z; size = long z })) ∙ sym (ap image_measured (sym (read_plain b) ∙ image-whole Plain b main.1 pool.1 q))
