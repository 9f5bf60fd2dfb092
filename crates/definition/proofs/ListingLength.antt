-- How long a listing is at most: a hundred bytes for each byte of code and pool, and two lines.
use Prim.Native.Nat.{ℕ, zero, suc, ◌+◌, ◌*◌, ◌-◌, ◌/◌, ◌%◌, ◌≤◌}
use Prim.Native.String.{String}
use native.Mathlib.Omega.{arith}
use mathlib.Core.Bool.{Bool, true, false}
use mathlib.Core.List.{List, [], ◌∷◌, ◌++◌}
use mathlib.Core.Path.{◌≡◌, refl}
use lib.ListN.{length, get_or, length-append, length-replicate}
use lib.Dec.{T, leb, ltb, leb→le}
use Rattle.definition.specs.Basic.{Bytes, byte_at, pick, both}
use Rattle.definition.specs.Limit.{code_size, pool_limit, image_limit}
use Rattle.definition.specs.Number
use Rattle.definition.specs.Number.{refusal, list_numbers}
use Rattle.definition.specs.Opcode.{Instr, width}
use Rattle.definition.specs.Bytecode.{Code, size_of, Const, content, pool_size, Image}
use Rattle.definition.specs.Text.{ascii, digit, digits, decimal, number, signed, hex}
use Rattle.definition.specs.Listing.{also, words, word, operand_fields, code_line, code_lines, hex_field, constant_fields, constant_lines, listing, list_answer}
use Rattle.definition.specs.Decode.{Decoded, decoded, malformed, read_image}
use Rattle.definition.specs.Valid.{AreBytes, ValidImage}
use Rattle.definition.proofs.Basic.{chosen}
use Rattle.definition.proofs.Instructions.{code-length, code-count}
use Rattle.definition.proofs.Images.{write-image}
use Rattle.definition.proofs.Places.{Within, nowhere}
use Rattle.definition.proofs.ImagePlaces.{image-place}

-- one text or the other
pick-length : (b : Bool) (x y : Bytes) {n : ℕ} → length x ≤ n → length y ≤ n → length (pick b x y) ≤ n
pick-length true x y h k = h
pick-length false x y h k = k

-- a number
decimal-length : (most n : ℕ) → length (digits most n) ≤ most
unfolding digits
decimal-length zero n = omega arith
decimal-length (suc most) n =
    pick-length (ltb n 10) (digit n ∷ []) (digits most (n / 10) ++ (digit (n % 10) ∷ [])) (omega arith)
    (omega (arith, decimal-length most (n / 10), length-append (digits most (n / 10)) (digit (n % 10) ∷ [])))

signed-length : (b : Bytes) → length (signed b) ≤ 21
signed-length b =
    pick-length (ltb (byte_at b 0) 128) (decimal (number 0 b)) (ascii "-" ++ decimal (18446744073709551616 - number 0 b)) (omega (arith, decimal-length 20 (number 0 b)))
    (omega (arith, decimal-length 20 (18446744073709551616 - number 0 b)))

hex-length : (b : Bytes) → length (hex_field b) ≤ 1 + 2 * length b
hex-length [] = omega arith
hex-length (x ∷ b) = omega (arith, go (x ∷ b))
  where
    go : (b : Bytes) → length (hex b) ≡ 2 * length b
    go [] = refl
    go (x ∷ b) = omega (arith, go b)

-- the words of instructions
short_words : List String → Bool
short_words [] = true
short_words (w ∷ ws) = both (leb (length (ascii w)) 14) (short_words ws)

word-length : (o : ℕ) → length (word o) ≤ 14
unfolding short_words
word-length o = go words tt o
  where
    split : (a b : Bool) → T (both a b) → T a × T b
    split true b h = (tt, h)
    split false b h = absurd h

    go : (ws : List String) → T (short_words ws) → (o : ℕ) → length (ascii (get_or ws o "")) ≤ 14
    go [] h o = omega arith
    go (w ∷ ws) h zero = leb→le (length (ascii w)) 14 (split (leb (length (ascii w)) 14) (short_words ws) h).0
    go (w ∷ ws) h (suc o) = go ws (split (leb (length (ascii w)) 14) (short_words ws) h).1 o

operands-length : (w a b : ℕ) → length (operand_fields w a b) ≤ 42
operands-length zero a b = omega arith
operands-length (suc zero) a b = omega (arith, decimal-length 20 a)
operands-length (suc (suc zero)) a b = omega (arith, decimal-length 20 a)
operands-length (suc (suc (suc n))) a b = omega (arith, decimal-length 20 a, decimal-length 20 b, length-append (also (decimal a)) (also (decimal b)))

-- a line of code
line-length : (at : ℕ) (i : Instr) → length (code_line at i) ≤ 100
line-length at i =
    simp length-append (omega (arith, decimal-length 20 at, length-replicate (4 - length (decimal at)) (digit 0), word-length i.op, operands-length (width i.op) i.a i.b))

lines_length : (c : Code) → length (code_lines c) ≤ 100 * length c
lines_length [] = omega arith
lines_length (i ∷ is) = omega (arith, lines_length is, line-length (size_of is) i, length-append (code_lines is) (code_line (size_of is) i))

code-listing : (c : Code) → length (code_lines c) ≤ 100 * size_of c
code-listing c = omega (arith, lines_length c, code-count c)

-- a constant
constant_length : (c : Const) → length (constant_fields c) ≤ 100 + 100 * length (content c)
constant_length (Const.integer b) = simp length-append (omega (arith, signed-length b))
constant_length (Const.string b) = simp length-append (omega (arith, decimal-length 20 (length b), hex-length b))
constant_length (Const.function l p c) =
    simp length-append (omega (arith, decimal-length 20 l, decimal-length 20 p, decimal-length 20 (size_of c), code-listing c, code-length c))

constants-length : (cs : List Const) → length (constant_lines cs) ≤ 100 * pool_size cs
constants-length [] = omega arith
constants-length (c ∷ cs) =
    let index = decimal (length cs) in
    omega (arith, constants-length cs, decimal-length 20 (length cs), constant_length c, length-append (constant_lines cs ++ index) (constant_fields c), length-append (constant_lines cs) index)

-- what a listing is at most
abbrev pub listing_bound : ℕ
listing_bound = 100 * (1 + code_size + pool_limit)

pub listing-length : (m : Image) → ValidImage m → length (listing m) ≤ listing_bound
listing-length m v =
    simp length-append
    (omega (arith, decimal-length 20 (size_of m.code), decimal-length 20 (length m.pool), code-listing m.code, constants-length m.pool, v.size, v.pool.size))

-- listing an image: that length; or 15; or 17 at a place within the longest image
pub list_within : (b : Bytes) → AreBytes b → (room : ℕ) → Within listing_bound list_numbers image_limit (list_answer (read_image b) room)
list_within b a room = go (read_image b) refl
  where
    go : (d : Decoded Image) → read_image b ≡ d → Within listing_bound list_numbers image_limit (list_answer d room)
    go (decoded m n) e =
        chosen (Within listing_bound list_numbers image_limit) (leb (length (listing m)) room) (λ _. Within.wrote (listing-length m (write-image b a e).sound)) (λ _. nowhere tt)
    go (malformed p) e = Within.refused {r = refusal Number.bad_image p} (record { number = tt; place = image-place b p e })
