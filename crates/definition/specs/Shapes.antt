-- Shapes, the places of literal bytes, and two alike series, computed: condition 3's terms on small inputs.
use Rattle.std.specs.Prelude.{ℕ, zero, suc, List, [], ◌∷◌, map, ◌≡◌, refl, replicate, take, Ok}
use Rattle.std.proofs.Common.{sym, subst}
use Rattle.definition.specs.Basic.{Bytes, pick}
use Rattle.definition.specs.Limit.{session_size, code_size, table_size}
use Rattle.definition.specs.Tag.{tag_program, tag_expr_stmt, tag_array, tag_integer}
use Rattle.definition.specs.Field.{field}
use Rattle.definition.specs.Tree.{read_tree, read_program, read_stmt}
use Rattle.definition.specs.Walk.{walk_stmts}
use Rattle.definition.specs.Compiler.{emit_beside, add_constant}
use Rattle.definition.specs.Bytecode.{Image, image_bytes}
use Rattle.definition.specs.Session.{fresh}
use Rattle.definition.specs.Decode.{Decoded, decoded, malformed, items, read_image, read_image_of}
use Rattle.definition.specs.Shape.{shape}
use Rattle.definition.specs.Literal.{Mask, image_mask, session_mask}
use Rattle.definition.specs.Compile.{Outcome, Step, Request, compile, steps}
use Rattle.definition.specs.Call.{Called}
use Rattle.definition.specs.Series.{Agree, Answers}
use Rattle.definition.specs.Values.{Given, refused, image, given}

-- a row: a tree, and its shape
pub record Shaped : Type 0 where
  pub tree : Bytes
  pub blank : Bytes

abbrev shaped : Bytes → Bytes → Shaped
shaped t s = record { tree = t; blank = s }

-- an integer in so many arrays, one in another
abbrev nested : ℕ → Bytes → Bytes
nested zero content = field tag_integer content
nested (suc n) content = field tag_array (nested n content)

-- it as a script: its Integer is at level n + 3
abbrev nested_tree : ℕ → Bytes → Bytes
nested_tree n content = field tag_program (field tag_expr_stmt (nested n content))

abbrev pub shape_table : List Shaped
shape_table =
    -- no bytes at all
    shaped [] []
    -- 77;
    ∷ shaped (0x10 ∷ 0x00 ∷ 0x0E ∷ 0x11 ∷ 0x00 ∷ 0x0B ∷ 0x26 ∷ 0x00 ∷ 0x08 ∷ 0x00 ∷ 0x00 ∷ 0x00 ∷ 0x00 ∷ 0x00 ∷ 0x00 ∷ 0x00 ∷ 0x4D ∷ []) (0x10 ∷ 0x00 ∷ 0x0E ∷ 0x11 ∷ 0x00 ∷ 0x0B ∷ 0x26 ∷ 0x00 ∷ 0x08 ∷ 0x00 ∷ 0x00 ∷ 0x00 ∷ 0x00 ∷ 0x00 ∷ 0x00 ∷ 0x00 ∷ 0x00 ∷ [])
    -- let a = "xy"; a == true;: the name and the operator stay
    ∷ shaped (0x10 ∷ 0x00 ∷ 0x1E ∷ 0x13 ∷ 0x00 ∷ 0x09 ∷ 0x30 ∷ 0x00 ∷ 0x01 ∷ 0x61 ∷ 0x28 ∷ 0x00 ∷ 0x02 ∷ 0x78 ∷ 0x79 ∷ 0x11 ∷ 0x00 ∷ 0x0F ∷ 0x22 ∷ 0x00 ∷ 0x0C ∷ 0x20 ∷ 0x00 ∷ 0x01 ∷ 0x61 ∷ 0x32 ∷ 0x00 ∷ 0x01 ∷ 0x06 ∷ 0x27 ∷ 0x00 ∷ 0x01 ∷ 0x01 ∷ []) (0x10 ∷ 0x00 ∷ 0x1E ∷ 0x13 ∷ 0x00 ∷ 0x09 ∷ 0x30 ∷ 0x00 ∷ 0x01 ∷ 0x61 ∷ 0x28 ∷ 0x00 ∷ 0x02 ∷ 0x00 ∷ 0x00 ∷ 0x11 ∷ 0x00 ∷ 0x0F ∷ 0x22 ∷ 0x00 ∷ 0x0C ∷ 0x20 ∷ 0x00 ∷ 0x01 ∷ 0x61 ∷ 0x32 ∷ 0x00 ∷ 0x01 ∷ 0x06 ∷ 0x27 ∷ 0x00 ∷ 0x01 ∷ 0x00 ∷ [])
    -- a Boolean that is neither 00 nor 01 is refused itself, and kept
    ∷ shaped (0x10 ∷ 0x00 ∷ 0x07 ∷ 0x11 ∷ 0x00 ∷ 0x04 ∷ 0x27 ∷ 0x00 ∷ 0x01 ∷ 0x02 ∷ []) (0x10 ∷ 0x00 ∷ 0x07 ∷ 0x11 ∷ 0x00 ∷ 0x04 ∷ 0x27 ∷ 0x00 ∷ 0x01 ∷ 0x02 ∷ [])
    -- a second Integer where nothing may follow: what was got past is blank, what is refused is kept
    ∷ shaped (0x10 ∷ 0x00 ∷ 0x19 ∷ 0x11 ∷ 0x00 ∷ 0x16 ∷ 0x26 ∷ 0x00 ∷ 0x08 ∷ 0x00 ∷ 0x00 ∷ 0x00 ∷ 0x00 ∷ 0x00 ∷ 0x00 ∷ 0x00 ∷ 0x01 ∷ 0x26 ∷ 0x00 ∷ 0x08 ∷ 0x00 ∷ 0x00 ∷ 0x00 ∷ 0x00 ∷ 0x00 ∷ 0x00 ∷ 0x00 ∷ 0x02 ∷ []) (0x10 ∷ 0x00 ∷ 0x19 ∷ 0x11 ∷ 0x00 ∷ 0x16 ∷ 0x26 ∷ 0x00 ∷ 0x08 ∷ 0x00 ∷ 0x00 ∷ 0x00 ∷ 0x00 ∷ 0x00 ∷ 0x00 ∷ 0x00 ∷ 0x00 ∷ 0x26 ∷ 0x00 ∷ 0x08 ∷ 0x00 ∷ 0x00 ∷ 0x00 ∷ 0x00 ∷ 0x00 ∷ 0x00 ∷ 0x00 ∷ 0x02 ∷ [])
    -- a String whose length passes its parent is kept, the Boolean before it is blank
    ∷ shaped (0x10 ∷ 0x00 ∷ 0x0E ∷ 0x11 ∷ 0x00 ∷ 0x0B ∷ 0x29 ∷ 0x00 ∷ 0x08 ∷ 0x27 ∷ 0x00 ∷ 0x01 ∷ 0x01 ∷ 0x28 ∷ 0x00 ∷ 0x03 ∷ 0x78 ∷ []) (0x10 ∷ 0x00 ∷ 0x0E ∷ 0x11 ∷ 0x00 ∷ 0x0B ∷ 0x29 ∷ 0x00 ∷ 0x08 ∷ 0x27 ∷ 0x00 ∷ 0x01 ∷ 0x00 ∷ 0x28 ∷ 0x00 ∷ 0x03 ∷ 0x78 ∷ [])
    -- cut in the middle of an Integer: refused at Program, so its own shape
    ∷ shaped (0x10 ∷ 0x00 ∷ 0x0E ∷ 0x11 ∷ 0x00 ∷ 0x0B ∷ 0x26 ∷ 0x00 ∷ 0x08 ∷ 0x00 ∷ 0x00 ∷ []) (0x10 ∷ 0x00 ∷ 0x0E ∷ 0x11 ∷ 0x00 ∷ 0x0B ∷ 0x26 ∷ 0x00 ∷ 0x08 ∷ 0x00 ∷ 0x00 ∷ [])
    -- an Integer at level 66: refused as too deep, and blank
    ∷ shaped (nested_tree 63 (1 ∷ 2 ∷ 3 ∷ 4 ∷ 5 ∷ 6 ∷ 7 ∷ 8 ∷ [])) (nested_tree 63 (replicate 8 0))
    ∷ []

-- the whole table, by computation
pub shapes_computed : map (λ (x : Shaped). shape x.tree) shape_table ≡ map (λ (x : Shaped). x.blank) shape_table
unfolding shape read_program read_stmt
shapes_computed = refl

-- the offsets that a mask names
abbrev offsets : ℕ → Mask → List ℕ
offsets at [] = []
offsets at (b ∷ m) = let rest = offsets (suc at) m in pick b (at ∷ rest) rest

-- a row: an image, and the offsets of its literal bytes
pub record Placed : Type 0 where
  pub bytes : Bytes
  pub places : List ℕ

abbrev places_of : Bytes → List ℕ → Placed
places_of b ps = record { bytes = b; places = ps }

-- the literal bytes of what was read
abbrev literals_of : Decoded Image → List ℕ
literals_of (decoded m n) = offsets 0 (image_mask m)
literals_of (malformed p) = []

abbrev pub literal_table : List Placed
literal_table =
    -- True, Pop, False, Pop; Constant 0606; Call 07; True: operands are none
    places_of (0x50 ∷ 0x00 ∷ 0x0A ∷ 0x06 ∷ 0x02 ∷ 0x07 ∷ 0x02 ∷ 0x00 ∷ 0x06 ∷ 0x06 ∷ 0x15 ∷ 0x07 ∷ 0x06 ∷ 0x51 ∷ 0x00 ∷ 0x00 ∷ []) (3 ∷ 5 ∷ 12 ∷ [])
    -- an integer, two strings, a function with False in its code
    ∷ places_of (0x50 ∷ 0x00 ∷ 0x01 ∷ 0x07 ∷ 0x51 ∷ 0x00 ∷ 0x1E ∷ 0x60 ∷ 0x00 ∷ 0x08 ∷ 0x00 ∷ 0x00 ∷ 0x00 ∷ 0x00 ∷ 0x00 ∷ 0x00 ∷ 0x06 ∷ 0x07 ∷ 0x61 ∷ 0x00 ∷ 0x02 ∷ 0x06 ∷ 0x07 ∷ 0x61 ∷ 0x00 ∷ 0x00 ∷ 0x62 ∷ 0x00 ∷ 0x08 ∷ 0x00 ∷ 0x00 ∷ 0x00 ∷ 0x06 ∷ 0x18 ∷ 0x07 ∷ 0x07 ∷ 0x16 ∷ []) (3 ∷ 10 ∷ 11 ∷ 12 ∷ 13 ∷ 14 ∷ 15 ∷ 16 ∷ 17 ∷ 21 ∷ 22 ∷ 32 ∷ 35 ∷ [])
    -- operands that look like True and False
    ∷ places_of (0x50 ∷ 0x00 ∷ 0x0D ∷ 0x06 ∷ 0x18 ∷ 0x06 ∷ 0x19 ∷ 0x07 ∷ 0x00 ∷ 0x06 ∷ 0x07 ∷ 0x07 ∷ 0x1B ∷ 0x06 ∷ 0x07 ∷ 0x06 ∷ 0x51 ∷ 0x00 ∷ 0x16 ∷ 0x60 ∷ 0x00 ∷ 0x08 ∷ 0x00 ∷ 0x00 ∷ 0x00 ∷ 0x00 ∷ 0x00 ∷ 0x00 ∷ 0x00 ∷ 0x06 ∷ 0x62 ∷ 0x00 ∷ 0x08 ∷ 0x00 ∷ 0x01 ∷ 0x00 ∷ 0x07 ∷ 0x15 ∷ 0x06 ∷ 0x06 ∷ 0x16 ∷ []) (3 ∷ 11 ∷ 22 ∷ 23 ∷ 24 ∷ 25 ∷ 26 ∷ 27 ∷ 28 ∷ 29 ∷ 36 ∷ 39 ∷ [])
    ∷ []

pub literals_computed : map (λ (x : Placed). literals_of (read_image x.bytes)) literal_table ≡ map (λ (x : Placed). x.places) literal_table
unfolding read_image_of items
literals_computed = refl

-- a call with an output of 24 bytes
abbrev request : Bytes → Request
request t = record { code = code_size; table = table_size; session = session_size; output = 24; tree = t }

abbrev outcomes : List Bytes → List Given
outcomes trees = map (λ (x : Step). given x.outcome) (steps fresh (map request trees))

-- the places at each step: in the image, and in the session
pub record StepPlaces : Type 0 where
  pub image : List ℕ
  pub session : List ℕ

abbrev image_places : Outcome → List ℕ
image_places (Outcome.accepted m) = offsets 0 (image_mask m)
image_places (Outcome.refused r) = []

abbrev step_places : Step → StepPlaces
step_places x = record { image = image_places x.outcome; session = offsets 0 (session_mask x.session) }

-- 1; then "abcdef", whose image has no room; then the empty tree
abbrev pub first_series : List Bytes
first_series =
    (0x10 ∷ 0x00 ∷ 0x0E ∷ 0x11 ∷ 0x00 ∷ 0x0B ∷ 0x26 ∷ 0x00 ∷ 0x08 ∷ 0x00 ∷ 0x00 ∷ 0x00 ∷ 0x00 ∷ 0x00 ∷ 0x00 ∷ 0x00 ∷ 0x01 ∷ [])
    ∷ (0x10 ∷ 0x00 ∷ 0x0C ∷ 0x11 ∷ 0x00 ∷ 0x09 ∷ 0x28 ∷ 0x00 ∷ 0x06 ∷ 0x61 ∷ 0x62 ∷ 0x63 ∷ 0x64 ∷ 0x65 ∷ 0x66 ∷ [])
    ∷ (0x10 ∷ 0x00 ∷ 0x00 ∷ [])
    ∷ []

-- 2; then "ghijkl"; then the empty tree
abbrev pub second_series : List Bytes
second_series =
    (0x10 ∷ 0x00 ∷ 0x0E ∷ 0x11 ∷ 0x00 ∷ 0x0B ∷ 0x26 ∷ 0x00 ∷ 0x08 ∷ 0x00 ∷ 0x00 ∷ 0x00 ∷ 0x00 ∷ 0x00 ∷ 0x00 ∷ 0x00 ∷ 0x02 ∷ [])
    ∷ (0x10 ∷ 0x00 ∷ 0x0C ∷ 0x11 ∷ 0x00 ∷ 0x09 ∷ 0x28 ∷ 0x00 ∷ 0x06 ∷ 0x67 ∷ 0x68 ∷ 0x69 ∷ 0x6A ∷ 0x6B ∷ 0x6C ∷ [])
    ∷ (0x10 ∷ 0x00 ∷ 0x00 ∷ [])
    ∷ []

-- the shape of each
abbrev pub shapes_of_both : List Bytes
shapes_of_both =
    (0x10 ∷ 0x00 ∷ 0x0E ∷ 0x11 ∷ 0x00 ∷ 0x0B ∷ 0x26 ∷ 0x00 ∷ 0x08 ∷ 0x00 ∷ 0x00 ∷ 0x00 ∷ 0x00 ∷ 0x00 ∷ 0x00 ∷ 0x00 ∷ 0x00 ∷ [])
    ∷ (0x10 ∷ 0x00 ∷ 0x0C ∷ 0x11 ∷ 0x00 ∷ 0x09 ∷ 0x28 ∷ 0x00 ∷ 0x06 ∷ 0x00 ∷ 0x00 ∷ 0x00 ∷ 0x00 ∷ 0x00 ∷ 0x00 ∷ [])
    ∷ (0x10 ∷ 0x00 ∷ 0x00 ∷ [])
    ∷ []

pub series_alike : (map shape first_series ≡ shapes_of_both) × (map shape second_series ≡ shapes_of_both)
unfolding shape read_program read_stmt
series_alike = (refl, refl)

-- both series give
pub series_outcomes : (outcomes first_series ≡ (image (0x00 ∷ 0x00 ∷ 0x00 ∷ 0x02 ∷ []) (0x60 ∷ 0x00 ∷ 0x08 ∷ 0x00 ∷ 0x00 ∷ 0x00 ∷ 0x00 ∷ 0x00 ∷ 0x00 ∷ 0x00 ∷ 0x01 ∷ []) ∷ refused 15 0 ∷ image [] (0x60 ∷ 0x00 ∷ 0x08 ∷ 0x00 ∷ 0x00 ∷ 0x00 ∷ 0x00 ∷ 0x00 ∷ 0x00 ∷ 0x00 ∷ 0x01 ∷ []) ∷ [])) × (outcomes second_series ≡ (image (0x00 ∷ 0x00 ∷ 0x00 ∷ 0x02 ∷ []) (0x60 ∷ 0x00 ∷ 0x08 ∷ 0x00 ∷ 0x00 ∷ 0x00 ∷ 0x00 ∷ 0x00 ∷ 0x00 ∷ 0x00 ∷ 0x02 ∷ []) ∷ refused 15 0 ∷ image [] (0x60 ∷ 0x00 ∷ 0x08 ∷ 0x00 ∷ 0x00 ∷ 0x00 ∷ 0x00 ∷ 0x00 ∷ 0x00 ∷ 0x00 ∷ 0x02 ∷ []) ∷ []))
unfolding compile read_tree read_program read_stmt walk_stmts emit_beside add_constant
series_outcomes = (refl, refl)

-- where they may differ: the integer's eight bytes, in the session behind its words
pub series_places : map step_places (steps fresh (map request shapes_of_both)) ≡
    record { image = 13 ∷ 14 ∷ 15 ∷ 16 ∷ 17 ∷ 18 ∷ 19 ∷ 20 ∷ []; session = 54 ∷ 55 ∷ 56 ∷ 57 ∷ 58 ∷ 59 ∷ 60 ∷ 61 ∷ [] }
    ∷ record { image = []; session = 54 ∷ 55 ∷ 56 ∷ 57 ∷ 58 ∷ 59 ∷ 60 ∷ 61 ∷ [] }
    ∷ record { image = 9 ∷ 10 ∷ 11 ∷ 12 ∷ 13 ∷ 14 ∷ 15 ∷ 16 ∷ []; session = 54 ∷ 55 ∷ 56 ∷ 57 ∷ 58 ∷ 59 ∷ 60 ∷ 61 ∷ [] }
    ∷ []
unfolding compile read_tree read_program read_stmt walk_stmts emit_beside add_constant
series_places = refl

-- One fixed image for every tree meets condition 3 at every step: it is the tables of values that rule it out.
abbrev fixed : Image
fixed = record { code = []; pool = [] }

pub fixed-image_answers : {x y : Called} → x.answer ≡ Ok 6 → y.answer ≡ Ok 6 → take 6 x.lent.output ≡ image_bytes fixed → take 6 y.lent.output ≡ image_bytes fixed
    → Answers (Outcome.accepted fixed) x y
fixed-image_answers {x = x} {y = y} a b p q =
    Answers.accepted a b (subst (λ z. Agree (image_mask fixed) z (take 6 y.lent.output)) (sym p) (subst (λ z. Agree (image_mask fixed) (image_bytes fixed) z) (sym q)
    (Agree.same 0x50 (Agree.same 0 (Agree.same 0 (Agree.same 0x51 (Agree.same 0 (Agree.same 0 Agree.end))))))))
