-- Items are their parts.
use Rattle.std.proofs.Common.{◌≡◌, ℕ, zero, suc, ◌+◌, ◌-◌, ◌*◌, ◌<◌, ◌≤◌, List, [], ◌∷◌, ◌++◌, length, get_or, take, drop, refl, ap, ◌∙◌, subst, arith, sum_by, take_all, length-drop}
use Rattle.std.proofs.lemmas.List.Sums.{sum_by-cons}
use borrow.Rule.Slice.PartMut.{put_mid, mid_of}
use Rattle.definition.specs.Basic.{Bytes}
use Rattle.definition.specs.Tag.{tag_params}
use Rattle.load.specs.Draw.{Drawn, drawn, bind, draw, Part, needs, times, row, field_of}
use Rattle.definition.specs.Node.{node, ◌then◌}
use Rattle.load.specs.Size.{size}
use Rattle.load.specs.Load.{let_name, name_field, parameters, pairs, definition, definitions, a_statement}
use Rattle.load.specs.Items.{part_of, parts, need_of}
use Rattle.load.specs.Writing.{Wrote, WroteAll}
use Rattle.load.specs.declared.row.Item.{Item}
use Rattle.load.specs.declared.row.Item.TheVariants.{PrefixOperator, InfixOperator, Name, LetName, FunctionName, Parameters, Integer, Definition, Expression, Statement, Yielding, Block, Branch}
use Rattle.load.proofs.Laws.{wrote_as, none_wrote}
use Rattle.load.proofs.Cost.{cost, costs}
use Rattle.load.proofs.InRow.{first_wrote}

-- an item needs what its part does, at each level
part-need : (below : ℕ) (x : Item) → need_of x ≡ (part_of below x).need
part-need below PrefixOperator = refl
part-need below InfixOperator = refl
part-need below (Name letter) = refl
part-need below LetName = refl
part-need below FunctionName = refl
part-need below Parameters = refl
part-need below Integer = refl
part-need below (Definition letter) = refl
part-need below Expression = refl
part-need below Statement = refl
part-need below Yielding = refl
part-need below Block = refl
part-need below Branch = refl

parts-need : (below : ℕ) (xs : List Item) → sum_by need_of xs ≡ needs (parts below xs)
parts-need below [] = refl
parts-need below (x ∷ xs) = sum_by-cons need_of x xs ∙ (λ i. part-need below x i + parts-need below xs i)

-- no items
pub no_items : (below : ℕ) (xs : List Item) (m s : ℕ) (b : Bytes) → length xs < 1 → WroteAll (row (parts below xs) m s) 0 s b b
no_items below [] m s b h = none_wrote s b
no_items below (x ∷ xs) m s b h = let z : ⊥ = omega arith in absurd z

-- those behind the first
pub behind_first : (xs : List Item) → take (length xs - 1) (drop 1 xs) ≡ drop 1 xs
behind_first xs = take_all (length xs - 1) (drop 1 xs) (omega (arith, length-drop 1 xs))

-- an item, and those behind it
pub items-wrote : (below : ℕ) (xs rest : List Item) (d : Item) (b : Bytes) (s k : ℕ) {n t m u : ℕ} {part mid inner after : Bytes} → 1 ≤ length xs → rest ≡ drop 1 xs → k ≡ length b - sum_by need_of rest
    → Wrote ((part_of below (get_or xs 0 d)).make (length (mid_of 0 k b)) s) n t (mid_of 0 k b) part → mid ≡ put_mid 0 k b part
    → WroteAll (row (parts below rest) (length (mid_of n (length mid - n) mid)) t) m u (mid_of n (length mid - n) mid) inner → after ≡ put_mid n (length mid - n) mid inner
    → WroteAll (row (parts below xs) (length b) s) (n + m) u b after
items-wrote below [] rest d b s k h f e w g v q = let z : ⊥ = omega arith in absurd z
items-wrote below (x ∷ xs) rest d b s k {n} {m = m} {u = u} {after = after} h f e w g v q =
    subst (λ rest. WroteAll (row (part_of below x ∷ parts below rest) (length b) s) (n + m) u b after) f
    (first_wrote (part_of below x) (parts below rest) b s k (e ∙ ap (λ n. length b - n) (parts-need below rest)) w g v q)

-- so many of one item
abbrev pub copies : ℕ → Item → List Item
copies zero x = []
copies (suc n) x = x ∷ copies n x

pub taken : (below k n : ℕ) (x : Item) → n ≤ k → parts below (take n (copies k x)) ≡ times n (part_of below x)
taken below k zero x h = refl
taken below zero (suc n) x h = let z : ⊥ = omega arith in absurd z
taken below (suc k) (suc n) x h = ap (λ ps. part_of below x ∷ ps) (taken below k n x (omega arith))

-- what they need and cost
pub taken_need : (k n : ℕ) (x : Item) → n ≤ k → sum_by need_of (take n (copies k x)) ≡ n * need_of x
taken_need k zero x h = omega arith
taken_need zero (suc n) x h = let z : ⊥ = omega arith in absurd z
taken_need (suc k) (suc n) x h = omega (arith, sum_by-cons need_of x (take n (copies k x)), taken_need k n x (omega arith))

pub taken_cost : (k n : ℕ) (x : Item) → n ≤ k → costs (take n (copies k x)) ≡ n * (cost x + 7)
taken_cost k zero x h = omega arith
taken_cost zero (suc n) x h = let z : ⊥ = omega arith in absurd z
taken_cost (suc k) (suc n) x h = omega (arith, taken_cost k n x (omega arith))

-- a field of so many
pub taken-wrote : (below k n : ℕ) (x : Item) (tag : ℕ) {ps : List Part} (m s : ℕ) {l t : ℕ} {b after : Bytes} → n ≤ k → times n (part_of below x) ≡ ps → Wrote (field_of tag (parts below (take n (copies k x))) m s) l t b after
    → Wrote (field_of tag ps m s) l t b after
taken-wrote below k n x tag m s h e = wrote_as (ap (λ ps. field_of tag ps m s) (taken below k n x h ∙ e))

-- what is called, and its arguments; keys with their values
pub call_times : (k : ℕ) (e : Part) → times (1 + k) e ≡ e ∷ times k e
call_times k e = let p : 1 + k ≡ suc k = omega arith in ap (λ n. times n e) p

pub pairs_times : (k : ℕ) (e : Part) → times (2 * k) e ≡ pairs k e
pairs_times zero e = refl
pairs_times (suc k) e =
    let p : 2 * suc k ≡ suc (suc (2 * k)) = omega arith in
    ap (λ n. times n e) p ∙ ap (λ ps. e ∷ e ∷ ps) (pairs_times k e)

-- the definitions and statements of a Program
pub with_c : (k d : ℕ) → 1 ≤ k → d < 8 → parts 10 (take (3 + (1 + d)) (Definition 0x61 ∷ Definition 0x62 ∷ Definition 0x63 ∷ copies 8 Statement)) ≡ definitions k ++ times (suc d) (a_statement 10)
with_c zero d h l = let z : ⊥ = omega arith in absurd z
with_c (suc k) d h l =
    let e : 3 + (1 + d) ≡ suc (suc (suc (suc d))) = omega arith in
    ap (λ n. parts 10 (take n (Definition 0x61 ∷ Definition 0x62 ∷ Definition 0x63 ∷ copies 8 Statement))) e
    ∙ ap (λ ps. definition 0 ∷ definition 1 ∷ definition 2 ∷ ps) (taken 10 8 (suc d) Statement (omega arith))

pub without_c : (k d : ℕ) → k ≡ 0 → d < 8 → parts 10 (take (2 + (1 + d)) (Definition 0x61 ∷ Definition 0x62 ∷ copies 8 Statement)) ≡ definitions k ++ times (suc d) (a_statement 10)
without_c zero d h l =
    let e : 2 + (1 + d) ≡ suc (suc (suc d)) = omega arith in
    ap (λ n. parts 10 (take n (Definition 0x61 ∷ Definition 0x62 ∷ copies 8 Statement))) e ∙ ap (λ ps. definition 0 ∷ definition 1 ∷ ps) (taken 10 8 (suc d) Statement (omega arith))
without_c (suc k) d h l = let z : ⊥ = omega arith in absurd z

-- names in a row are parameters
pub names_row : (n m s : ℕ) → row (times n let_name) m s ≡ parameters n s
names_row zero m s = refl
names_row (suc n) m s =
    let d = draw 3 s in
    ap (λ (xs : Drawn _). drawn (name_field d.value then xs.value) xs.state) (names_row n (m - size (name_field d.value)) d.state)

-- a field of so many names is a function's parameters
pub parameters-wrote : (below n m s : ℕ) {l t : ℕ} {b after : Bytes} → n ≤ 2 → Wrote (field_of tag_params (parts below (take n (copies 2 LetName))) m s) l t b after
    → Wrote (bind (parameters n s) (λ xs. drawn (node tag_params xs))) l t b after
parameters-wrote below n m s h =
    wrote_as (ap (λ ps. field_of tag_params ps m s) (taken below 2 n LetName h) ∙ ap (λ xs. bind xs (λ xs. drawn (node tag_params xs))) (names_row n (m - 3) s))
