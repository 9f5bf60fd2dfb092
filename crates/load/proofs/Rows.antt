-- What was drawn and written is what the list of choices says.
use Rattle.std.proofs.Common.{◌≡◌, ℕ, suc, ◌+◌, ◌-◌, ◌≤◌, [], ◌∷◌, ◌++◌, List, length, get_or, sym, ap, ◌∙◌, subst, arith}
use mathlib.Core.Logic.{◌⊎◌, inl, inr}
use lib.Seq.{sets}
use borrow.Rule.Slice.PartMut.{put_mid, mid_of}
use Rattle.definition.specs.Basic.{Bytes}
use Rattle.definition.specs.Tag.{tag_block, tag_expr_stmt}
use Rattle.session.specs.Write.{heading}
use Rattle.definition.specs.Node.{node}
use Rattle.load.specs.Draw.{drawn, bind, draw, Part, times, row, field_of}
use Rattle.load.specs.Load.{StatementRow, leaves, leaf_of, identifier, row_below, statement_of, block_of, choices, statement_choices, expression, statement, yielding, block, branch, an_expression, a_statement, a_yielding}
use Rattle.load.specs.Writing.{Wrote, WroteAll}
use Rattle.load.specs.Items.{part_of}
use Rattle.load.specs.declared.row.Item.{Item}
use Rattle.load.specs.declared.row.Item.TheVariants.{Statement, Yielding, Block, Branch}
use Rattle.load.proofs.Laws.{wrote_as, draw-wrote, length_left, node_wrote}
use Rattle.load.proofs.Trees.{row_at, statement_row_at}

-- a field of a row that was written behind the place of its head
pub field-wrote : (tag : ℕ) (ps : List Part) (b : Bytes) (s : ℕ) {n t : ℕ} {inner mid after : Bytes} → 3 ≤ length b
    → WroteAll (row ps (length (mid_of 3 (length b - 3) b)) s) n t (mid_of 3 (length b - 3) b) inner → mid ≡ put_mid 3 (length b - 3) b inner → after ≡ sets mid 0 (heading tag n)
    → Wrote (field_of tag ps (length b) s) (3 + n) t b after
field-wrote tag ps b s h w q p = wrote_as (ap (λ n. bind (row ps n s) (λ xs. drawn (node tag xs))) (length_left 3 b h)) (node_wrote tag b (length b - 3) (omega arith) w q p)

-- a level below, and those below it
above : (below : ℕ) → 1 ≤ below → suc (below - 1) ≡ below
above below h = omega arith

-- the levels below: none, or one and more
pub expression-low : (below m state : ℕ) {k s n t : ℕ} {b after : Bytes} → below ≡ 0 → k ≡ (draw 4 state).value → s ≡ (draw 4 state).state → Wrote (leaf_of (get_or leaves k identifier) s) n t b after
    → Wrote (expression below m state) n t b after
unfolding expression
expression-low below m state {n = n} {t = t} {b = b} {after = a} z q e w = subst (λ d. Wrote (expression d m state) n t b a) (sym z) (draw-wrote (λ k. leaf_of (get_or leaves k identifier)) 4 state q e w)

pub expression-high : (below m state : ℕ) {c k s n t : ℕ} {b after : Bytes} → 1 ≤ below → c ≡ choices below m → k ≡ (draw c state).value → s ≡ (draw c state).state
    → Wrote (row_below (below - 1) (row_at k) m s) n t b after → Wrote (expression below m state) n t b after
unfolding expression
expression-high below m state {n = n} {t = t} {b = b} {after = a} h p q e w =
    let d = below - 1 in
    let g = p ∙ ap (λ d. choices d m) (sym (above below h)) in
    subst (λ d. Wrote (expression d m state) n t b a) (above below h)
    (draw-wrote (λ k. row_below d (row_at k) m) (choices (suc d) m) state (q ∙ ap (λ c. (draw c state).value) g) e w)

pub statement-high : (below m state : ℕ) {c k s n t : ℕ} {r : StatementRow} {b after : Bytes} → 1 ≤ below → c ≡ statement_choices below m → k ≡ (draw c state).value → s ≡ (draw c state).state → statement_row_at k ≡ r
    → Wrote (statement_of r (an_expression (below - 1)) (a_statement (below - 1)) m s) n t b after → Wrote (statement below m state) n t b after
unfolding expression
statement-high below m state {s = s} {n = n} {t = t} {b = b} {after = a} h p q e f w =
    let d = below - 1 in
    let g = p ∙ ap (λ d. statement_choices d m) (sym (above below h)) in
    subst (λ d. Wrote (statement d m state) n t b a) (above below h)
    (draw-wrote (λ k. statement_of (statement_row_at k) (an_expression d) (a_statement d) m) (statement_choices (suc d) m) state (q ∙ ap (λ c. (draw c state).value) g) e
    (wrote_as (ap (λ r. statement_of r (an_expression d) (a_statement d) m s) (sym f)) w))

pub yielding-high : (below m s : ℕ) {n t : ℕ} {b after : Bytes} → 1 ≤ below → Wrote (field_of tag_expr_stmt (an_expression (below - 1) ∷ []) m s) n t b after → Wrote (yielding below m s) n t b after
unfolding expression
yielding-high below m s {n = n} {t = t} {b = b} {after = a} h w = subst (λ d. Wrote (yielding d m s) n t b a) (above below h) w

-- the parts that are a Block of no statements where no level is below them
pub empty_block : {i : Item} → (i ≡ Statement) ⊎ ((i ≡ Yielding) ⊎ ((i ≡ Block) ⊎ (i ≡ Branch))) → (m s : ℕ) → field_of tag_block [] m s ≡ (part_of 0 i).make m s
unfolding expression
empty_block (inl e) m s = ap (λ i. (part_of 0 i).make m s) (sym e)
empty_block (inr (inl e)) m s = ap (λ i. (part_of 0 i).make m s) (sym e)
empty_block (inr (inr (inl e))) m s = ap (λ i. (part_of 0 i).make m s) (sym e)
empty_block (inr (inr (inr e))) m s = ap (λ i. (part_of 0 i).make m s) (sym e)

-- a Block with a level below
pub block_is : (below m s : ℕ) → 1 ≤ below → block_of (a_statement (below - 1)) m s ≡ block below m s
unfolding expression
block_is below m s h = ap (λ d. block d m s) (above below h)

-- the parts of a branch
abbrev pub branch_parts : ℕ → ℕ → List Part
branch_parts below k = times k (a_statement below) ++ (a_yielding below ∷ [])

pub branch-high : (below m state : ℕ) {k s n t : ℕ} {b after : Bytes} → 1 ≤ below → k ≡ (draw 2 state).value → s ≡ (draw 2 state).state → Wrote (field_of tag_block (branch_parts (below - 1) k) m s) n t b after
    → Wrote (branch below m state) n t b after
unfolding expression
branch-high below m state {n = n} {t = t} {b = b} {after = a} h q e w =
    subst (λ d. Wrote (branch d m state) n t b a) (above below h) (draw-wrote (λ k. field_of tag_block (branch_parts (below - 1) k) m) 2 state q e w)
