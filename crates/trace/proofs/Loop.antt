-- The loop over the nodes of a row.
use Prim.Native.Nat.{ℕ, ◌+◌, ◌-◌}
use mathlib.Core.Path.{◌≡◌, refl, sym, subst, ◌∙◌}
use Rattle.definition.specs.Basic.{Bytes}
use Rattle.field.specs.Layout.{len, Whole}
use Rattle.field.specs.Fields.{FieldsTo, Begins, NextIs, Ended}
use Rattle.field.specs.declared.fields.Fields.{Fields}
use Rattle.field.proofs.EachField.{Over, over_new, starts_at, over_again, is_before, is_behind, is_over}
use Rattle.tree.specs.Reads.{Some}
use Rattle.tree.proofs.Rows.{row-fields, chain_to}
use Rattle.definition.specs.Walk.{Go}
use Rattle.records.specs.Naming as naming
use Rattle.trace.specs.Pass.{Node, walk_node, walk_nodes, ReadsNode, ReadsNodes, Passes}
use Rattle.trace.specs.Namer.{slices, Stands, Names}
use Rattle.trace.specs.declared.pass.Namer.{Namer}
use Rattle.trace.proofs.Nodes.{some_whole}
use Rattle.trace.proofs.Sequence.{Turn, turn_holds, turn_again, turn_ends}

-- the nodes of a row can be gone over
pub nodes_to : {tree : Bytes} {from end : ℕ} → Some (ReadsNodes tree from end) → FieldsTo tree end from
nodes_to {tree} {from} {end} (xs, r) = chain_to tree from end _ (row-fields tree whole_node from end xs r.row)
  where
    whole_node : (at : ℕ) (x : Node) → ReadsNode tree at x → Whole tree at
    whole_node at x r = some_whole (x, r)

-- in a turn: the iterator is over the row, and what was passed stands before its offset
pub record LoopTurn (tree before : Bytes) (level from end : ℕ) (z : Namer) (s : Fields) (y : Namer) : Type 0 where
  pub over : Over tree end s
  pub turn : Turn tree before level from end z.table.now z.log.now z.count s.at y.table.now y.log.now y.count
  pub same : slices y ≡ slices z

module _ {tree before : Bytes} {level from end : ℕ} {z : Namer} where
  pub loop_holds : {s i : Fields} → s ≡ i → Begins tree from end i → Some (ReadsNodes tree from end) → Stands tree before level z (end - from) → LoopTurn tree before level from end z s z
  loop_holds e g i h =
      record {
        over = over_new e g;
        turn = subst (λ at. Turn tree before level from end z.table.now z.log.now z.count at z.table.now z.log.now z.count) (starts_at e g) (turn_holds i h);
        same = refl;
      }

  module _ {s : Fields} {y : Namer} (x : LoopTurn tree before level from end z s y) where
    module _ {at : ℕ} {u : Fields} (k : NextIs s at u) where
      -- at the field that the iterator gave
      pub turn_at : Turn tree before level from end z.table.now z.log.now z.count at y.table.now y.log.now y.count
      turn_at = subst (λ at. Turn tree before level from end z.table.now z.log.now z.count at y.table.now y.log.now y.count) (sym k.here) x.turn

      -- behind it
      pub loop_again : {y' : Namer} → Names tree before level (ReadsNode tree at) walk_node (3 + len tree at) y y' → LoopTurn tree before level from end z u y'
      loop_again d = record { over = over_again x.over k; turn = turn_again (is_before x.over k) (is_behind x.over k) d.table d.log turn_at d.passes; same = d.same ∙ x.same }

    -- after the last turn
    pub loop_ends : Ended s → Names tree before level (ReadsNodes tree from end) walk_nodes (end - from) z y
    loop_ends e = record { passes = turn_ends (is_over x.over e) x.turn; table = x.turn.table; log = x.turn.log; same = x.same }

-- the same, of what stands there by another name
pub named_as : {A B : Type 0} {R : A → Type 0} {Q : B → Type 0} {k : A → Go naming.Names} {l : B → Go naming.Names} {tree before : Bytes} {level inner size whole : ℕ} {s s' : Namer}
    → (Passes tree before inner R k size s.table.now s'.table.now s.log.now s'.log.now s.count s'.count → Passes tree before level Q l whole s.table.now s'.table.now s.log.now s'.log.now s.count s'.count)
    → Names tree before inner R k size s s' → Names tree before level Q l whole s s'
named_as f d = record { passes = f d.passes; table = d.table; log = d.log; same = d.same }
