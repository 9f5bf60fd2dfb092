-- `put_program` meets its contract: two draws, then the items.
use Rattle.std.proofs.Common.{suc, ◌++◌, arith}
use Rattle.definition.specs.Tag.{tag_program}
use Rattle.load.specs.Draw.{bind, draw, times, field_of}
use Rattle.load.specs.Load.{tree_most, definitions, a_statement}
use Rattle.load.proofs.Laws.{draw-wrote, wrote_as}
use Rattle.load.proofs.Items.{with_c, without_c}
use Rattle.load.proofs.put_program.Goals as goal
use Rattle.load.proofs.put_program.Goals.{then-with_c, else-with_c}

pub returns : goal.returns
returns c =
    let k = c.draw-with_c.result in
    let n = c.draw-n.result in
    draw-wrote (λ k s. bind (draw 8 s) (λ n. field_of tag_program (definitions k ++ times (suc n) (a_statement 10)) tree_most)) 4 _ c.draw-with_c.ensures.is c.draw-with_c.ensures.state
    (draw-wrote (λ n. field_of tag_program (definitions k ++ times (suc n) (a_statement 10)) tree_most) 8 _ c.draw-n.ensures.is c.draw-n.ensures.state
    (elim c.if-with_c.branch [
      | then-with_c w ↦ wrote_as (λ i. field_of tag_program (with_c k n (omega (arith, w.if-with_c.true)) c.draw-n.ensures.small i) (c.requires i) c.draw-n.new.self.state) (rw w.row-is at c.put_node.ensures)
      | else-with_c w ↦ wrote_as (λ i. field_of tag_program (without_c k n (omega (arith, w.if-with_c.false)) c.draw-n.ensures.small i) (c.requires i) c.draw-n.new.self.state) (rw w.row-is at c.put_node.ensures)
    ]))
