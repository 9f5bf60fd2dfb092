-- `chin::row::Turning::turn_instruction` meets its contract: by the number of operand bytes, then by the operand.
use Prim.Native.Nat.{◌+◌, ◌-◌}
use mathlib.Core.Path.{◌∙◌, ap, sym, subst}
use Rattle.definition.specs.Basic.{byte_at}
use Rattle.std.specs.Prelude.{Ok}
use Rattle.chin.specs.Rows.{jump_of, wide_operand, TurnsInstr}
use Rattle.chin.proofs.Instruction.{turns_wide}
use Rattle.chin.proofs.row.Turning.turn_instruction.Goals as goal

pub returns-in-Some : goal.returns-in-Some
returns-in-Some c =
    let a = c.args in
    let b = a.self.now.image.now in
    let jump = jump_of a.self.now.from in
    let end = a.at - a.start + a.size in
    let is = c.other_operand.ensures ∙ ap (wide_operand jump (byte_at b a.at) end) c.word-operand.ensures.is in
    let put = c.put_operand.ensures in
    let turned = turns_wide jump b a.start a.at a.size c.requires c.if-size-lt3.false (sym is ∙ c.in-Some.is) a.self.now.output.now in
    record { turns = subst (λ z. TurnsInstr jump b a.start a.at a.size a.self.now.output.now z (Ok tt)) (sym put.stores) turned; lent = put.lent }
