-- `chin::row::Turning::turn_code` meets its contract: one instruction a turn; what is left decides.
use Rattle.std.proofs.Common.{◌≡◌, ◌-◌, ◌∙◌, arith, sym, subst}
use Rattle.definition.proofs.Basic.{passed_on}
use Rattle.opcode.proofs.EachInstruction.{over_again, read_at, sized, all_stand}
use Rattle.chin.specs.Rows.{jump_of, TurnsInstr}
use Rattle.chin.proofs.Chunks.{CodeLoop, code_ends, code_there, code_stops, code_again}
use Rattle.chin.proofs.Lent.{keeps_on, turned_there}
use Rattle.chin.proofs.row.Turning.turn_code.Goals as goal

pub returns-in_err-turn_instruction-clause-turns : goal.returns-in_err-turn_instruction-clause-turns
returns-in_err-turn_instruction-clause-turns c =
    let a = c.args in
    let s = a.self.now in
    let b = s.image.now in
    let j = jump_of s.from in
    let l = c.loop-at in
    let n = c.in-Some.ensures.steps in
    let r = read_at l.invariant.over n in
    let z = sized r c.requires.is.within in
    let p = subst (λ at. CodeLoop j b a.start a.end s.output.now at l.self.output.now) (sym n.here) l.invariant.so_far in
    let e : c.in-Some.next - c.in-Some.at ≡ z.long = omega (arith, z.upto) in
    let turn = c.turn_instruction in
    let t = subst (λ n. TurnsInstr j b a.start c.in-Some.at n l.self.output.now turn.new.self.output.now turn.result) e (turned_there l.invariant.lent turn.ensures.turns) in
    rw (passed_on c.from_residual.ensures.1)
    (λ code is. code_stops j b a.start a.end is p r.before z.is
    (subst (λ r. TurnsInstr j b a.start c.in-Some.at z.long l.self.output.now turn.new.self.output.now r) c.in_err-turn_instruction.was t))

pub loop-at-preserved : goal.loop-at-preserved
loop-at-preserved c =
    let a = c.args in
    let s = a.self.now in
    let b = s.image.now in
    let j = jump_of s.from in
    let l = c.loop-at in
    let n = c.in-Some.ensures.steps in
    let r = read_at l.invariant.over n in
    let z = sized r c.requires.is.within in
    let p = subst (λ at. CodeLoop j b a.start a.end s.output.now at l.self.output.now) (sym n.here) l.invariant.so_far in
    let e : c.in-Some.next - c.in-Some.at ≡ z.long = omega (arith, z.upto) in
    let turn = c.turn_instruction in
    let t = subst (λ n. TurnsInstr j b a.start c.in-Some.at n l.self.output.now turn.new.self.output.now turn.result) e (turned_there l.invariant.lent turn.ensures.turns) in
    let q = code_again j b a.start a.end c.requires.is p r.before z.is turn.ensures.lent.output (subst (λ r. TurnsInstr j b a.start c.in-Some.at z.long l.self.output.now turn.new.self.output.now r) c.in_ok-turn_instruction.was t) in
    record {
      over = over_again l.invariant.over n;
      so_far = subst (λ at. CodeLoop j b a.start a.end s.output.now at turn.new.self.output.now) (sym z.upto ∙ sym n.behind) q;
      lent = keeps_on l.invariant.lent turn.ensures.lent;
    }

pub returns : goal.returns
returns c =
    let a = c.args in
    let s = a.self.now in
    let b = s.image.now in
    let l = c.loop-at in
    let e = all_stand l.invariant.over c.in-None.ensures.steps c.requires.is.within (λ h t. code_there (jump_of s.from) b a.start a.end c.requires.is l.invariant.so_far h t) in
    record { turns = λ code is. code_ends (jump_of s.from) b a.start a.end is l.invariant.so_far e; lent = l.invariant.lent }
