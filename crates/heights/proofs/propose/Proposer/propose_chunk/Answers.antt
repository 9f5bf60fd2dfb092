-- `propose_chunk` meets its contract: an instruction a turn.
use Rattle.std.proofs.Common.{◌∙◌, set, refl, sym, length-set}
use Rattle.opcode.proofs.EachInstruction.{over_again, read_at, all_read}
use Rattle.heights.proofs.Flows.{flow_at, flow_ends, flow_decodes, flow_again}
use Rattle.heights.proofs.Lent.{lends_on}
use Rattle.heights.proofs.propose.Proposer.propose_chunk.Goals as goal

pub loop-at-preserved : goal.loop-at-preserved
loop-at-preserved c =
    let a = c.args in
    let s = a.self.now in
    let l = c.loop-at in
    let n = c.in-Some.ensures.steps in
    let r = read_at l.invariant.over n in
    let m = set s.marks.now a.code.start 2 in
    let p = flow_at l.invariant.so_far (sym n.here) refl in
    let one = c.propose_one in
    let t = one.new.self in
    let q = flow_again a.code.bytes.now a.code.start a.code.end s.count c.requires p r.before refl r.read (length-set s.marks.now a.code.start 2) one.ensures.stays one.ensures.lent.heights one.ensures.lent.marks in
    record {
      over = over_again l.invariant.over n;
      so_far = flow_at q (sym n.behind) (sym one.ensures.counts);
      lent = lends_on l.invariant.lent one.ensures.lent;
    }

pub returns : goal.returns
returns c =
    let a = c.args in
    let s = a.self.now in
    let l = c.loop-at in
    let e = all_read l.invariant.over c.in-None.ensures.steps (λ h q t. flow_decodes a.code.bytes.now a.code.start a.code.end s.count c.requires l.invariant.so_far h refl t) in
    record {
      proposes = flow_ends a.code.bytes.now a.code.start a.code.end s.count c.requires l.invariant.so_far e;
      lent = record { heights = l.invariant.lent.heights; marks = l.invariant.lent.marks ∙ length-set s.marks.now a.code.start 2; same = l.invariant.lent.same };
    }
