-- `opcode::encode` meets its contract: its bytes are output_answer at the start of the output, where they fit.
use mathlib.Core.Path.{sym, ◌∙◌}
use native.Mathlib.Omega.{arith}
use Rattle.opcode.specs.Decoding.{instr_of}
use Rattle.opcode.proofs.Encoding.{ready, encodes, encodes_short}
use Rattle.opcode.proofs.encode.Goals as goal

pub returns-then-out-w : goal.returns-then-out-w
returns-then-out-w c =
    let facts = encodes_short (instr_of c.args.i) c.wide-w.result c.args.out.now (sym c.is_valid.ensures ∙ c.if-not-is_valid.false) (c.wide-w.ensures.is ∙ c.width.ensures) (omega arith) in
    record { answers = c.refused-then-out-w.ensures ∙ facts.0; writes = facts.1 }

pub put-requires : goal.put-requires
put-requires c = ready (instr_of c.args.i) c.wide-w.result c.args.out.now (sym c.is_valid.ensures ∙ c.if-not-is_valid.false) (c.wide-w.ensures.is ∙ c.width.ensures) (omega arith)

pub returns : goal.returns
returns c =
    let facts = encodes (instr_of c.args.i) c.wide-w.result c.args.out.now (sym c.is_valid.ensures ∙ c.if-not-is_valid.false) (c.wide-w.ensures.is ∙ c.width.ensures) (omega arith) in
    record { answers = facts.0; writes = c.put.ensures ∙ facts.1 }
