-- `listing::measure::Piece::measure_code` meets its contract: one instruction a turn; what is left decides.
use mathlib.Core.Path.{◌∙◌, sym}
use native.Mathlib.Omega.{arith}
use Rattle.listing.proofs.Measures.{code-begins, code_ends, code_wrong, code-instr, code_again}
use Rattle.listing.proofs.measure.Piece.measure_code.Goals as goal

pub loop-at-init : goal.loop-at-init
loop-at-init c = code-begins c.args.self.part.span.bytes.now c.args.self.part.span.start c.args.self.part.span.end c.args.self.part.within.order

pub returns-in-None-clause-is : goal.returns-in-None-clause-is
returns-in-None-clause-is c =
    let a = c.args.self in
    code_wrong a.part.span.bytes.now a.part.span.start a.part.span.end c.loop-at.invariant c.loop-at-test.true (sym c.in-None.is ∙ c.size_at.ensures)

pub line_length-text-requires : goal.line_length-text-requires
line_length-text-requires c =
    let a = c.args.self in
    code-instr a.part.span.bytes.now a.part.span.start a.part.span.end c.loop-at.invariant c.loop-at-test.true (sym c.in-Some.is ∙ c.size_at.ensures) c.args.self.part.within.within

pub loop-at-preserved : goal.loop-at-preserved
loop-at-preserved c =
    let a = c.args.self in
    code_again a.part.span.bytes.now a.part.span.start a.part.span.end c.loop-at.invariant c.loop-at-test.true (sym c.in-Some.is ∙ c.size_at.ensures) c.line_length-text.ensures.is c.line_length-text.ensures.small

pub returns : goal.returns
returns c =
    let a = c.args.self in
    record {
      is = code_ends a.part.span.bytes.now a.part.span.start a.part.span.end c.loop-at.invariant c.loop-at-test.false;
      small = omega (arith, c.loop-at.invariant.short, c.loop-at.invariant.order);
    }
