-- `bytecode::code::check_code` meets its contract: code that decodes goes up to the end; else one instruction a turn, and what is left decides.
use Rattle.std.proofs.Common.{◌≡◌, ◌<◌, arith, sym, subst, ◌∙◌}
use Rattle.std.specs.Prelude.{None}
use Rattle.definition.specs.Basic.{byte_at}
use Rattle.opcode.specs.Decoding.{size_at}
use Rattle.opcode.proofs.EachInstruction.{over_new, starts_at, over_again, read_at, sized, none_stands}
use Rattle.bytecode.proofs.Backward.{decoded_whole}
use Rattle.bytecode.proofs.Instructions.{CodeLoop, code-begins, code_ends, code_wrong, code_again}
use Rattle.bytecode.proofs.code.check_code.Goals as goal

pub returns-then-decodes : goal.returns-then-decodes
returns-then-decodes c =
    let start = c in
    decoded_whole (byte_at start.args.code.span.bytes.now) start.args.code.span.end start.args.code.span.start (sym c.decodes.ensures ∙ c.if-decodes.true)

pub loop-next-init : goal.loop-next-init
loop-next-init c =
    let a = c.args in
    let n = c.instructions-next-items.ensures in
    let e = c.into_iter-next-iterator.ensures.into_iter_gives in
    record { over = over_new e n.code n.end; so_far = code-begins (byte_at a.code.span.bytes.now) a.code.span.start a.code.span.end c.args.code.within.order; here = starts_at e n.at }

pub loop-next-preserved : goal.loop-next-preserved
loop-next-preserved c =
    let a = c.args in
    let l = c.loop-next in
    let n = c.in-Some.ensures.steps in
    let r = read_at l.invariant.over n in
    let z = sized r c.args.code.within.within in
    let p = subst (CodeLoop (byte_at a.code.span.bytes.now) a.code.span.start a.code.span.end) (l.invariant.here ∙ sym n.here) l.invariant.so_far in
    record {
      over = over_again l.invariant.over n;
      so_far = subst (CodeLoop (byte_at a.code.span.bytes.now) a.code.span.start a.code.span.end) (sym z.upto) (code_again (byte_at a.code.span.bytes.now) a.code.span.start a.code.span.end p r.before z.is);
      here = sym n.behind;
    }

pub returns-then-reached-code : goal.returns-then-reached-code
returns-then-reached-code c =
    let a = c.args in
    let l = c.loop-next in
    let h = l.invariant.here in
    let k : l.next-iterator.at < a.code.span.end = omega (arith, h, c.if-reached-code.true) in
    let e = subst (λ n. None ≡ size_at (byte_at a.code.span.bytes.now) n a.code.span.end) (sym h) (none_stands l.invariant.over c.in-None.ensures.steps c.args.code.within.within k) in
    code_wrong (byte_at a.code.span.bytes.now) a.code.span.start a.code.span.end l.invariant.so_far c.if-reached-code.true e

pub returns : goal.returns
returns c = let a = c.args in code_ends (byte_at a.code.span.bytes.now) a.code.span.start a.code.span.end c.loop-next.invariant.so_far c.if-reached-code.false
