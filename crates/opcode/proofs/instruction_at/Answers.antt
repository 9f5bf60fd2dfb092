-- `opcode::instruction_at` meets its contract: by the number of bytes.
use Rattle.std.proofs.Common.{◌+◌, ◌*◌, ap, ap₂, ◌∙◌, arith}
use Rattle.definition.specs.Basic.{byte_at}
use Rattle.definition.proofs.Instructions.{width_most}
use Rattle.opcode.proofs.Cut.{by_width, byte_in, cut_length}
use Rattle.opcode.proofs.instruction_at.Goals.{in-len2, in-len3, in-len4, in_default, in_default-2}
use Rattle.opcode.proofs.instruction_at.Goals as goal

pub returns : goal.returns
returns c =
    let b = c.args.code.now in
    let at = c.args.at in
    let size = c.args.size in
    let r = c.requires in
    let l = cut_length b at size r.0 in
    elim c.if-code-at-lt2.branch [
      | in-len2 w ↦ let m = w.in-len2.len_at_least in let n = w.in-len2.len_below in
          by_width b at 1 (omega (arith, r.1, l, m, n)) (ap (λ p. p.0) w.operand-is ∙ w.from.ensures ∙ byte_in b at size 1 _ (omega (arith, l, m))) (ap (λ p. p.1) w.operand-is)
      | in-len3 w ↦ let m = w.in-len3.len_at_least in let n = w.in-len3.len_below in
          by_width b at 2 (omega (arith, r.1, l, m, n)) (ap (λ p. p.0) w.operand-is ∙ w.from_be_bytes.ensures ∙ ap₂ (λ x y. x * 256 + y) (byte_in b at size 1 _ (omega (arith, l, m))) (byte_in b at size 2 _ (omega (arith, l, m)))) (ap (λ p. p.1) w.operand-is)
      | in-len4 w ↦ let m = w.in-len4.len_at_least in let n = w.in-len4.len_below in
          by_width b at 3 (omega (arith, r.1, l, m, n)) (ap (λ p. p.0) w.operand-is ∙ w.from_be_bytes-in-len4.ensures ∙ ap₂ (λ x y. x * 256 + y) (byte_in b at size 1 _ (omega (arith, l, m))) (byte_in b at size 2 _ (omega (arith, l, m)))) (ap (λ p. p.1) w.operand-is ∙ byte_in b at size 3 _ (omega (arith, l, m)))
      | in_default w ↦ let n = w.in_default.len_below in
          by_width b at 0 (omega (arith, r.1, l, n)) (ap (λ p. p.0) w.operand-is) (ap (λ p. p.1) w.operand-is)
      | in_default-2 w ↦ let m = w.in_default.len_at_least in let n = width_most (byte_at b at) in
          absurd (omega (arith, r.1, l, m, n))
    ]
