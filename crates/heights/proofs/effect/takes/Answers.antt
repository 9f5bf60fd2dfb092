-- `heights::effect::takes` meets its contract: the table, and what it takes besides.
use Rattle.std.proofs.Common.{◌≡◌, ap, get_or, arith, rules}
use Rattle.definition.specs.Effect.{taken, besides}
use Rattle.opcode.specs.Decoding.{instr_of}
use Rattle.heights.proofs.Tables.{besides_nothing, effects, taken_first}
use Rattle.heights.proofs.effect.takes.Goals as goal

pub returns-in_default-2 : goal.returns-in_default-2
returns-in_default-2 c =
    let i = c.args.i in
    let n = besides_nothing i.op (λ e. omega arith) (λ e. omega arith) (λ e. omega arith) (λ e. omega arith) in
    let f : c.unwrap_or-fixed.result ≡ get_or effects c.from.result (0, 0) = (search rules) in
    let t = ap (λ o. get_or taken o 0) c.from.ensures in
    omega (arith, ap (λ x. x.0) f, taken_first c.from.result, t, ap (λ b. besides b (instr_of i)) n)
