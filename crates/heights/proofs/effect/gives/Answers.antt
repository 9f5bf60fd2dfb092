-- `heights::effect::gives` meets its contract: the table.
use Rattle.std.proofs.Common.{◌≡◌, get_or, arith, rules, ap}
use Rattle.definition.specs.Effect.{given}
use Rattle.heights.proofs.Tables.{gives_one, effects, given_second}
use Rattle.heights.proofs.effect.gives.Goals as goal

pub returns-clause-is : goal.returns-clause-is
returns-clause-is c =
    let e : c.unwrap_or-given.result ≡ get_or effects c.from.result (0, 0) = (search rules) in
    let t = ap (λ o. get_or given o 0) c.from.ensures in
    omega (arith, ap (λ x. x.1) e, given_second c.from.result, t)

pub returns-clause-small : goal.returns-clause-small
returns-clause-small c =
    let e : c.unwrap_or-given.result ≡ get_or effects c.from.result (0, 0) = (search rules) in
    let l = gives_one c.from.result in
    omega (arith, ap (λ x. x.1) e, given_second c.from.result, l)
