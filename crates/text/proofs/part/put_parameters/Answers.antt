-- `put_parameters` meets its contract.
use Rattle.text.proofs.Contents.{sees_on}
use Rattle.text.proofs.Writing.{parameters_writes}
use native.Mathlib.Omega.{arith}
use Rattle.text.proofs.part.put_parameters.Goals as goal

pub close-requires : goal.close-requires
close-requires c =
    let s = c.token_at-token.ensures in
    let w = (c.put_names-names.ensures.writes 0).bounds in
    (omega (arith, w.behind), omega (arith, w.room, w.within, c.requires.room, sees_on s), omega (arith, c.put_names-names.ensures.flat))

pub returns : goal.returns
returns c left = parameters_writes left c.token_at-token.ensures c.put_names-names.ensures.writes c.put_names-names.ensures.flat c.close.ensures.part c.close.ensures.stored (sees_on c.token_at-token.ensures)
