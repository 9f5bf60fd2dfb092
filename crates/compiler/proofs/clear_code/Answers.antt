-- `clear_code` zeroes the code area and leaves the bytes behind it. Assumes nothing.
use Rattle.definition.specs.Limit.{code_size}
use Rattle.compiler.proofs.Lent.{front_zeroed}
use Rattle.compiler.proofs.clear_code.Goals as goal

pub returns : goal.returns
returns c = front_zeroed code_size c.args.code.now c.requires (c.fill.ensures.after (λ y e. e))
