-- `heights::propose::propose` meets its contract: the image, with no mark and no height so far.
use mathlib.Core.Path.{subst}
use Rattle.std.proofs.Common.{rules, length}
use Rattle.heights.specs.Judgement.{counted}
use Rattle.heights.specs.Proposal.{Proposed}
use Rattle.heights.proofs.propose.propose.Goals as goal

pub returns : goal.returns
returns c = λ m i. subst (λ o. Proposed (counted m m.pool) (length c.args.image.bytes.now) c.args.heights.now c.propose_image.new.self.count o) (search rules) (c.propose_image.ensures.proposes m i)
