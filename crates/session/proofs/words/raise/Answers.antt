-- `raise` puts the six words' field in front. Assumes nothing.
use Rattle.session.proofs.Raised.{six_raised}
use Rattle.session.proofs.words.raise.Goals as goal

pub returns : goal.returns
returns c =
    let moved = c in
    let start = moved in
    six_raised start.args.session.now start.args.end moved.requires moved.copy_within.ensures.after c.copy.ensures
