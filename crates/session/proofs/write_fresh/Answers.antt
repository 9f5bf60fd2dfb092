-- `session::write_fresh` meets its contract: a short buffer is left alone; any other is zeroed, and gets the two heads.
use mathlib.Core.Path.{refl}
use Rattle.session.proofs.Fresh.{made_short, made-fresh}
use Rattle.session.proofs.write_fresh.Goals as goal

pub returns-then-session-lt-SESSION_SIZE : goal.returns-then-session-lt-SESSION_SIZE
returns-then-session-lt-SESSION_SIZE c = rw c.refused.ensures (made_short c.args.session.now c.if-session-lt-SESSION_SIZE.true)

pub returns : goal.returns
returns c =
    made-fresh c.args.session.now c.if-session-lt-SESSION_SIZE.false c.clear.ensures refl c.finish_session.ensures
