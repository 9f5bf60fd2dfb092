-- `bytecode::read_layout` meets its contract: the words, and what is behind them.
use Rattle.bytecode.proofs.Sessions.{was_err, words_wrong, lays_out}
use Rattle.bytecode.proofs.read_layout.Goals as goal

pub returns-in_err-words_end : goal.returns-in_err-words_end
returns-in_err-words_end c =
    rw c.from_residual.ensures (lays_out c.args.session.now (words_wrong c.args.session.now c.check_words.ensures (was_err _ c.in_err-words_end.ensures.value).1))

pub returns : goal.returns
returns c = lays_out c.args.session.now c.read_behind.ensures
