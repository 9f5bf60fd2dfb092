-- `make_session_words` keeps its promise: a short buffer, bytes that are no list of words, or the session of their list. Assumes nothing.
use Rattle.definition.proofs.Slices.{are_bytes}
use Rattle.compiler.proofs.Words.{words_short, words_bad, words_fit, words-made}
use Rattle.compiler.proofs.make_session_words.Goals as goal

pub returns-then-session-lt-SESSION_SIZE : goal.returns-then-session-lt-SESSION_SIZE
returns-then-session-lt-SESSION_SIZE c = rw c.refused.ensures (words_short c.if-session-lt-SESSION_SIZE.true)

pub begin_session-requires : goal.begin_session-requires
begin_session-requires c =
    let w = c in
    (w.if-session-lt-SESSION_SIZE.false, words_fit c.args.names.now (are_bytes c.shared_slice_known-1.given) w.words_stand.ensures c.if-words_stand.true)

pub returns-then-words_stand : goal.returns-then-words_stand
returns-then-words_stand c =
    let w = c in
    words-made c.args.names.now (are_bytes c.shared_slice_known-1.given) w.words_stand.ensures c.if-words_stand.true c.args.session.now w.if-session-lt-SESSION_SIZE.false c.begin_session.ensures

pub returns : goal.returns
returns c =
    let w = c in
    rw c.refused-2.ensures (words_bad c.args.session.now c.args.names.now w.if-session-lt-SESSION_SIZE.false w.words_stand.ensures c.if-words_stand.false)
