-- `capi::monkey_make_session_words` meets its contract: the answer of `make_session_words`, as one number.
use Rattle.exported.proofs.Fits.{fits_as, packs_as, words-fits, words-told, packs_back}
use Rattle.capi.proofs.monkey_make_session_words.Goals as goal

pub pack-requires : goal.pack-requires
pack-requires c = fits_as c.make_session_words-answer.ensures.answer (words-fits _ _)

pub returns : goal.returns
returns c =
    let p = packs_as c.make_session_words-answer.ensures.answer c.pack.ensures in
    record { answer = p; back = packs_back (words-told _ _) p; session = c.make_session_words-answer.ensures.session }
