-- `capi::monkey_make_session` meets its contract: the answer of `make_session`, as one number.
use Rattle.exported.proofs.Fits.{fits_as, packs_as, made-fits, made_told, packs_back}
use Rattle.capi.proofs.monkey_make_session.Goals as goal

pub pack-requires : goal.pack-requires
pack-requires c = fits_as c.make_session-answer.ensures.answer (made-fits _)

pub returns : goal.returns
returns c =
    let p = packs_as c.make_session-answer.ensures.answer c.pack.ensures in
    record { answer = p; back = packs_back (made_told _) p; session = c.make_session-answer.ensures.session }
