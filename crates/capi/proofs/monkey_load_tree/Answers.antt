-- `capi::monkey_load_tree` meets its contract: the answer of `make_tree`, as one number.
use Rattle.exported.proofs.Fits.{fits_as, packs_as, load_fits}
use Rattle.capi.proofs.monkey_load_tree.Goals as goal

pub pack-requires : goal.pack-requires
pack-requires c = fits_as c.make_tree-answer.ensures.answers (load_fits _ _)

pub returns : goal.returns
returns c = record { answer = packs_as c.make_tree-answer.ensures.answers c.pack.ensures; output = c.make_tree-answer.ensures.writes }
