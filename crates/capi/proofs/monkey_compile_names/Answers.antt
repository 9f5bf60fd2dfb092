-- `capi::monkey_compile_names` meets its contract: count and length of `compile_names`, as one number.
use borrow.Author.Rules.{rules}
use Rattle.definition.specs.Limit.{session_size}
use Rattle.definition.proofs.Slices.{are_bytes}
use Rattle.compiler.proofs.Lent.{front_bytes}
use Rattle.exported.proofs.Fits.{fits_as}
use Rattle.exported.proofs.Mapped.{said_fits, said_packs}
use Rattle.exported.proofs.Named.{names_said, packs_names}
use Rattle.capi.proofs.monkey_compile_names.Goals as goal

pub pair-answer-requires : goal.pair-answer-requires
pair-answer-requires c = said_fits (names_said (front_bytes _ session_size (are_bytes c.slice_known-1.given).below) c.compile_names-named.ensures (λ x y p. search rules) c.map.ensures.cases)

pub pack-requires : goal.pack-requires
pack-requires c = fits_as c.pair-answer.ensures (said_fits (names_said (front_bytes _ session_size (are_bytes c.slice_known-1.given).below) c.compile_names-named.ensures (λ x y p. search rules) c.map.ensures.cases))

pub returns : goal.returns
returns c =
    let s = front_bytes _ session_size (are_bytes c.slice_known-1.given).below in
    packs_names s c.compile_names-named.ensures (said_packs (names_said s c.compile_names-named.ensures (λ x y p. search rules) c.map.ensures.cases) c.pair-answer.ensures c.pack.ensures)
