-- `capi::monkey_compile` meets its contract: the answer of `compile`, as one number.
use Rattle.definition.specs.Limit.{session_size}
use Rattle.definition.proofs.Slices.{are_bytes}
use Rattle.compiler.proofs.Lent.{front_bytes}
use Rattle.exported.proofs.Fits.{fits_as, packs_as, call_fits, call-told, packs_back}
use Rattle.capi.proofs.monkey_compile.Goals as goal

pub pack-requires : goal.pack-requires
pack-requires c = fits_as c.compile-answer.ensures.answer (call_fits _ _ (front_bytes _ session_size (are_bytes c.slice_known-1.given).below))

pub returns : goal.returns
returns c =
    let p = packs_as c.compile-answer.ensures.answer c.pack.ensures in
    record { answer = p; back = packs_back (call-told _ _ (front_bytes _ session_size (are_bytes c.slice_known-1.given).below)) p; lent = c.compile-answer.ensures.lent }
