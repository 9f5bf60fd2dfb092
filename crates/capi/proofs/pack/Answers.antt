-- `capi::pack` meets its contract: by the answer's case.
use native.Mathlib.Omega.{arith}
use Rattle.exported.proofs.Fits.{packs_length, packs_refused, refused-fits}
use Rattle.capi.proofs.pack.Goals as goal

pub overflow_add-result : goal.overflow_add-result
overflow_add-result c =
    let start = c in
    let fits = refused-fits start.requires c.in-Err.is in
    record { fits = omega (arith, fits.number, fits.value) }

pub returns-in-Ok : goal.returns-in-Ok
returns-in-Ok c =
    let start = c in
    packs_length start.requires c.in-Ok.is

pub returns-in-Err : goal.returns-in-Err
returns-in-Err c =
    let start = c in
    rw c.number.ensures.is (packs_refused start.requires c.in-Err.is)
