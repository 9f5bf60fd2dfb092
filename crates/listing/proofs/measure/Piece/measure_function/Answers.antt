-- `listing::measure::Piece::measure_function` meets its contract: its three numbers, and its code decides.
use Prim.Native.Nat.{◌+◌, ◌-◌}
use mathlib.Core.Path.{◌≡◌, ap, ◌∙◌}
use native.Mathlib.Omega.{arith}
use Rattle.definition.specs.Basic.{byte_at}
use Rattle.definition.specs.Decode.{read_code}
use Rattle.listing.specs.Measured.{code_measured}
use Rattle.listing.proofs.Measures.{function_good}
use Rattle.listing.proofs.measure.Piece.measure_function.Goals as goal

pub returns-clause-is : goal.returns-clause-is
returns-clause-is c =
    let a = c.args.self in
    let len = a.part.span.end - a.part.span.start in
    let e : a.part.span.end ≡ a.part.span.start + len = omega (arith, a.part.within.order) in
    let f = c.from.ensures in
    let k = (rw (f.end, f.start, f.bytes) at c.measure_code.ensures.is len (omega arith)) ∙ ap (λ n. code_measured (read_code (byte_at a.part.span.bytes.now) len (a.part.span.start + 3) n)) e in
    function_good a.part.span.bytes.now a.part.span.start len k c.in_ok-measured.was (omega arith) c.word-locals.ensures.is c.wide-parameters.ensures.is c.function_length.ensures.is
