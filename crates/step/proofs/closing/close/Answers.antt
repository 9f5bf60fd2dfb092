-- `step::closing::close` meets its contract: room for the loads, the constant, then the loads and Closure.
use Prim.Native.Nat.{◌≤◌}
use lib.ListN.{length, drop, length-drop}
use mathlib.Core.Path.{refl, ap, ◌∙◌}
use native.Mathlib.Omega.{arith}
use Rattle.std.proofs.lemmas.List.{length-take-le}
use Rattle.definition.specs.Limit.{free_limit}
use Rattle.definition.proofs.Basic.{passed_on}
use Rattle.symbol_table.specs.Layout.{originals_at}
use Rattle.step.proofs.Closed.{few_captures, captured_front, closes_full, closes_stops, closes_on}
use Rattle.step.proofs.closing.close.Goals as goal

pub slice_bounds-originals-end : goal.slice_bounds-originals-end
slice_bounds-originals-end c =
    let r = c.of-part.result.numbers.now in
    let n = length-drop originals_at r in
    let l = length-take-le free_limit (drop originals_at r) (omega (arith, n, c.of-part.result.size)) in
    let few = few_captures c.requires in
    let count = rw c.of-part.ensures at c.captures-2.ensures in
    let k : c.captures-2.result ≤ length c.originals.result.now = omega (arith, few, count, ap length c.originals.ensures, l) in
    omega (arith, k, length-take-le c.captures-2.result c.originals.result.now k)

pub returns-then-end-loads_size-gt-CODE_SIZE : goal.returns-then-end-loads_size-gt-CODE_SIZE
returns-then-end-loads_size-gt-CODE_SIZE c =
    let f = captured_front c.requires (rw c.of-part.ensures at c.captures-2.ensures) (rw c.of-part.ensures at c.originals.ensures) refl in
    rw c.refused.ensures (record { closed = closes_full _ _ c.requires f.0 f.1 c.loads_size.ensures.is c.if-end-loads_size-gt-CODE_SIZE.true; same = refl })

pub returns-in_err-index : goal.returns-in_err-index
returns-in_err-index c =
    let a = c.in_err-index.ensures in
    let f = captured_front c.requires (rw c.of-part.ensures at c.captures-2.ensures) (rw c.of-part.ensures at c.originals.ensures) refl in
    rw (passed_on c.from_residual.ensures.1)
    (record { closed = rw a.code (closes_stops _ _ c.requires f.0 f.1 c.loads_size.ensures.is c.if-end-loads_size-gt-CODE_SIZE.false (rw c.of-part.ensures at c.definitions-locals.ensures) a.adds); same = a.same })

pub returns : goal.returns
returns c =
    let a = c.in_ok-index.ensures in
    let d = c.emit_function.ensures in
    let f = captured_front c.requires (rw c.of-part.ensures at c.captures-2.ensures) (rw c.of-part.ensures at c.originals.ensures) refl in
    record { closed = closes_on _ _ c.requires f.0 f.1 c.loads_size.ensures.is c.if-end-loads_size-gt-CODE_SIZE.false (rw c.of-part.ensures at c.definitions-locals.ensures) a.adds (rw (c.outside-scope.ensures, a.code) at d.done); same = d.same ∙ a.same }
