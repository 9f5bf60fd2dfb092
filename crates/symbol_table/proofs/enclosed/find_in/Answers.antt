-- The loop's invariant: the entries below k decide.
use Prim.Native.Nat.{◌-◌, ◌%◌}
use mathlib.Core.Path.{sym, ap, ◌∙◌}
use native.Mathlib.Omega.{arith}
use Rattle.definition.specs.SymbolTable.{find}
use Rattle.symbol_table.specs.Layout.{entries_at, entry_of, back, table_of}
use Rattle.symbol_table.proofs.Back.{find_hit, find_miss, find_passed, find_none}
use Rattle.symbol_table.proofs.enclosed.find_in.Goals as goal

pub loop-k-init : goal.loop-k-init
unfolding table_of
loop-k-init c =
    let s = c in
    let a = s.args in
    let n = c.entries.ensures in
    let t = c.tagged_below-k in
    (omega (arith, t.ensures.order), ap (λ m. find a.name.now.bytes.now (back (entry_of a.tree.now) a.part.numbers.now entries_at m)) (sym n) ∙ find_passed a.tree.now a.part.numbers.now a.name.now.bytes.now c.entries.result t.result (λ i l. s.requires.each i (omega arith)) (ap (λ h. h % 128) s.args.name.now.is) t.ensures)

pub returns-then-same_name : goal.returns-then-same_name
returns-then-same_name c =
    let a = c.args in
    let l = c.loop-k in
    sym (l.invariant.1 ∙ find_hit a.tree.now a.part.numbers.now a.name.now.bytes.now l.k (omega arith) (cc))

pub loop-k-preserved : goal.loop-k-preserved
loop-k-preserved c =
    let s = c in
    let a = s.args in
    let l = c.loop-k in
    let t = c.tagged_below-k-in-loop-k in (
      omega (arith, t.ensures.order),
      l.invariant.1 ∙ find_miss a.tree.now a.part.numbers.now a.name.now.bytes.now l.k (omega arith) (cc)
          ∙ find_passed a.tree.now a.part.numbers.now a.name.now.bytes.now (l.k - 1) t.result (λ i b. s.requires.each i (omega (arith, l.invariant.0))) (ap (λ h. h % 128) s.args.name.now.is) t.ensures,
    )

pub returns : goal.returns
returns c =
    let a = c.args in
    let l = c.loop-k in
    sym (l.invariant.1 ∙ find_none a.tree.now a.part.numbers.now a.name.now.bytes.now l.k (omega arith))
