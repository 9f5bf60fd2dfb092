-- `word_at` meets its contract.
use native.Mathlib.Omega.{arith}
use mathlib.Core.Path.{sym, ap, ◌∙◌}
use lib.ListN.{length}
use Prim.Native.Nat.{◌+◌, ◌-◌, ◌≤◌}
use Rattle.definition.proofs.Bytes.{bytes_slice}
use Rattle.text.specs.Kind.{a_name}
use Rattle.text.specs.Scan.{kind_in, words}
use Rattle.text.proofs.Pieces.{word_short}
use Rattle.text.proofs.scan.word_at.Goals as goal

pub returns : goal.returns
returns c =
    let a = c.args in
    let r = c.run_end-end in
    let e = r.result in
    let h : a.start + (e - a.start) ≤ length a.text.now = omega (arith, r.ensures.onward, r.ensures.within) in
    word_short _ _ _ _ r.ensures.is c.if-end-start-gt-NAME_LIMIT.false
    (c.word_kind.ensures ∙ ap (kind_in words a_name) (sym (bytes_slice a.text.now a.start (e - a.start) h))) c.ending.ensures
