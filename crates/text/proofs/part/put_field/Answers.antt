-- `put_field` meets its contract: the content, and its head.
use Rattle.std.specs.Prelude.{Some}
use Rattle.text.proofs.Contents.{field_stored}
use Rattle.text.proofs.RowAt.{end_early}
use Rattle.text.specs.Parts.{content_of, closed_of}
use mathlib.Core.Path.{ap, ◌∙◌}
use native.Mathlib.Omega.{arith}
use Rattle.text.proofs.part.put_field.Goals as goal

pub close-requires : goal.close-requires
close-requires c =
    let i = ap (λ p. p.to) c.empty.ensures in
    let b = c.put_content-end.ensures in
    (omega (arith, i, b.behind), omega (arith, i, b.behind, b.most, c.requires.0.within, end_early c.args.text.now), omega (arith, ap (λ p. p.levels) c.empty.ensures))

pub returns : goal.returns
returns c =
    let b = c.put_content-end.ensures in
    record {
      part = c.close.ensures.part ∙ ap (closed_of c.args.tag) c.empty.ensures ∙ ap (λ n. record { at = c.args.token.end; to = n; levels = 1; tag = Some c.args.tag }) b.behind;
      stored = field_stored _ (content_of c.args.text.now c.args.token) c.args.to c.args.output.now b.stored b.behind (rw c.empty.ensures at c.close.ensures.stored);
      most = b.most;
    }
