-- `good_field` meets its contract: the part of the tree that is the field's content is tested.
use mathlib.Core.Path.{sym, ◌∙◌}
use Rattle.tree.proofs.Cut.{cut_wanted}
use Rattle.tree.proofs.good_field.Goals as goal

pub returns : goal.returns
returns c = c.good_content.ensures ∙ cut_wanted c.args.tree.now c.args.at c.args.end c.args.wanted c.requires.1 (sym c.in-Some.is ∙ c.length_before.ensures) (sym c.good_tag.ensures ∙ c.if-not-good_tag.false)
