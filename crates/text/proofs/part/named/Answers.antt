-- `named` meets its contract: by the value's tag.
use mathlib.Core.Path.{refl, sym, ◌∙◌}
use Rattle.text.proofs.Values.{tag_is, tag_differs, named-plain, named_short, named_writes}
use Rattle.text.proofs.part.named.Goals as goal

pub returns-then-ne : goal.returns-then-ne
returns-then-ne c = named-plain (tag_differs _ _ (sym c.ne.ensures ∙ c.if-ne.true)) refl

pub returns-then-value-to : goal.returns-then-value-to
returns-then-value-to c = named_short (tag_is _ _ (sym c.ne.ensures ∙ c.if-ne.false)) c.if-value-to.true refl

pub returns : goal.returns
returns c = named_writes (tag_is _ _ (sym c.ne.ensures ∙ c.if-ne.false)) c.make_room.ensures c.put_field.ensures c.put_head.ensures refl
