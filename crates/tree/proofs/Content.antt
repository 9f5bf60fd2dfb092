-- The content of a name, and of an integer.
use Prim.Native.Nat.{ℕ, ◌≤◌}
use mathlib.Core.Path.{◌≡◌, ◌∙◌}
use lib.ListN.{length}
use Rattle.definition.specs.Basic.{Bytes}
use Rattle.definition.specs.Limit.{name_limit}
use Rattle.definition.specs.Syntax.{Expr}
use Rattle.definition.specs.Valid.{IsName}
use Rattle.field.specs.Layout.{content, Whole}
use Rattle.field.proofs.Content.{length-content}
use Rattle.tree.specs.At.{NameAt, IdentifierAt, IntegerAt}

module _ {tree : Bytes} {at : ℕ} where
  -- a name's content
  pub name-content : NameAt tree 1 at → IsName (content tree at)
  name-content n = record { some = rw (length-content n.whole) n.long; short = rw (length-content n.whole) n.short }

  -- the content of a name that may be empty
  pub name_short : {least : ℕ} → NameAt tree least at → length (content tree at) ≤ name_limit
  name_short n = rw (length-content n.whole) n.short

  -- an identifier's content
  pub identifier_content : {e : Expr} → Whole tree at → IdentifierAt tree at e → IsName (content tree at)
  identifier_content w i = record { some = rw (length-content w) i.long; short = rw (length-content w) i.short }

  -- an integer's content
  pub integer_content : {e : Expr} → Whole tree at → IntegerAt tree at e → length (content tree at) ≡ 8
  integer_content w i = length-content w ∙ i.eight
