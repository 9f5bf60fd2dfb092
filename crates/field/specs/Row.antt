-- Name fields that fill a part of some bytes, and a search among them.
use Rattle.std.specs.Prelude.{ℕ, ◌≤◌, List, [], ◌∷◌, ◌≡◌, length, Option, Some, None}
use Rattle.std.proofs.Math.Option as maybe
use Rattle.definition.specs.Basic.{Bytes}
use Rattle.field.specs.Layout.{after, content}
use Rattle.field.specs.declared.fields.Fields.{Fields}

-- the fields from an offset up to an end have these contents
pub data RowTo (b : Bytes) (to : ℕ) : ℕ → List Bytes → Type 0 where
  end : {at : ℕ} → at ≡ to → RowTo b to at []
  more : {at : ℕ} {n : Bytes} {ns : List Bytes} → n ≡ content b at → after b at ≤ to → RowTo b to (after b at) ns → RowTo b to at (n ∷ ns)

-- fields fill a part of the bytes
pub record HasRow (b : Bytes) (from to : ℕ) : Type 0 where
  pub names : List Bytes
  pub row : RowTo b to from names
  pub within : to ≤ length b

-- these do
abbrev pub RowOf : Fields → Type 0
RowOf s = HasRow s.bytes.now s.at s.end

-- what a search answers, as the definition says it
abbrev pub found_of : Option ℕ → maybe.Option ℕ
found_of (Some k) = maybe.some k
found_of None = maybe.none
