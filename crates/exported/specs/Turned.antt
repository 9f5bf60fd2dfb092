-- What the exported functions promise of an image in the other form.
use Rattle.std.specs.Prelude.{ℕ, ◌≡◌, length}
use Rattle.definition.specs.Basic.{Bytes}
use Rattle.chin.specs.Chin.{Given, answer_of, output_of}
use Rattle.exported.specs.Packed.{Packs}

-- answer and output are those of the translation
pub record TurnsPacked (g : Given) (o : Bytes) (r : ℕ) (o' : Bytes) : Type 0 where
  pub answer : Packs (answer_of g (length o)) r
  pub output : o' ≡ output_of g o
