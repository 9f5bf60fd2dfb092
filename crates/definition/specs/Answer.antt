-- What a call answers: the length of what it wrote, or its refusal.
use Rattle.std.specs.Prelude.{ℕ, Result}
use Rattle.definition.specs.declared.reason.Refusal.{Refusal}

abbrev pub Answer : Type 0
Answer = Result ℕ Refusal
