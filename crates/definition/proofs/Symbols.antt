-- The instructions that symbols give are valid.
use native.Mathlib.Omega.{arith}
use mathlib.Core.Bool.{Bool, true, false}
use mathlib.Core.List.{List, [], ◌∷◌}
use mathlib.Core.Path.{◌≡◌, refl}
use lib.ListN.{length}
use lib.Dec.{T, leb}
use borrow.Author.Tests.{leb-false}
use Rattle.definition.specs.Basic.{Bytes, pick}
use Rattle.definition.specs.Limit.{globals_limit, locals_limit}
use Rattle.definition.specs.Number.{walk_number, number_of}
use Rattle.definition.specs.SymbolTable.{Table, Defined, place}
use Rattle.definition.specs.Valid.{ValidInstr}

-- a definition's instruction is valid, and so is the number of one without room
abbrev pub DefinedValid : Defined → Type 0
DefinedValid (Defined.defined i gs ts) = ValidInstr i
DefinedValid (Defined.no_room k) = T (walk_number (number_of k))

-- one of two, the second where a test is false
defined_pick : (d e : Defined) (b : Bool) {c : Bool} → c ≡ b → DefinedValid d → (c ≡ false → DefinedValid e) → DefinedValid (pick b d e)
defined_pick d e true p h k = h
defined_pick d e false p h k = k p

pub place-valid : (n : Bytes) (gs : List Bytes) (ts : List Table) → DefinedValid (place n gs ts)
place-valid n gs [] = defined_pick _ _ (leb globals_limit (length gs)) refl tt (λ e. record { known = omega arith; operand = omega (arith, leb-false); captures = omega arith })
place-valid n gs (t ∷ ts) = defined_pick _ _ (leb locals_limit t.definitions) refl tt (λ e. record { known = omega arith; operand = omega (arith, leb-false); captures = omega arith })
