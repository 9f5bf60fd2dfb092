-- What a check answers of a section from an offset.
use Prim.Native.Nat.{ℕ}
use mathlib.Core.Path.{◌≡◌}
use Rattle.std.proofs.Math.Bridge.{le_prop}
use Rattle.std.specs.Prelude.{Result}
use Rattle.bytecode.specs.declared.Malformed.{Malformed}
use Rattle.bytecode.specs.declared.section.Section.{Section}
use Rattle.bytecode.specs.Checked.{Part}
use Rattle.bytecode.specs.Sections.{from}

-- from an offset there is one section
pub same_section : (s : Section) (at : ℕ) (v w : Part s.span.bytes.now at s.span.end) → from s at v ≡ from s at w
same_section s at v w i = from s at (record { order = le_prop v.order w.order i; within = le_prop v.within w.within i })

-- an answer of the section from an offset on
pub record Answered (s : Section) (goes : Section → Result ℕ Malformed → Type 0) (at : ℕ) (r : Result ℕ Malformed) : Type 0 where
  pub part : Part s.span.bytes.now at s.span.end
  pub post : goes (from s at part) r
