-- Sections of bytes.
use Rattle.std.specs.Prelude.{ℕ}
use Rattle.bytecode.specs.Checked.{Part}
use Rattle.bytecode.specs.declared.section.Section.{Section}

-- a section from another offset
abbrev pub from : (s : Section) (at : ℕ) → Part s.span.bytes.now at s.span.end → Section
from s at w = record { span = record { bytes = s.span.bytes; start = at; end = s.span.end }; within = w }
