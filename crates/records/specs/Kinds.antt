-- Kinds as numbers.
use Rattle.std.specs.Prelude.{ℕ}
use Rattle.records.specs.declared.Kind.{Kind}
use Rattle.records.specs.declared.Kind.TheVariants.{Global, Local, Builtin, Free, Function}

-- a kind as a number, in document 02's order
abbrev pub kind_number : Kind → ℕ
kind_number Global = 0
kind_number Local = 1
kind_number Builtin = 2
kind_number Free = 3
kind_number Function = 4
