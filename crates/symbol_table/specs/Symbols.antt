-- A symbol of the area, as the definition has it.
use Rattle.definition.specs.SymbolTable as definition
use Rattle.symbol_table.specs.declared.Symbol.{Symbol}
use Rattle.symbol_table.specs.declared.Symbol.TheVariants.{Function, Local, Free, Builtin, Global}

abbrev pub meant_by : Symbol → definition.Symbol
meant_by Function = definition.Symbol.function
meant_by (Local k) = definition.Symbol.local k
meant_by (Free k) = definition.Symbol.free k
meant_by (Builtin k) = definition.Symbol.builtin k
meant_by (Global k) = definition.Symbol.global k
