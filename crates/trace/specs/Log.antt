-- The log of the records, in walk order: four bytes for each. Its offset, then the functions crossed and its symbol's code in 5 and 11 bits.
use Rattle.std.specs.Prelude.{ℕ, zero, suc, ◌+◌, ◌*◌, ◌/◌, ◌%◌, List, [], ◌∷◌}
use Rattle.definition.specs.Basic.{Bytes, byte_at}
use Rattle.symbol_table.specs.Layout.{symbol_of}
use Rattle.records.specs.Records.{record_of}
use Rattle.records.specs.declared.Record.{Record}

-- the record of four bytes
abbrev pub packed_record : ℕ → ℕ → ℕ → ℕ → Record
packed_record a b c d = record_of (a * 256 + b) (c / 8) (symbol_of (c % 8 * 256 + d))

-- record k of a log
unfoldable pub record_at : Bytes → ℕ → Record
record_at l k = packed_record (byte_at l (4 * k)) (byte_at l (4 * k + 1)) (byte_at l (4 * k + 2)) (byte_at l (4 * k + 3))

-- the first so many records, the latest first
unfoldable pub log_of : Bytes → ℕ → List Record
log_of l zero = []
log_of l (suc n) = record_at l n ∷ log_of l n
