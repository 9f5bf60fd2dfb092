-- Records as rows of four numbers, for a caller that lends numbers.
use Rattle.std.specs.Prelude.{ℕ, zero, suc, ◌*◌, ◌<◌, List, [], ◌∷◌, ◌++◌, set}
use Rattle.std.proofs.lemmas.List.Edits.{sets}
use Rattle.definition.specs.Basic.{Bytes}
use Rattle.records.specs.Kinds.{kind_number}
use Rattle.records.specs.declared.Record.{Record}
use Rattle.trace.specs.Log.{record_at}

-- a record's four numbers
abbrev pub row_of : Record → List ℕ
row_of r = r.offset ∷ kind_number r.kind ∷ r.index ∷ r.crossed ∷ []

-- those of all records
unfoldable pub rows_of : List Record → List ℕ
rows_of [] = []
rows_of (r ∷ rs) = row_of r ++ rows_of rs

-- a record where the caller lends records
abbrev pub alone : Record → List Record
alone r = r ∷ []

-- the first so many records of a log, each over as many slots as make up one
unfoldable pub filled_over : {A : Type 0} → ℕ → (Record → List A) → Bytes → ℕ → List A → List A
filled_over w f l zero xs = xs
filled_over w f l (suc n) xs = sets (filled_over w f l n xs) (w * n) (f (record_at l n))

-- the first so many records of a log, each over its numbers
abbrev pub filled : Bytes → ℕ → List ℕ → List ℕ
filled = filled_over 4 row_of

-- the first so many records of a log, each over its place, the last first
unfoldable pub filled_records : Bytes → ℕ → List Record → List Record
filled_records l zero rs = rs
filled_records l (suc k) rs = filled_records l k (set rs k (record_at l k))

-- its numbers have 32 bits
pub record Small (r : Record) : Type 0 where
  pub offset : r.offset < 4294967296
  pub index : r.index < 4294967296
  pub crossed : r.crossed < 4294967296
