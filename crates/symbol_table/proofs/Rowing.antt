-- The parameters of a function: what is left decides.
use Prim.Native.Nat.{ℕ, ◌+◌, ◌≤◌, ◌<◌}
use mathlib.Core.Path.{◌≡◌, refl, ap, ◌∙◌}
use mathlib.Core.List.{List}
use native.Mathlib.Omega.{arith}
use lib.ListN.{length, get_or}
use Rattle.definition.specs.Basic.{Bytes}
use Rattle.definition.specs.Limit.{tree_limit, locals_limit}
use Rattle.definition.specs.SymbolTable.{with_params}
use Rattle.field.specs.Layout.{after, content}
use Rattle.field.specs.Row.{RowTo}
use Rattle.field.proofs.Rows.{row_first, row_none, row_same}
use Rattle.symbol_table.specs.Name.{Stands, hash_of}
use Rattle.symbol_table.specs.Layout.{marked_at, table_of, GoodTable}
use Rattle.symbol_table.specs.Store.{local_in}
use Rattle.symbol_table.specs.Contract.{HasParams, Params}
use Rattle.symbol_table.proofs.Tables.{local_table, local_good, local_count, local_marked}

-- parameters that are left to define
pub record Left (tree : Bytes) (from to : ℕ) (r₀ r : List ℕ) (at : ℕ) : Type 0 where
  pub has : HasParams tree from to
  pub names : List Bytes
  pub row : RowTo tree to at names
  pub table : with_params names (table_of tree r) ≡ with_params has.row.names (table_of tree r₀)
  pub good : GoodTable tree r
  pub marked : get_or r marked_at 0 ≡ get_or r₀ marked_at 0
  pub room : get_or r 1 0 + length names ≤ locals_limit

module _ {tree : Bytes} {from to : ℕ} {r₀ : List ℕ} where
  pub left_begins : HasParams tree from to → GoodTable tree r₀ → get_or r₀ 1 0 ≡ 0 → Left tree from to r₀ r₀ from
  left_begins h g e = record { has = h; names = h.row.names; row = h.row.row; table = refl; good = g; marked = refl; room = omega (arith, h.few, e) }

  module _ {r : List ℕ} {at : ℕ} (x : Left tree from to r₀ r at) where
    pub left_here : at < to → Stands tree at
    left_here l = omega (arith, (row_first x.row l).fits, x.has.row.within)

    pub left_room : at < to → get_or r 1 0 < locals_limit
    left_room l = omega (arith, x.room, ap length (row_first x.row l).is)

    pub left_step : (hash : ℕ) → length tree ≤ tree_limit → at < to → hash ≡ hash_of (content tree at) → Left tree from to r₀ (local_in r at hash) (after tree at)
    left_step hash small l is =
        let f = row_first x.row l in
        let here = left_here l in
        let room = left_room l in
        let below : at < 32768 = omega arith in
        record {
          has = x.has;
          names = f.rest;
          row = f.row;
          table = rw (local_table r at hash x.good.sized room below tree) (rw f.is at x.table);
          good = local_good r at hash x.good.sized room below tree (record { stands = here; is = is }) x.good;
          marked = local_marked r at hash x.good.sized room below ∙ x.marked;
          room = omega (arith, x.room, ap length f.is, local_count r at hash x.good.sized room below);
        }

    pub left_none : to ≤ at → (h : HasParams tree from to) → Params tree h.row.names r₀ r
    left_none l h =
        rw (row_same h.row.row x.has.row.row)
        (record { table = (rw (row_none x.row l) at x.table); good = x.good; marked = x.marked })
