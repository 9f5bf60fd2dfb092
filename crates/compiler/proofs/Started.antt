-- The lent memory as the walk starts.
use Prim.Native.Nat.{ℕ}
use native.Mathlib.Omega.{arith}
use mathlib.Core.List.{List, []}
use mathlib.Core.Path.{◌≡◌, sym, ap, ◌∙◌}
use lib.ListN.{length, take}
use Rattle.definition.specs.Basic.{Bytes, byte_at}
use Rattle.definition.specs.Limit.{table_size}
use Rattle.definition.specs.Decode.{read_names}
use Rattle.definition.specs.Walk.{on}
use Rattle.definition.proofs.Pools.{pool-length}
use Rattle.definition.proofs.Sessions.{session_length}
use Rattle.field.specs.Layout.{after}
use Rattle.scope.specs.View.{view}
use Rattle.std.specs.Prelude.{Ok}
use Rattle.refinement.specs.Relation.{names_end, pool_end, start_view}
use Rattle.bytecode.specs.declared.SessionLayout.{SessionLayout}
use Rattle.symbol_table.specs.Layout.{tables_of}
use Rattle.symbol_table.specs.Contract.{HasWords, HasNames, Starts}
use Rattle.step.specs.Memory.{rest, symbols_of, memory, RoomyState, FineState}
use Rattle.compiler.specs.Stage.{words_end, Opened}
use Rattle.compiler.specs.Translated.{Small, start_state}
use Rattle.compiler.proofs.Opened.{names-read, names_after, words_before, room_behind, pool-end}

-- In bytes that read as a session of a layout
module _ {e : Bytes} {l : SessionLayout} (x : Opened e l) where
  -- the session's names
  abbrev pub opened_names : HasNames e l.words_end
  opened_names =
      record {
        names = x.session.globals;
        end = names_end x.session;
        reads = (λ i. read_names (byte_at (x.bytes i)) (x.layout i).words_end (length (x.bytes i))) ∙ names-read x.session x.valid;
      }

  -- and its words, in front of them
  pub opened_words : HasWords (take l.names_end e)
  opened_words =
      record { words = x.session.words; end = words_end x.session; reads = words_before x.session x.valid (λ i. take (x.layout i).names_end (x.bytes i)) }

  -- they end where the layout says
  pub opened_after : after e l.words_end ≡ l.names_end
  opened_after = (λ i. after (x.bytes i) (x.layout i).words_end) ∙ names_after x.session x.valid ∙ sym (ap (λ (l : SessionLayout). l.names_end) x.layout)

  -- there is room for a whole pool behind them
  opened_room : RoomyState e (start_state l)
  opened_room =
      let z = x.session in
      let v = x.valid in
      let bytes = ap length x.bytes in
      let ends : l.names_end ≡ names_end z = ap (λ (l : SessionLayout). l.names_end) x.layout in
      let pool : l.pool_end ≡ pool_end z = ap (λ (l : SessionLayout). l.pool_end) x.layout in
      let n = pool-end z in
      record {
        area = omega (arith, session_length z v);
        room = omega (arith, room_behind z v);
        start = omega arith;
        end = omega (arith, pool-length z.pool, v.pool.size);
      }

  -- the layout's numbers are within the limits
  pub opened_small : Small l
  opened_small =
      let count : l.constants ≡ length x.session.pool = ap (λ (l : SessionLayout). l.constants) x.layout in
      let r = opened_room in
      record { constants = omega (arith, x.valid.pool.count); names = omega arith; pool = omega arith }

  module _ {t₀ t : List ℕ} (begun : Starts e l.words_end l.names_end t₀ t) (tree : Bytes) where
    -- the table area stands well
    pub started_fine : length t ≡ table_size → FineState tree (rest e t) (start_state l)
    started_fine size = record { words = opened_words; symbols = begun.good tree; level = omega arith; area = omega arith; pool = opened_room }

    -- the symbols are the session's
    started_symbols : symbols_of tree (rest e t) (start_state l) ≡ record { globals = x.session.globals; tables = [] }
    unfolding tables_of
    started_symbols = λ i. record { globals = begun.globals tree opened_names i; tables = [] }

    -- the whole memory is the start of the refinement
    pub started-view : (c : Bytes) → memory tree c (rest e t) (Ok (start_state l)) ≡ on tt (start_view x.session e c)
    started-view c = λ i. on tt (view c e (started_symbols i) (start_state (x.layout i)))
