-- The pass over a whole tree.
use Prim.Native.Nat.{ℕ, ◌-◌, ◌≤◌}
use native.Mathlib.Omega.{arith}
use mathlib.Core.List.{List, []}
use mathlib.Core.Path.{◌≡◌, refl, ap}
use lib.ListN.{length, take}
use Rattle.definition.specs.Basic.{Bytes}
use Rattle.definition.specs.Limit.{tree_limit, code_size, table_size}
use Rattle.definition.specs.Syntax.{Stmts}
use Rattle.definition.specs.Tree.{Parsed, read_tree}
use Rattle.definition.specs.Walk.{Res, walk_stmts}
use Rattle.definition.specs.Decode.{words_in}
use Rattle.definition.specs.SymbolTable.{Table}
use Rattle.tree.specs.Check.{Good, verdict}
use Rattle.tree.specs.Reads.{Some}
use Rattle.tree.proofs.Stands.{tree_stands}
use Rattle.walk.proofs.Tree.{tree_short}
use Rattle.symbol_table.specs.Layout.{tables_of, globals_in}
use Rattle.symbol_table.specs.Contract.{HasWords, StartsFrom}
use Rattle.records.specs.Naming.{Names, names, naming}
use Rattle.trace.specs.Log.{log_of}
use Rattle.trace.specs.Pass.{names_at, Follows, walk_nodes, ReadsNodes, Standing, Passes, Logs, PassesTree}
use Rattle.trace.proofs.Sequence.{below_follows}
use Rattle.trace.proofs.Nodes.{tree_nodes}

-- a tree that was checked reads
pub record Read (tree : Bytes) : Type 0 where
  pub body : Stmts
  pub end : ℕ
  pub reads : read_tree tree ≡ Parsed.parsed body end

pub good_reads : (tree : Bytes) → verdict (read_tree tree) ≡ Good → Read tree
good_reads tree h = go (read_tree tree) refl h
  where
    go : (p : Parsed Stmts) → read_tree tree ≡ p → verdict p ≡ Good → Read tree
    go (Parsed.parsed b n) e h = record { body = b; end = n; reads = e }
    go (Parsed.refused r) e h = let no : ◌≡◌ {A = ℕ} 0 1 = cc in absurd (omega arith)

-- where the walk goes on, its records are logged
logged : (ws : List Bytes) (ts : List Table) (gs : List Bytes) (l : Bytes) (n : ℕ) (y : Res Names (Unit {0})) → Follows (names ws ts gs (log_of l n)) y → Logs y l n
logged ws ts gs l n (Res.on u s) e = ap (λ (z : Names). z.records) e
logged ws ts gs l n (Res.stop q s) e = tt

module _ {tree : Bytes} (r : Read tree) where
  -- its statements stand in a row
  pub tree_row : Some (ReadsNodes tree 3 (length tree))
  tree_row = let x = tree_nodes r.body (tree_stands tree r.body r.end r.reads) in (x.0, x.1)

  short : length tree ≤ tree_limit
  short = tree_short (r.body, record { end = r.end; reads = r.reads })

  module _ {session : Bytes} {from end : ℕ} {a t : List ℕ} {l : Bytes} (x : StartsFrom session from end a t) where
    pub tree_standing : HasWords (take end session) → table_size ≤ length t → code_size ≤ length l → Standing tree (take end session) 0 t l 0 (length tree - 3)
    tree_standing w h k = record { words = w; symbols = x.good tree; depth = omega arith; area = h; short = short; room = omega (arith, short) }

    -- the log that was lent is the one that was written
    pub tree_passes : {t' : List ℕ} {l₁ l' : Bytes} {n : ℕ} → Passes tree (take end session) 0 (ReadsNodes tree 3 (length tree)) walk_nodes (length tree - 3) t t' l l' 0 n → l₁ ≡ l' → PassesTree tree session from end l₁ n
    unfolding tables_of log_of
    tree_passes {t'} {l₁} {l'} {n} d q =
        rw q (record {
          logs = λ b m e h.
              let i = tree_nodes b (tree_stands tree b m e) in
              let before = take end session in
              let u = names_at tree before 0 t' l' n in
              let all : Follows u (walk_stmts naming b (names (words_in before) [] (globals_in tree before t) [])) = below_follows u (i.2 (names_at tree before 0 t l 0)) (d.step i.0 i.1) in
              logged (words_in before) [] (globals_in tree before t') l' n (walk_stmts naming b (names (words_in before) [] h.names [])) (rw (x.globals tree h) at all);
          fits = omega (arith, d.room);
        })
