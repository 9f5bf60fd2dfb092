-- The pass over a tree's names: what the memory stands for, what stands at an offset, and what the functions promise.
use Rattle.std.specs.Prelude.{ℕ, ◌+◌, ◌*◌, ◌≤◌, Bool, ◌⊎◌, ◌≡◌, List, [], ◌∷◌, length, take, eqb}
use Rattle.definition.specs.Basic.{Bytes}
use Rattle.definition.specs.Limit.{table_size, nesting_limit, tree_limit}
use Rattle.definition.specs.Tag.{tag_expr_stmt, tag_block, tag_return, tag_prefix, tag_if, tag_call, tag_array, tag_index, tag_hash, tag_name, tag_operator}
use Rattle.definition.specs.Syntax.{Stmt, Stmts, Expr}
use Rattle.definition.specs.Tree.{read_tree, Parsed}
use Rattle.definition.specs.Walk.{Res, on, stop, bind, Go, walk_stmt, walk_stmts, walk_expr}
use Rattle.definition.specs.Decode.{words_in}
use Rattle.field.specs.Layout.{tag, Whole}
use Rattle.tree.specs.At.{Row}
use Rattle.tree.specs.Grammar.{either}
use Rattle.tree.specs.Reads.{ReadsStmt, ReadsExpr, ReadsBlock}
use Rattle.symbol_table.specs.Layout.{tables_of, globals_in, Good}
use Rattle.symbol_table.specs.Contract.{HasWords, HasItems}
use Rattle.records.specs.Naming.{Names, names, naming}
use Rattle.trace.specs.Log.{log_of}

-- what table area and log stand for, with so many open functions and so many records; `before` are the session's bytes before its pool
abbrev pub names_at : Bytes → Bytes → ℕ → List ℕ → Bytes → ℕ → Names
names_at tree before level t l n = names (words_in before) (tables_of tree level t) (globals_in tree before t) (log_of l n)

-- nothing is asked of what stands there
abbrev pub Anything : Unit {0} → Type 0
Anything _ = Unit {0}

-- where a walk goes on, it goes on so
abbrev pub Follows : Names → Res Names (Unit {0}) → Type 0
Follows u (on a s) = u ≡ s
Follows u (stop r s) = Unit {0}

-- what stands at an offset of a tree that the pass meets; a name or an operator is passed over
pub data Node : Type 0 where
  stmt : Stmt → Node
  expr : Expr → Node
  block : Stmts → Node
  quiet : Node

-- its walk
abbrev pub walk_node : Node → Go Names
walk_node (Node.stmt x) = walk_stmt naming x
walk_node (Node.expr x) = walk_expr naming x
walk_node (Node.block x) = walk_stmts naming x
walk_node Node.quiet = on tt

-- one after the other
abbrev pub walk_nodes : List Node → Go Names
walk_nodes [] s = on tt s
walk_nodes (x ∷ xs) s = bind (walk_node x s) (λ _. walk_nodes xs)

-- the tags whose names are those of their children, in order
abbrev pub is_parent : ℕ → Bool
is_parent t =
    either (either (either (either (either (either (either (either (eqb t tag_expr_stmt) (eqb t tag_block)) (eqb t tag_return)) (eqb t tag_prefix)) (eqb t tag_if)) (eqb t tag_call)) (eqb t tag_array)) (eqb t tag_index)) (eqb t tag_hash)

-- a whole field of one of two tags
pub record QuietAt (tree : Bytes) (at : ℕ) : Type 0 where
  pub whole : Whole tree at
  pub tagged : (tag tree at ≡ tag_name) ⊎ (tag tree at ≡ tag_operator)

-- it stands there
abbrev pub NodeAt : Bytes → ℕ → Node → Type 0
NodeAt tree at (Node.stmt x) = ReadsStmt tree at x
NodeAt tree at (Node.expr x) = ReadsExpr tree at x
NodeAt tree at (Node.block x) = ReadsBlock tree at x
NodeAt tree at Node.quiet = QuietAt tree at

pub record ReadsNode (tree : Bytes) (at : ℕ) (x : Node) : Type 0 where
  pub reads : NodeAt tree at x

-- they stand in a row, from an offset up to an end
pub record ReadsNodes (tree : Bytes) (at end : ℕ) (xs : List Node) : Type 0 where
  pub row : Row tree (ReadsNode tree) at end xs

-- all stands well, and the log has room for so many bytes of the tree
pub record Standing (tree before : Bytes) (level : ℕ) (t : List ℕ) (l : Bytes) (n size : ℕ) : Type 0 where
  pub words : HasWords before
  pub symbols : Good tree before level t
  pub depth : level ≤ nesting_limit
  pub area : table_size ≤ length t
  pub short : length tree ≤ tree_limit
  pub room : 4 * n + size ≤ length l

-- Whatever stands there, what was done is the names' walk over it where that goes on. A is the syntax, R says of it that it stands there, k is its walk, `size` its bytes.
pub record Passes {A : Type 0} (tree before : Bytes) (level : ℕ) (R : A → Type 0) (k : A → Go Names) (size : ℕ) (t t' : List ℕ) (l l' : Bytes) (n n' : ℕ) : Type 0 where
  pub step : (a : A) → R a → Follows (names_at tree before level t' l' n') (k a (names_at tree before level t l n))
  pub good : Good tree before level t'
  pub room : 4 * n' ≤ 4 * n + size

-- a walk's records, where it goes on
abbrev pub Logs : Res Names (Unit {0}) → Bytes → ℕ → Type 0
Logs (on a s) l n = log_of l n ≡ s.records
Logs (stop r s) l n = Unit {0}

-- the pass over a whole tree, from the names that lie in a session from an offset up to an end
pub record PassesTree (tree session : Bytes) (from end : ℕ) (l' : Bytes) (n : ℕ) : Type 0 where
  pub logs : (b : Stmts) (m : ℕ) → read_tree tree ≡ Parsed.parsed b m → (h : HasItems session from end) → Logs (walk_stmts naming b (names (words_in (take end session)) [] h.names [])) l' n
  pub fits : 4 * n ≤ length tree
