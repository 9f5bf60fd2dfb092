-- The value of a tree by the rules of a trial run, without its code.
use Rattle.std.specs.Prelude.{ℕ, true, false, List, [], ◌∷◌, length, ◌==◌, slice_index_or, slice_set, Option, Some as some, None as none}
use Rattle.std.specs.Prelude.{Option, Some as some, None as none}
use Rattle.std.proofs.Math.Option.{Option as Found, some as found, none as missing}
use Rattle.definition.specs.Number
use Rattle.definition.specs.Basic.{Bytes, pick}
use Rattle.definition.specs.Number
use Rattle.definition.specs.Syntax.{Stmt, Stmts, Else, Expr}
use Rattle.definition.specs.Walk.{less_than}
use Rattle.definition.specs.SymbolTable.{find_global}
use Rattle.trial.specs.Value.{Value, boolean, null, Globals, integer_of, truthy, Infix, add, sub, mul, div, equals, differs, less, greater, combined, Prefix, minus, bang, changed}
use Rattle.definition.specs.Tree.{Parsed}
use Rattle.trial.specs.Run.{Trial, unset_globals}
use Rattle.definition.specs.declared.reason.Reason.{Reason}

-- a value with the globals then; or Return ended the run; or a stop, and why
pub data Evaluated (A : Type 0) : Type 0 where
  on : A → Globals → Evaluated A
  returned : Globals → Evaluated A
  stopped : Reason → Evaluated A

-- more, where the run goes on
abbrev pub and_then : {A B : Type 0} → Evaluated A → (A → Globals → Evaluated B) → Evaluated B
and_then (on a g) k = k a g
and_then (returned g) k = returned g
and_then (stopped n) k = stopped n

-- a value, or the number where there is none
abbrev pub or_stop : Reason → Globals → Option Value → Evaluated Value
or_stop n g (some v) = on v g
or_stop n g none = stopped n

-- the operators in the order of `Operator`: Assign, Plus, Minus, Bang, Asterisk, Slash, Equal, NotEqual, Lt, Gt
abbrev pub prefix_of : List (Option Prefix)
prefix_of = none ∷ none ∷ some minus ∷ some bang ∷ []

-- of two operands
abbrev pub infix_of : List (Option Infix)
infix_of = none ∷ some add ∷ some sub ∷ none ∷ some mul ∷ some div ∷ some equals ∷ some differs ∷ some less ∷ some greater ∷ []

-- an operator's value; the walk refuses the others
abbrev pub prefixed : Option Prefix → Value → Globals → Evaluated Value
prefixed (some o) x g = or_stop Number.operand g (changed o x)
prefixed none x g = stopped Number.operator

-- of two operands
abbrev pub infixed : Option Infix → Value → Value → Globals → Evaluated Value
infixed (some o) x y g = or_stop Number.operand g (combined o x y)
infixed none x y g = stopped Number.operator

-- the value of the global that a name stands for; a builtin is no value of a trial run
abbrev pub named : Found ℕ → Globals → Evaluated Value
named (found k) g = or_stop Number.unset g (slice_index_or g k none)
named missing g = stopped Number.not_runnable

-- a branch's value is its last statement's; the walk refuses a branch without one
abbrev pub branch_value : Option Value → Globals → Evaluated Value
branch_value (some v) g = on v g
branch_value none g = stopped Number.no_value

-- the names of the globals behind a construct, the latest first: document 01's walk defines them on its way, also in the branch that is not taken
unfoldable mutual
  pub names_stmt : Stmt → List Bytes → List Bytes
  names_stmt (Stmt.expr_stmt p e) gs = names_expr e gs
  names_stmt (Stmt.let_stmt p n e) gs = names_expr e (n ∷ gs)
  names_stmt (Stmt.return_stmt p e) gs = names_expr e gs
  names_stmt (Stmt.block p b) gs = names_stmts b gs

  pub names_stmts : Stmts → List Bytes → List Bytes
  names_stmts Stmts.no_stmts gs = gs
  names_stmts (Stmts.stmts x xs) gs = names_stmts xs (names_stmt x gs)

  pub names_else : Else → List Bytes → List Bytes
  names_else Else.no_else gs = gs
  names_else (Else.else b) gs = names_stmts b gs

  pub names_expr : Expr → List Bytes → List Bytes
  names_expr (Expr.identifier p n) gs = gs
  names_expr (Expr.prefix p o e) gs = names_expr e gs
  names_expr (Expr.infixed p l o r) gs = pick (o == less_than) (names_expr l (names_expr r gs)) (names_expr r (names_expr l gs))
  names_expr (Expr.if p c t e) gs = names_else e (names_stmts t (names_expr c gs))
  names_expr (Expr.function p n ps b) gs = gs
  names_expr (Expr.call p f es) gs = gs
  names_expr (Expr.integer p b) gs = gs
  names_expr (Expr.boolean p b) gs = gs
  names_expr (Expr.string p b) gs = gs
  names_expr (Expr.array p es) gs = gs
  names_expr (Expr.index p l i) gs = gs
  names_expr (Expr.hash p es) gs = gs
  names_expr (Expr.macro p) gs = gs

-- With the names known so far and the globals; of statements, the value of the last one before them goes in, and that of the last one comes out
unfoldable mutual
  pub eval_stmt : Stmt → List Bytes → Option Value → Globals → Evaluated (Option Value)
  eval_stmt (Stmt.expr_stmt p e) gs last g = and_then (eval_expr e gs g) (λ v g₁. on (some v) g₁)
  -- a name is defined before its value
  eval_stmt (Stmt.let_stmt p n e) gs last g = and_then (eval_expr e (n ∷ gs) g) (λ v g₁. on none (slice_set g₁ (length gs) (some v)))
  eval_stmt (Stmt.return_stmt p e) gs last g = and_then (eval_expr e gs g) (λ v g₁. returned g₁)
  eval_stmt (Stmt.block p b) gs last g = eval_stmts b gs last g

  pub eval_stmts : Stmts → List Bytes → Option Value → Globals → Evaluated (Option Value)
  eval_stmts Stmts.no_stmts gs last g = on last g
  eval_stmts (Stmts.stmts x xs) gs last g = and_then (eval_stmt x gs last g) (λ v g₁. eval_stmts xs (names_stmt x gs) v g₁)

  pub eval_else : Else → List Bytes → Globals → Evaluated Value
  eval_else Else.no_else gs g = on null g
  eval_else (Else.else b) gs g = and_then (eval_stmts b gs none g) branch_value

  pub eval_expr : Expr → List Bytes → Globals → Evaluated Value
  eval_expr (Expr.identifier p n) gs g = named (find_global n gs) g
  eval_expr (Expr.prefix p o e) gs g = and_then (eval_expr e gs g) (λ x g₁. prefixed (slice_index_or prefix_of o none) x g₁)
  eval_expr (Expr.infixed p l o r) gs g =
      pick (o == less_than)
      (and_then (eval_expr r gs g) (λ y g₁. and_then (eval_expr l (names_expr r gs) g₁) (λ x g₂. infixed (slice_index_or infix_of o none) x y g₂)))
      (and_then (eval_expr l gs g) (λ x g₁. and_then (eval_expr r (names_expr l gs) g₁) (λ y g₂. infixed (slice_index_or infix_of o none) x y g₂)))
  eval_expr (Expr.if p c t e) gs g =
      and_then (eval_expr c gs g) (λ v g₁.
      pick (truthy v) (and_then (eval_stmts t (names_expr c gs) none g₁) branch_value) (eval_else e (names_stmts t (names_expr c gs)) g₁))
  eval_expr (Expr.function p n ps b) gs g = stopped Number.not_runnable
  eval_expr (Expr.call p f es) gs g = stopped Number.not_runnable
  eval_expr (Expr.integer p b) gs g = on (integer_of b) g
  eval_expr (Expr.boolean p b) gs g = on (boolean (pick (b == 0) false true)) g
  eval_expr (Expr.string p b) gs g = stopped Number.not_runnable
  eval_expr (Expr.array p es) gs g = stopped Number.not_runnable
  eval_expr (Expr.index p l i) gs g = stopped Number.not_runnable
  eval_expr (Expr.hash p es) gs g = stopped Number.not_runnable
  eval_expr (Expr.macro p) gs g = stopped Number.not_runnable

-- a program in a fresh session, all globals unset
abbrev pub evaluate : Stmts → Evaluated (Option Value)
evaluate b = eval_stmts b [] none unset_globals

-- the globals at the end, or why it stopped
pub data End : Type 0 where
  globals : Globals → End
  stop : Reason → End

-- a run's
abbrev pub trial_end : Trial → End
trial_end (Trial.ran g n) = End.globals g
trial_end (Trial.stopped k p) = End.stop k

-- a value's
abbrev pub value_end : {A : Type 0} → Evaluated A → End
value_end (Evaluated.on v g) = End.globals g
value_end (Evaluated.returned g) = End.globals g
value_end (Evaluated.stopped k) = End.stop k

-- a tree as it was read; one that is refused has no value
abbrev pub tree_end : Parsed Stmts → End
tree_end (Parsed.parsed b n) = value_end (evaluate b)
tree_end (Parsed.refused r) = End.stop r.reason
