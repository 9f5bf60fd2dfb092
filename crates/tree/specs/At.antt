-- What stands at an offset of a tree: each construct, with its parts at their offsets.
-- `S`, `B` and `E` say of a statement, a block and an expression that it stands at an offset.
use Rattle.std.specs.Prelude.{ℕ, ◌+◌, ◌≤◌, ◌≡◌, List, [], ◌∷◌, eqb}
use Rattle.definition.specs.Basic.{Bytes, byte_at, pick}
use Rattle.definition.specs.Limit.{name_limit}
use Rattle.definition.specs.Tag.{tag_boolean, tag_name, tag_params, tag_operator}
use Rattle.definition.specs.Syntax.{Stmt, Stmts, Else, Expr, Exprs}
use Rattle.definition.specs.Tree.{ExprTag, StmtTag, expr_tag}
use Rattle.field.specs.Layout.{tag, len, after, content, Whole}

-- a whole field of a tag from one to another
pub record FieldAt (tree : Bytes) (low high at : ℕ) : Type 0 where
  pub whole : Whole tree at
  pub from : low ≤ tag tree at
  pub upto : tag tree at ≤ high

-- fields in a row, each P at its offset, from an offset up to an end
abbrev pub Row : {A : Type 0} → Bytes → (ℕ → A → Type 0) → ℕ → ℕ → List A → Type 0
Row tree P at end [] = at ≡ end
Row tree P at end (x ∷ xs) = (after tree at ≤ end) × P at x × Row tree P (after tree at) end xs

-- statements as a list
abbrev pub stmt_list : Stmts → List Stmt
stmt_list Stmts.no_stmts = []
stmt_list (Stmts.stmts x xs) = x ∷ stmt_list xs

-- expressions as a list
abbrev pub expr_list : Exprs → List Expr
expr_list Exprs.no_exprs = []
expr_list (Exprs.exprs x xs) = x ∷ expr_list xs

-- a name of at least so many bytes
pub record NameAt (tree : Bytes) (least at : ℕ) : Type 0 where
  pub whole : Whole tree at
  pub tagged : tag tree at ≡ tag_name
  pub long : least ≤ len tree at
  pub short : len tree at ≤ name_limit

-- the name that it is
pub record NamedAt (tree : Bytes) (least at : ℕ) (name : Bytes) : Type 0 where
  pub named : NameAt tree least at
  pub is : name ≡ content tree at

-- the names from an offset up to an end, none of them empty
pub record ReadsNames (tree : Bytes) (at end : ℕ) (names : List Bytes) : Type 0 where
  pub row : Row tree (NamedAt tree 1) at end names

-- the parameters of a function
pub record ParamsAt (tree : Bytes) (at : ℕ) (params : List Bytes) : Type 0 where
  pub whole : Whole tree at
  pub tagged : tag tree at ≡ tag_params
  pub names : ReadsNames tree (at + 3) (after tree at) params

-- an operator
pub record OperatorAt (tree : Bytes) (at : ℕ) : Type 0 where
  pub whole : Whole tree at
  pub tagged : tag tree at ≡ tag_operator
  pub one : len tree at ≡ 1
  pub known : byte_at tree (at + 3) ≤ 9

-- the other branch, or nothing
abbrev pub ElseAt : Bytes → (ℕ → Stmts → Type 0) → ℕ → ℕ → Else → Type 0
ElseAt tree B at end Else.no_else = at ≡ end
ElseAt tree B at end (Else.else b) = (after tree at ≡ end) × B at b

-- a statement that is one expression
pub record ValueAt (tree : Bytes) (E : ℕ → Expr → Type 0) (make : ℕ → Expr → Stmt) (at : ℕ) (s : Stmt) : Type 0 where
  pub value : Expr
  pub is : s ≡ make at value
  pub on_value : E (at + 3) value
  pub ends : after tree (at + 3) ≡ after tree at

-- a let: its name, then its value
pub record LetAt (tree : Bytes) (E : ℕ → Expr → Type 0) (at : ℕ) (s : Stmt) : Type 0 where
  pub value : Expr
  pub is : s ≡ Stmt.let_stmt at (content tree (at + 3)) value
  pub named : NameAt tree 1 (at + 3)
  pub on_value : E (after tree (at + 3)) value
  pub ends : after tree (after tree (at + 3)) ≡ after tree at

-- a block as a statement
pub record BlockStmtAt (tree : Bytes) (S : ℕ → Stmt → Type 0) (at : ℕ) (s : Stmt) : Type 0 where
  pub body : Stmts
  pub is : s ≡ Stmt.block at body
  pub on_body : Row tree S (at + 3) (after tree at) (stmt_list body)

-- an identifier: its name is its content
pub record IdentifierAt (tree : Bytes) (at : ℕ) (e : Expr) : Type 0 where
  pub is : e ≡ Expr.identifier at (content tree at)
  pub long : 1 ≤ len tree at
  pub short : len tree at ≤ name_limit

-- a prefix: its operator, then its operand
pub record PrefixAt (tree : Bytes) (E : ℕ → Expr → Type 0) (at : ℕ) (e : Expr) : Type 0 where
  pub operand : Expr
  pub is : e ≡ Expr.prefix at (byte_at tree (at + 6)) operand
  pub operator : OperatorAt tree (at + 3)
  pub on-operand : E (at + 7) operand
  pub ends : after tree (at + 7) ≡ after tree at

-- an infix: its left operand, its operator, its right operand
pub record InfixAt (tree : Bytes) (E : ℕ → Expr → Type 0) (at : ℕ) (e : Expr) : Type 0 where
  pub left : Expr
  pub right : Expr
  pub is : e ≡ Expr.infixed at left (byte_at tree (after tree (at + 3) + 3)) right
  pub on_left : E (at + 3) left
  pub operator : OperatorAt tree (after tree (at + 3))
  pub on_right : E (after tree (at + 3) + 4) right
  pub ends : after tree (after tree (at + 3) + 4) ≡ after tree at

-- an if: its test, its branch, and the other branch or nothing
pub record IfAt (tree : Bytes) (B : ℕ → Stmts → Type 0) (E : ℕ → Expr → Type 0) (at : ℕ) (e : Expr) : Type 0 where
  pub test : Expr
  pub branch : Stmts
  pub other : Else
  pub is : e ≡ Expr.if at test branch other
  pub on_test : E (at + 3) test
  pub on_branch : B (after tree (at + 3)) branch
  pub fits : after tree (after tree (at + 3)) ≤ after tree at
  pub on_other : ElseAt tree B (after tree (after tree (at + 3))) (after tree at) other

-- a function: its name, which may be empty, its parameters, its body
pub record FunctionAt (tree : Bytes) (B : ℕ → Stmts → Type 0) (at : ℕ) (e : Expr) : Type 0 where
  pub params : List Bytes
  pub body : Stmts
  pub is : e ≡ Expr.function at (content tree (at + 3)) params body
  pub named : NameAt tree 0 (at + 3)
  pub on_params : ParamsAt tree (after tree (at + 3)) params
  pub on_body : B (after tree (after tree (at + 3))) body
  pub ends : after tree (after tree (after tree (at + 3))) ≡ after tree at

-- a call: its callee, then its arguments
pub record CallAt (tree : Bytes) (E : ℕ → Expr → Type 0) (at : ℕ) (e : Expr) : Type 0 where
  pub callee : Expr
  pub args : Exprs
  pub is : e ≡ Expr.call at callee args
  pub on_callee : E (at + 3) callee
  pub fits : after tree (at + 3) ≤ after tree at
  pub on_args : Row tree E (after tree (at + 3)) (after tree at) (expr_list args)

-- an integer: eight bytes
pub record IntegerAt (tree : Bytes) (at : ℕ) (e : Expr) : Type 0 where
  pub is : e ≡ Expr.integer at (content tree at)
  pub eight : len tree at ≡ 8

-- a boolean: one byte, 0 or 1
pub record BooleanAt (tree : Bytes) (at : ℕ) (e : Expr) : Type 0 where
  pub is : e ≡ Expr.boolean at (byte_at tree (at + 3))
  pub one : len tree at ≡ 1
  pub known : byte_at tree (at + 3) ≤ 1

-- an expression that is a list of expressions, a hash's keys and values in turn
pub record ListAt (tree : Bytes) (E : ℕ → Expr → Type 0) (make : ℕ → Exprs → Expr) (at : ℕ) (e : Expr) : Type 0 where
  pub items : Exprs
  pub is : e ≡ make at items
  pub on-items : Row tree E (at + 3) (after tree at) (expr_list items)

-- an index: what is indexed, then by what
pub record IndexAt (tree : Bytes) (E : ℕ → Expr → Type 0) (at : ℕ) (e : Expr) : Type 0 where
  pub left : Expr
  pub right : Expr
  pub is : e ≡ Expr.index at left right
  pub on_left : E (at + 3) left
  pub on_right : E (after tree (at + 3)) right
  pub ends : after tree (after tree (at + 3)) ≡ after tree at

-- what the statement of a tag is
abbrev pub StmtIs : Bytes → StmtTag → (ℕ → Stmt → Type 0) → (ℕ → Expr → Type 0) → ℕ → Stmt → Type 0
StmtIs tree StmtTag.expr_stmt_tag S E at s = ValueAt tree E (λ p x. Stmt.expr_stmt p x) at s
StmtIs tree StmtTag.block_tag S E at s = BlockStmtAt tree S at s
StmtIs tree StmtTag.let_tag S E at s = LetAt tree E at s
StmtIs tree StmtTag.return_tag S E at s = ValueAt tree E (λ p x. Stmt.return_stmt p x) at s

-- the kinds of expressions: a boolean is read apart from the others
pub data ExprKind : Type 0 where
  boolean_kind : ExprKind
  kind : ExprTag → ExprKind

-- the kind of a tag
abbrev pub expr_kind : ℕ → ExprKind
expr_kind t = pick (eqb t tag_boolean) boolean_kind (kind (expr_tag t))

-- what the expression of a kind is
abbrev pub ExprIs : Bytes → ExprKind → (ℕ → Stmts → Type 0) → (ℕ → Expr → Type 0) → ℕ → Expr → Type 0
ExprIs tree boolean_kind B E at e = BooleanAt tree at e
ExprIs tree (kind ExprTag.identifier_tag) B E at e = IdentifierAt tree at e
ExprIs tree (kind ExprTag.prefix_tag) B E at e = PrefixAt tree E at e
ExprIs tree (kind ExprTag.infix_tag) B E at e = InfixAt tree E at e
ExprIs tree (kind ExprTag.if_tag) B E at e = IfAt tree B E at e
ExprIs tree (kind ExprTag.function_tag) B E at e = FunctionAt tree B at e
ExprIs tree (kind ExprTag.call_tag) B E at e = CallAt tree E at e
ExprIs tree (kind ExprTag.integer_tag) B E at e = IntegerAt tree at e
ExprIs tree (kind ExprTag.string_tag) B E at e = e ≡ Expr.string at (content tree at)
ExprIs tree (kind ExprTag.array_tag) B E at e = ListAt tree E (λ p es. Expr.array p es) at e
ExprIs tree (kind ExprTag.index_tag) B E at e = IndexAt tree E at e
ExprIs tree (kind ExprTag.hash_tag) B E at e = ListAt tree E (λ p es. Expr.hash p es) at e
ExprIs tree (kind ExprTag.macro_tag) B E at e = e ≡ Expr.macro at
