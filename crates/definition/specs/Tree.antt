-- Reading a tree, depth first: the syntax tree, or the first thing that is wrong. On the way, the first field that is too deep, and the literals.
use Rattle.std.specs.Prelude.{ℕ, zero, suc, ◌+◌, Bool, true, false, List, [], ◌∷◌, length, leb, ltb, eqb}
use Rattle.std.proofs.Math.Option.{Option, none, some}
use Rattle.definition.specs.Basic.{Bytes, byte_at, pick, both}
use Rattle.definition.specs.Limit.{tree_limit, level_limit, name_limit}
use Rattle.definition.specs.Number
use Rattle.definition.specs.Number.{refusal}
use Rattle.definition.specs.Tag.{tag_identifier, tag_prefix, tag_infix, tag_if, tag_function, tag_call, tag_integer, tag_boolean, tag_string, tag_array, tag_index, tag_hash, tag_macro, tag_expr_stmt, tag_block, tag_let, tag_return, tag_params, tag_operator, tag_program}
use Rattle.definition.specs.Syntax.{Stmt, Stmts, Else, Expr, Exprs}
use Rattle.definition.specs.Field.{Head, tagged, name_head, fits, bytes, head}
use Rattle.definition.specs.declared.reason.Refusal.{Refusal}

-- What was read, and the offset after it; or the place of what is wrong. In both cases the first field met that is too deep, if any,
-- and which bytes are the content of a literal that was got past.
pub data Read (A : Type 0) : Type 0 where
  ok : A → ℕ → Option ℕ → (ℕ → Bool) → Read A
  wrong : ℕ → Option ℕ → (ℕ → Bool) → Read A

abbrev pub first : Option ℕ → Option ℕ → Option ℕ
first none q = q
first (some p) q = some p

abbrev pub up_to : ℕ → (ℕ → Bool) → (ℕ → Bool) → ℕ → Bool
up_to n f g i = pick (ltb i n) (f i) (g i)

abbrev pub after : {A : Type 0} → ℕ → Option ℕ → (ℕ → Bool) → Read A → Read A
after n d l (ok a m e r) = ok a m (first d e) (up_to n l r)
after n d l (wrong p e r) = wrong p (first d e) (up_to n l r)

abbrev pub seq : {A B : Type 0} → Read A → (A → ℕ → Read B) → Read B
seq (ok a n d l) k = after n d l (k a n)
seq (wrong p d l) k = wrong p d l

abbrev pub plain : ℕ → Bool
plain _ = false

abbrev pub literal : ℕ → Bool
literal _ = true

-- right, with nothing too deep and no literal; and so wrong
abbrev pub read : {A : Type 0} → A → ℕ → Read A
read a n = ok a n none plain

abbrev pub fault : {A : Type 0} → ℕ → Read A
fault p = wrong p none plain

-- a field at a level, Program's being 1, and what is read inside it
abbrev pub met : {A : Type 0} → ℕ → ℕ → Read A → Read A
met level at (ok a n d l) = ok a n (pick (ltb level_limit level) (some at) d) l
met level at (wrong p d l) = wrong p (pick (ltb level_limit level) (some at) d) l

pub data ExprTag : Type 0 where
  identifier_tag prefix_tag infix_tag if_tag function_tag call_tag integer_tag string_tag array_tag index_tag hash_tag macro_tag : ExprTag

pub data StmtTag : Type 0 where
  expr_stmt_tag block_tag let_tag return_tag : StmtTag

abbrev pub expr_tag : ℕ → ExprTag
expr_tag t =
    pick (eqb t tag_identifier) identifier_tag
    (pick (eqb t tag_prefix) prefix_tag
    (pick (eqb t tag_infix) infix_tag
    (pick (eqb t tag_if) if_tag
    (pick (eqb t tag_function) function_tag
    (pick (eqb t tag_call) call_tag
    (pick (eqb t tag_integer) integer_tag
    (pick (eqb t tag_string) string_tag
    (pick (eqb t tag_array) array_tag
    (pick (eqb t tag_index) index_tag
    (pick (eqb t tag_hash) hash_tag macro_tag))))))))))

abbrev pub stmt_tag : ℕ → StmtTag
stmt_tag t = pick (eqb t tag_expr_stmt) expr_stmt_tag (pick (eqb t tag_block) block_tag (pick (eqb t tag_let) let_tag return_tag))

-- what the length must be: a name's, an integer's, a boolean's
abbrev pub expr_len : Head → Bool
expr_len h = pick (tagged tag_identifier h) (both (leb 1 h.len) (leb h.len name_limit)) (pick (tagged tag_integer h) (eqb h.len 8) (pick (tagged tag_boolean h) (eqb h.len 1) true))

abbrev pub expr_head : Head → Bool
expr_head h = both (both (leb tag_identifier h.tag) (leb h.tag tag_macro)) (expr_len h)

abbrev pub stmt_head : Head → Bool
stmt_head h = both (leb tag_expr_stmt h.tag) (leb h.tag tag_return)

abbrev pub operator_head : Head → Bool
operator_head h = both (tagged tag_operator h) (eqb h.len 1)

-- a child: missing where the parent's content has ended
abbrev pub child : {A : Type 0} → (ℕ → ℕ → Read A) → ℕ → ℕ → ℕ → Read A
child f parent at end = pick (eqb at end) (fault parent) (f at end)

-- nothing may follow
abbrev pub last : {A : Type 0} → A → ℕ → ℕ → Read A
last a at end = pick (eqb at end) (read a at) (fault at)

-- fields up to the end
abbrev pub many : {A B : Type 0} → B → (A → B → B) → (ℕ → ℕ → Read A) → ℕ → ℕ → ℕ → Read B
many nil cons f zero at end = last nil at end
many nil cons f (suc fuel) at end =
    let more = seq (f at end) (λ x at₁. seq (many nil cons f fuel at₁ end) (λ xs. read (cons x xs))) in
    pick (eqb at end) (read nil at) more

abbrev pub names_of : (ℕ → ℕ → Read Bytes) → ℕ → ℕ → ℕ → Read (List Bytes)
names_of = many [] (λ x xs. x ∷ xs)

abbrev pub stmts_of : (ℕ → ℕ → Read Stmt) → ℕ → ℕ → ℕ → Read Stmts
stmts_of = many Stmts.no_stmts (λ x xs. Stmts.stmts x xs)

abbrev pub exprs_of : (ℕ → ℕ → Read Expr) → ℕ → ℕ → ℕ → Read Exprs
exprs_of = many Exprs.no_exprs (λ x xs. Exprs.exprs x xs)

-- a key without its value is a missing child
abbrev pub pair_of : (ℕ → ℕ → Read Expr) → ℕ → ℕ → ℕ → Read (Expr × Expr)
pair_of f parent at end = seq (f at end) (λ k at₁. seq (child f parent at₁ end) (λ v. read (k, v)))

abbrev pub pairs_of : (ℕ → ℕ → Read Expr) → ℕ → ℕ → ℕ → ℕ → Read Exprs
pairs_of f parent = many Exprs.no_exprs (λ x xs. Exprs.exprs x.0 (Exprs.exprs x.1 xs)) (pair_of f parent)

abbrev pub else_of : (ℕ → ℕ → Read Stmts) → ℕ → ℕ → Read Else
else_of f at end = pick (eqb at end) (read Else.no_else at) (seq (f at end) (λ b at₁. last (Else.else b) at₁ end))

module _ (byte : ℕ → ℕ) where
  -- a field's tag and length, if they are right
  abbrev pub head_at : (Head → Bool) → ℕ → ℕ → Read Head
  head_at good at end = pick (both (fits at end (head byte at)) (good (head byte at))) (read (head byte at) (at + 3)) (fault at)

  -- a byte that may not be larger, alone in its field
  abbrev pub one_byte : {A : Type 0} → (ℕ → A) → ℕ → (ℕ → Bool) → ℕ → ℕ → ℕ → Read A
  one_byte f most l level at in₀ = pick (leb (byte in₀) most) (met level at (ok (f (byte in₀)) (in₀ + 1) none l)) (fault at)

  abbrev pub read_name : ℕ → ℕ → ℕ → ℕ → Read Bytes
  read_name least level at end = seq (head_at (name_head least) at end) (λ h in₀. met level at (read (bytes byte in₀ h.len) (in₀ + h.len)))

  abbrev pub read_operator : ℕ → ℕ → ℕ → Read ℕ
  read_operator level at end = seq (head_at operator_head at end) (λ h in₀. one_byte (λ o. o) 9 plain level at in₀)

  abbrev pub read_params : ℕ → ℕ → ℕ → Read (List Bytes)
  read_params level at end = seq (head_at (tagged tag_params) at end) (λ h in₀. met level at (names_of (read_name 1 (level + 1)) h.len in₀ (in₀ + h.len)))

  -- what an expression's field of a level holds, with the readers of what is inside
  abbrev pub expr_body : ExprTag → (ℕ → ℕ → Read Expr) → (ℕ → ℕ → Read Stmts) → ℕ → ℕ → ℕ → ℕ → Read Expr
  expr_body identifier_tag e b level at in₀ n = read (Expr.identifier at (bytes byte in₀ n)) (in₀ + n)
  expr_body prefix_tag e b level at in₀ n =
      let end = in₀ + n in
      seq (child (read_operator (level + 1)) at in₀ end) (λ o at₁. seq (child e at at₁ end) (λ x at₂. last (Expr.prefix at o x) at₂ end))
  expr_body infix_tag e b level at in₀ n =
      let end = in₀ + n in
      seq (child e at in₀ end) (λ l at₁. seq (child (read_operator (level + 1)) at at₁ end) (λ o at₂. seq (child e at at₂ end) (λ r at₃. last (Expr.infixed at l o r) at₃ end)))
  expr_body if_tag e b level at in₀ n =
      let end = in₀ + n in
      seq (child e at in₀ end) (λ c at₁. seq (child b at at₁ end) (λ t at₂. seq (else_of b at₂ end) (λ f. read (Expr.if at c t f))))
  expr_body function_tag e b level at in₀ n =
      let end = in₀ + n in
      seq (child (read_name 0 (level + 1)) at in₀ end) (λ x at₁. seq (child (read_params (level + 1)) at at₁ end) (λ xs at₂. seq (child b at at₂ end) (λ f at₃. last (Expr.function at x xs f) at₃ end)))
  expr_body call_tag e b level at in₀ n = let end = in₀ + n in seq (child e at in₀ end) (λ f at₁. seq (exprs_of e n at₁ end) (λ xs. read (Expr.call at f xs)))
  expr_body integer_tag e b level at in₀ n = ok (Expr.integer at (bytes byte in₀ n)) (in₀ + n) none literal
  expr_body string_tag e b level at in₀ n = ok (Expr.string at (bytes byte in₀ n)) (in₀ + n) none literal
  expr_body array_tag e b level at in₀ n = seq (exprs_of e n in₀ (in₀ + n)) (λ xs. read (Expr.array at xs))
  expr_body index_tag e b level at in₀ n =
      let end = in₀ + n in
      seq (child e at in₀ end) (λ l at₁. seq (child e at at₁ end) (λ i at₂. last (Expr.index at l i) at₂ end))
  expr_body hash_tag e b level at in₀ n = seq (pairs_of e at n in₀ (in₀ + n)) (λ xs. read (Expr.hash at xs))
  expr_body macro_tag e b level at in₀ n =
      let end = in₀ + n in
      seq (child (read_params (level + 1)) at in₀ end) (λ xs at₁. seq (child b at at₁ end) (λ f at₂. last (Expr.macro at) at₂ end))

  abbrev pub stmt_body : StmtTag → (ℕ → ℕ → Read Stmt) → (ℕ → ℕ → Read Expr) → ℕ → ℕ → ℕ → ℕ → Read Stmt
  stmt_body expr_stmt_tag f e level at in₀ n = let end = in₀ + n in seq (child e at in₀ end) (λ x at₁. last (Stmt.expr_stmt at x) at₁ end)
  stmt_body block_tag f e level at in₀ n = seq (stmts_of f n in₀ (in₀ + n)) (λ b. read (Stmt.block at b))
  stmt_body let_tag f e level at in₀ n =
      let end = in₀ + n in
      seq (child (read_name 1 (level + 1)) at in₀ end) (λ x at₁. seq (child e at at₁ end) (λ v at₂. last (Stmt.let_stmt at x v) at₂ end))
  stmt_body return_tag f e level at in₀ n = let end = in₀ + n in seq (child e at in₀ end) (λ x at₁. last (Stmt.return_stmt at x) at₁ end)

  -- fuel, the level, the field's offset, and where its parent's content ends. There is never less fuel than bytes before that end (a child
  -- stands three bytes further on), so where there is none nothing fits
  unfoldable mutual
    pub read_stmt : ℕ → ℕ → ℕ → ℕ → Read Stmt
    read_stmt zero level at end = fault at
    read_stmt (suc fuel) level at end =
        seq (head_at stmt_head at end) (λ h in₀. met level at (
        stmt_body (stmt_tag h.tag) (λ a z. read_stmt fuel (level + 1) a z) (λ a z. read_expr fuel (level + 1) a z) level at in₀ h.len))

    pub read_block : ℕ → ℕ → ℕ → ℕ → Read Stmts
    read_block zero level at end = fault at
    read_block (suc fuel) level at end =
        seq (head_at (tagged tag_block) at end) (λ h in₀. met level at (
        stmts_of (λ a z. read_stmt fuel (level + 1) a z) h.len in₀ (in₀ + h.len)))

    pub read_expr : ℕ → ℕ → ℕ → ℕ → Read Expr
    read_expr zero level at end = fault at
    read_expr (suc fuel) level at end =
        seq (head_at expr_head at end) (λ h in₀.
        let other = met level at (expr_body (expr_tag h.tag) (λ a z. read_expr fuel (level + 1) a z) (λ a z. read_block fuel (level + 1) a z) level at in₀ h.len) in
        pick (tagged tag_boolean h) (one_byte (λ b. Expr.boolean at b) 1 literal level at in₀) other)

  -- one Program, as long as the tree
  unfoldable pub read_program : ℕ → Read Stmts
  read_program n =
      let program = seq (head_at (λ h. both (tagged tag_program h) (eqb (3 + h.len) n)) 0 n) (λ h in₀. stmts_of (λ a z. read_stmt n 2 a z) h.len in₀ n) in
      pick (leb n tree_limit) program (fault 0)

-- what reading comes to: a field that is too deep is met before what is wrong after it
pub data Parsed (A : Type 0) : Type 0 where
  parsed : A → ℕ → Parsed A
  refused : Refusal → Parsed A

abbrev pub judged : {A : Type 0} → Read A → Parsed A
judged (ok a n none l) = parsed a n
judged (ok a n (some p) l) = refused (refusal Number.too_deep p)
judged (wrong p none l) = refused (refusal Number.bad_tree p)
judged (wrong p (some q) l) = refused (refusal Number.too_deep q)

unfoldable pub read_tree : Bytes → Parsed Stmts
read_tree tree = judged (read_program (byte_at tree) (length tree))

abbrev pub literals : {A : Type 0} → Read A → ℕ → Bool
literals (ok a n d l) = l
literals (wrong p d l) = l
