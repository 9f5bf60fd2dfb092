-- From what the parts of a construct did to what the pass did: an Identifier, a let, an infix, and what has children in a row.
use Prim.Native.Nat.{ℕ, ◌+◌, ◌-◌, ◌≤◌, ◌<◌}
use native.Mathlib.Omega.{arith}
use mathlib.Core.Bool.{true, false}
use mathlib.Core.List.{List, [], ◌∷◌}
use mathlib.Core.Logic.{inl}
use mathlib.Core.Option.{Option, none, some}
use mathlib.Core.Path.{◌≡◌, refl, sym, ap, subst, ◌∙◌}
use lib.ListN.{length, get_or}
use borrow.Author.Tests.{eq-eqb}
use Rattle.definition.specs.Basic.{Bytes, byte_at}
use Rattle.definition.specs.Tag.{tag_identifier, tag_let, tag_infix, tag_function}
use Rattle.definition.specs.Syntax.{Stmt, Expr}
use Rattle.definition.specs.SymbolTable.{Symbol, Table, Resolved, crossed}
use Rattle.definition.specs.Walk.{on, bind, Go, operate, infixes, less_than, walk_stmt, walk_expr}
use Rattle.definition.specs.Decode.{words_in}
use Rattle.field.specs.Layout.{tag, len, after, content, Whole}
use Rattle.tree.specs.At.{LetAt, InfixAt, FunctionAt}
use Rattle.tree.specs.Reads.{Some, ReadsExpr, ReadsBlock}
use Rattle.tree.proofs.Parts.{expr_is}
use Rattle.symbol_table.specs.Layout.{base, symbol_of, tables_of, globals_of, globals_in}
use Rattle.symbol_table.specs.Contract.{Lookup, Definition, resolved_of, defined_of, Resolves, Defines}
use Rattle.symbol_table.specs.declared.Found.{Found}
use Rattle.symbol_table.specs.declared.LookupError.{LookupError}
use Rattle.symbol_table.specs.declared.LookupError.TheVariants.{Undefined, Full}
use Rattle.symbol_table.specs.declared.Slot.TheVariants.{Global, Local}
use Rattle.symbol_table.specs.declared.DefineError.TheVariants.{GlobalsFull, LocalsFull}
use Rattle.std.specs.Prelude.{Ok, Err}
use Rattle.symbol_table.proofs.Resolving.{few_crossed}
use Rattle.records.specs.Records.{record_of}
use Rattle.records.specs.Naming.{Names, names, looked_up, look_up, placed_name, define_name, naming}
use Rattle.trace.specs.Log.{log_of}
use Rattle.trace.specs.Pass.{Anything, names_at, Follows, is_parent, Node, walk_node, walk_nodes, ReadsNode, ReadsNodes, Standing, Passes}
use Rattle.trace.proofs.Small.{Small, SmallResolved, code_small, lookup_small}
use Rattle.trace.proofs.Sequence.{Below, below-bind, below_follows, follows_then, passes_as}
use Rattle.trace.proofs.Nodes.{children, silent, infix_inner, as_let, as_expr}

-- An Identifier

-- the tables of all open functions lie in the area
pub within_area : {tree before : Bytes} {level : ℕ} {t : List ℕ} {l : Bytes} {n size : ℕ} → Standing tree before level t l n size → base level ≤ length t
within_area s = omega (arith, s.area, s.depth)

module _ {tree before : Bytes} {level at : ℕ} {t t' : List ℕ} {l : Bytes} {n size : ℕ} (s : Standing tree before level t l n size) where
  module _ {symbol : Found} {answer : Lookup} (found : answer ≡ Ok symbol) (x : Resolves (words_in before) tree before level at answer t t') where
    -- a symbol that was found has a small code
    pub found_code : symbol.code < 2048
    found_code = code_small symbol.code (small (subst SmallResolved (sym (ap (λ a. resolved_of a (tables_of tree level t')) (sym found) ∙ x.resolved)) (lookup_small (words_in before) tree before level t (content tree at) s.symbols)))
      where
        small : {y : Symbol} {ts : List Table} → SmallResolved (Resolved.found y ts) → Small y
        small (SmallResolved.found h) = h

    -- and no more functions are crossed than are open
    far_is : symbol.crossed ≡ crossed (content tree at) (tables_of tree level t)
    far_is = rw found at x.crossed

    pub found_far : symbol.crossed < 32
    found_far = omega (arith, far_is, few_crossed tree (content tree at) t level, s.depth)

    -- its record is logged
    pub found_passes : {l' : Bytes} → log_of l' (n + 1) ≡ record_of at symbol.crossed (symbol_of symbol.code) ∷ log_of l n → Passes tree before level Anything (λ _. look_up at (content tree at)) 4 t t' l l' n (n + 1)
    unfolding look_up globals_of
    found_passes {l'} e =
        record {
          step = λ _ _. subst (λ y. Follows (names_at tree before level t' l' (n + 1)) (looked_up at (crossed (content tree at) (tables_of tree level t)) (names_at tree before level t l n) y))
              (ap (λ a. resolved_of a (tables_of tree level t')) (sym found) ∙ x.resolved)
              (λ i. names (words_in before) (tables_of tree level t') (globals_of tree before (x.globals i)) ((e ∙ ap (λ k. record_of at k (symbol_of symbol.code) ∷ log_of l n) far_is) i));
          good = x.good;
          room = omega arith;
        }

  -- a lookup that finds nothing
  refused_passes : {answer : Lookup} (y : Lookup) → answer ≡ y → ((ts : List Table) → Follows (names_at tree before level t' l n) (looked_up at (crossed (content tree at) (tables_of tree level t)) (names_at tree before level t l n) (resolved_of y ts)))
      → Resolves (words_in before) tree before level at answer t t' → Passes tree before level Anything (λ _. look_up at (content tree at)) 4 t t' l l n n
  unfolding look_up
  refused_passes y e f x =
      record {
        step = λ _ _. subst (λ z. Follows (names_at tree before level t' l n) (looked_up at (crossed (content tree at) (tables_of tree level t)) (names_at tree before level t l n) z)) (ap (λ a. resolved_of a (tables_of tree level t')) (sym e) ∙ x.resolved) (f (tables_of tree level t'));
        good = x.good;
        room = omega arith;
      }

  pub nothing_passes : {answer : Lookup} (e : LookupError) → answer ≡ Err e → Resolves (words_in before) tree before level at answer t t' → Passes tree before level Anything (λ _. look_up at (content tree at)) 4 t t' l l n n
  nothing_passes Undefined e x = refused_passes (Err Undefined) e (λ ts. tt) x
  nothing_passes Full e x = refused_passes (Err Full) e (λ ts. tt) x

-- What stands at an offset, by its tag

module _ {tree : Bytes} {at : ℕ} where
  identifier_long : tag tree at ≡ tag_identifier → Some (ReadsNode tree at) → 1 ≤ len tree at
  identifier_long h (x, r) = let e = as_expr h (omega arith) (omega arith) x r in (expr_is tag_identifier h e.1).long

  pub let_here : tag tree at ≡ tag_let → Some (ReadsNode tree at) → Some (LetAt tree (ReadsExpr tree) at)
  let_here h (x, r) = let y = as_let h x r in (y.0, y.1)

  pub function_here : tag tree at ≡ tag_function → Some (ReadsNode tree at) → Some (FunctionAt tree (ReadsBlock tree) at)
  function_here h (x, r) = let y = as_expr h (omega arith) (omega arith) x r in (y.0, expr_is tag_function h y.1)

  pub infix_here : tag tree at ≡ tag_infix → Some (ReadsNode tree at) → Some (InfixAt tree (ReadsExpr tree) at)
  infix_here h (x, r) = let y = as_expr h (omega arith) (omega arith) x r in (y.0, expr_is tag_infix h y.1)

  pub row_here : {end : ℕ} → is_parent (tag tree at) ≡ true → end ≡ after tree at → Some (ReadsNode tree at) → Some (ReadsNodes tree (at + 3) end)
  row_here h q (x, r) = let i = children x r h in (i.nodes, rw q i.row)

  module _ {before : Bytes} {level : ℕ} {t : List ℕ} {l : Bytes} {n : ℕ} where
    pub identifier_stands : tag tree at ≡ tag_identifier → Some (ReadsNode tree at) → Standing tree before level t l n (3 + len tree at) → Standing tree before level t l n 4
    identifier_stands h r s = record { words = s.words; symbols = s.symbols; depth = s.depth; area = s.area; short = s.short; room = omega (arith, s.room, identifier_long h r) }

    pub silent_passes : (tag tree at ≡ tag_identifier → ⊥) → (tag tree at ≡ tag_let → ⊥) → (tag tree at ≡ tag_function → ⊥) → (tag tree at ≡ tag_infix → ⊥) → is_parent (tag tree at) ≡ false
        → Standing tree before level t l n (3 + len tree at) → Passes tree before level (ReadsNode tree at) walk_node (3 + len tree at) t t l l n n
    silent_passes n₀ n₁ n₂ n₃ h s =
        record { step = λ x r. below_follows _ (silent n₀ n₁ n₂ n₃ h x r (names_at tree before level t l n)) refl; good = s.symbols; room = omega arith }

    module _ {t' : List ℕ} {l' : Bytes} {n' : ℕ} where
      pub identifier_passes : tag tree at ≡ tag_identifier → Some (ReadsNode tree at) → Passes tree before level Anything (λ _. look_up at (content tree at)) 4 t t' l l' n n' → Passes tree before level (ReadsNode tree at) walk_node (3 + len tree at) t t' l l' n n'
      unfolding walk_expr
      identifier_passes h r =
          passes_as (omega (arith, identifier_long h r)) (λ x i.
          let y = as_expr h (omega arith) (omega arith) x i in
          (tt, tt, λ s. subst (λ e. Below (walk_node x s) (walk_expr naming e s)) (expr_is tag_identifier h y.1).is (y.2 s)))

      pub let_passes : tag tree at ≡ tag_let → Passes tree before level (LetAt tree (ReadsExpr tree) at) (walk_stmt naming) (3 + len tree at) t t' l l' n n' → Passes tree before level (ReadsNode tree at) walk_node (3 + len tree at) t t' l l' n n'
      let_passes h = passes_as (omega arith) (λ x i. as_let h x i)

      pub function_passes : tag tree at ≡ tag_function → Passes tree before level (FunctionAt tree (ReadsBlock tree) at) (walk_expr naming) (3 + len tree at) t t' l l' n n' → Passes tree before level (ReadsNode tree at) walk_node (3 + len tree at) t t' l l' n n'
      function_passes h = passes_as (omega arith) (λ x i. let y = as_expr h (omega arith) (omega arith) x i in (y.0, expr_is tag_function h y.1, y.2))

      pub infix_passes : tag tree at ≡ tag_infix → Passes tree before level (InfixAt tree (ReadsExpr tree) at) (walk_expr naming) (3 + len tree at) t t' l l' n n' → Passes tree before level (ReadsNode tree at) walk_node (3 + len tree at) t t' l l' n n'
      infix_passes h = passes_as (omega arith) (λ x i. let y = as_expr h (omega arith) (omega arith) x i in (y.0, expr_is tag_infix h y.1, y.2))

      pub row_passes : {end : ℕ} → is_parent (tag tree at) ≡ true → end ≡ after tree at → Passes tree before level (ReadsNodes tree (at + 3) end) walk_nodes (end - (at + 3)) t t' l l' n n'
          → Passes tree before level (ReadsNode tree at) walk_node (3 + len tree at) t t' l l' n n'
      row_passes h q = passes_as (omega arith) (λ x r. let i = children x r h in (i.nodes, rw q i.row, i.below))

-- A let

module _ {tree : Bytes} {at : ℕ} where
  let_nodes : {y : Stmt} → LetAt tree (ReadsExpr tree) at y → (xs : List Node) × ReadsNodes tree (at + 3) (after tree at) xs
  let_nodes i = (
    Node.quiet ∷ Node.expr i.value ∷ [],
    record { row = (omega (arith, i.ends), record { reads = record { whole = i.named.whole; tagged = inl i.named.tagged } }, (omega (arith, i.ends), record { reads = i.on_value }, i.ends)) },
  )

  pub let-row : {end : ℕ} → end ≡ after tree at → Some (LetAt tree (ReadsExpr tree) at) → Some (ReadsNodes tree (at + 3) end)
  let-row q (y, i) = rw q (let_nodes i)

  pub let-name : Some (LetAt tree (ReadsExpr tree) at) → Whole tree (at + 3)
  let-name (y, i) = i.named.whole

-- a definition, and then a walk
define_follows : (u : Names) (p : ℕ) (s : Names) (d : Definition) (gs : List Bytes) (ts : List Table) (k : Go Names) → Follows u (k (names s.words ts gs s.records)) → Follows u (bind (placed_name p s (defined_of d gs ts)) (λ _. k))
define_follows u p s (Ok (Global i)) gs ts k h = h
define_follows u p s (Ok (Local i)) gs ts k h = h
define_follows u p s (Err GlobalsFull) gs ts k h = tt
define_follows u p s (Err LocalsFull) gs ts k h = tt

-- what is asked for its value
pub defined_stands : {tree before : Bytes} {level : ℕ} (at : ℕ) {end : ℕ} {t t₁ : List ℕ} {l : Bytes} {n : ℕ} {d : Definition} → end ≡ after tree at → length t₁ ≡ length t → Standing tree before level t l n (3 + len tree at)
    → Defines tree level (at + 3) d t t₁ → Standing tree before level t₁ l n (end - (at + 3))
defined_stands {before = before} at q k s x = record { words = s.words; symbols = x.good before s.symbols; depth = s.depth; area = omega (arith, s.area); short = s.short; room = omega (arith, s.room) }

module _ {tree before : Bytes} {level at end : ℕ} {t t₁ t' : List ℕ} {l l' : Bytes} {n n' : ℕ} {d : Definition} where
  pub let_whole : end ≡ after tree at → Defines tree level (at + 3) d t t₁ → Passes tree before level (ReadsNodes tree (at + 3) end) walk_nodes (end - (at + 3)) t₁ t' l l' n n'
      → Passes tree before level (LetAt tree (ReadsExpr tree) at) (walk_stmt naming) (3 + len tree at) t t' l l' n n'
  unfolding walk_stmt define_name let_nodes
  let_whole q x y =
      record {
        step = λ w i.
            let k : Go Names = λ s. bind (walk_expr naming i.value s) (λ _. on tt) in
            let u = names_at tree before level t' l' n' in
            let j = let_nodes i in
            rw i.is
            (subst (λ z. Follows u (bind (placed_name at (names_at tree before level t l n) z) (λ _. k))) (x.defined before)
            (define_follows u at (names_at tree before level t l n) d (globals_in tree before t₁) (tables_of tree level t₁) k
            (below_follows u (below-bind (walk_expr naming i.value (names_at tree before level t₁ l n)) (λ s. Below.on)) (y.step j.0 (rw q j.1)))));
        good = y.good;
        room = omega (arith, y.room);
      }

-- An infix

operate_follows : (u : Names) (p : ℕ) (o : Option ℕ) → Follows u (operate naming p o u)
operate_follows u p none = tt
operate_follows u p (some o) = refl

module _ {tree : Bytes} {at op : ℕ} (q : op ≡ after tree (at + 3)) where
  pub operator_byte : Some (InfixAt tree (ReadsExpr tree) at) → op + 3 < length tree
  operator_byte (e, i) = omega (arith, i.operator.whole.fits, i.operator.one)

  pub left_stands : Some (InfixAt tree (ReadsExpr tree) at) → Some (ReadsNode tree (at + 3))
  left_stands (e, i) = (Node.expr i.left, record { reads = i.on_left })

  pub right_stands : Some (InfixAt tree (ReadsExpr tree) at) → Some (ReadsNode tree (op + 4))
  right_stands (e, i) = (Node.expr i.right, rw q (record { reads = i.on_right }))

  -- the right one stands behind the operator
  pub right_at : Some (InfixAt tree (ReadsExpr tree) at) → after tree op ≡ op + 4
  right_at (e, i) = let one : len tree op ≡ 1 = rw q i.operator.one in omega (arith, one)

  -- both operands lie inside
  pub operands_fit : Some (InfixAt tree (ReadsExpr tree) at) → 3 + len tree (op + 4) + (3 + len tree (at + 3)) ≤ 3 + len tree at
  operands_fit (e, i) = let h : after tree (op + 4) ≡ after tree at = rw q i.ends in omega arith

  pub infix-row : {end : ℕ} → (byte_at tree (op + 3) ≡ less_than → ⊥) → end ≡ after tree at → Some (InfixAt tree (ReadsExpr tree) at) → Some (ReadsNodes tree (at + 3) end)
  infix-row m z (e, i) = let j = infix_inner e (rw q at m) i in (j.nodes, rw z j.row)

  module _ {before : Bytes} {level : ℕ} {t : List ℕ} {l : Bytes} {n : ℕ} where
    -- `<`: its right operand, then its left one
    pub less_passes : {t₁ t₂ : List ℕ} {l₁ l₂ : Bytes} {n₁ n₂ : ℕ} → Some (InfixAt tree (ReadsExpr tree) at) → byte_at tree (op + 3) ≡ less_than
        → Passes tree before level (ReadsNode tree (op + 4)) walk_node (3 + len tree (op + 4)) t t₁ l l₁ n n₁ → Passes tree before level (ReadsNode tree (at + 3)) walk_node (3 + len tree (at + 3)) t₁ t₂ l₁ l₂ n₁ n₂
        → Passes tree before level (InfixAt tree (ReadsExpr tree) at) (walk_expr naming) (3 + len tree at) t t₂ l l₂ n n₂
    unfolding walk_expr
    less_passes {t₁} {t₂} {l₁} {l₂} {n₁} {n₂} here o d e =
        record {
          step = λ x i.
              let u = names_at tree before level t₂ l₂ n₂ in
              let v = names_at tree before level t₁ l₁ n₁ in
              let y : x ≡ Expr.infixed at i.left (byte_at tree (op + 3)) i.right = rw q i.is in
              let last : Go Names = operate naming at (get_or infixes (byte_at tree (op + 3)) none) in
              rw (y, eq-eqb (byte_at tree (op + 3)) less_than o)
              (follows_then u v (walk_expr naming i.right (names_at tree before level t l n)) (λ s. bind (walk_expr naming i.left s) (λ _. last))
              (d.step (Node.expr i.right) (record { reads = rw q i.on_right }))
              (follows_then u u (walk_expr naming i.left v) last (e.step (Node.expr i.left) (record { reads = i.on_left })) (operate_follows u at (get_or infixes (byte_at tree (op + 3)) none))));
          good = e.good;
          room = omega (arith, d.room, e.room, operands_fit here);
        }

    -- the others: as they stand
    pub infix_whole : {t' : List ℕ} {l' : Bytes} {n' end : ℕ} → (byte_at tree (op + 3) ≡ less_than → ⊥) → end ≡ after tree at → Passes tree before level (ReadsNodes tree (at + 3) end) walk_nodes (end - (at + 3)) t t' l l' n n'
        → Passes tree before level (InfixAt tree (ReadsExpr tree) at) (walk_expr naming) (3 + len tree at) t t' l l' n n'
    infix_whole m z = passes_as (omega arith) (λ x i. let j = infix_inner x (rw q at m) i in (j.nodes, rw z j.row, j.below))
