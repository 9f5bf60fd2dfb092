-- A function: it is entered, its body passed, and its table is out of use again.
use Prim.Native.Nat.{ℕ, zero, suc, ◌+◌, ◌≤◌, ◌<◌}
use native.Mathlib.Omega.{arith}
use native.Mathlib.Numerals.{add-one}
use mathlib.Core.List.{List, ◌∷◌}
use mathlib.Core.Path.{◌≡◌, refl, sym, ap}
use lib.ListN.{length}
use borrow.Author.Tests.{le-leb, lt-leb, lt-ltb, le-ltb}
use Rattle.definition.specs.Basic.{Bytes}
use Rattle.definition.specs.Limit.{nesting_limit, arguments_limit}
use Rattle.definition.specs.Syntax.{Expr}
use Rattle.definition.specs.SymbolTable.{named, with_params}
use Rattle.definition.specs.Walk.{on, bind, Go, walk_stmts, walk_expr}
use Rattle.definition.specs.Decode.{words_in}
use Rattle.field.specs.Layout.{len, after, content}
use Rattle.tree.specs.At.{FunctionAt}
use Rattle.tree.specs.Reads.{Some, ReadsBlock, Counted}
use Rattle.symbol_table.specs.Layout.{part_size, base, tables_of, globals_of, Good}
use Rattle.symbol_table.specs.Contract.{HasParams, Enters}
use Rattle.step.proofs.Functions.{has_params}
use Rattle.records.specs.Naming.{Names, names, enter_name, naming}
use Rattle.trace.specs.Log.{log_of}
use Rattle.trace.specs.Pass.{names_at, Follows, Node, walk_node, ReadsNode, Standing, Passes}
use Rattle.trace.proofs.Sequence.{follows_then}

-- as many tables as open functions
tables_length : (tree : Bytes) (level : ℕ) (t : List ℕ) → length (tables_of tree level t) ≡ level
unfolding tables_of
tables_length tree zero t = refl
tables_length tree (suc level) t = ap suc (tables_length tree level t)

-- there is room for one function more
pub room_inside : {tree before : Bytes} {level : ℕ} {t : List ℕ} {l : Bytes} {n size : ℕ} → Standing tree before level t l n size → level < nesting_limit → base level + part_size ≤ length t
room_inside s d = omega (arith, s.area)

module _ {tree : Bytes} {at params body k : ℕ} (q : params ≡ after tree (at + 3)) (p : body ≡ after tree params) (c : Counted tree (params + 3) body k) where
  -- the parameters are as many as were counted
  params_count : {e : Expr} (i : FunctionAt tree (ReadsBlock tree) at e) → k ≡ length i.params
  params_count i = c.names i.params (rw (p, q) i.on_params.names)

  -- few enough, they can be defined
  these_params : {e : Expr} (i : FunctionAt tree (ReadsBlock tree) at e) → k ≤ arguments_limit → HasParams tree (params + 3) body
  these_params i a = rw (p, q) (has_params tree i.on_params (rw (params_count i) at a))

  pub params_row : Some (FunctionAt tree (ReadsBlock tree) at) → k ≤ arguments_limit → HasParams tree (params + 3) body
  params_row (e, i) a = these_params i a

  pub body_stands : Some (FunctionAt tree (ReadsBlock tree) at) → Some (ReadsNode tree body)
  body_stands (e, i) = (Node.block i.body, rw (p, q) (record { reads = i.on_body }))

  pub body_fits : Some (FunctionAt tree (ReadsBlock tree) at) → 3 + len tree body ≤ len tree at
  body_fits (e, i) = let h : after tree body ≡ after tree at = rw (p, q) i.ends in omega (arith, p, q)

  module _ {before : Bytes} {level : ℕ} {t : List ℕ} {l : Bytes} {n : ℕ} (s : Standing tree before level t l n (3 + len tree at)) where
    -- refused: no walk goes on there
    stops : ((i : List Bytes) → k ≡ length i → (x : Bytes) (f : Names → Go Names) → Follows (names_at tree before level t l n) (bind (enter_name at x i (names_at tree before level t l n)) (λ _. f (names_at tree before level t l n))))
        → Passes tree before level (FunctionAt tree (ReadsBlock tree) at) (walk_expr naming) (3 + len tree at) t t l l n n
    unfolding walk_expr
    stops h =
        record {
          step = λ x i. rw i.is (h i.params (params_count i) (content tree (at + 3)) (λ outer s₁. bind (walk_stmts naming i.body s₁) (λ _ s₂. naming.leave at (length i.params) outer s₂)));
          good = s.symbols;
          room = omega arith;
        }

    pub nested_passes : nesting_limit ≤ level → Passes tree before level (FunctionAt tree (ReadsBlock tree) at) (walk_expr naming) (3 + len tree at) t t l l n n
    unfolding enter_name
    nested_passes h = stops (λ ps _ x f. rw (tables_length tree level t, le-leb nesting_limit level h) tt)

    module _ (d : level < nesting_limit) where
      pub many_passes : arguments_limit < k → Passes tree before level (FunctionAt tree (ReadsBlock tree) at) (walk_expr naming) (3 + len tree at) t t l l n n
      unfolding enter_name
      many_passes h = stops (λ ps m x f. rw (tables_length tree level t, lt-leb nesting_limit level d, lt-ltb arguments_limit (length ps) (rw m at h)) tt)

      module _ (a : k ≤ arguments_limit) {t₁ : List ℕ} (x : (h : HasParams tree (params + 3) body) → Enters tree level (at + 3) h.row.names t t₁) where
        pub inside_stands : Some (FunctionAt tree (ReadsBlock tree) at) → length t₁ ≡ length t → Standing tree before (level + 1) t₁ l n (3 + len tree body)
        inside_stands f m =
            record { words = s.words; symbols = rw (add-one level) ((x (params_row f a)).good before s.symbols); depth = omega arith; area = omega (arith, s.area); short = s.short; room = omega (arith, s.room, body_fits f) }

        entered_tables : {e : Expr} (i : FunctionAt tree (ReadsBlock tree) at e) → tables_of tree (suc level) t₁ ≡ with_params i.params (named (content tree (at + 3))) ∷ tables_of tree level t
        entered_tables i =
            let h : HasParams tree (after tree (at + 3) + 3) (after tree (after tree (at + 3))) = has_params tree i.on_params (rw (params_count i) at a) in
            ((rw (p, q) at x) h).tables

        -- the state inside
        entered : {e : Expr} (i : FunctionAt tree (ReadsBlock tree) at e) → enter_name at (content tree (at + 3)) i.params (names_at tree before level t l n) ≡ on tt (names_at tree before (suc level) t₁ l n)
        unfolding enter_name
        entered i =
            rw (tables_length tree level t, lt-leb nesting_limit level d, le-ltb arguments_limit (length i.params) (rw (params_count i) at a))
            (λ u. on tt (names (words_in before) (sym (entered_tables i) u) (globals_of tree before (sym (x (these_params i a)).globals u)) (log_of l n)))

        pub function_whole : {t₂ : List ℕ} {l₂ : Bytes} {n₂ : ℕ} → Some (FunctionAt tree (ReadsBlock tree) at) → Passes tree before (level + 1) (ReadsNode tree body) walk_node (3 + len tree body) t₁ t₂ l l₂ n n₂
            → Passes tree before level (FunctionAt tree (ReadsBlock tree) at) (walk_expr naming) (3 + len tree at) t t₂ l l₂ n n₂
        unfolding walk_expr tables_of Good
        function_whole {t₂} {l₂} {n₂} f y =
            record {
              step = λ w i.
                  let u = names_at tree before level t₂ l₂ n₂ in
                  let v = names_at tree before (suc level) t₂ l₂ n₂ in
                  let outer = names_at tree before level t l n in
                  let after-body : Go Names = naming.leave at (length i.params) outer in
                  let inner = (rw (add-one level) at (y.step (Node.block i.body) (rw (p, q) (record { reads = i.on_body })))) in
                  rw (i.is, entered i) (follows_then u v (walk_stmts naming i.body (names_at tree before (suc level) t₁ l n)) after-body inner refl);
              good = (rw (add-one level) at y.good).1;
              room = omega (arith, y.room, body_fits f);
            }
