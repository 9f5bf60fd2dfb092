-- Chain in a row: the first of them, and how many there are.
use Prim.Native.Nat.{ℕ, zero, suc, ◌+◌, ◌-◌, ◌*◌, ◌≤◌, ◌<◌}
use native.Mathlib.Numerals.{one-add}
use native.Mathlib.Omega.{arith}
use mathlib.Core.List.{List, [], ◌∷◌}
use mathlib.Core.Path.{◌≡◌, refl, sym, ap, subst, ◌∙◌}
use lib.ListN.{length}
use borrow.Author.Tests.{lt-ltb, le-ltb}
use Rattle.definition.specs.Basic.{Bytes}
use Rattle.definition.specs.Syntax.{Stmts, Exprs, count}
use Rattle.std.specs.Iterator.{Drains}
use Rattle.field.specs.Layout.{after, Whole}
use Rattle.field.specs.Fields.{FieldsTo, Gives}
use Rattle.field.specs.declared.fields.Fields.{Fields}
use Rattle.field.proofs.EachField.{Over, over_again, ends_at, is_behind, whole_here, fits_here}
use Rattle.definition.proofs.Basic.{pick_true, pick_false}
use Rattle.tree.specs.At.{Row, stmt_list, expr_list, NamedAt, ReadsNames}
use Rattle.tree.specs.Reads.{Some, ReadsStmt, ReadsStmts, ReadsExpr, ReadsExprs, Chain, InRow, fields_in, Counted}

-- the first of a row, and the others behind it
pub record First {A B : Type 0} (tree : Bytes) (cons : A → B → B) (P : ℕ → A → Type 0) (R : ℕ → ℕ → B → Type 0) (at end : ℕ) (b : B) : Type 0 where
  pub one : A
  pub others : B
  pub is : b ≡ cons one others
  pub here : P at one
  pub fits : after tree at ≤ end
  pub behind : R (after tree at) end others

module _ {tree : Bytes} {at end : ℕ} where
  -- before the end there is a statement
  pub first_stmt : (b : Stmts) → at < end → ReadsStmts tree at end b → First tree (λ x xs. Stmts.stmts x xs) (ReadsStmt tree) (ReadsStmts tree) at end b
  first_stmt Stmts.no_stmts h r = absurd (omega (arith, r.row))
  first_stmt (Stmts.stmts x xs) h r = record { one = x; others = xs; is = refl; here = r.row.1; fits = r.row.0; behind = record { row = r.row.2 } }

  -- at the end there is none
  pub no-stmts : (b : Stmts) → end ≤ at → ReadsStmts tree at end b → (b ≡ Stmts.no_stmts) × (at ≡ end)
  no-stmts Stmts.no_stmts h r = (refl, r.row)
  no-stmts (Stmts.stmts x xs) h r = absurd (omega (arith, r.row.0))

  -- before the end there is an expression
  pub first_expr : (es : Exprs) → at < end → ReadsExprs tree at end es → First tree (λ x xs. Exprs.exprs x xs) (ReadsExpr tree) (ReadsExprs tree) at end es
  first_expr Exprs.no_exprs h r = absurd (omega (arith, r.row))
  first_expr (Exprs.exprs x xs) h r = record { one = x; others = xs; is = refl; here = r.row.1; fits = r.row.0; behind = record { row = r.row.2 } }

  -- at the end there is none
  pub no-exprs : (es : Exprs) → end ≤ at → ReadsExprs tree at end es → (es ≡ Exprs.no_exprs) × (at ≡ end)
  no-exprs Exprs.no_exprs h r = (refl, r.row)
  no-exprs (Exprs.exprs x xs) h r = absurd (omega (arith, r.row.0))

  -- before the end there is a name
  pub first_name : (ns : List Bytes) → at < end → ReadsNames tree at end ns → First tree (λ x xs. x ∷ xs) (NamedAt tree 1) (ReadsNames tree) at end ns
  first_name [] h r = absurd (omega (arith, r.row))
  first_name (x ∷ xs) h r = record { one = x; others = xs; is = refl; here = r.row.1; fits = r.row.0; behind = record { row = r.row.2 } }

  -- at the end there is none
  pub no-names : (ns : List Bytes) → end ≤ at → ReadsNames tree at end ns → (ns ≡ []) × (at ≡ end)
  no-names [] h r = (refl, r.row)
  no-names (x ∷ xs) h r = absurd (omega (arith, r.row.0))

module _ (tree : Bytes) where
  -- there are as many as there are
  fields_same : (at end n m : ℕ) → Chain tree at end n → Chain tree at end m → n ≡ m
  fields_same at end zero zero f g = refl
  fields_same at end zero (suc m) f g = absurd (omega (arith, g.1))
  fields_same at end (suc n) zero f g = absurd (omega (arith, f.1))
  fields_same at end (suc n) (suc m) f g = ap suc (fields_same (after tree at) end n m f.2 g.2)

  -- the fields of a row
  pub row-fields : {A : Type 0} {P : ℕ → A → Type 0} → ((at : ℕ) (x : A) → P at x → Whole tree at) → (at end : ℕ) (xs : List A) → Row tree P at end xs → Chain tree at end (length xs)
  row-fields w at end [] r = r
  row-fields w at end (x ∷ xs) r = (w at x r.1, r.0, row-fields w (after tree at) end xs r.2)

  -- the fields of expressions
  exprs_fields : (at end : ℕ) (es : Exprs) → ReadsExprs tree at end es → Chain tree at end (count es)
  exprs_fields at end es r = subst (Chain tree at end) (listed es) (row-fields (λ _ _ e. e.field.whole) at end (expr_list es) r.row)
    where
      listed : (es : Exprs) → length (expr_list es) ≡ count es
      listed Exprs.no_exprs = refl
      listed (Exprs.exprs x xs) = ap suc (listed xs)

  -- the fields of names
  names-fields : (at end : ℕ) (ns : List Bytes) → ReadsNames tree at end ns → Chain tree at end (length ns)
  names-fields at end ns r = row-fields (λ _ _ n. n.named.whole) at end ns r.row

-- fields in a row are as many as are counted
count_is : (tree : Bytes) (at end n : ℕ) → Chain tree at end n → (k : ℕ) → n ≤ k → fields_in k tree at end ≡ n
unfolding fields_in
count_is tree at end zero f zero h = refl
count_is tree at end zero f (suc k) h = pick_false (1 + fields_in k tree (after tree at) end) 0 (le-ltb at end (omega (arith, f)))
count_is tree at end (suc n) f zero h = absurd (omega arith)
count_is tree at end (suc n) f (suc k) h = pick_true (1 + fields_in k tree (after tree at) end) 0 (lt-ltb at end (omega (arith, f.1))) ∙ ap (λ m. 1 + m) (count_is tree (after tree at) end n f.2 k (omega arith)) ∙ one-add n

-- each field has three bytes and more
chain-small : (tree : Bytes) (at end n : ℕ) → Chain tree at end n → n * 3 + at ≤ end
chain-small tree at end zero f = omega (arith, f)
chain-small tree at end (suc n) f = omega (arith, chain-small tree (after tree at) end n f.2)

-- they can be gone over
pub chain_to : (tree : Bytes) (at end n : ℕ) → Chain tree at end n → FieldsTo tree end at
chain_to tree at end zero f = FieldsTo.end f
chain_to tree at end (suc n) f = FieldsTo.more f.0.fits f.1 (chain_to tree (after tree at) end n f.2)

-- fields that were gone over, all of them, stand in a row
pub drained : {tree : Bytes} {end : ℕ} (xs : List ℕ) {s : Fields} → Over tree end s → Drains Gives s xs → Chain tree s.at end (length xs)
drained {tree} {end} [] {s} o d = ap (λ (x : Fields). x.at) d.1.1 ∙ ends_at (subst (Over tree end) d.1.1 o) d.1.2
drained {tree} {end} (x ∷ xs) {s} o d =
    let n = d.1.1.1 in
    let behind = subst (λ a. Chain tree a end (length xs)) (is_behind o n) (drained xs (over_again o n) (d.0, (d.1.0, d.1.1.2, d.1.2))) in
    subst (λ a. Chain tree a end (length (x ∷ xs))) n.here (whole_here o n, fits_here o n, behind)

module _ {tree : Bytes} {from end : ℕ} where
  -- expressions stand in a row
  pub exprs_in_row : Some (ReadsExprs tree from end) → Some (InRow tree from end)
  exprs_in_row (es, r) = (count es, record { fields = exprs_fields tree from end es r })

  -- names stand in a row
  pub names_in_row : Some (ReadsNames tree from end) → Some (InRow tree from end)
  names_in_row (ns, r) = (length ns, record { fields = names-fields tree from end ns r })

  -- and can be gone over
  pub in_row : Some (InRow tree from end) → FieldsTo tree end from
  in_row (n, r) = chain_to tree from end n r.fields

  -- so do statements, and expressions
  pub stmts_to : Some (ReadsStmts tree from end) → FieldsTo tree end from
  stmts_to (b, r) = chain_to tree from end _ (row-fields tree (λ _ _ s. s.field.whole) from end (stmt_list b) r.row)

  pub exprs_to : Some (ReadsExprs tree from end) → FieldsTo tree end from
  exprs_to r = in_row (exprs_in_row r)

  -- as many as there are
  pub counted : (n : ℕ) → InRow tree from end n → Counted tree from end n
  counted n r =
      let few = chain-small tree from end n r.fields in
      record {
        is = sym (count_is tree from end n r.fields (end - from) (omega arith));
        exprs = λ es x. fields_same tree from end n (count es) r.fields (exprs_fields tree from end es x);
        names = λ ns x. fields_same tree from end n (length ns) r.fields (names-fields tree from end ns x);
        small = few;
      }
