-- What reading a field gives, where nothing is wrong: what stands at its offset, up to the offset after it.
use Prim.Native.Nat.{ℕ, ◌+◌, ◌≤◌}
use native.Mathlib.Omega.{arith}
use mathlib.Core.Bool.{true}
use mathlib.Core.List.{List, [], ◌∷◌}
use mathlib.Core.Path.{◌≡◌, refl, sym, subst, ◌∙◌}
use lib.ListN.{length}
use lib.Dec.{leb, eqb}
use borrow.Author.Tests.{eqb-true, leb-true}
use Rattle.definition.specs.Basic.{Bytes, byte_at, both}
use Rattle.definition.specs.Limit.{name_limit}
use Rattle.definition.specs.Tag.{tag_name, tag_params, tag_operator}
use Rattle.definition.specs.Syntax.{Stmt, Stmts, Else, Expr, Exprs}
use Rattle.definition.specs.Field.{head, tagged, name_head}
use Rattle.definition.specs.Tree.{Read, plain, operator_head, pair_of, pairs_of, names_of, stmts_of, exprs_of, else_of, read_name, read_operator, read_params}
use Rattle.definition.proofs.Basic.{both_true}
use Rattle.definition.proofs.Gives.{Gives, right, Fields, gives-seq, gives-pick, gives-met, gives-child, gives_end, gives_head, gives-one_byte, gives-items, gives-map}
use Rattle.field.specs.Layout.{len, after, Whole}
use Rattle.tree.specs.At.{Row, stmt_list, expr_list, NameAt, NamedAt, ParamsAt, OperatorAt, ElseAt}
use Rattle.field.proofs.Content.{content-bytes}

module _ (tree : Bytes) where
  -- a field that was read: P at its offset, up to the offset after it, which is not past the end
  pub record Stood {A : Type 0} (P : ℕ → A → Type 0) (at end : ℕ) (a : A) (n : ℕ) : Type 0 where
    pub ends : n ≡ after tree at
    pub fits : after tree at ≤ end
    pub reads : P at a

  -- fields that were read in a row
  pub record Rowed {A B : Type 0} (P : ℕ → A → Type 0) (list : B → List A) (at end : ℕ) (b : B) (n : ℕ) : Type 0 where
    pub ends : n ≡ end
    pub row : Row tree P at end (list b)

  -- a reader of fields that are P at their offsets
  abbrev pub StandFields : {A : Type 0} → (ℕ → A → Type 0) → (ℕ → ℕ → Read A) → Type 0
  StandFields P f = Fields (length tree) (Stood P) f

  -- one more in front of a row
  row_more : {A : Type 0} {P : ℕ → A → Type 0} {at end : ℕ} {x : A} {n : ℕ} (xs : List A) → Stood P at end x n → Row tree P n end xs → Row tree P at end (x ∷ xs)
  row_more {P = P} {end = end} xs s r = (s.fits, s.reads, subst (λ k. Row tree P k end xs) s.ends r)

  -- statements
  pub stood_stmts : {S : ℕ → Stmt → Type 0} {f : ℕ → ℕ → Read Stmt} → StandFields S f → (fuel at end : ℕ) → end ≤ length tree → Gives (Rowed S stmt_list at end) (stmts_of f fuel at end)
  stood_stmts = gives-items Stmts.no_stmts (λ x xs. Stmts.stmts x xs) (λ _ _ e. record { ends = e; row = e }) (λ _ _ _ _ xs _ p q. record { ends = q.ends; row = row_more (stmt_list xs) p q.row })

  module _ {E : ℕ → Expr → Type 0} {f : ℕ → ℕ → Read Expr} (F : StandFields E f) where
    -- a key and its value
    abbrev Pair : ℕ → ℕ → Expr × Expr → ℕ → Type 0
    Pair at end x n = (at₁ : ℕ) × Stood E at end x.0 at₁ × Stood E at₁ end x.1 n

    stood_pair : (parent : ℕ) → Fields (length tree) Pair (pair_of f parent)
    stood_pair parent = record { each = λ at end h. gives-seq (F.each at end h) (λ k at₁ p. gives-seq (gives-child F parent at₁ end h) (λ v n q. right (at₁, p, q))) }

    -- keys and values
    pub stood_pairs : (parent fuel at end : ℕ) → end ≤ length tree → Gives (Rowed E expr_list at end) (pairs_of f parent fuel at end)
    stood_pairs parent =
        gives-items Exprs.no_exprs (λ x xs. Exprs.exprs x.0 (Exprs.exprs x.1 xs)) (λ _ _ e. record { ends = e; row = e })
        (λ _ _ x _ xs _ p q. record { ends = q.ends; row = row_more (x.1 ∷ expr_list xs) p.1 (row_more (expr_list xs) p.2 q.row) }) (stood_pair parent)

    -- expressions
    pub stood_exprs : (fuel at end : ℕ) → end ≤ length tree → Gives (Rowed E expr_list at end) (exprs_of f fuel at end)
    stood_exprs = gives-items Exprs.no_exprs (λ x xs. Exprs.exprs x xs) (λ _ _ e. record { ends = e; row = e }) (λ _ _ _ _ xs _ p q. record { ends = q.ends; row = row_more (expr_list xs) p q.row }) F

  -- an else, or none
  pub stood_else : {B : ℕ → Stmts → Type 0} {f : ℕ → ℕ → Read Stmts} → StandFields B f → (at end : ℕ) → end ≤ length tree → Gives (λ e n. (n ≡ end) × ElseAt tree B at end e) (else_of f at end)
  stood_else F at end h =
      gives-pick (eqb at end) (λ e. let z = eqb-true at end e in right (z, z))
      (λ _. gives-seq (F.each at end h) (λ b at₁ p. gives_end (Else.else b) at₁ end (λ e. (e, (sym p.ends ∙ e, p.reads)))))

  module _ {at end : ℕ} (h : end ≤ length tree) (fit : after tree at ≤ end) where
    -- a field that fits before an end in the tree is whole
    pub whole_at : Whole tree at
    whole_at = record { fits = omega arith }

    -- a name, by its head
    name-at : (least : ℕ) → name_head least (head (byte_at tree) at) ≡ true → NameAt tree least at
    name-at least g =
        let g₁ = both_true (tagged tag_name (head (byte_at tree) at)) (both (leb least (len tree at)) (leb (len tree at) name_limit)) g in
        let g₂ = both_true (leb least (len tree at)) (leb (len tree at) name_limit) g₁.1 in
        record { whole = whole_at; tagged = eqb-true _ _ g₁.0; long = leb-true _ _ g₂.0; short = leb-true _ _ g₂.1 }

    -- an operator, by its head and its byte
    operator_at : operator_head (head (byte_at tree) at) ≡ true → byte_at tree (at + 3) ≤ 9 → OperatorAt tree at
    operator_at g k =
        let g₁ = both_true (tagged tag_operator (head (byte_at tree) at)) (eqb (len tree at) 1) g in
        record { whole = whole_at; tagged = eqb-true _ _ g₁.0; one = eqb-true _ _ g₁.1; known = k }

  -- a name of at least so many bytes
  pub stood_name : (least level : ℕ) → StandFields (NamedAt tree least) (read_name (byte_at tree) least level)
  stood_name least level =
      record {
        each =
            λ at end h. gives_head (byte_at tree) (name_head least) at end
            (record { gives = λ fit good. gives-met level at (right (record { ends = refl; fits = fit; reads = record { named = name-at h fit least good; is = content-bytes (whole_at h fit) } })) });
      }

  -- an operator
  pub stood_operator : (level : ℕ) → StandFields (λ at o. OperatorAt tree at × (o ≡ byte_at tree (at + 3))) (read_operator (byte_at tree) level)
  stood_operator level =
      record {
        each =
            λ at end h. gives_head (byte_at tree) operator_head at end
            (record {
              gives =
                  λ fit good. gives-one_byte (byte_at tree) (λ o. o) 9 plain level at (at + 3)
                  (λ small. let o = operator_at h fit good small in record { ends = omega arith; fits = fit; reads = (o, refl) });
            });
      }

  -- parameters
  pub stood_params : (level : ℕ) → StandFields (ParamsAt tree) (read_params (byte_at tree) level)
  stood_params level =
      record {
        each =
            λ at end h. gives_head (byte_at tree) (tagged tag_params) at end
            (record {
              gives =
                  λ fit good. gives-met level at (gives-map
                  (λ _ _ r. record { ends = r.ends; fits = fit; reads = record { whole = whole_at h fit; tagged = eqb-true _ _ good; names = record { row = r.row } } })
                  (stood_names (level + 1) (len tree at) (at + 3) (after tree at) (whole_at h fit).fits));
            });
      }
    where
      stood_names : (level fuel at end : ℕ) → end ≤ length tree → Gives (Rowed (NamedAt tree 1) (λ ns. ns) at end) (names_of (read_name (byte_at tree) 1 level) fuel at end)
      stood_names level = gives-items [] (λ x xs. x ∷ xs) (λ _ _ e. record { ends = e; row = e }) (λ _ _ _ _ xs _ p q. record { ends = q.ends; row = row_more xs p q.row }) (stood_name 1 level)
