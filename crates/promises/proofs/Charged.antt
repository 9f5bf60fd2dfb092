-- A tree that was read has the bytes that its constructs have at least.
use Prim.Native.Nat.{ℕ, zero, suc, ◌+◌, ◌≤◌}
use native.Mathlib.Omega.{arith}
use mathlib.Core.List.{[], ◌∷◌}
use mathlib.Core.Path.{◌≡◌, refl}
use lib.ListN.{length}
use lib.Dec.{leb, eqb}
use borrow.Author.Tests.{leb-true}
use Rattle.definition.specs.Basic.{Bytes, byte_at, both}
use Rattle.definition.specs.Limit.{tree_limit}
use Rattle.definition.specs.Tag.{tag_boolean, tag_params, tag_block, tag_program}
use Rattle.definition.specs.Syntax.{Stmt, Stmts, Else, Expr, Exprs}
use Rattle.definition.specs.Field.{tagged, name_head, bytes, head}
use Rattle.definition.specs.Tree.{Read, ExprTag, StmtTag, expr_tag, stmt_tag, plain, literal, expr_head, stmt_head, operator_head, last, many, pair_of, pairs_of, stmts_of, exprs_of, else_of, read_name, read_operator, read_params, expr_body, stmt_body, read_stmt, read_block, read_expr, read_program, read_tree, Parsed}
use Rattle.definition.proofs.Bytes.{length-bytes}
use Rattle.definition.proofs.Gives.{Gives, Fields, gives-seq, gives-map, gives-pick, gives-met, gives-child, gives_end, gives_head, gives-one_byte, gives-items, judged-gives}
use Rattle.promises.specs.Charge.{bytes_stmt, bytes_stmts, bytes_else, bytes_expr, bytes_exprs}

-- it has so many bytes behind an offset
abbrev From : {A : Type 0} → (A → ℕ) → ℕ → ℕ → A → ℕ → Type 0
From cost at end a n = at + cost a ≤ n

-- a reader of such, in a tree
abbrev Costs : {A : Type 0} → (A → ℕ) → (ℕ → ℕ → Read A) → Type 0
Costs cost f = Fields tree_limit (From cost) f

-- nothing follows
costs_last : {A : Type 0} (cost : A → ℕ) (a : A) (from at end : ℕ) → from + cost a ≤ at → Gives (From cost from end) (last a at end)
costs_last cost a from at end h = gives_end a at end (λ _. h)

-- items up to an end, which they fill
record Filling {B : Type 0} (costs : B → ℕ) (at end : ℕ) (b : B) (n : ℕ) : Type 0 where
  bytes : at + costs b ≤ n
  ends : n ≡ end

module _ {A B : Type 0} (cost : A → ℕ) (costs : B → ℕ) (nil : B) (cons : A → B → B) (nils : costs nil ≡ 0) (conses : (x : A) (xs : B) → costs (cons x xs) ≤ cost x + costs xs) where
  costs_many : {f : ℕ → ℕ → Read A} → Costs cost f → (fuel at end : ℕ) → end ≤ tree_limit
      → Gives (Filling costs at end) (many nil cons f fuel at end)
  costs_many =
      gives-items {P = From cost} {R = Filling costs} nil cons (λ at end e. record { bytes = omega (arith, nils); ends = e })
      (λ at end x at₁ xs n p q. record { bytes = omega (arith, conses x xs, q.bytes); ends = q.ends })

-- what has no more than its head
abbrev three : {A : Type 0} → A → ℕ
three _ = 3

abbrev nought : {A : Type 0} → A → ℕ
nought _ = 0

module _ {f : ℕ → ℕ → Read Stmt} (F : Costs bytes_stmt f) where
  costs_stmts : (fuel at end : ℕ) → end ≤ tree_limit → Gives (Filling bytes_stmts at end) (stmts_of f fuel at end)
  unfolding bytes_stmts
  costs_stmts = costs_many bytes_stmt bytes_stmts Stmts.no_stmts (λ x xs. Stmts.stmts x xs) refl (λ _ _. omega arith) F

module _ {f : ℕ → ℕ → Read Expr} (F : Costs bytes_expr f) where
  costs_exprs : (fuel at end : ℕ) → end ≤ tree_limit → Gives (Filling bytes_exprs at end) (exprs_of f fuel at end)
  unfolding bytes_exprs
  costs_exprs = costs_many bytes_expr bytes_exprs Exprs.no_exprs (λ x xs. Exprs.exprs x xs) refl (λ _ _. omega arith) F

  -- a key and its value
  costs_pair : (parent : ℕ) → Costs (λ (x : Expr × Expr). bytes_expr x.0 + bytes_expr x.1) (pair_of f parent)
  costs_pair parent =
      record { each = λ at end h. gives-seq (F.each at end h) (λ x at₁ p. gives-seq (gives-child F parent at₁ end h) (λ v n q. let l : at + (bytes_expr x + bytes_expr v) ≤ n = omega arith in Gives.right l)) }

  costs_pairs : (parent fuel at end : ℕ) → end ≤ tree_limit → Gives (Filling bytes_exprs at end) (pairs_of f parent fuel at end)
  unfolding bytes_exprs
  costs_pairs parent =
      costs_many (λ (x : Expr × Expr). bytes_expr x.0 + bytes_expr x.1) bytes_exprs Exprs.no_exprs (λ x xs. Exprs.exprs x.0 (Exprs.exprs x.1 xs)) refl (λ _ _. omega arith) (costs_pair parent)

-- an else, or none
costs_else : {f : ℕ → ℕ → Read Stmts} → Costs (λ b. 3 + bytes_stmts b) f → (at end : ℕ) → end ≤ tree_limit
    → Gives (From bytes_else at end) (else_of f at end)
unfolding bytes_else
costs_else F at end h =
    gives-pick (eqb at end) (λ _. let l : at + 0 ≤ at = omega arith in Gives.right l)
    (λ _. gives-seq (F.each at end h) (λ b at₁ p. costs_last bytes_else (Else.else b) at at₁ end p))

module _ (byte : ℕ → ℕ) where
  costs_name : (least level : ℕ) → Costs three (read_name byte least level)
  costs_name least level =
      record { each = λ at end h. gives_head byte (name_head least) at end (record { gives = λ f g. gives-met level at (let l : at + 3 ≤ at + 3 + (head byte at).len = omega arith in Gives.right l) }) }

  costs_params : (level : ℕ) → Costs three (read_params byte level)
  costs_params level =
      record {
        each =
            λ at end h. gives_head byte (tagged tag_params) at end (record {
              gives =
                  λ f g. gives-met level at (gives-map (λ _ _ p. omega (arith, p.bytes))
                  (costs_many three nought [] (λ x xs. x ∷ xs) refl (λ _ _. omega arith) (costs_name 1 (level + 1)) (head byte at).len (at + 3) (at + 3 + (head byte at).len) (omega arith)));
            });
      }

  costs_operator : (level : ℕ) → Costs three (read_operator byte level)
  costs_operator level =
      record { each = λ at end h. gives_head byte operator_head at end (record { gives = λ f g. gives-one_byte byte (λ o. o) 9 plain level at (at + 3) (λ _. omega arith) }) }

  module _ {e : ℕ → ℕ → Read Expr} (E : Costs bytes_expr e) where
    module _ {b : ℕ → ℕ → Read Stmts} (B : Costs (λ b. 3 + bytes_stmts b) b) where
      costs_expr_body : (x : ExprTag) (level at in₀ n : ℕ) → in₀ ≡ at + 3 → in₀ + n ≤ tree_limit
          → Gives (From bytes_expr at (in₀ + n)) (expr_body byte x e b level at in₀ n)
      unfolding bytes_expr
      costs_expr_body ExprTag.identifier_tag level at in₀ n i k =
          let l : at + bytes_expr (Expr.identifier at (bytes byte in₀ n)) ≤ in₀ + n = omega (arith, length-bytes byte in₀ n) in Gives.right l
      costs_expr_body ExprTag.prefix_tag level at in₀ n i k =
          gives-seq (gives-child (costs_operator (level + 1)) at in₀ (in₀ + n) k) (λ o at₁ p. gives-seq (gives-child E at at₁ (in₀ + n) k) (λ x at₂ q.
          costs_last bytes_expr (Expr.prefix at o x) at at₂ (in₀ + n) (omega arith)))
      costs_expr_body ExprTag.infix_tag level at in₀ n i k =
          gives-seq (gives-child E at in₀ (in₀ + n) k) (λ x at₁ p. gives-seq (gives-child (costs_operator (level + 1)) at at₁ (in₀ + n) k) (λ o at₂ q. gives-seq (gives-child E at at₂ (in₀ + n) k) (λ y at₃ r.
          costs_last bytes_expr (Expr.infixed at x o y) at at₃ (in₀ + n) (omega arith))))
      costs_expr_body ExprTag.if_tag level at in₀ n i k =
          gives-seq (gives-child E at in₀ (in₀ + n) k) (λ c at₁ p. gives-seq (gives-child B at at₁ (in₀ + n) k) (λ t at₂ q. gives-seq (costs_else B at₂ (in₀ + n) k) (λ f at₃ r.
          let l : at + bytes_expr (Expr.if at c t f) ≤ at₃ = omega arith in Gives.right l)))
      costs_expr_body ExprTag.function_tag level at in₀ n i k =
          gives-seq (gives-child (costs_name 0 (level + 1)) at in₀ (in₀ + n) k) (λ x at₁ p. gives-seq (gives-child (costs_params (level + 1)) at at₁ (in₀ + n) k) (λ xs at₂ q. gives-seq (gives-child B at at₂ (in₀ + n) k) (λ f at₃ r.
          costs_last bytes_expr (Expr.function at x xs f) at at₃ (in₀ + n) (omega arith))))
      costs_expr_body ExprTag.call_tag level at in₀ n i k =
          gives-seq (gives-child E at in₀ (in₀ + n) k) (λ f at₁ p. gives-seq (costs_exprs E n at₁ (in₀ + n) k) (λ xs at₂ q. let l : at + bytes_expr (Expr.call at f xs) ≤ at₂ = omega (arith, q.bytes) in Gives.right l))
      costs_expr_body ExprTag.integer_tag level at in₀ n i k = let l : at + bytes_expr (Expr.integer at (bytes byte in₀ n)) ≤ in₀ + n = omega arith in Gives.right l
      costs_expr_body ExprTag.string_tag level at in₀ n i k =
          let l : at + bytes_expr (Expr.string at (bytes byte in₀ n)) ≤ in₀ + n = omega arith in Gives.right l
      costs_expr_body ExprTag.array_tag level at in₀ n i k =
          gives-seq (costs_exprs E n in₀ (in₀ + n) k) (λ xs at₁ p. let l : at + bytes_expr (Expr.array at xs) ≤ at₁ = omega (arith, p.bytes) in Gives.right l)
      costs_expr_body ExprTag.index_tag level at in₀ n i k =
          gives-seq (gives-child E at in₀ (in₀ + n) k) (λ x at₁ p. gives-seq (gives-child E at at₁ (in₀ + n) k) (λ y at₂ q. costs_last bytes_expr (Expr.index at x y) at at₂ (in₀ + n) (omega arith)))
      costs_expr_body ExprTag.hash_tag level at in₀ n i k = gives-seq (costs_pairs E at n in₀ (in₀ + n) k) (λ xs at₁ p. let l : at + bytes_expr (Expr.hash at xs) ≤ at₁ = omega (arith, p.bytes) in Gives.right l)
      costs_expr_body ExprTag.macro_tag level at in₀ n i k =
          gives-seq (gives-child (costs_params (level + 1)) at in₀ (in₀ + n) k) (λ xs at₁ p. gives-seq (gives-child B at at₁ (in₀ + n) k) (λ f at₂ q. costs_last bytes_expr (Expr.macro at) at at₂ (in₀ + n) (omega arith)))

    module _ {f : ℕ → ℕ → Read Stmt} (F : Costs bytes_stmt f) where
      costs_stmt_body : (x : StmtTag) (level at in₀ n : ℕ) → in₀ ≡ at + 3 → in₀ + n ≤ tree_limit
          → Gives (From bytes_stmt at (in₀ + n)) (stmt_body byte x f e level at in₀ n)
      unfolding bytes_stmt
      costs_stmt_body StmtTag.expr_stmt_tag level at in₀ n i k =
          gives-seq (gives-child E at in₀ (in₀ + n) k) (λ x at₁ p. costs_last bytes_stmt (Stmt.expr_stmt at x) at at₁ (in₀ + n) (omega arith))
      costs_stmt_body StmtTag.block_tag level at in₀ n i k =
          gives-seq (costs_stmts F n in₀ (in₀ + n) k) (λ b at₁ p. let l : at + bytes_stmt (Stmt.block at b) ≤ at₁ = omega (arith, p.bytes) in Gives.right l)
      costs_stmt_body StmtTag.let_tag level at in₀ n i k =
          gives-seq (gives-child (costs_name 1 (level + 1)) at in₀ (in₀ + n) k) (λ x at₁ p. gives-seq (gives-child E at at₁ (in₀ + n) k) (λ v at₂ q.
          costs_last bytes_stmt (Stmt.let_stmt at x v) at at₂ (in₀ + n) (omega arith)))
      costs_stmt_body StmtTag.return_tag level at in₀ n i k = gives-seq (gives-child E at in₀ (in₀ + n) k) (λ x at₁ p. costs_last bytes_stmt (Stmt.return_stmt at x) at at₁ (in₀ + n) (omega arith))

  -- by the fuel
  mutual
    unfolding read_stmt bytes_expr

    costs_stmt : (fuel level : ℕ) → Costs bytes_stmt (read_stmt byte fuel level)
    costs_stmt zero level = record { each = λ at end h. Gives.wrong }
    costs_stmt (suc fuel) level =
        record {
          each =
              λ at end h. gives_head byte stmt_head at end (record {
                gives = λ f g. gives-met level at (costs_stmt_body (costs_expr fuel (level + 1)) (costs_stmt fuel (level + 1)) (stmt_tag (head byte at).tag) level at (at + 3) (head byte at).len refl (omega arith));
              });
        }

    costs_block : (fuel level : ℕ) → Costs (λ b. 3 + bytes_stmts b) (read_block byte fuel level)
    costs_block zero level = record { each = λ at end h. Gives.wrong }
    costs_block (suc fuel) level =
        record {
          each =
              λ at end h. gives_head byte (tagged tag_block) at end (record {
                gives = λ f g. gives-met level at (gives-map (λ _ _ p. omega (arith, p.bytes)) (costs_stmts (costs_stmt fuel (level + 1)) (head byte at).len (at + 3) (at + 3 + (head byte at).len) (omega arith)));
              });
        }

    costs_expr : (fuel level : ℕ) → Costs bytes_expr (read_expr byte fuel level)
    costs_expr zero level = record { each = λ at end h. Gives.wrong }
    costs_expr (suc fuel) level =
        record {
          each =
              λ at end h. gives_head byte expr_head at end (record {
                gives =
                    λ f g. gives-pick (tagged tag_boolean (head byte at)) (λ _. gives-one_byte byte (λ b. Expr.boolean at b) 1 literal level at (at + 3) (λ _. omega arith))
                    (λ _. gives-met level at (costs_expr_body (costs_expr fuel (level + 1)) (costs_block fuel (level + 1)) (expr_tag (head byte at).tag) level at (at + 3) (head byte at).len refl (omega arith)));
              });
        }

-- a tree that was read: its bytes, and the limit of trees
pub record Charged (tree : Bytes) (b : Stmts) : Type 0 where
  pub bytes : 3 + bytes_stmts b ≤ length tree
  pub short : length tree ≤ tree_limit

costs_program : (tree : Bytes) → Gives (λ b _. Charged tree b) (read_program (byte_at tree) (length tree))
unfolding read_program
costs_program tree =
    gives-pick (leb (length tree) tree_limit)
    (λ s. gives_head (byte_at tree) (λ h. both (tagged tag_program h) (eqb (3 + h.len) (length tree))) 0 (length tree) (record {
      gives =
          λ f g. gives-map (λ _ _ p. record { bytes = omega (arith, p.bytes, p.ends); short = leb-true (length tree) tree_limit s })
          (costs_stmts (costs_stmt (byte_at tree) (length tree) 2) (head (byte_at tree) 0).len 3 (length tree) (leb-true (length tree) tree_limit s));
    }))
    (λ _. Gives.wrong)

-- what reading comes to
pub read_charged : (tree : Bytes) {b : Stmts} {n : ℕ} → read_tree tree ≡ Parsed.parsed b n → Charged tree b
unfolding read_tree
read_charged tree {b} {n} e = judged-gives b n (costs_program tree) e
