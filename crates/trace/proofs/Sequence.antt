-- Walks one after the other, and what a pass over them does.
use Prim.Native.Nat.{ℕ, ◌+◌, ◌-◌, ◌*◌, ◌≤◌, ◌<◌}
use native.Mathlib.Omega.{arith}
use mathlib.Core.Bool.{Bool, true, false}
use mathlib.Core.List.{List, [], ◌∷◌}
use mathlib.Core.Path.{◌≡◌, refl, subst, ◌∙◌}
use lib.ListN.{length}
use Rattle.definition.specs.Basic.{Bytes, pick}
use Rattle.definition.specs.Walk.{Res, bind, Go}
use Rattle.definition.specs.declared.reason.Refusal.{Refusal}
use Rattle.field.specs.Layout.{after, len}
use Rattle.tree.specs.Reads.{Some}
use Rattle.tree.proofs.Rows.{First}
use Rattle.records.specs.Naming.{Names}
use Rattle.trace.specs.Pass.{names_at, Follows, Node, walk_node, walk_nodes, ReadsNode, ReadsNodes, Standing, Passes}

-- where the first walk goes on, the second does, to the same
pub data Below : Res Names (Unit {0}) → Res Names (Unit {0}) → Type 0 where
  on : {s : Names} → Below (Res.on tt s) (Res.on tt s)
  stop : {r : Refusal} {s : Names} {y : Res Names (Unit {0})} → Below (Res.stop r s) y

pub below_same : (x : Res Names (Unit {0})) → Below x x
below_same (Res.on a s) = Below.on
below_same (Res.stop r s) = Below.stop

pub below-bind : (x : Res Names (Unit {0})) {k l : Go Names} → ((s : Names) → Below (k s) (l s)) → Below (bind x (λ _. k)) (bind x (λ _. l))
below-bind (Res.on a s) h = h s
below-bind (Res.stop r s) h = Below.stop

-- a step behind that changes nothing
pub below_end : {x y : Res Names (Unit {0})} → Below x y → Below (bind x (λ _. Res.on tt)) y
below_end (Below.on {s}) = Below.on
below_end Below.stop = Below.stop

pub below-pick : {x y z : Res Names (Unit {0})} (b : Bool) → Below x z → Below y z → Below (pick b x y) z
below-pick true h k = h
below-pick false h k = k

pub below_follows : (u : Names) {x y : Res Names (Unit {0})} → Below x y → Follows u y → Follows u x
below_follows u (Below.on {s}) f = f
below_follows u Below.stop f = tt

pub follows_then : (u v : Names) (x : Res Names (Unit {0})) (k : Go Names) → Follows v x → Follows u (k v) → Follows u (bind x (λ _. k))
follows_then u v (Res.on a s) k e f = subst (λ z. Follows u (k z)) e f
follows_then u v (Res.stop r s) k e f = tt

module _ {tree before : Bytes} {level : ℕ} {A B : Type 0} {R : A → Type 0} {S : B → Type 0} {k : A → Go Names} {j : B → Go Names} {t t' : List ℕ} {l l' : Bytes} {n n' : ℕ} where
  -- the same pass, of a walk that goes on only where the first does
  pub passes_as : {size more : ℕ} → size ≤ more → ((b : B) → S b → (a : A) × R a × ((s : Names) → Below (j b s) (k a s))) → Passes tree before level R k size t t' l l' n n' → Passes tree before level S j more t t' l l' n n'
  passes_as h f d =
      record {
        step = λ b i. let x = f b i in below_follows _ (x.2 (names_at tree before level t l n)) (d.step x.0 x.1);
        good = d.good;
        room = omega (arith, d.room);
      }

-- what is asked for a part that comes next
pub onward : {A : Type 0} {R : A → Type 0} {k : A → Go Names} {tree before : Bytes} {level : ℕ} {t t' : List ℕ} {l l' : Bytes} {n n' whole size rest : ℕ}
    → Standing tree before level t l n whole → length t' ≡ length t → length l' ≡ length l → size + rest ≤ whole → Passes tree before level R k size t t' l l' n n' → Standing tree before level t' l' n' rest
onward s lt ll h d = record { words = s.words; symbols = d.good; depth = s.depth; area = omega (arith, s.area); short = s.short; room = omega (arith, s.room, d.room) }

-- for a part alone
pub within : {tree before : Bytes} {level : ℕ} {t : List ℕ} {l : Bytes} {n whole rest : ℕ} → rest ≤ whole → Standing tree before level t l n whole → Standing tree before level t l n rest
within h s = record { words = s.words; symbols = s.symbols; depth = s.depth; area = s.area; short = s.short; room = omega (arith, s.room) }

-- A row

module _ {tree : Bytes} {at end : ℕ} where
  -- before the end there is a field
  pub first_node : (xs : List Node) → at < end → ReadsNodes tree at end xs → First tree (λ x xs. x ∷ xs) (ReadsNode tree) (ReadsNodes tree) at end xs
  first_node [] h r = absurd (omega (arith, r.row))
  first_node (x ∷ xs) h r = record { one = x; others = xs; is = refl; here = r.row.1; fits = r.row.0; behind = record { row = r.row.2 } }

  -- at the end there is none
  pub no_nodes : (xs : List Node) → end ≤ at → ReadsNodes tree at end xs → xs ≡ []
  no_nodes [] h r = refl
  no_nodes (x ∷ xs) h r = absurd (omega (arith, r.row.0))

module _ {tree : Bytes} {at end : ℕ} where
  -- the field in a turn, and that it ends before the end
  pub row_first : at < end → Some (ReadsNodes tree at end) → Some (ReadsNode tree at)
  row_first h (xs, r) = let i = first_node xs h r in (i.one, i.here)

  pub row_fit : at < end → Some (ReadsNodes tree at end) → after tree at ≤ end
  row_fit h (xs, r) = (first_node xs h r).fits

-- in a turn: what is left, and that its walk gives what the whole walk gives
pub record Turn (tree before : Bytes) (level from end : ℕ) (t₀ : List ℕ) (l₀ : Bytes) (n at : ℕ) (t : List ℕ) (l : Bytes) (m : ℕ) : Type 0 where
  pub onward : from ≤ at
  pub table : length t ≡ length t₀
  pub log : length l ≡ length l₀
  pub left : Some (ReadsNodes tree at end)
  pub standing : Standing tree before level t l m (end - at)
  pub room : 4 * m ≤ 4 * n + (at - from)
  pub same : (xs : List Node) → ReadsNodes tree from end xs → (ys : List Node) × ReadsNodes tree at end ys × ((u : Names) → Follows u (walk_nodes ys (names_at tree before level t l m)) → Follows u (walk_nodes xs (names_at tree before level t₀ l₀ n)))

module _ {tree before : Bytes} {level from end : ℕ} {t₀ : List ℕ} {l₀ : Bytes} {n : ℕ} where
  pub turn_holds : Some (ReadsNodes tree from end) → Standing tree before level t₀ l₀ n (end - from) → Turn tree before level from end t₀ l₀ n from t₀ l₀ n
  turn_holds s f = record { onward = omega arith; table = refl; log = refl; left = s; standing = f; room = omega arith; same = λ xs r. (xs, r, λ u h. h) }

  -- a turn: the first of what is left is passed
  pub turn_again : {at next : ℕ} {t t₁ : List ℕ} {l l₁ : Bytes} {m m₁ : ℕ} → at < end → next ≡ after tree at → length t₁ ≡ length t → length l₁ ≡ length l
      → Turn tree before level from end t₀ l₀ n at t l m → Passes tree before level (ReadsNode tree at) walk_node (3 + len tree at) t t₁ l l₁ m m₁ → Turn tree before level from end t₀ l₀ n next t₁ l₁ m₁
  turn_again {at} {t = t} {l = l} {m = m} h e lt ll x d =
      let i = first_node x.left.0 h x.left.1 in
      record {
        onward = omega (arith, x.onward);
        table = lt ∙ x.table;
        log = ll ∙ x.log;
        left = (i.others, rw e i.behind);
        standing = onward x.standing lt ll (omega (arith, i.fits)) d;
        room = omega (arith, x.room, x.onward, d.room);
        same = λ xs r.
            let s = x.same xs r in
            let j = first_node s.0 h s.1 in (
              j.others,
              rw e j.behind,
              λ u f. s.2 u (rw j.is (follows_then u _ (walk_node j.one (names_at tree before level t l m)) (walk_nodes j.others) (d.step j.one j.here) f)),
            );
      }

  -- after the last turn
  pub turn_ends : {at : ℕ} {t : List ℕ} {l : Bytes} {m : ℕ} → end ≤ at → Turn tree before level from end t₀ l₀ n at t l m → Passes tree before level (ReadsNodes tree from end) walk_nodes (end - from) t₀ t l₀ l n m
  turn_ends {at} {t} {l} {m} h x =
      record {
        step = λ xs r. let s = x.same xs r in s.2 (names_at tree before level t l m) (rw (no_nodes s.0 h s.1) refl);
        good = x.standing.symbols;
        room = omega (arith, x.room, last x.left.0 x.left.1);
      }
    where
      last : (ys : List Node) → ReadsNodes tree at end ys → at ≤ end
      last [] r = omega (arith, r.row)
      last (y ∷ ys) r = omega (arith, r.row.0)
