-- Loops that put one part behind the other: statements, items, names.
use Prim.Native.Nat.{ℕ, ◌≤◌, ◌<◌}
use native.Mathlib.Omega.{arith}
use mathlib.Core.Bool.{Bool, true, false}
use mathlib.Core.List.{◌++◌}
use mathlib.Core.Path.{◌≡◌, refl, sym, ap, subst, ◌∙◌}
use lib.ListN.{length}
use lib.Seq.{length-sets}
use lib.Dec.{eqb}
use borrow.Author.Tests.{eqb-true, eqb-false}
use Rattle.definition.specs.Basic.{Bytes, pick}
use Rattle.definition.specs.Field.{field}
use Rattle.definition.specs.Tag.{tag_name}
use Rattle.text.specs.Kind.{a_name, comma, number_of}
use Rattle.text.specs.Token.{Row, kind_of, bytes_of, behind}
use Rattle.definition.specs.Node.{leaf, Nodes, written, written_all, levels, levels_all, larger}
use Rattle.text.specs.Shape.{closing, separating, ending}
use Rattle.text.specs.Parse.{item_row, NamesRow, ExpressionRow, ListRow, StatementsRow, StatementRow}
use Rattle.text.specs.Parts.{end_of, row_at, denoted, content_of, Sees, Put, PutToken, Bounds, WritesNode, Writes, joined_of, moved_on}
use Rattle.text.specs.declared.part.Part.{Part}
use Rattle.text.specs.declared.scan.Token as piece
use Rattle.text.proofs.Larger.{larger_is}
use Rattle.text.proofs.Bounding.{bounds_behind, bounds_on}
use Rattle.text.proofs.Putting.{put_on, put_same, Going, going_on, going_ends, going_lost}
use Rattle.text.proofs.Writing.{put_leaf_field}

-- what such a loop keeps
pub record Looping (F : Row → Row → Nodes → Type 0) (text : Bytes) (at to left : ℕ) (old out : Bytes) (p : Part) : Type 0 where
  pub bounds : Bounds text at to 0 left old out p
  pub going : (xs : Nodes) (rest : Row) → F (row_at text at) rest xs → Going F text rest xs left to old out p

-- what is too deep stays so
lost : {F : Row → Row → Nodes → Type 0} {text : Bytes} {rest : Row} {xs : Nodes} {left to : ℕ} {old out : Bytes} {p : Part} (g : Going F text rest xs left to old out p) → left < g.deep → left < p.levels → Put text rest (written_all xs) (levels_all xs) left to old out p
lost {xs = xs} g a b = Put.too_deep (omega (arith, g.depth, (larger_is g.deep (levels_all g.more)).left)) b

module _ {text : Bytes} {at to left : ℕ} {old mid out : Bytes} {p q s : Part} {t : piece.Token} where
  -- a statement more
  pub statements_on : Looping StatementsRow text at to left old mid p → Sees text p.at t → ending (number_of t.kind) ≡ false → WritesNode StatementRow text p.at p.to 0 left mid out q → s ≡ joined_of p q → Looping StatementsRow text at to left old out s
  statements_on l a e w i =
      subst (λ s. Looping StatementsRow text at to left old out s) (sym i)
      (record { bounds = bounds_behind l.bounds (omega arith) w.bounds; going = λ xs rest f. by (l.going xs rest f) (l.going xs rest f).put })
    where
      step : {rest : Row} {xs : Nodes} (g : Going StatementsRow text rest xs left to old mid p) (m : Nodes) (ρ : Row) → StatementsRow ρ rest m → g.more ≡ m → row_at text p.at ≡ g.row → g.row ≡ ρ → Going StatementsRow text rest xs left to old out (joined_of p q)
      step g _ ρ (StatementsRow.no_statement y) i h j = let z : ◌≡◌ {A = Bool} true false = sym y ∙ ap (λ r. ending (kind_of r)) (sym (h ∙ j)) ∙ ap ending (sym a.kind) ∙ e in let y : ◌≡◌ {A = ℕ} 0 1 = cc in absurd (omega arith)
      step g _ ρ (StatementsRow.a_statement {us = us} {x = x} {xs} y d r) i h j = going_on g x xs us i r l.bounds.lengths w.bounds.behind (λ _. (w.puts x us (rw (h ∙ j) d)).put)

      by : {rest : Row} {xs : Nodes} (g : Going StatementsRow text rest xs left to old mid p) → Put text g.row g.new g.deep left to old mid p → Going StatementsRow text rest xs left to old out (joined_of p q)
      by g (Put.too_deep a b) = going_lost g a (omega (arith, (larger_is p.levels q.levels).left))
      by g (Put.fits a r b c d) = step g g.more g.row g.ahead refl r refl

  -- an item more
  pub list_on : {from : ℕ} → Looping ListRow text at to left old mid p → Sees text p.at t → p.at ≤ t.end → closing (number_of t.kind) ≡ false → from ≡ pick (separating (number_of t.kind)) t.end p.at → WritesNode (ExpressionRow 0 0) text from p.to 0 left mid out q → s ≡ joined_of p q → Looping ListRow text at to left old out s
  list_on {from} l a o e f w i =
      subst (λ s. Looping ListRow text at to left old out s) (sym i)
      (record { bounds = bounds_behind l.bounds (rw f (later (separating (number_of t.kind)))) w.bounds; going = λ xs rest f. by (l.going xs rest f) (l.going xs rest f).put })
    where
      later : (b : Bool) → p.at ≤ pick b t.end p.at
      later true = o
      later false = omega arith

      stands : (b : Bool) → row_at text (pick b t.end p.at) ≡ pick b (behind (row_at text p.at)) (row_at text p.at)
      stands true = a.rest
      stands false = refl

      place : row_at text from ≡ item_row (row_at text p.at)
      place = ap (row_at text) f ∙ stands (separating (number_of t.kind)) ∙ ap (λ k. pick (separating k) (behind (row_at text p.at)) (row_at text p.at)) a.kind

      step : {rest : Row} {xs : Nodes} (g : Going ListRow text rest xs left to old mid p) (m : Nodes) (ρ : Row) → ListRow ρ rest m → g.more ≡ m → row_at text p.at ≡ g.row → g.row ≡ ρ → Going ListRow text rest xs left to old out (joined_of p q)
      step g _ ρ (ListRow.closed y) i h j = let z : ◌≡◌ {A = Bool} true false = sym y ∙ ap (λ r. closing (kind_of r)) (sym (h ∙ j)) ∙ ap closing (sym a.kind) ∙ e in let y : ◌≡◌ {A = ℕ} 0 1 = cc in absurd (omega arith)
      step g _ ρ (ListRow.item {us = us} {x = x} {xs} y d r) i h j = going_on g x xs us i r l.bounds.lengths w.bounds.behind (λ _. (w.puts x us (subst (λ ρ. ExpressionRow 0 0 ρ us x) (sym (place ∙ ap item_row (h ∙ j))) d)).put)

      by : {rest : Row} {xs : Nodes} (g : Going ListRow text rest xs left to old mid p) → Put text g.row g.new g.deep left to old mid p → Going ListRow text rest xs left to old out (joined_of p q)
      by g (Put.too_deep a b) = going_lost g a (omega (arith, (larger_is p.levels q.levels).left))
      by g (Put.fits a r b c d) = step g g.more g.row g.ahead refl r refl

module _ {text : Bytes} {at to left : ℕ} {old out : Bytes} {p : Part} {t : piece.Token} where
  -- all statements
  pub statements_end : Looping StatementsRow text at to left old out p → Sees text p.at t → ending (number_of t.kind) ≡ true → Writes StatementsRow text at to 0 left old out p
  statements_end l a e = record { bounds = l.bounds; puts = λ xs rest f. by (l.going xs rest f) (l.going xs rest f).put }
    where
      step : {rest : Row} {xs : Nodes} (g : Going StatementsRow text rest xs left to old out p) (m : Nodes) (ρ : Row) → StatementsRow ρ rest m → g.more ≡ m → row_at text p.at ≡ g.row → g.row ≡ ρ → Put text rest (written_all xs) (levels_all xs) left to old out p
      step {xs = xs} g _ ρ (StatementsRow.no_statement y) i h j = subst (λ r. Put text r (written_all xs) (levels_all xs) left to old out p) j (going_ends g i)
      step g _ ρ (StatementsRow.a_statement y d r) i h j = let z : ◌≡◌ {A = Bool} false true = sym y ∙ ap (λ r. ending (kind_of r)) (sym (h ∙ j)) ∙ ap ending (sym a.kind) ∙ e in let y : ◌≡◌ {A = ℕ} 0 1 = cc in absurd (omega arith)

      by : {rest : Row} {xs : Nodes} (g : Going StatementsRow text rest xs left to old out p) → Put text g.row g.new g.deep left to old out p → Put text rest (written_all xs) (levels_all xs) left to old out p
      by g (Put.too_deep a b) = lost g a b
      by g (Put.fits a r b c d) = step g g.more g.row g.ahead refl r refl

  -- all items, and the token that closes them
  pub list_end : {s : Part} → Looping ListRow text at to left old out p → Sees text p.at t → p.at ≤ t.end → closing (number_of t.kind) ≡ true → s ≡ moved_on p t.end → Writes ListRow text at to 0 left old out s
  list_end {s} l a o e i =
      subst (λ s. Writes ListRow text at to 0 left old out s) (sym i) (record { bounds = bounds_on l.bounds o a.within; puts = λ xs rest f. by (l.going xs rest f) (l.going xs rest f).put })
    where
      step : {rest : Row} {xs : Nodes} (g : Going ListRow text rest xs left to old out p) (m : Nodes) (ρ : Row) → ListRow ρ rest m → g.more ≡ m → row_at text p.at ≡ g.row → g.row ≡ ρ → Put text rest (written_all xs) (levels_all xs) left to old out (moved_on p t.end)
      step {xs = xs} g _ ρ (ListRow.closed y) i h j = put_on (λ _. a.rest ∙ ap behind (h ∙ j)) (going_ends g i)
      step g _ ρ (ListRow.item y d r) i h j = let z : ◌≡◌ {A = Bool} false true = sym y ∙ ap (λ r. closing (kind_of r)) (sym (h ∙ j)) ∙ ap closing (sym a.kind) ∙ e in let y : ◌≡◌ {A = ℕ} 0 1 = cc in absurd (omega arith)

      by : {rest : Row} {xs : Nodes} (g : Going ListRow text rest xs left to old out p) → Put text g.row g.new g.deep left to old out p → Put text rest (written_all xs) (levels_all xs) left to old out (moved_on p t.end)
      by {xs = xs} g (Put.too_deep a b) = Put.too_deep (omega (arith, g.depth, (larger_is g.deep (levels_all g.more)).left)) b
      by g (Put.fits a r b c d) = step g g.more g.row g.ahead refl r refl

-- a name's bytes
pub content_name : (text : Bytes) (t : piece.Token) → number_of t.kind ≡ a_name → content_of text t ≡ denoted text (number_of t.kind) t.start t.end
unfolding content_of denoted
content_name text t e = rw e refl

-- a token's field: how far it gets
pub bounds_token : {tag : ℕ} {text : Bytes} {t : piece.Token} {at to left : ℕ} {old out : Bytes} {p : Part} → PutToken tag text t to old out p → at < t.end → at ≤ t.start → t.end ≤ end_of text → Bounds text at to 0 left old out p
bounds_token {tag} {text} {t} {at} {to} {left} {old} {out} {p} w h k l =
    let a = ap (λ p. p.at) w.part in
    let b = ap (λ p. p.to) w.part in
    let c = ap (λ p. p.levels) w.part in
    record {
      lengths = ap length w.stored ∙ length-sets old to (field tag (content_of text t));
      onward = omega arith;
      within = omega arith;
      room = omega (arith, w.most);
      behind = omega arith;
      depth = omega arith;
    }

-- a name more
pub names_name : {text : Bytes} {at to left : ℕ} {old mid out : Bytes} {p q s : Part} {t : piece.Token} → Looping NamesRow text at to left old mid p → Sees text p.at t → number_of t.kind ≡ a_name → p.at < t.end → PutToken tag_name text t p.to mid out q → s ≡ joined_of p q → Looping NamesRow text at to left old out s
unfolding written levels
names_name {text} {at} {to} {left} {old} {mid} {out} {p} {q} {s} {t} l a e o w i =
    subst (λ s. Looping NamesRow text at to left old out s) (sym i)
    (record { bounds = bounds_behind l.bounds (omega arith) (bounds_token w o a.from a.within); going = λ xs rest f. by (l.going xs rest f) (l.going xs rest f).put })
  where
    v : Bounds text p.at p.to 0 left mid out q
    v = bounds_token w o a.from a.within

    no : (ρ : Row) → row_at text p.at ≡ ρ → eqb (kind_of ρ) a_name ≡ false → ⊥
    no ρ h y = eqb-false (kind_of ρ) a_name y (ap kind_of (sym h) ∙ sym a.kind ∙ e)

    same : (ρ : Row) → row_at text p.at ≡ ρ → content_of text t ≡ bytes_of ρ
    same ρ h = content_name text t e ∙ a.content ∙ ap bytes_of h

    step : {rest : Row} {xs : Nodes} (g : Going NamesRow text rest xs left to old mid p) (m : Nodes) (ρ : Row) → NamesRow ρ rest m → g.more ≡ m → row_at text p.at ≡ g.row → g.row ≡ ρ → Going NamesRow text rest xs left to old out (joined_of p q)
    step g _ ρ (NamesRow.a_name {us = us} {xs} y r) i h j =
        going_on g (leaf tag_name (bytes_of ρ)) xs (behind ρ) i r l.bounds.lengths v.behind (λ _.
        put_same (ap (field tag_name) (same ρ (h ∙ j))) refl (put_leaf_field tag_name (content_of text t) left (a.rest ∙ ap behind (h ∙ j)) w.part w.stored))
    step g _ ρ (NamesRow.a_comma y z r) i h j = absurd (no ρ (h ∙ j) y)
    step g _ ρ (NamesRow.no_name y z) i h j = absurd (no ρ (h ∙ j) y)

    by : {rest : Row} {xs : Nodes} (g : Going NamesRow text rest xs left to old mid p) → Put text g.row g.new g.deep left to old mid p → Going NamesRow text rest xs left to old out (joined_of p q)
    by g (Put.too_deep a b) = going_lost g a (omega (arith, (larger_is p.levels q.levels).left))
    by g (Put.fits a r b c d) = step g g.more g.row g.ahead refl r refl

-- a comma
pub names-comma : {text : Bytes} {at to left : ℕ} {old out : Bytes} {p s : Part} {t : piece.Token} → Looping NamesRow text at to left old out p → Sees text p.at t → number_of t.kind ≡ comma → p.at ≤ t.end → s ≡ moved_on p t.end → Looping NamesRow text at to left old out s
names-comma {text} {at} {to} {left} {old} {out} {p} {s} {t} l a e o i =
    subst (λ s. Looping NamesRow text at to left old out s) (sym i)
    (record { bounds = bounds_on l.bounds o a.within; going = λ xs rest f. by (l.going xs rest f) (l.going xs rest f).put })
  where
    is : (ρ : Row) → row_at text p.at ≡ ρ → kind_of ρ ≡ comma
    is ρ h = ap kind_of (sym h) ∙ sym a.kind ∙ e

    step : {rest : Row} {xs : Nodes} (g : Going NamesRow text rest xs left to old out p) (m : Nodes) (ρ : Row) → NamesRow ρ rest m → g.more ≡ m → row_at text p.at ≡ g.row → g.row ≡ ρ → Going NamesRow text rest xs left to old out (moved_on p t.end)
    step g _ ρ (NamesRow.a_name y r) i h j = let z = eqb-true (kind_of ρ) a_name y in let y = is ρ (h ∙ j) in absurd (omega arith)
    step g _ ρ (NamesRow.no_name y z) i h j = absurd (eqb-false (kind_of ρ) comma z (is ρ (h ∙ j)))
    step g _ ρ (NamesRow.a_comma {us = us} {xs} y z r) i h j =
        record { more = xs; row = behind ρ; new = g.new; deep = g.deep; ahead = r; bytes = g.bytes ∙ ap (λ m. g.new ++ written_all m) i; depth = g.depth ∙ ap (λ m. larger g.deep (levels_all m)) i; put = put_on (λ _. a.rest ∙ ap behind (h ∙ j)) g.put }

    by : {rest : Row} {xs : Nodes} (g : Going NamesRow text rest xs left to old out p) → Put text g.row g.new g.deep left to old out p → Going NamesRow text rest xs left to old out (moved_on p t.end)
    by g (Put.too_deep a b) = going_lost g a b
    by g (Put.fits a r b c d) = step g g.more g.row g.ahead refl r refl

-- all names, and the token behind them
pub names-end : {text : Bytes} {at to left : ℕ} {old out : Bytes} {p s : Part} {t : piece.Token} → Looping NamesRow text at to left old out p → Sees text p.at t → (number_of t.kind ≡ a_name → ⊥) → (number_of t.kind ≡ comma → ⊥) → p.at ≤ t.end → s ≡ moved_on p t.end → Writes NamesRow text at to 0 left old out s
names-end {text} {at} {to} {left} {old} {out} {p} {s} {t} l a e f o i =
    subst (λ s. Writes NamesRow text at to 0 left old out s) (sym i) (record { bounds = bounds_on l.bounds o a.within; puts = λ xs rest f. by (l.going xs rest f) (l.going xs rest f).put })
  where
    is : (ρ : Row) → row_at text p.at ≡ ρ → number_of t.kind ≡ kind_of ρ
    is ρ h = a.kind ∙ ap kind_of h

    step : {rest : Row} {xs : Nodes} (g : Going NamesRow text rest xs left to old out p) (m : Nodes) (ρ : Row) → NamesRow ρ rest m → g.more ≡ m → row_at text p.at ≡ g.row → g.row ≡ ρ → Put text rest (written_all xs) (levels_all xs) left to old out (moved_on p t.end)
    step g _ ρ (NamesRow.a_name y r) i h j = absurd (e (is ρ (h ∙ j) ∙ eqb-true (kind_of ρ) a_name y))
    step g _ ρ (NamesRow.a_comma y z r) i h j = absurd (f (is ρ (h ∙ j) ∙ eqb-true (kind_of ρ) comma z))
    step g _ ρ (NamesRow.no_name y z) i h j = put_on (λ _. a.rest ∙ ap behind (h ∙ j)) (going_ends g i)

    by : {rest : Row} {xs : Nodes} (g : Going NamesRow text rest xs left to old out p) → Put text g.row g.new g.deep left to old out p → Put text rest (written_all xs) (levels_all xs) left to old out (moved_on p t.end)
    by {xs = xs} g (Put.too_deep a b) = Put.too_deep (omega (arith, g.depth, (larger_is g.deep (levels_all g.more)).left)) b
    by g (Put.fits a r b c d) = step g g.more g.row g.ahead refl r refl
