-- Of two trees that are read, the shapes are equal exactly when they are alike, field by field.
use Prim.Native.Nat.{ℕ, ◌+◌, ◌*◌, ◌≤◌}
use native.Mathlib.Omega.{arith}
use mathlib.Core.Bool.{Bool, true, false}
use mathlib.Core.List.{[], ◌∷◌, ◌++◌}
use mathlib.Core.Path.{◌≡◌, refl, sym, ap, subst, subst₂, ◌∙◌}
use mathlib.Core.Logic.{◌↔◌}
use lib.ListN.{length, take, drop, replicate, take-append-drop}
use lib.Seq.{take_at, drop_at, length-take-le}
use Rattle.definition.specs.Basic.{Bytes}
use Rattle.definition.proofs.Basic.{contrary}
use Rattle.definition.specs.Shape.{shape}
use Rattle.definition.specs.Syntax.{Stmts}
use Rattle.definition.specs.Tree.{read_tree, Parsed}
use Rattle.tree.specs.Grammar.{is_leaf}
use Rattle.shape.specs.Fields.{is_literal}
use Rattle.shape.specs.Alike.{AlikeFields}
use Rattle.shape.proofs.Scan.{literal_leaf}
use Rattle.shape.proofs.Blanks.{Blanks, blanks-shape}

-- a test that holds and does not
pub clash : {A : Type 0} {b : Bool} → b ≡ true → b ≡ false → A
clash p q = contrary (sym q ∙ p)

-- two parts of equal lists, the first equally long
cut_first : (a b c d : Bytes) → length a ≡ length b → a ++ c ≡ b ++ d → a ≡ b
cut_first a b c d h e = sym (take_at a c (length b) h) ∙ ap (take (length b)) e ∙ take_at b d (length b) refl

cut_second : (a b c d : Bytes) → length a ≡ length b → a ++ c ≡ b ++ d → c ≡ d
cut_second a b c d h e = sym (drop_at a c (length b) h) ∙ ap (drop (length b)) e ∙ drop_at b d (length b) refl

-- a field's content and what is behind it
split : (n : ℕ) (x b : Bytes) → length x ≡ n → (take n (x ++ b) ≡ x) × (drop n (x ++ b) ≡ b)
split n x b h = (take_at x b n h, drop_at x b n h)

-- alike fields have equal blanks
blanks-alike : {a b s r : Bytes} → AlikeFields a b → Blanks a s → Blanks b r → s ≡ r
blanks-alike AlikeFields.ended Blanks.ended Blanks.ended = refl
blanks-alike (AlikeFields.inside t h l e f) (Blanks.inside _ _ _ _ p) (Blanks.inside _ _ _ _ q) =
    ap (λ z. t ∷ h ∷ l ∷ z) (blanks-alike f p q)
blanks-alike (AlikeFields.inside t h l e f) (Blanks.kept _ _ _ k _ _ _) q = clash k e
blanks-alike (AlikeFields.inside t h l e f) (Blanks.literal _ _ _ k _ _ _) q = clash k e
blanks-alike (AlikeFields.inside t h l e f) (Blanks.inside _ _ _ _ _) (Blanks.kept _ _ _ k _ _ _) = clash k e
blanks-alike (AlikeFields.inside t h l e f) (Blanks.inside _ _ _ _ _) (Blanks.literal _ _ _ k _ _ _) = clash k e
blanks-alike (AlikeFields.kept {b} {c} t h l x e k n f) (Blanks.kept {s = s} _ _ _ _ _ _ p) (Blanks.kept {s = r} _ _ _ _ _ _ q) =
    let u = split (h * 256 + l) x b n in
    let w = split (h * 256 + l) x c n in
    let z = blanks-alike f (subst (λ y. Blanks y s) u.1 p) (subst (λ y. Blanks y r) w.1 q) in
    λ i. t ∷ h ∷ l ∷ ((u.0 ∙ sym w.0) i ++ z i)
blanks-alike (AlikeFields.kept t h l x e k n f) (Blanks.inside _ _ _ m _) q = clash e m
blanks-alike (AlikeFields.kept t h l x e k n f) (Blanks.literal _ _ _ _ m _ _) q = clash m k
blanks-alike (AlikeFields.kept t h l x e k n f) (Blanks.kept _ _ _ _ _ _ _) (Blanks.inside _ _ _ m _) = clash e m
blanks-alike (AlikeFields.kept t h l x e k n f) (Blanks.kept _ _ _ _ _ _ _) (Blanks.literal _ _ _ _ m _ _) = clash m k
blanks-alike (AlikeFields.literal {b} {c} t h l x y k n m f) (Blanks.literal {s = s} _ _ _ _ _ _ p) (Blanks.literal {s = r} _ _ _ _ _ _ q) =
    ap (λ z. t ∷ h ∷ l ∷ (replicate (h * 256 + l) 0 ++ z))
    (blanks-alike f (subst (λ y. Blanks y s) (split (h * 256 + l) x b n).1 p) (subst (λ y. Blanks y r) (split (h * 256 + l) y c m).1 q))
blanks-alike (AlikeFields.literal t h l x y k n m f) (Blanks.inside _ _ _ e _) q = clash (literal_leaf t k) e
blanks-alike (AlikeFields.literal t h l x y k n m f) (Blanks.kept _ _ _ _ e _ _) q = clash k e
blanks-alike (AlikeFields.literal t h l x y k n m f) (Blanks.literal _ _ _ _ _ _ _) (Blanks.inside _ _ _ e _) = clash (literal_leaf t k) e
blanks-alike (AlikeFields.literal t h l x y k n m f) (Blanks.literal _ _ _ _ _ _ _) (Blanks.kept _ _ _ _ e _ _) = clash k e

-- a name or an operator that both have
kept_both : (t h l : ℕ) (b c : Bytes) → is_leaf t ≡ true → is_literal t ≡ false → h * 256 + l ≤ length b
    → take (h * 256 + l) b ≡ take (h * 256 + l) c → AlikeFields (drop (h * 256 + l) b) (drop (h * 256 + l) c)
    → AlikeFields (t ∷ h ∷ l ∷ b) (t ∷ h ∷ l ∷ c)
kept_both t h l b c e k n p f =
    let m = h * 256 + l in
    subst₂ AlikeFields (ap (λ z. t ∷ h ∷ l ∷ z) (take-append-drop m b)) (ap (λ z. t ∷ h ∷ l ∷ z) (ap (λ x. x ++ drop m c) p ∙ take-append-drop m c))
    (AlikeFields.kept t h l (take m b) e k (length-take-le m b n) f)

-- a literal in each
literal_both : (t h l : ℕ) (b c : Bytes) → is_literal t ≡ true → h * 256 + l ≤ length b → h * 256 + l ≤ length c
    → AlikeFields (drop (h * 256 + l) b) (drop (h * 256 + l) c) → AlikeFields (t ∷ h ∷ l ∷ b) (t ∷ h ∷ l ∷ c)
literal_both t h l b c k n m f =
    let z = h * 256 + l in
    subst₂ AlikeFields (ap (λ y. t ∷ h ∷ l ∷ y) (take-append-drop z b)) (ap (λ y. t ∷ h ∷ l ∷ y) (take-append-drop z c))
    (AlikeFields.literal t h l (take z b) (take z c) k (length-take-le z b n) (length-take-le z c m) f)

-- two heads that are equal
record SameHead (t h l u k m : ℕ) (s r : Bytes) : Type 0 where
  pub tag : u ≡ t
  pub high : k ≡ h
  pub low : m ≡ l
  pub rest : s ≡ r

same_head : {t h l u k m : ℕ} {s r : Bytes} → t ∷ h ∷ l ∷ s ≡ u ∷ k ∷ m ∷ r → SameHead t h l u k m s r
same_head e = record { tag = cc; high = cc; low = cc; rest = cc }

-- the second with the first's head
with_head : {t h l u k m : ℕ} {s r : Bytes} {a b : Bytes} → SameHead t h l u k m s r → AlikeFields a (t ∷ h ∷ l ∷ b)
    → AlikeFields a (u ∷ k ∷ m ∷ b)
with_head {b = b} e f = subst (AlikeFields _) (λ i. sym e.tag i ∷ sym e.high i ∷ sym e.low i ∷ b) f

differ : {A : Type 0} {b : Bytes} {x : ℕ} → [] ≡ x ∷ b → A
differ e = let z : ◌≡◌ {A = ℕ} 0 1 = cc in absurd (omega arith)

-- fields with equal blanks are alike
alike-blanks : {a b s r : Bytes} → Blanks a s → Blanks b r → s ≡ r → AlikeFields a b
alike-blanks Blanks.ended Blanks.ended e = AlikeFields.ended
alike-blanks Blanks.ended (Blanks.inside _ _ _ _ _) e = differ e
alike-blanks Blanks.ended (Blanks.kept _ _ _ _ _ _ _) e = differ e
alike-blanks Blanks.ended (Blanks.literal _ _ _ _ _ _ _) e = differ e
alike-blanks (Blanks.inside _ _ _ _ _) Blanks.ended e = differ (sym e)
alike-blanks (Blanks.kept _ _ _ _ _ _ _) Blanks.ended e = differ (sym e)
alike-blanks (Blanks.literal _ _ _ _ _ _ _) Blanks.ended e = differ (sym e)
alike-blanks (Blanks.inside t h l k p) (Blanks.inside _ _ _ _ q) e =
    let w = same_head e in with_head w (AlikeFields.inside t h l k (alike-blanks p q w.rest))
alike-blanks (Blanks.inside t h l k p) (Blanks.kept _ _ _ j _ _ _) e = clash (sym (ap is_leaf (same_head e).tag) ∙ j) k
alike-blanks (Blanks.inside t h l k p) (Blanks.literal _ _ _ j _ _ _) e = clash (sym (ap is_leaf (same_head e).tag) ∙ j) k
alike-blanks (Blanks.kept t h l k _ _ _) (Blanks.inside _ _ _ j _) e = clash k (sym (ap is_leaf (same_head e).tag) ∙ j)
alike-blanks (Blanks.literal t h l k _ _ _) (Blanks.inside _ _ _ j _) e = clash k (sym (ap is_leaf (same_head e).tag) ∙ j)
alike-blanks (Blanks.kept t h l _ k _ _) (Blanks.literal _ _ _ _ j _ _) e = clash (sym (ap is_literal (same_head e).tag) ∙ j) k
alike-blanks (Blanks.literal t h l _ k _ _) (Blanks.kept _ _ _ _ j _ _) e = clash k (sym (ap is_literal (same_head e).tag) ∙ j)
alike-blanks (Blanks.kept {b} {s} t h l k j n p) (Blanks.kept {b = c} {s = r} _ h' l' _ _ m q) e =
    let w = same_head e in
    let same : h' * 256 + l' ≡ h * 256 + l = λ i. w.high i * 256 + w.low i in
    let long = length-take-le (h * 256 + l) b n ∙ sym (length-take-le (h * 256 + l) c (omega arith)) in
    let e' = w.rest ∙ ap (λ z. take z c ++ r) same in
    with_head w (kept_both t h l b c k j n (cut_first (take (h * 256 + l) b) (take (h * 256 + l) c) s r long e')
    (alike-blanks p (subst (λ z. Blanks (drop z c) r) same q) (cut_second (take (h * 256 + l) b) (take (h * 256 + l) c) s r long e')))
alike-blanks (Blanks.literal {b} {s} t h l k j n p) (Blanks.literal {b = c} {s = r} _ h' l' _ _ m q) e =
    let w = same_head e in
    let same : h' * 256 + l' ≡ h * 256 + l = λ i. w.high i * 256 + w.low i in
    let e' = w.rest ∙ ap (λ z. replicate z 0 ++ r) same in
    with_head w (literal_both t h l b c j n (omega arith)
    (alike-blanks p (subst (λ z. Blanks (drop z c) r) same q) (cut_second (replicate (h * 256 + l) 0) (replicate (h * 256 + l) 0) s r refl e')))

-- Two trees that are read have equal shapes exactly when they are alike
pub shapes-alike : (t u : Bytes) {a b : Stmts} {m n : ℕ} → read_tree t ≡ Parsed.parsed a m → read_tree u ≡ Parsed.parsed b n
    → (shape t ≡ shape u) ↔ AlikeFields t u
shapes-alike t u p q = (alike-blanks (blanks-shape t p) (blanks-shape u q), λ f. blanks-alike f (blanks-shape t p) (blanks-shape u q))
