-- Texts put one after the other.
use Prim.Native.Nat.{ℕ, suc, ◌+◌, ◌-◌, ◌≤◌, min}
use native.Mathlib.Omega.{arith}
use mathlib.Core.Bool.{Bool, true, false}
use mathlib.Core.Path.{◌≡◌, refl, sym, ap, ◌∙◌}
use mathlib.Core.List.{[], ◌∷◌, ◌++◌}
use lib.Dec.{leb}
use lib.ListN.{length, take, drop, length-append, take-append-drop}
use lib.Seq.{sets, length-sets, length-take-le}
use borrow.Author.Tests.{leb-true, leb-false}
use Rattle.std.proofs.lemmas.List.{set_past, take_all}
use Rattle.definition.specs.Basic.{Bytes}
use Rattle.session.proofs.Stores.{sets_append}
use Rattle.listing.specs.declared.text.Writer.{Writer}
use Rattle.listing.specs.Put.{Puts}

-- past the end a store does nothing
pub sets_past : (l : Bytes) (i : ℕ) (xs : Bytes) → length l ≤ i → sets l i xs ≡ l
sets_past l i [] h = refl
sets_past l i (x ∷ xs) h = let e = set_past l i x h in ap (λ m. sets m (suc i) xs) e ∙ sets_past l (suc i) xs (omega arith)

-- so many of a text's bytes as there is room for, in place of all
pub sets_cut : (l : Bytes) (i n : ℕ) (xs : Bytes) → n ≡ min (length xs) (length l - i) → i ≤ length l → sets l i (take n xs) ≡ sets l i xs
sets_cut l i n xs e h = go (leb (length xs) (length l - i)) refl
  where
    go : (t : Bool) → leb (length xs) (length l - i) ≡ t → sets l i (take n xs) ≡ sets l i xs
    go true t = let k = leb-true _ _ t in ap (sets l i) (take_all n xs (omega (arith, e)))
    go false t =
        let k = leb-false _ _ t in
        let s : length (take n xs) ≡ n = length-take-le n xs (omega (arith, e)) in
        sym (sets_past (sets l i (take n xs)) (i + length (take n xs)) (drop n xs) (omega (arith, e, s, length-sets l i (take n xs))))
        ∙ sets_append l i (take n xs) (drop n xs) refl ∙ ap (sets l i) (take-append-drop n xs)

-- nothing
pub none : (s : Writer) → s.at ≤ length s.output.now → Puts s s []
none s h = record { stored = refl; fits = λ e. omega arith; full = λ e. omega arith; same = refl }

-- another form of the same text
pub reworded : {s s' : Writer} {a b : Bytes} → Puts s s' a → a ≡ b → Puts s s' b
reworded p e = rw e at p

-- a text, and another behind it
pub both : {s t u : Writer} {a b : Bytes} → Puts s t a → Puts t u b → Puts s u (a ++ b)
both {s} {t} {u} {a} {b} p q =
    record {
      stored = q.stored ∙ go (leb (s.at + length a) (length s.output.now)) refl;
      fits = λ h. omega (arith, n, l, p.fits (omega (arith, l)), q.fits (omega (arith, l, n, p.fits (omega (arith, l)))));
      full = λ h. filled h (leb (s.at + length a) (length s.output.now)) refl;
      same = q.same ∙ p.same;
    }
  where
    l : length (a ++ b) ≡ length a + length b
    l = length-append a b

    n : length t.output.now ≡ length s.output.now
    n = ap length p.stored ∙ length-sets s.output.now s.at a

    go : (x : Bool) → leb (s.at + length a) (length s.output.now) ≡ x → sets t.output.now t.at b ≡ sets s.output.now s.at (a ++ b)
    go true e = ap (λ m. sets m t.at b) p.stored ∙ sets_append s.output.now s.at a b (sym (p.fits (leb-true _ _ e)))
    go false e =
        let h = leb-false _ _ e in
        sets_past t.output.now t.at b (omega (arith, n, p.full (omega arith)))
        ∙ sym (sets_past t.output.now (s.at + length a) b (omega (arith, n)))
        ∙ ap (λ m. sets m (s.at + length a) b) p.stored
        ∙ sets_append s.output.now s.at a b refl

    filled : length s.output.now ≤ s.at + length (a ++ b) → (x : Bool) → leb (s.at + length a) (length s.output.now) ≡ x → u.at ≡ length s.output.now
    filled h true e = let f = p.fits (leb-true _ _ e) in omega (arith, n, l, q.full (omega (arith, n, l)))
    filled h false e = let f = p.full (omega (arith, leb-false _ _ e)) in omega (arith, n, q.full (omega (arith, n)))
