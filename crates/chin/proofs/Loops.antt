-- A loop over items that were read: those before are turned, and stand in the output, if it holds the image.
use Prim.Native.Nat.{ℕ, ◌+◌, ◌≤◌, ◌<◌}
use native.Mathlib.Omega.{arith}
use mathlib.Core.List.{List, [], ◌∷◌, ◌++◌, append-nil, append_assoc}
use mathlib.Core.Path.{◌≡◌, refl, sym, ap, subst₂, ◌∙◌}
use lib.ListN.{length, take, drop, length-append, take-append-drop}
use lib.Seq.{length-take-le}
use Rattle.definition.specs.Basic.{Bytes}
use Rattle.definition.specs.Bytecode.{written}
use Rattle.definition.specs.Decode.{Decoded, decoded, items}
use Rattle.listing.proofs.Items.{all_read, Reading, begins, ends, Next, next}
use Rattle.std.specs.Prelude.{Ok}
use Rattle.chin.specs.Turn.{Made, made, stopped, along, each}
use Rattle.chin.specs.Rows.{verdict, Same}
use Rattle.chin.proofs.Rows.{made_once}

module _ {A : Type 0} (f : ℕ → ℕ → Decoded A) (sizes : List A → ℕ) (t : ℕ → A → Made A) (w : A → Bytes) (b : Bytes) (most start end : ℕ) where
  -- the output over one that held the image: turned items up to an offset, then as it was
  pub record Sofar (o₀ : Bytes) (ys : List A) (at : ℕ) (o : Bytes) : Type 0 where
    pub is : o ≡ (take start o₀ ++ written w ys) ++ drop at o₀
    pub long : length (take start o₀ ++ written w ys) ≡ at

  pub record Loop (o₀ : Bytes) (at : ℕ) (o : Bytes) : Type 0 where
    pub xs : List A
    pub ys : List A
    pub order : at ≤ end
    pub reading : Reading f end most start xs at
    pub place : at ≡ start + sizes xs
    pub turned : each sizes t xs ≡ made ys
    pub kept : length o ≡ length o₀
    pub output : Same o₀ b start end → Sofar o₀ ys at o

  pub loop_begins : start ≤ end → sizes [] ≡ 0 → (o : Bytes) → Loop o start o
  loop_begins h z o =
      record {
        xs = [];
        ys = [];
        order = h;
        reading = begins f end most start;
        place = omega arith;
        turned = refl;
        kept = refl;
        output = λ s. record {
          is = sym (ap (λ l. l ++ drop start o) (append-nil (take start o)) ∙ take-append-drop start o);
          long = ap length (append-nil (take start o)) ∙ length-take-le start o (omega (arith, s.room));
        };
      }

  module _ {o₀ o : Bytes} {at : ℕ} (l : Loop o₀ at o) {c : List A} (e : items f most [] start end ≡ decoded c end) where
    turned_all : end ≤ at → each sizes t c ≡ made l.ys
    turned_all h = ap (each sizes t) (sym (ends f end most start l.reading e (omega (arith, l.order)))) ∙ l.turned

    -- at the end all are turned
    pub loop_fine : end ≤ at → Ok tt ≡ verdict (each sizes t c)
    loop_fine h = sym (ap verdict (turned_all h))

    pub loop_written : end ≤ at → (d : List A) → each sizes t c ≡ made d → Same o₀ b start end → o ≡ (take start o₀ ++ written w d) ++ drop end o₀
    loop_written h d k s =
        let same : l.ys ≡ d = made_once (sym (turned_all h) ∙ k) in
        let there : at ≡ end = omega (arith, l.order) in
        (l.output s).is ∙ (λ i. (take start o₀ ++ written w (same i)) ++ drop (there i) o₀)

    -- before it there is one more
    pub loop_next : at < end → Next f end most start l.reading e
    loop_next h = next f end most start l.reading e (λ i. omega arith)

    module _ (h : at < end) {x : A} {n : ℕ} (r : f at end ≡ decoded x n) where
      reading_next : Reading f end most start (x ∷ l.xs) n
      reading_next =
          let k = loop_next h in
          let p : k.x ≡ x = cc k.found in
          let q : k.next ≡ n = cc k.found in
          subst₂ (λ y m. Reading f end most start (y ∷ l.xs) m) p q k.reading

      -- one that is not turned stops all
      pub loop_stops : {p : ℕ} → t (sizes l.xs) x ≡ stopped p → each sizes t c ≡ stopped p
      loop_stops {p} s =
          all_read f end (λ ys _. each sizes t ys ≡ stopped p) (λ ys _ y _ k _. ap (λ z. along z (λ zs. along (t (sizes ys) y) (λ u. made (u ∷ zs)))) k)
          reading_next.rest (x ∷ l.xs) n (sym reading_next.same ∙ e)
          (ap (λ z. along z (λ zs. along (t (sizes l.xs) x) (λ u. made (u ∷ zs)))) l.turned ∙ ap (λ z. along z (λ u. made (u ∷ l.ys))) s)

      -- one that is turned goes behind the others
      pub loop_again : {y : A} {o' : Bytes} → t (sizes l.xs) x ≡ made y → n ≤ end → n ≡ start + sizes (x ∷ l.xs) → length o' ≡ length o → at + length (w y) ≡ n
          → (Same o₀ b start end → (p : Bytes) → length p ≡ at → o ≡ p ++ drop at o₀ → o' ≡ (p ++ w y) ++ drop n o₀) → Loop o₀ n o'
      loop_again {y} {o'} s within place kept grown stored =
          record {
            xs = x ∷ l.xs;
            ys = y ∷ l.ys;
            order = within;
            reading = reading_next;
            place = place;
            turned = ap (λ z. along z (λ zs. along (t (sizes l.xs) x) (λ u. made (u ∷ zs)))) l.turned ∙ ap (λ z. along z (λ u. made (u ∷ l.ys))) s;
            kept = kept ∙ l.kept;
            output = λ u. after u;
          }
        where
          after : Same o₀ b start end → Sofar o₀ (y ∷ l.ys) n o'
          after u =
              let k = l.output u in
              let p = take start o₀ ++ written w l.ys in
              let a = append_assoc (take start o₀) (written w l.ys) (w y) in
              record {
                is = stored u p k.long k.is ∙ ap (λ z. z ++ drop n o₀) a;
                long = ap length (sym a) ∙ omega (arith, length-append p (w y), k.long);
              }
