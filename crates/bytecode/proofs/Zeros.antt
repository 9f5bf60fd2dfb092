-- The loop that joins all bytes by `or`: what it has is zero exactly where all were.
use Prim.Native.Nat.{ℕ, zero, suc, ◌+◌, ◌-◌, ◌*◌, ◌≤◌, ◌<◌}
use mathlib.Core.Path.{◌≡◌, ◌∙◌, ap, sym, refl}
use mathlib.Core.Bool.{Bool, true, false}
use mathlib.Core.List.{[], ◌∷◌}
use native.Mathlib.Omega.{arith}
use native.Mathlib.Numerals.{add-one}
use lib.Bits.{bit_or, or_add_and, and_le_l, and_le_r}
use lib.Dec.{eqb}
use lib.ListN.{length, get_or, take, drop, length-drop}
use lib.Seq.{drop-cons, drop-drop, take_all, length-take-le}
use borrow.Author.Tests.{eq-eqb, ne_eqb, eqb-true, eqb-false}
use Rattle.definition.specs.Basic.{Bytes, pick, both}
use Rattle.definition.specs.Decode.{all_zero}
use Rattle.bytecode.specs.Checked.{Alike, four_zero}

or_zero : (a x : ℕ) → eqb (bit_or a x) 0 ≡ both (eqb a 0) (eqb x 0)
or_zero a x = go (eqb a 0) refl (eqb x 0) refl
  where
    go : (p : Bool) → eqb a 0 ≡ p → (q : Bool) → eqb x 0 ≡ q → eqb (bit_or a x) 0 ≡ both p q
    go true s true t = eq-eqb (bit_or a x) 0 (omega (arith, eqb-true a 0 s, eqb-true x 0 t, or_add_and a x))
    go true s false t = ne_eqb (bit_or a x) 0 (λ e. eqb-false x 0 t (omega (arith, or_add_and a x, and_le_l a x)))
    go false s q t = ne_eqb (bit_or a x) 0 (λ e. eqb-false a 0 s (omega (arith, or_add_and a x, and_le_r a x)))

-- after i turns: all bytes are zero where what was joined is zero and the rest is
pub record Joining (b : Bytes) (any i : ℕ) : Type 0 where
  pub within : i ≤ length b
  pub decides : both (eqb any 0) (all_zero (drop i b)) ≡ all_zero b

step : (p q : Bool) (r : Bool) → both (both p q) r ≡ both p (pick q r false)
step true true r = refl
step true false r = refl
step false q r = refl

pub zeros_again : {b : Bytes} {any i : ℕ} → i < length b → Joining b any i → Joining b (bit_or any (get_or b i 0)) (i + 1)
zeros_again {b} {any} {i} h z =
    record {
      within = omega arith;
      decides =
          ap (λ (p : Bool). both p (all_zero (drop (i + 1) b))) (or_zero any (get_or b i 0))
          ∙ ap (λ (n : ℕ). both (both (eqb any 0) (eqb (get_or b i 0) 0)) (all_zero (drop n b))) (add-one i)
          ∙ step (eqb any 0) (eqb (get_or b i 0) 0) (all_zero (drop (suc i) b))
          ∙ ap (λ (l : Bytes). both (eqb any 0) (all_zero l)) (sym (drop-cons b i 0 h))
          ∙ z.decides;
    }

-- Four parts at once: after i turns, what was joined and the rests decide
pub record FourJoining (a b c d : Bytes) (any i : ℕ) : Type 0 where
  pub within : i ≤ length a
  pub decides : both (eqb any 0) (four_zero (drop i a) (drop i b) (drop i c) (drop i d)) ≡ four_zero a b c d

-- the test of a list is that of its first byte and of the others
first_zero : (b : Bytes) (i : ℕ) → i < length b → all_zero (drop i b) ≡ both (eqb (get_or b i 0) 0) (all_zero (drop (i + 1) b))
first_zero b i h = ap all_zero (drop-cons b i 0 h) ∙ last (eqb (get_or b i 0) 0) (all_zero (drop (suc i) b)) ∙ ap (λ (n : ℕ). both (eqb (get_or b i 0) 0) (all_zero (drop n b))) (sym (add-one i))
  where
    last : (p q : Bool) → pick p q false ≡ both p q
    last true q = refl
    last false q = refl

none : (p : Bool) → both p false ≡ false
none true = refl
none false = refl

-- tests in another order
sorted : (p x y z w a b c d : Bool)
    → both (both p (both (both (both x y) z) w)) (both a (both b (both c d))) ≡ both p (both (both x a) (both (both y b) (both (both z c) (both w d))))
sorted false x y z w a b c d = refl
sorted true false y z w a b c d = refl
sorted true true y z w false b c d = none (both (both y z) w)
sorted true true false z w true b c d = refl
sorted true true true z w true false c d = none (both z w)
sorted true true true false w true true c d = refl
sorted true true true true w true true false d = none w
sorted true true true true false true true true d = refl
sorted true true true true true true true true d = refl

joined_zero : (any x y z w : ℕ)
    → eqb (bit_or any (bit_or (bit_or (bit_or x y) z) w)) 0 ≡ both (eqb any 0) (both (both (both (eqb x 0) (eqb y 0)) (eqb z 0)) (eqb w 0))
joined_zero any x y z w =
    or_zero any (bit_or (bit_or (bit_or x y) z) w)
    ∙ ap (both (eqb any 0))
    (or_zero (bit_or (bit_or x y) z) w
    ∙ ap (λ (p : Bool). both p (eqb w 0)) (or_zero (bit_or x y) z ∙ ap (λ (p : Bool). both p (eqb z 0)) (or_zero x y)))

module _ {a b c d : Bytes} (l : Alike a b c d) {any i : ℕ} where
  pub four_again : i < length a → FourJoining a b c d any i
      → FourJoining a b c d (bit_or any (bit_or (bit_or (bit_or (get_or a i 0) (get_or b i 0)) (get_or c i 0)) (get_or d i 0))) (i + 1)
  four_again h z =
      let e = joined_zero any (get_or a i 0) (get_or b i 0) (get_or c i 0) (get_or d i 0) in
      let one = first_zero a i h in
      let two = first_zero b i (omega (arith, l.two)) in
      let three = first_zero c i (omega (arith, l.three)) in
      let four = first_zero d i (omega (arith, l.four)) in
      record {
        within = omega arith;
        decides =
            ap (λ (p : Bool). both p (four_zero (drop (i + 1) a) (drop (i + 1) b) (drop (i + 1) c) (drop (i + 1) d))) e
            ∙ sorted (eqb any 0) (eqb (get_or a i 0) 0) (eqb (get_or b i 0) 0) (eqb (get_or c i 0) 0) (eqb (get_or d i 0) 0)
            (all_zero (drop (i + 1) a)) (all_zero (drop (i + 1) b)) (all_zero (drop (i + 1) c)) (all_zero (drop (i + 1) d))
            ∙ sym (λ k. both (eqb any 0) (both (one k) (both (two k) (both (three k) (four k)))))
            ∙ z.decides;
      }

-- the test of a list is that of its parts
pub zero_parts : (n : ℕ) (b : Bytes) → all_zero b ≡ both (all_zero (take n b)) (all_zero (drop n b))
zero_parts zero [] = refl
zero_parts zero (x ∷ xs) = refl
zero_parts (suc n) [] = refl
zero_parts (suc n) (x ∷ xs) = go (eqb x 0) (zero_parts n xs)
  where
    go : (p : Bool) → all_zero xs ≡ both (all_zero (take n xs)) (all_zero (drop n xs)) → pick p (all_zero xs) false ≡ both (pick p (all_zero (take n xs)) false) (all_zero (drop n xs))
    go true e = e
    go false e = refl

-- A list in four equally long parts and a rest
module _ (b : Bytes) where
  abbrev part : ℕ → ℕ → Bytes
  part from to = take (to - from) (drop from b)

  part_length : (from to : ℕ) → to ≤ length b → length (part from to) ≡ to - from
  part_length from to h = length-take-le (to - from) (drop from b) (omega (arith, length-drop from b))

  cut : (from to : ℕ) → from ≤ to → all_zero (drop from b) ≡ both (all_zero (part from to)) (all_zero (drop to b))
  cut from to h =
      let e : from + (to - from) ≡ to = omega arith in
      zero_parts (to - from) (drop from b)
      ∙ ap (λ (l : Bytes). both (all_zero (part from to)) (all_zero l)) (drop-drop (to - from) from b ∙ ap (λ (n : ℕ). drop n b) e)

  module _ (q : ℕ) (h : 4 * q ≤ length b) where
    pub quarters_alike : Alike (take q b) (part q (2 * q)) (part (2 * q) (3 * q)) (part (3 * q) (4 * q))
    quarters_alike =
        let e = length-take-le q b (omega arith) in
        record {
          two = omega (arith, part_length q (2 * q) (omega arith));
          three = omega (arith, part_length (2 * q) (3 * q) (omega arith));
          four = omega (arith, part_length (3 * q) (4 * q) h);
        }

    grouped : (p r s t u : Bool) → both p (both r (both s (both t u))) ≡ both (both p (both r (both s t))) u
    grouped false r s t u = refl
    grouped true false s t u = refl
    grouped true true false t u = refl
    grouped true true true t u = refl

    pub quarters_zero : (any rest : ℕ) → eqb any 0 ≡ four_zero (take q b) (part q (2 * q)) (part (2 * q) (3 * q)) (part (3 * q) (4 * q))
        → eqb rest 0 ≡ all_zero (part (4 * q) (length b)) → eqb (bit_or any rest) 0 ≡ all_zero b
    quarters_zero any rest e r =
        let whole : part (4 * q) (length b) ≡ drop (4 * q) b = take_all (length b - 4 * q) (drop (4 * q) b) (omega (arith, length-drop (4 * q) b)) in
        or_zero any rest
        ∙ (λ k. both (e k) ((r ∙ ap all_zero whole) k))
        ∙ sym (grouped (all_zero (take q b)) (all_zero (part q (2 * q))) (all_zero (part (2 * q) (3 * q))) (all_zero (part (3 * q) (4 * q))) (all_zero (drop (4 * q) b)))
        ∙ sym
        (zero_parts q b
        ∙ (λ k. both (all_zero (take q b)) (cut q (2 * q) (omega arith) k))
        ∙ (λ k. both (all_zero (take q b)) (both (all_zero (part q (2 * q))) (cut (2 * q) (3 * q) (omega arith) k)))
        ∙ (λ k. both (all_zero (take q b)) (both (all_zero (part q (2 * q))) (both (all_zero (part (2 * q) (3 * q))) (cut (3 * q) (4 * q) (omega arith) k)))))
