-- Stores into a list that is known in parts.
use Prim.Native.Nat.{ℕ, suc, ◌+◌, ◌≤◌}
use native.Mathlib.Omega.{arith}
use mathlib.Core.List.{List, [], ◌∷◌, ◌++◌, append_assoc}
use mathlib.Core.Path.{◌≡◌, sym, ap, ◌∙◌}
use lib.ListN.{length, set, take, drop, length-append, take-append-drop}
use lib.Seq.{sets, sets-eq, take_at, drop_at, length-take-le}

module _ {A : Type 0} where
  -- as many items take the place of what stood behind `p`
  pub sets_over : (p xs ys r : List A) (n : ℕ) → length p ≡ n → length ys ≡ length xs → sets (p ++ (xs ++ r)) n ys ≡ p ++ (ys ++ r)
  sets_over p xs ys r n e l =
      let a : length (p ++ (xs ++ r)) ≡ length p + (length xs + length r) = length-append p (xs ++ r) ∙ ap (λ k. length p + k) (length-append xs r) in
      let m : length (p ++ xs) ≡ n + length ys = omega (arith, length-append p xs) in
      let d : drop (n + length ys) (p ++ (xs ++ r)) ≡ r = ap (drop (n + length ys)) (sym (append_assoc p xs r)) ∙ drop_at (p ++ xs) r (n + length ys) m in
      sets-eq ys (p ++ (xs ++ r)) n (omega arith) ∙ (λ i. take_at p (xs ++ r) n e i ++ ys ++ d i) ∙ append_assoc p ys r

  -- items stored behind `p`, and what is left behind them
  pub sets_behind : (p ys r : List A) (n : ℕ) → length p ≡ n → length ys ≤ length r → sets (p ++ r) n ys ≡ p ++ (ys ++ drop (length ys) r)
  sets_behind p ys r n e l =
      ap (λ q. sets (p ++ q) n ys) (sym (take-append-drop (length ys) r))
      ∙ sets_over p (take (length ys) r) ys (drop (length ys) r) n e (sym (length-take-le (length ys) r l))

  -- one run of stores behind another
  pub sets_append : (xs ys l : List A) (n : ℕ) → sets (sets l n xs) (n + length xs) ys ≡ sets l n (xs ++ ys)
  sets_append [] ys l n = ap (λ k. sets l k ys) (omega arith)
  sets_append (x ∷ xs) ys l n = ap (λ k. sets (sets (set l n x) (suc n) xs) k ys) (omega arith) ∙ sets_append xs ys (set l n x) (suc n)
