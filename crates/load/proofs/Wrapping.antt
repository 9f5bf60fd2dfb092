-- A product modulo a number by halves.
use Rattle.std.proofs.Common.{◌≡◌, ℕ, ◌+◌, ◌*◌, ◌/◌, ◌%◌, sym, ap, ◌∙◌, mul-zero, mul-one, mul-add, arith}
use native.Mathlib.Nat.{add-mod, mod-add-mod, zero-mod}

-- with 0
pub zero_product : (m a b : ℕ) → b ≡ 0 → 0 ≡ a * b % m
zero_product m a b e = sym (ap (λ x. a * x % m) e ∙ ap (λ x. x % m) (mul-zero a) ∙ zero-mod m)

-- twice the product with the half
pub doubled : (m a b h d : ℕ) → h ≡ a * (b / 2) % m → d ≡ (h + h) % m → d ≡ a * (b / 2 + b / 2) % m
doubled m a b h d p q = q ∙ (λ i. (p i + p i) % m) ∙ sym (add-mod (a * (b / 2)) (a * (b / 2)) m) ∙ ap (λ x. x % m) (sym (mul-add a (b / 2) (b / 2)))

-- an even number
pub even : (m a b d : ℕ) → d ≡ a * (b / 2 + b / 2) % m → b % 2 ≡ 0 → d ≡ a * b % m
even m a b d p e = p ∙ ap (λ x. a * x % m) (omega arith)

-- an odd one: once more
pub odd : (m a b d r : ℕ) → d ≡ a * (b / 2 + b / 2) % m → r ≡ (d + a) % m → b % 2 ≡ 1 → r ≡ a * b % m
odd m a b d r p q e =
    let n = b / 2 + b / 2 in
    let s : n + 1 ≡ b = omega arith in
    q ∙ ap (λ x. (x + a) % m) p ∙ mod-add-mod (a * n) m a ∙ ap (λ x. x % m) (ap (λ x. a * n + x) (sym (mul-one a)) ∙ sym (mul-add a n 1)) ∙ ap (λ x. a * x % m) s
