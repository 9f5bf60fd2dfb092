-- Values: what the operators make of them, by the operators' bytes.
use Rattle.std.proofs.Common.{◌≡◌, ℕ, zero, suc, ◌^◌, Bool, true, false, cond, List, [], ◌∷◌, get_or, ℤ, pos, negsuc, sym, refl, ap, ◌∙◌, subst}
use Rattle.std.specs.Prelude.{Option, Some as some, None as none, MatchOption, IsSomeAnd, option_map, nat_lt, int_div}
use Rattle.std.specs.Int.Signed.{mag}
use Rattle.definition.specs.Basic.{pick}
use Rattle.trial.specs.Value.{Value, integer, fitting, quotient, Infix}
use Rattle.trial.specs.Machine.{InfixAt}

-- the operators by their bytes
abbrev infixes : List Infix
infixes = Infix.add ∷ Infix.add ∷ Infix.add ∷ Infix.sub ∷ Infix.mul ∷ Infix.div ∷ Infix.add ∷ Infix.add ∷ Infix.equals ∷ Infix.differs ∷ Infix.greater ∷ []

infix_at : {n : ℕ} {o : Infix} → InfixAt n o → get_or infixes n Infix.add ≡ o
infix_at InfixAt.add = refl
infix_at InfixAt.sub = refl
infix_at InfixAt.mul = refl
infix_at InfixAt.div = refl
infix_at InfixAt.equals = refl
infix_at InfixAt.differs = refl
infix_at InfixAt.greater = refl

-- the operator of a byte
pub is_infix : (P : Infix → Type 0) (m : ℕ) {n : ℕ} {o : Infix} → InfixAt n o → n ≡ m → P (get_or infixes m Infix.add) → P o
is_infix P m i e p = subst P (ap (λ n. get_or infixes n Infix.add) (sym e) ∙ infix_at i) p

pub is_greater : (P : Infix → Type 0) {n : ℕ} {o : Infix} → InfixAt n o → (n ≡ 0x01 → ⊥) → (n ≡ 0x03 → ⊥) → (n ≡ 0x04 → ⊥) → (n ≡ 0x05 → ⊥) → (n ≡ 0x08 → ⊥) → (n ≡ 0x09 → ⊥) → P Infix.greater → P o
is_greater P InfixAt.add a b c d e f p = absurd (a refl)
is_greater P InfixAt.sub a b c d e f p = absurd (b refl)
is_greater P InfixAt.mul a b c d e f p = absurd (c refl)
is_greater P InfixAt.div a b c d e f p = absurd (d refl)
is_greater P InfixAt.equals a b c d e f p = absurd (e refl)
is_greater P InfixAt.differs a b c d e f p = absurd (f refl)
is_greater P InfixAt.greater a b c d e f p = p

-- an integer that 64 bits hold, and a quotient that they hold: as the library's checked operations answer
abbrev pub fit : ℤ → Option ℤ
fit z = cond (nat_lt (mag z) (2 ^ 63)) (some z) none

abbrev pub divided : ℤ → ℤ → Option ℤ
divided a (pos zero) = none
divided a (pos (suc b)) = fit (int_div a (pos (suc b)))
divided a (negsuc b) = fit (int_div a (negsuc b))

-- as values
pub fit_law : (z : ℤ) → option_map integer (fit z) ≡ fitting z
fit_law z = go (nat_lt (mag z) (2 ^ 63))
  where
    go : (t : Bool) → option_map integer (cond t (some z) none) ≡ pick t (some (integer z)) none
    go true = refl
    go false = refl

pub divided_law : (a b : ℤ) → option_map integer (divided a b) ≡ quotient a b
divided_law a (pos zero) = refl
divided_law a (pos (suc b)) = fit_law (int_div a (pos (suc b)))
divided_law a (negsuc b) = fit_law (int_div a (negsuc b))

pub mapped : (r : Option ℤ) (m : Option Value) → MatchOption r (m ≡ none) (λ x. IsSomeAnd m (λ y. y ≡ integer x)) → m ≡ option_map integer r
mapped none m h = h
mapped (some x) none h = absurd h
mapped (some x) (some y) h = ap some h
