-- The two numbers that `map` takes out of an answer fit where the call's answer does, and make its number.
use Prim.Native.Nat.{ℕ}
use mathlib.Core.Path.{◌≡◌, ap, ◌∙◌}
use Rattle.std.specs.Prelude.{Result, Ok, Err, MatchResult}
use Rattle.std.specs.Result.{IsOkAnd}
use Rattle.definition.specs.Answer.{Answer}
use Rattle.definition.specs.declared.reason.Refusal.{Refusal}
use Rattle.exported.specs.Packed.{Fits, Packs}
use Rattle.exported.specs.Framed.{pair_answer}
use Rattle.exported.proofs.Fits.{fits_as, packs_as}

-- what was answered, and `map`'s answer to a function whose result is as `P` says
abbrev pub IsMapped : {T : Type 0} → (T → ℕ × ℕ → Type 0) → Result T Refusal → Result (ℕ × ℕ) Refusal → Type 0
IsMapped P a b = MatchResult a (λ x. IsOkAnd b (P x)) (λ e. b ≡ Err e)

-- a pair is the answer that the definition gives, which fits
pub record Says (s : Answer) (m : Result (ℕ × ℕ) Refusal) : Type 0 where
  pub same : pair_answer m ≡ s
  pub fits : Fits s

-- so it fits, and so does what is said of its number
pub said_fits : {s : Answer} {m : Result (ℕ × ℕ) Refusal} → Says s m → Fits (pair_answer m)
said_fits y = fits_as y.same y.fits

pub said_packs : {s x : Answer} {m : Result (ℕ × ℕ) Refusal} {v : ℕ} → Says s m → x ≡ pair_answer m → Packs x v → Packs s v
said_packs y q p = packs_as (q ∙ y.same) p

-- where `f` takes the two out of what is answered, and `g` makes the answer's number of them
module _ {T : Type 0} {P : T → ℕ × ℕ → Type 0} (f : T → ℕ × ℕ) (g : Result T Refusal → Answer) (o : (x : T) → pair_answer (Ok (f x)) ≡ g (Ok x)) (e : (r : Refusal) → Err r ≡ g (Err r)) (h : (x : T) (y : ℕ × ℕ) → P x y → y ≡ f x) where
  mapped : (a : Result T Refusal) (m : Result (ℕ × ℕ) Refusal) → IsMapped P a m → pair_answer m ≡ g a
  mapped (Ok x) (Ok y) c = ap (λ y. pair_answer (Ok y)) (h x y c) ∙ o x
  mapped (Ok x) (Err r) c = absurd c
  mapped (Err r) m c = ap pair_answer c ∙ e r

  pub says : {a : Result T Refusal} {m : Result (ℕ × ℕ) Refusal} {s : Answer} → IsMapped P a m → g a ≡ s → Fits s → Says s m
  says {a} {m} c i k = record { same = mapped a m c ∙ i; fits = k }
