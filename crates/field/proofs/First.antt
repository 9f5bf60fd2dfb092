-- The first of some bytes, as `first` gives it, compared with a byte that is not 0.
use Rattle.std.proofs.Common.{◌≡◌, ℕ, ◌<◌, Bool, true, false, [], ◌∷◌, Option, Some, None, sym, ◌∙◌, arith}
use mathlib.Core.Bool.{not}
use denote.Bor.{Bor}
use lib.Dec.{eqb}
use Rattle.std.specs.List.{slice_get}
use Rattle.std.specs.Option.{option_copied, option_eq}
use Rattle.std.proofs.lemmas.Option.{get_or_from_slice_get}
use Rattle.std.proofs.lemmas.Bool.{eqb-true, eq-eqb}
use Rattle.definition.specs.Basic.{Bytes, byte_at}

-- whether it is a byte
abbrev is_byte : Option (Bor ℕ) → Bor ℕ → Bool
is_byte r w = option_eq (λ x y. eqb x.now y.now) r (Some w)

kept : (t : Bool) → not t ≡ false → t ≡ true
kept true n = cc
kept false n = cc

module _ (b : Bytes) (w : Bor ℕ) (r : Option (Bor ℕ)) (g : option_copied r ≡ slice_get b 0) {t : Bool} (e : t ≡ not (is_byte r w)) where
  pub first_is : t ≡ false → byte_at b 0 ≡ w.now
  first_is f = go r g (sym e ∙ f)
    where
      go : (r : Option (Bor ℕ)) → option_copied r ≡ slice_get b 0 → not (is_byte r w) ≡ false → byte_at b 0 ≡ w.now
      go (Some x) g n = get_or_from_slice_get b 0 x.now 0 (sym g) ∙ eqb-true x.now w.now (kept (eqb x.now w.now) n)
      go None g n = cc

  pub first_not : t ≡ true → 0 < w.now → byte_at b 0 ≡ w.now → ⊥
  first_not f s is = go b r g (sym e ∙ f) is
    where
      go : (b : Bytes) (r : Option (Bor ℕ)) → option_copied r ≡ slice_get b 0 → not (is_byte r w) ≡ true → byte_at b 0 ≡ w.now → ⊥
      go b (Some x) g n is =
          let t : eqb x.now w.now ≡ true = eq-eqb x.now w.now (sym (get_or_from_slice_get b 0 x.now 0 (sym g)) ∙ is) in
          let z : false ≡ true = rw t at n in cc
      go [] None g n is = omega (arith, s, is)
      go (x ∷ b) None g n is = cc
