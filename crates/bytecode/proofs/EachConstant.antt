-- Going over the constants of a part of bytes.
use Rattle.std.proofs.Common.{◌≡◌, ℕ, ◌+◌, ◌<◌, ◌≤◌, Bool, true, false, ltb, ltb-true, ltb-false, length, refl, sym, ap, ◌∙◌, subst, arith}
use Rattle.definition.specs.Basic.{Bytes, byte_at}
use Rattle.definition.specs.Field.{head}
use Rattle.bytecode.specs.Constants.{NextIs, Ended}
use Rattle.bytecode.specs.declared.constants.Constants.{Constants}

-- it goes over these bytes, up to this offset
pub record Over (b : Bytes) (end : ℕ) (s : Constants) : Type 0 where
  pub image : s.image.now ≡ b
  pub stops : s.end ≡ end

-- where a loop begins
pub over_new : {b : Bytes} {end : ℕ} {s n : Constants} → s ≡ n → n.image.now ≡ b → n.end ≡ end → Over b end s
over_new e p q = record { image = ap (λ (s : Constants). s.image.now) e ∙ p; stops = ap (λ (s : Constants). s.end) e ∙ q }

pub starts_at : {start : ℕ} {s n : Constants} → s ≡ n → n.at ≡ start → start ≡ s.at
starts_at e p = sym (ap (λ (s : Constants). s.at) e ∙ p)

-- a constant between two offsets
pub record StandsAt (b : Bytes) (end at after : ℕ) : Type 0 where
  pub before : at < end
  pub sized : after ≡ at + 3 + (head (byte_at b) at).len

module _ {b : Bytes} {end : ℕ} {s : Constants} (o : Over b end s) where
  module _ {at after : ℕ} {t : Constants} (n : NextIs s at after t) where
    pub over_again : Over b end t
    over_again = record { image = n.image ∙ o.image; stops = n.end ∙ o.stops }

    -- the constant there
    pub stands_at : StandsAt b end at after
    stands_at =
        record {
          before = subst (λ a. a < end) (sym n.here) (subst (λ e. s.at < e) o.stops n.before);
          sized = n.sized ∙ (λ j. sym n.here j + 3 + (head (byte_at (o.image j)) (sym n.here j)).len);
        }

  -- none was left, if a head stands before the end
  pub none_left : Ended s → (s.at < end → s.at + 3 ≤ length b) → end ≤ s.at
  none_left e h = go (ltb s.at end) refl
    where
      go : (t : Bool) → ltb s.at end ≡ t → end ≤ s.at
      go true t =
          let l = ltb-true s.at end t in
          let z = e.short (subst (λ n. s.at < n) (sym o.stops) l) in
          absurd (omega (arith, ap length o.image, z, h l))
      go false t = ltb-false s.at end t
