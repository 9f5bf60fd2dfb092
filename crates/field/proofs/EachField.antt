-- Going over fields that stand one after the other.
use Rattle.std.proofs.Common.{◌≡◌, ℕ, ◌<◌, ◌≤◌, List, [], ◌∷◌, length, refl, sym, ap, ◌∙◌, subst, arith}
use Rattle.std.specs.Iterator.{Yields, CallableAtEachTurn}
use Rattle.std.specs.List.{FoldsTo}
use Rattle.definition.specs.Basic.{Bytes}
use Rattle.field.specs.Layout.{after, Whole}
use Rattle.field.specs.Row.{RowTo, HasRow}
use Rattle.field.specs.Fields.{FieldsTo, Begins, NextIs, Ended, Gives}
use Rattle.field.specs.declared.fields.Fields.{Fields}

-- the fields of a row
row_to : {b : Bytes} {to at : ℕ} {ns : List Bytes} → to ≤ length b → RowTo b to at ns → FieldsTo b to at
row_to l (RowTo.end e) = FieldsTo.end e
row_to l (RowTo.more e f r) = FieldsTo.more (omega arith) f (row_to l r)

pub row_fields : {b : Bytes} {from to : ℕ} → HasRow b from to → FieldsTo b to from
row_fields h = row_to h.within h.row

-- fields that are handed over go over their own bytes
pub begins_there : (s : Fields) → Begins s.bytes.now s.at s.end s
begins_there s = record { bytes = refl; at = refl; end = refl }

-- it goes over these bytes, up to this offset
pub record Over (b : Bytes) (to : ℕ) (s : Fields) : Type 0 where
  pub bytes : s.bytes.now ≡ b
  pub stops : s.end ≡ to

-- where a loop begins
module _ {b : Bytes} {from to : ℕ} {s n : Fields} (e : s ≡ n) (g : Begins b from to n) where
  pub over_new : Over b to s
  over_new = record { bytes = ap (λ (x : Fields). x.bytes.now) e ∙ g.bytes; stops = ap (λ (x : Fields). x.end) e ∙ g.end }

  pub starts_at : from ≡ s.at
  starts_at = sym (ap (λ (x : Fields). x.at) e ∙ g.at)

  pub can_begin : FieldsTo b to from → FieldsTo s.bytes.now s.end s.at
  can_begin f = subst (λ c. FieldsTo c s.end s.at) (sym over_new.bytes) (subst (λ k. FieldsTo b k s.at) (sym over_new.stops) (subst (λ a. FieldsTo b to a) starts_at f))

-- a turn of a loop
module _ {b : Bytes} {to : ℕ} {s : Fields} (o : Over b to s) where
  module _ {at : ℕ} {t : Fields} (n : NextIs s at t) where
    pub over_again : Over b to t
    over_again = record { bytes = n.bytes ∙ o.bytes; stops = n.end ∙ o.stops }

    -- the field is before the end
    pub is_before : at < to
    is_before = omega (arith, n.here, n.before, o.stops)

    -- the next is behind it
    pub is_behind : t.at ≡ after b at
    is_behind = n.behind ∙ (λ j. after (o.bytes j) (sym n.here j))

    -- it is whole
    pub whole_here : Whole b at
    whole_here = subst (λ a. Whole b a) (sym n.here) (subst (λ c. Whole c s.at) o.bytes n.whole)

    pub fits_here : after b at ≤ to
    fits_here = omega (arith, is_behind, n.fits, o.stops)

  -- no field is left
  module _ (e : Ended s) where
    pub ends_at : s.at ≡ to
    ends_at = e.reached ∙ o.stops

    pub is_over : to ≤ s.at
    is_over = omega (arith, ends_at)

-- after any turns it goes over the same bytes
pub over_yields : {b : Bytes} {to : ℕ} (xs : List ℕ) {s t : Fields} → Yields Gives s xs t → Over b to s → Over b to t
over_yields {b} {to} [] y o = subst (λ s. Over b to s) y o
over_yields (x ∷ xs) y o = over_yields xs y.2 (over_again o y.1)

module _ {P : Type 0} {R : P → ℕ → P → Type 0} (keeps : (p : P) (x : ℕ) (q : P) → R p x q → q ≡ p) where
  -- turns that keep a value, together
  pub folds_keep : (xs : List ℕ) {p q : P} → FoldsTo R p xs q → q ≡ p
  folds_keep [] e = sym e
  folds_keep (x ∷ xs) {p} e = folds_keep xs e.2 ∙ keeps p x e.0 e.1

  -- what may be called at a whole field may be called at each
  pub callable_whole : {s : Fields} {p : P} {Q : P → ℕ → Type 0} → ((x : ℕ) → Whole s.bytes.now x → Q p x) → CallableAtEachTurn Gives R Q s p
  callable_whole {s} {p} {Q} c = record {
    at = λ xs t q x u y f n. subst (λ q. Q q x) (sym (folds_keep xs f)) (c x (whole_here (over_yields xs y (record { bytes = refl; stops = refl })) n));
  }
