-- Fields that stand one after the other, and what going over them gives.
use Rattle.std.specs.Prelude.{ℕ, ◌≡◌, ◌≤◌, ◌<◌, length, Option, MatchOption}
use Rattle.definition.specs.Basic.{Bytes}
use Rattle.field.specs.Layout.{after, Whole}
use Rattle.field.specs.declared.fields.Fields.{Fields}

-- whole fields stand from an offset up to an end
pub data FieldsTo (b : Bytes) (to : ℕ) : ℕ → Type 0 where
  end : {at : ℕ} → at ≡ to → FieldsTo b to at
  more : {at : ℕ} → after b at ≤ length b → after b at ≤ to → FieldsTo b to (after b at) → FieldsTo b to at

-- going over fields begins: these bytes, from an offset up to an end
pub record Begins (b : Bytes) (from to : ℕ) (s : Fields) : Type 0 where
  pub bytes : s.bytes.now ≡ b
  pub at : s.at ≡ from
  pub end : s.end ≡ to

-- the next field: whole, at its offset, before the end; the one behind it is next
pub record NextIs (s : Fields) (at : ℕ) (t : Fields) : Type 0 where
  pub here : at ≡ s.at
  pub before : s.at < s.end
  pub whole : Whole s.bytes.now s.at
  pub behind : t.at ≡ after s.bytes.now s.at
  pub fits : t.at ≤ s.end
  pub bytes : t.bytes.now ≡ s.bytes.now
  pub end : t.end ≡ s.end

-- none: the end is reached
pub record Ended (s : Fields) : Type 0 where
  pub reached : s.at ≡ s.end

-- the state before a call, what it gives, and the state after
abbrev pub Gives : Fields → Option ℕ → Fields → Type 0
Gives s r t = MatchOption r (Ended s) (λ at. NextIs s at t)
