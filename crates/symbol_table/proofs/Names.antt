-- Names: their hash, and where they stand.
use Prim.Native.Nat.{ℕ, ◌+◌, ◌*◌, ◌%◌, ◌≤◌, ◌<◌}
use mathlib.Core.Path.{◌≡◌, refl, ap}
use mathlib.Core.Bool.{Bool, true, false}
use native.Mathlib.Numerals.{add-one}
use native.Mathlib.Omega.{arith}
use lib.ListN.{length, get_or, take, drop, drop_of_length-le}
use lib.Seq.{drop-cons, get_or-take}
use Rattle.definition.specs.Basic.{Bytes}
use Rattle.definition.specs.SymbolTable.{same}
use Rattle.definition.proofs.Undefined.{same_equal}
use Rattle.field.specs.Layout.{len, after, content}
use Rattle.symbol_table.specs.Name.{hash_bound, hash_from}
use Rattle.symbol_table.proofs.Slices.{slice_take}

-- different names are not the same
pub differs : (x y : Bytes) → (x ≡ y → ⊥) → same x y ≡ false
differs x y h = go (same x y) refl
  where
    go : (t : Bool) → same x y ≡ t → same x y ≡ false
    go true p = absurd (h (same_equal x y p))
    go false p = p

-- nor are names of different hashes
pub hash_differs : (f : Bytes → ℕ) (x y : Bytes) → (f x ≡ f y → ⊥) → same x y ≡ false
hash_differs f x y h = differs x y (λ e. h (ap f e))

module _ (x : Bytes) (h i : ℕ) where
  pub hash_step : i < length x → hash_from h (drop i x) ≡ hash_from ((h * 2654440485 + get_or x i 0) % hash_bound) (drop (i + 1) x)
  unfolding hash_from
  hash_step l = rw (drop-cons x i 0, add-one)

  pub hash_none : length x ≤ i → hash_from h (drop i x) ≡ h
  unfolding hash_from
  hash_none l = rw (drop_of_length-le x l)

-- a name that ends before a point
module _ (b : Bytes) (at e : ℕ) (h : after b at ≤ e) where
  pub len_take : len (take e b) at ≡ len b at
  len_take = rw (get_or-take e b (at + 1) 0 (omega arith), get_or-take e b (at + 2) 0 (omega arith))

  pub content-take : content (take e b) at ≡ content b at
  content-take = rw len_take (slice_take (at + 3) (len b at) e b h)
