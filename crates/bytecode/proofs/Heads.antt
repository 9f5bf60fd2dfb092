-- The head of a field that was looked for: what was found is what the definition reads.
use Prim.Native.Nat.{ℕ, ◌+◌, ◌≤◌}
use mathlib.Core.Path.{◌≡◌, ◌∙◌, ap, sym, refl}
use mathlib.Core.Bool.{Bool, true, false}
use native.Mathlib.Omega.{arith}
use lib.Dec.{leb}
use borrow.Author.Tests.{leb-true}
use Rattle.std.specs.Prelude.{Result, Ok, Err}
use Rattle.definition.specs.Basic.{Bytes, byte_at, both}
use Rattle.definition.specs.Field.{Head, head, fits}
use Rattle.definition.specs.Decode.{Decoded, decoded, malformed, then, read_head}
use Rattle.definition.proofs.Basic.{both_true}
use Rattle.bytecode.specs.declared.field_head.Head.{Head as Found}
use Rattle.bytecode.specs.declared.Malformed.{Malformed}
use Rattle.bytecode.specs.Checked.{head_of, found}

module _ (byte : ℕ → ℕ) (at end : ℕ) (good : Head → Bool) where
  -- a good head, of a field that stands whole
  pub record Fitting (h : Found) : Type 0 where
    pub is : head byte at ≡ head_of h
    pub is_good : good (head_of h) ≡ true
    pub within : at + 3 + h.len ≤ end
    pub reads : read_head byte good at end ≡ decoded (head_of h) (at + 3)

-- what `head_where` answers, by what its test says of heads
module _ (b : Bytes) (at end : ℕ) {P : Found → Bool → Type 0} {r : Result Found Malformed} (good : Head → Bool)
    (answers : (good : Head → Bool) → ((h : Found) (x : Bool) → P h x → x ≡ good (head_of h)) → r ≡ found (read_head (byte_at b) good at end))
    (says : (h : Found) (x : Bool) → P h x → x ≡ good (head_of h)) where
  e : r ≡ found (read_head (byte_at b) good at end)
  e = answers good says

  pub fitting : {h : Found} → r ≡ Ok h → Fitting (byte_at b) at end good h
  fitting {h} w = go (both (fits at end (head (byte_at b) at)) (good (head (byte_at b) at))) refl
    where
      go : (v : Bool) → both (fits at end (head (byte_at b) at)) (good (head (byte_at b) at)) ≡ v → Fitting (byte_at b) at end good h
      go true t =
          let i : ◌≡◌ {A = Result Found Malformed} (Ok h) (Ok (record { tag = (head (byte_at b) at).tag; len = (head (byte_at b) at).len })) = sym w ∙ rw t at e in
          let j : head (byte_at b) at ≡ head_of h = cc in
          let p = both_true (fits at end (head (byte_at b) at)) _ t in
          record {
            is = j;
            is_good = rw (← j) p.1;
            within = let k = leb-true (at + 3 + (head (byte_at b) at).len) end (both_true (leb (at + 3) end) _ p.0).1 in omega (arith, ap (λ (x : Head). x.len) j);
            reads = rw (t, j);
          }
      go false t = let i : ◌≡◌ {A = Result Found Malformed} (Ok h) (Err (record { place = at })) = sym w ∙ rw t at e in cc

  -- what is read after a head that is not
  pub unfitting : {x : Malformed} → r ≡ Err x → {A : Type 0} (k : Head → ℕ → Decoded A) → then (read_head (byte_at b) good at end) k ≡ malformed x.place
  unfitting {x} w k = go (both (fits at end (head (byte_at b) at)) (good (head (byte_at b) at))) refl
    where
      go : (v : Bool) → both (fits at end (head (byte_at b) at)) (good (head (byte_at b) at)) ≡ v → then (read_head (byte_at b) good at end) k ≡ malformed x.place
      go true t = let i : ◌≡◌ {A = Result Found Malformed} (Err x) (Ok (record { tag = (head (byte_at b) at).tag; len = (head (byte_at b) at).len })) = sym w ∙ rw t at e in cc
      go false t =
          let i : ◌≡◌ {A = Result Found Malformed} (Err x) (Err (record { place = at })) = sym w ∙ rw t at e in
          let j : x ≡ record { place = at } = cc in
          rw (t, j)
