-- One function's part in the whole area, and what stands below it.
use Prim.Native.Nat.{ℕ, zero, suc, ◌+◌, ◌-◌, ◌≤◌}
use mathlib.Core.Path.{◌≡◌, refl, ap, ◌∙◌}
use mathlib.Core.List.{List, ◌++◌}
use native.Mathlib.Omega.{arith}
use lib.ListN.{length, take, drop, length-take, length-drop}
use lib.Seq.{take_at, drop_at, length-take-le}
use borrow.Rule.Slice.PartMut.{put_mid, post_of, take_put, drop_put}
use Rattle.definition.specs.Basic.{Bytes}
use Rattle.symbol_table.specs.Layout.{globals_size, part_size, base, part, tables_of, Good}
use Rattle.symbol_table.specs.Contract.{Inside}
use Rattle.symbol_table.proofs.Slices.{take-agree, slice_agree}

-- the length of the slice from s to s + part_size
width : (s : ℕ) → s + part_size - s ≡ part_size
width s = omega arith

module _ (l : ℕ) (a r' : List ℕ) (h : base l ≤ length a) (size : length r' ≡ part_size) where
  put-part : part l (put_mid (base l) part_size a r') ≡ r'
  put-part = rw (drop_at (take (base l) a) (r' ++ post_of (base l) part_size a) (base l) (length-take-le (base l) a h), take_at r' (post_of (base l) part_size a) part_size size)

at_put : (P : List ℕ → List ℕ → Type 0) (l : ℕ) (a r' : List ℕ) (k : ℕ) → k ≡ part_size → base l + part_size ≤ length a → length r' ≡ part_size → P (take k (drop (base l) a)) r' → Inside P l a (put_mid (base l) k a r')
at_put P l a r' k e h size x =
    rw e
    (record {
      here = rw (put-part l a r' (omega arith) size) (rw e at x);
      below = take_put (base l) part_size a r' (omega arith);
      above = rw (width (base l)) at (drop_put (base l) (base l + part_size) a r' (omega arith) h (omega arith));
    })

-- one function more
pub base_more : (l : ℕ) → base (suc l) ≡ base l + part_size
base_more l = omega arith

-- what stands below `base l` decides the tables of l functions
module _ (tree names : Bytes) where
  pub tables_agree : (l : ℕ) (a a' : List ℕ) → take (base l) a ≡ take (base l) a' → tables_of tree l a ≡ tables_of tree l a'
  unfolding tables_of
  tables_agree zero a a' e = refl
  tables_agree (suc l) a a' e =
      let n : base (suc l) ≡ base l + part_size = omega arith in
      let e' : take (base l + part_size) a ≡ take (base l + part_size) a' = rw n at e in
      rw (slice_agree (base l) part_size a a' e', tables_agree l a a' (take-agree (base l) (base l + part_size) a a' (omega arith) e'))

  pub good_agree : (l : ℕ) (a a' : List ℕ) → take (base l) a ≡ take (base l) a' → Good tree names l a → Good tree names l a'
  unfolding Good
  good_agree zero a a' e g = rw (← e) g
  good_agree (suc l) a a' e g =
      let n : base (suc l) ≡ base l + part_size = omega arith in
      let e' : take (base l + part_size) a ≡ take (base l + part_size) a' = rw n at e in
      (rw (← slice_agree (base l) part_size a a' e', ← take-agree globals_size (base l + part_size) a a' (omega arith) e') g.0, good_agree l a a' (take-agree (base l) (base l + part_size) a a' (omega arith) e') g.1)

pub part_length : (l : ℕ) (a : List ℕ) → base l + part_size ≤ length a → length (part l a) ≡ part_size
part_length l a h = simp (length-take, length-drop) (omega arith)

-- the slice of a range that is the part's
module _ {s e : ℕ} (l : ℕ) (a : List ℕ) (p : s ≡ base l) (q : e ≡ base l + part_size) where
  pub range_part : take (e - s) (drop s a) ≡ part l a
  range_part = rw (p, q, width (base l))

  pub at_range : (P : List ℕ → List ℕ → Type 0) (r' : List ℕ) → base l + part_size ≤ length a → length r' ≡ length (take (e - s) (drop s a)) → P (take (e - s) (drop s a)) r' → Inside P l a (put_mid s (e - s) a r')
  at_range P r' h same x = rw (p, q) (at_put P l a r' (base l + part_size - base l) (width (base l)) h (same ∙ ap length range_part ∙ part_length l a h) (rw (p, q) at x))
