-- How far parts put together get.
use Prim.Native.Nat.{ℕ, suc, ◌+◌, ◌-◌, ◌≤◌, ◌<◌}
use native.Mathlib.Omega.{arith}
use mathlib.Core.Path.{◌≡◌, refl, ap, ◌∙◌}
use lib.ListN.{length}
use lib.Seq.{sets, length-sets}
use Rattle.std.specs.Prelude.{None}
use Rattle.definition.specs.Basic.{Bytes}
use Rattle.session.specs.Write.{heading}
use Rattle.text.specs.Parts.{end_of, Bounds, joined_of, moved_on, closed_of}
use Rattle.text.specs.declared.part.Part.{Part}
use Rattle.text.proofs.Larger.{larger_is}

-- nothing
pub bounds_none : {text : Bytes} (at to left : ℕ) {old : Bytes} {p : Part} → at ≤ end_of text → p ≡ record { at = at; to = to; levels = 0; tag = None } → Bounds text at to 0 left old old p
bounds_none at to left h e = rw e (record { lengths = refl; onward = omega arith; within = h; room = omega arith; behind = omega arith; depth = omega arith })

-- from further back, or with more to spare
pub bounds_from : {text : Bytes} {at from to a b left : ℕ} {old out : Bytes} {p : Part} → Bounds text at to a left old out p → from ≤ at → a ≤ b → Bounds text from to b left old out p
bounds_from w h k = record { lengths = w.lengths; onward = omega (arith, w.onward); within = w.within; room = omega (arith, w.room, w.onward); behind = w.behind; depth = w.depth }

-- where some of the text was passed, it pays
pub bounds_paid : {text : Bytes} {at from to a left : ℕ} {old out : Bytes} {p : Part} → Bounds text at to a left old out p → from < at → a ≤ 16 → Bounds text from to 0 left old out p
bounds_paid w h k = record { lengths = w.lengths; onward = omega (arith, w.onward); within = w.within; room = omega (arith, w.room, w.onward); behind = w.behind; depth = w.depth }

-- another part behind
pub bounds_behind : {text : Bytes} {at at' to a b left : ℕ} {old mid out : Bytes} {p q : Part} → Bounds text at to a left old mid p → p.at ≤ at' → Bounds text at' p.to b left mid out q → Bounds text at to (a + b) left old out (joined_of p q)
bounds_behind {left = left} {p = p} {q = q} w h v =
    record {
      lengths = v.lengths ∙ w.lengths;
      onward = omega (arith, w.onward, v.onward);
      within = v.within;
      room = omega (arith, w.room, v.room);
      behind = omega (arith, w.behind, v.behind);
      depth = (larger_is p.levels q.levels).least (left + 2) w.depth v.depth;
    }

-- the same further on
pub bounds_on : {text : Bytes} {at at' to a left : ℕ} {old out : Bytes} {p : Part} → Bounds text at to a left old out p → p.at ≤ at' → at' ≤ end_of text → Bounds text at to a left old out (moved_on p at')
bounds_on w h k = record { lengths = w.lengths; onward = omega (arith, w.onward); within = k; room = omega (arith, w.room); behind = w.behind; depth = w.depth }

-- a field
pub bounds_field : {text : Bytes} {at to a left : ℕ} {old mid out : Bytes} {p : Part} (tag : ℕ) → Bounds text at (to + 3) a left old mid p → out ≡ sets mid to (heading tag (p.to - to - 3)) → Bounds text at to (a + 3) (suc left) old out (closed_of tag p)
bounds_field {to = to} {mid = mid} {p = p} tag w e =
    record {
      lengths = ap length e ∙ length-sets mid to (heading tag (p.to - to - 3)) ∙ w.lengths;
      onward = w.onward;
      within = w.within;
      room = omega (arith, w.room);
      behind = omega (arith, w.behind);
      depth = omega (arith, w.depth);
    }

-- too deep
pub bounds_deep : {text : Bytes} (at to left : ℕ) {old : Bytes} {p : Part} → at ≤ end_of text → p ≡ record { at = end_of text; to = to; levels = left + 1; tag = None } → Bounds text at to 0 left old old p
bounds_deep at to left h e = rw e (record { lengths = refl; onward = h; within = omega arith; room = omega arith; behind = omega arith; depth = omega arith })
