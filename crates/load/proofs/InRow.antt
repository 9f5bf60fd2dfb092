-- Parts written one behind the other are a row.
use Rattle.std.proofs.Common.{◌≡◌, ℕ, ◌+◌, ◌-◌, ◌≤◌, List, ◌∷◌, length, ap, ◌∙◌, subst₂, arith}
use borrow.Rule.Slice.PartMut.{put_mid, mid_of}
use Rattle.definition.specs.Basic.{Bytes}
use Rattle.load.specs.Size.{size}
use Rattle.load.specs.Draw.{Part, needs, row}
use Rattle.load.specs.Writing.{Wrote, WroteAll}
use Rattle.load.proofs.Laws.{wrote_as, wrote-length, length_mid, length_left, front_wrote, then_wrote}

-- a part that was lent what those behind it leave, and the rest behind it
pub first_wrote : (p : Part) (ps : List Part) (b : Bytes) (s k : ℕ) {n t m u : ℕ} {part mid inner after : Bytes} → k ≡ length b - needs ps
    → Wrote (p.make (length (mid_of 0 k b)) s) n t (mid_of 0 k b) part → mid ≡ put_mid 0 k b part
    → WroteAll (row ps (length (mid_of n (length mid - n) mid)) t) m u (mid_of n (length mid - n) mid) inner → after ≡ put_mid n (length mid - n) mid inner → WroteAll (row (p ∷ ps) (length b) s) (n + m) u b after
first_wrote p ps b s k {n} {m = m} {u = u} {mid = mid} {inner = inner} e w g v q =
    let h : k ≤ length b = omega arith in
    let x = p.make (length b - needs ps) s in
    let w₁ : Wrote x n _ b mid = front_wrote b k h (wrote_as (ap (λ m. p.make m s) (length_mid 0 k b (omega arith) ∙ e)) w) g in
    let l = wrote-length w₁ in
    let j : n ≤ length mid = omega (arith, w₁.len, w₁.within) in
    let i : length (mid_of n (length mid - n) mid) ≡ length b - size x.value = omega (arith, length_left n mid j, w₁.len) in
    then_wrote b (length mid - n) w₁ (omega arith) (subst₂ (λ a s. WroteAll (row ps a s) m u (mid_of n (length mid - n) mid) inner) i w₁.state v) q
