-- Stores over the copy of an image: what is behind them is the image still.
use Prim.Native.Nat.{ℕ, zero, suc, ◌+◌, ◌-◌, ◌≤◌, ◌<◌}
use native.Mathlib.Omega.{arith}
use mathlib.Core.List.{[], ◌∷◌, ◌++◌}
use mathlib.Core.Path.{◌≡◌, refl, sym, ap, ◌∙◌}
use lib.ListN.{length, drop, set, length-append, take-append-drop}
use lib.Seq.{append_snoc, set_at, drop-drop, get_or-append-add, get_or-drop}
use Rattle.definition.specs.Basic.{Bytes, byte_at}
use Rattle.definition.specs.Field.{bytes}
use Rattle.definition.proofs.Bytes.{Stands, bytes_slice}
use Rattle.chin.specs.Rows.{Same}

-- so many bytes from an offset on, in two lists that agree there
bytes_same : (o b : Bytes) (at n : ℕ) → ((k : ℕ) → at ≤ k → k < at + n → byte_at o k ≡ byte_at b k) → bytes (byte_at o) at n ≡ bytes (byte_at b) at n
bytes_same o b at zero h = refl
bytes_same o b at (suc n) h = λ i. h at (omega arith) (omega arith) i ∷ bytes_same o b (at + 1) n (λ k p q. h k (omega arith) (omega arith)) i

-- what stands in the image stands in the output that holds it
pub front : {o b : Bytes} {start end : ℕ} → Same o b start end → (at : ℕ) (x : Bytes) → start ≤ at → at + length x ≤ end → Stands (byte_at b) at x → drop at o ≡ x ++ drop (at + length x) o
front {o} {b} s at x h k st =
    let room = s.room in
    let part = sym (bytes_slice o at (length x) (omega arith)) ∙ bytes_same o b at (length x) (λ j p q. s.bytes j (omega arith) (omega arith)) ∙ st.same in
    sym (take-append-drop (length x) (drop at o)) ∙ (λ i. part i ++ drop-drop (length x) at o i)

-- behind another front the output is as it was
pub tail_byte : (p o : Bytes) (at k : ℕ) → length p ≡ at → at ≤ k → byte_at (p ++ drop at o) k ≡ byte_at o k
tail_byte p o at k e h =
    let there : k ≡ length p + (k - at) = omega arith in
    let back : at + (k - at) ≡ k = omega arith in
    ap (byte_at (p ++ drop at o)) there ∙ get_or-append-add p (drop at o) (k - at) 0 ∙ get_or-drop at o (k - at) 0 ∙ ap (byte_at o) back

-- two bytes behind the first are stored
pub set_two : (p : Bytes) (a x y high low : ℕ) (r : Bytes) (at : ℕ) → length p ≡ at → set (set (p ++ (a ∷ x ∷ y ∷ r)) (at + 1) high) (at + 2) low ≡ p ++ (a ∷ high ∷ low ∷ r)
set_two p a x y high low r at e =
    let q = p ++ (a ∷ []) in
    let l = length-append p (a ∷ []) in
    let m = length-append q (high ∷ []) in
    ap (λ z. set (set z (at + 1) high) (at + 2) low) (sym (append_snoc p a (x ∷ y ∷ r)))
    ∙ ap (λ z. set z (at + 2) low) (set_at q x (y ∷ r) high (at + 1) (omega arith) ∙ sym (append_snoc q high (y ∷ r)))
    ∙ set_at (q ++ (high ∷ [])) y r low (at + 2) (omega arith)
    ∙ append_snoc q high (low ∷ r)
    ∙ append_snoc p a (high ∷ low ∷ r)
