-- Bytes written into parts of what is lent, one behind the other.
use Rattle.std.proofs.Common.{◌≡◌, ℕ, zero, suc, ◌≤◌, [], ◌∷◌, ◌++◌, length, take, drop, sym, refl, ap, ◌∙◌, append_assoc, arith, length-append, take-append-drop, drop-drop, take_at, drop_at}
use lib.Seq.{sets}
use borrow.Rule.Slice.PartMut.{put_mid, mid_of}
use Rattle.definition.specs.Basic.{Bytes}
use Rattle.definition.specs.Output.{over}
use Rattle.definition.specs.Field.{field}
use Rattle.session.specs.Write.{heading}

-- what lies behind the front of a part, and behind the part
drop-take : (n k : ℕ) (l : Bytes) → n ≤ k → drop n (take k l) ++ drop k l ≡ drop n l
drop-take zero k l h = take-append-drop k l
drop-take (suc n) zero l h = let z : ⊥ = omega arith in absurd z
drop-take (suc n) (suc k) [] h = refl
drop-take (suc n) (suc k) (x ∷ l) h = drop-take n k l (omega arith)

-- bytes over the front of a part are over the front of the whole
pub over-part : (c : Bytes) (k : ℕ) (l : Bytes) → length c ≤ k → over c (take k l) ++ drop k l ≡ over c l
over-part c k l h = append_assoc c (drop (length c) (take k l)) (drop k l) ∙ ap (λ z. c ++ z) (drop-take (length c) k l h)

-- a field whose content was written into the part behind its head, and then the head
pub head-behind : (t n : ℕ) (b c : Bytes) {k : ℕ} {inner mid after : Bytes} → 3 ≤ length b → length c ≤ k → n ≡ length c → inner ≡ over c (mid_of 3 k b) → mid ≡ put_mid 3 k b inner
    → after ≡ sets mid 0 (heading t n) → after ≡ over (field t c) b
head-behind t n b c {k} h g e p q r = r ∙ (λ i. sets (q i) 0 (heading t (e i))) ∙ ap (λ x. sets (put_mid 3 k b x) 0 (heading t (length c))) p ∙ go b h
  where
    go : (b : Bytes) → 3 ≤ length b → sets (put_mid 3 k b (over c (mid_of 3 k b))) 0 (heading t (length c)) ≡ over (field t c) b
    go [] h = let z : ⊥ = omega arith in absurd z
    go (x ∷ []) h = let z : ⊥ = omega arith in absurd z
    go (x ∷ y ∷ []) h = let z : ⊥ = omega arith in absurd z
    go (x ∷ y ∷ z ∷ l) h = λ i. heading t (length c) ++ over-part c k l g i

-- a part written behind another: together they are over the front
pub part-behind : (b x y : Bytes) {k n : ℕ} {first inner after : Bytes} → n ≡ length x → length y ≤ k → first ≡ over x b → inner ≡ over y (mid_of n k first) → after ≡ put_mid n k first inner
    → after ≡ over (x ++ y) b
part-behind b x y {k} {n} e h p q r =
    let m = length x in
    let l = drop m b in
    let t : take m (x ++ l) ≡ x = take_at x l m refl in
    let d : drop m (x ++ l) ≡ l = drop_at x l m refl in
    r ∙ ap (put_mid n k _) q
    ∙ (λ i. put_mid (e i) k (p i) (over y (mid_of (e i) k (p i))))
    ∙ (λ i. t i ++ (over y (take k (d i)) ++ drop k (d i)))
    ∙ ap (λ z. x ++ z) (over-part y k l h)
    ∙ sym (append_assoc x y (drop (length y) l))
    ∙ ap (λ z. (x ++ y) ++ z) (drop-drop (length y) m b ∙ ap (λ m. drop m b) (sym (length-append x y)))
