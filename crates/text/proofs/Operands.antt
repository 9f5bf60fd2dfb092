-- Operands, what stands inside their fields, and what continues them.
use Prim.Native.Nat.{ℕ, zero, suc, ◌+◌, ◌-◌, ◌≤◌, ◌<◌}
use native.Mathlib.Omega.{arith}
use mathlib.Core.Bool.{Bool, true, false}
use mathlib.Core.List.{[], ◌∷◌, ◌++◌}
use mathlib.Core.Path.{◌≡◌, refl, sym, ap, subst, ◌∙◌}
use lib.ListN.{length, length-append}
use lib.Seq.{sets, length-sets}
use lib.Dec.{leb, ltb}
use borrow.Author.Tests.{eqb-true, eqb-false, le-ltb, leb-true}
use Rattle.std.specs.Prelude.{None, Some}
use Rattle.definition.specs.Basic.{Bytes, byte_at}
use Rattle.definition.specs.Field.{field, bytes}
use Rattle.definition.specs.Tag.{tag_operator}
use Rattle.definition.proofs.Basic.{chosen, both_true}
use Rattle.text.specs.Kind.{a_name, false_word, if_word, fn_word, ended, number_of}
use Rattle.text.specs.Token.{Row, kind_of, bytes_of}
use Rattle.definition.specs.Node.{Node, node, Nodes, ◌then◌, written, written_all, levels, levels_all, larger}
use Rattle.text.specs.Shape.{tight_of, is_leaf, is_list, operator_of, continued_tag, operand_tag, leaf_bytes}
use Rattle.text.specs.Parse.{ExpressionRow, OperandRow, InsideRow, ListRow}
use Rattle.session.specs.Write.{heading}
use Rattle.text.specs.Parts.{end_of, moved_by, row_at, denoted, content_of, Sees, Put, PutNode, PutToken, Bounds, Spares, WritesNode, Writes, Continues, joined_of, closed_of}
use Rattle.text.specs.declared.part.Part.{Part}
use Rattle.text.specs.declared.scan.Token as piece
use Rattle.text.proofs.Larger.{larger_is}
use Rattle.text.proofs.Storing.{stored_bytes, head_inserted}
use Rattle.text.proofs.Bounding.{bounds_from, bounds_behind, bounds_field, bounds_deep}
use Rattle.text.proofs.Putting.{put_same, put-behind, put-field, put_one}
use Rattle.text.proofs.Writing.{put_leaf_field}
use Rattle.text.proofs.Looping.{bounds_token}

-- the kinds of leaves
pub data LeafKind (k : ℕ) : Type 0 where
  two : k ≡ 2 → LeafKind k
  three : k ≡ 3 → LeafKind k
  four : k ≡ 4 → LeafKind k
  five : k ≡ 5 → LeafKind k
  six : k ≡ 6 → LeafKind k

leaf_kind : (k : ℕ) → 2 ≤ k → k ≤ 6 → LeafKind k
leaf_kind zero a b = absurd (omega arith)
leaf_kind (suc zero) a b = absurd (omega arith)
leaf_kind (suc (suc zero)) a b = LeafKind.two refl
leaf_kind (suc (suc (suc zero))) a b = LeafKind.three refl
leaf_kind (suc (suc (suc (suc zero)))) a b = LeafKind.four refl
leaf_kind (suc (suc (suc (suc (suc zero))))) a b = LeafKind.five refl
leaf_kind (suc (suc (suc (suc (suc (suc zero)))))) a b = LeafKind.six refl
leaf_kind (suc (suc (suc (suc (suc (suc (suc k))))))) a b = absurd (omega arith)

pub is_leaf_kind : (k : ℕ) → is_leaf k ≡ true → LeafKind k
unfolding is_leaf
is_leaf_kind k e = let b = both_true (leb a_name k) (leb k false_word) e in leaf_kind k (leb-true a_name k b.0) (leb-true k false_word b.1)

-- a leaf's content
content_leaf : (text : Bytes) (t : piece.Token) → LeafKind (number_of t.kind) → content_of text t ≡ leaf_bytes (number_of t.kind) (denoted text (number_of t.kind) t.start t.end)
unfolding content_of leaf_bytes denoted
content_leaf text t (LeafKind.two e) = rw e refl
content_leaf text t (LeafKind.three e) = rw e refl
content_leaf text t (LeafKind.four e) = rw e refl
content_leaf text t (LeafKind.five e) = rw e refl
content_leaf text t (LeafKind.six e) = rw e refl

-- the end is no leaf
end_no_leaf : (k : ℕ) → k ≡ ended → is_leaf k ≡ true → ⊥
unfolding is_leaf
end_no_leaf k e h = let z : ◌≡◌ {A = Bool} false true = rw e at h in let y : ◌≡◌ {A = ℕ} 0 1 = cc in omega arith

-- true is not false
pub no_both_ways : {b : Bool} → b ≡ true → b ≡ false → ⊥
no_both_ways e f = let z : ◌≡◌ {A = Bool} true false = sym e ∙ f in let y : ◌≡◌ {A = ℕ} 0 1 = cc in omega arith

-- the text has ended
pub operand-ended : {text : Bytes} {at to left : ℕ} {o : Bytes} {t : piece.Token} {p : Part} → Sees text at t → number_of t.kind ≡ ended → p ≡ record { at = t.end; to = to; levels = 0; tag = None } → WritesNode OperandRow text at to 0 left o o p × Spares text at to p
operand-ended {text} {at} {to} {left} {o} {t} {p} a k e =
    let i = ap (λ p. p.at) e in
    let j = ap (λ p. p.to) e in (
      record {
        bounds = record { lengths = refl; onward = omega (arith, a.from, a.order); within = omega (arith, a.within); room = omega (arith, a.from, a.order); behind = omega arith; depth = omega (arith, ap (λ p. p.levels) e) };
        puts = λ x rest f. go x rest f;
      },
      λ h. omega (arith, a.onward h),
    )
  where
    go : (x : Node) (rest : Row) → OperandRow (row_at text at) rest x → PutNode text rest x left to o o p
    go _ _ (OperandRow.a_leaf h) = absurd (end_no_leaf (kind_of (row_at text at)) (sym a.kind ∙ k) h)
    go _ _ (OperandRow.deeper h _ _) = absurd (eqb-false (kind_of (row_at text at)) ended h (sym a.kind ∙ k))

-- an operand that is one token
pub operand_leaf : {text : Bytes} {at to left : ℕ} {o o₁ : Bytes} {t : piece.Token} {p : Part} → Sees text at t → at < t.end → is_leaf (number_of t.kind) ≡ true → PutToken (operand_tag (number_of t.kind)) text t to o o₁ p → WritesNode OperandRow text at to 0 left o o₁ p × Spares text at to p
unfolding written levels
operand_leaf {text} {at} {to} {left} {o} {o₁} {t} {p} a h k w =
    (record { bounds = bounds_token w h a.from a.within; puts = λ x rest f. go x rest f }, λ _. omega (arith, ap (λ p. p.at) w.part, ap (λ p. p.to) w.part, w.most, a.from))
  where
    go : (x : Node) (rest : Row) → OperandRow (row_at text at) rest x → PutNode text rest x left to o o₁ p
    go _ _ (OperandRow.a_leaf _) =
        let c : content_of text t ≡ leaf_bytes (kind_of (row_at text at)) (bytes_of (row_at text at)) = content_leaf text t (is_leaf_kind (number_of t.kind) k) ∙ (λ i. leaf_bytes (a.kind i) (a.content i)) in
        record {
          put = put_same (λ i. field (operand_tag (a.kind i)) (c i)) refl (put_leaf_field (operand_tag (number_of t.kind)) (content_of text t) left a.rest w.part w.stored);
          tag = λ _. ap (λ p. p.tag) w.part ∙ ap (λ k. Some (operand_tag k)) a.kind;
        }
    go _ _ (OperandRow.deeper _ h _) = absurd (no_both_ways (ap is_leaf (sym a.kind) ∙ k) h)

-- an operand with fields inside
pub operand_deeper : {text : Bytes} {at to l left : ℕ} {o o₁ o₂ : Bytes} {t : piece.Token} {p s : Part} → left ≡ suc l → Sees text at t → at < t.end → is_leaf (number_of t.kind) ≡ false → Writes (InsideRow (number_of t.kind) 5) text t.end (to + 3) 9 l o o₁ p → s ≡ closed_of (operand_tag (number_of t.kind)) p → o₂ ≡ sets o₁ to (heading (operand_tag (number_of t.kind)) (p.to - to - 3)) → WritesNode OperandRow text at to 0 left o o₂ s × Spares text at to s
unfolding written levels
operand_deeper {text} {at} {to} {l} {left} {o} {o₁} {o₂} {t} {p} {s} z a h k w j m =
    let f = bounds_field (operand_tag (number_of t.kind)) w.bounds m in
    subst (λ left. WritesNode OperandRow text at to 0 left o o₂ s × Spares text at to s) (sym z) (subst (λ s. WritesNode OperandRow text at to 0 (suc l) o o₂ s × Spares text at to s) (sym j) (
      record {
        bounds = record { lengths = f.lengths; onward = omega (arith, f.onward); within = f.within; room = omega (arith, f.room, f.onward); behind = f.behind; depth = f.depth };
        puts = λ x rest f. go x rest f;
      },
      λ _. omega (arith, w.bounds.room),
    ))
  where
    go : (x : Node) (rest : Row) → OperandRow (row_at text at) rest x → PutNode text rest x (suc l) to o o₂ (closed_of (operand_tag (number_of t.kind)) p)
    go _ _ (OperandRow.a_leaf h) = absurd (no_both_ways h (ap is_leaf (sym a.kind) ∙ k))
    go _ _ (OperandRow.deeper {us = us} {xs} _ _ d) =
        let i : InsideRow (number_of t.kind) 5 (row_at text t.end) us xs = rw (a.kind, a.rest) d in
        record {
          put = put_same (ap (λ k. field (operand_tag k) (written_all xs)) a.kind) refl (put-field (operand_tag (number_of t.kind)) (w.puts xs us i) m);
          tag = λ _. ap (λ k. Some (operand_tag k)) a.kind;
        }

-- inside: by the token
module _ {text : Bytes} {k least at to left : ℕ} {o o₁ : Bytes} {p : Part} where
  pub inside_list : (k ≡ if_word → ⊥) → (k ≡ fn_word → ⊥) → is_list k ≡ true → Writes ListRow text at to 0 left o o₁ p → Writes (InsideRow k least) text at to 9 left o o₁ p
  inside_list a b e w = record { bounds = bounds_from w.bounds (omega arith) (omega arith); puts = λ xs rest f. go xs rest f }
    where
      go : (xs : Nodes) (rest : Row) → InsideRow k least (row_at text at) rest xs → Put text rest (written_all xs) (levels_all xs) left to o o₁ p
      go xs rest (InsideRow.an_if h d) = absurd (a (eqb-true k if_word h))
      go xs rest (InsideRow.a_function _ h d) = absurd (b (eqb-true k fn_word h))
      go xs rest (InsideRow.a_list _ _ _ d) = w.puts xs rest d
      go _ rest (InsideRow.an_operator _ _ h _) = absurd (no_both_ways e h)

-- an operator and its operand
pub inside-operator : {text : Bytes} {k least at to left : ℕ} {o o₁ o₂ : Bytes} {p q s : Part} → (k ≡ if_word → ⊥) → (k ≡ fn_word → ⊥) → is_list k ≡ false → at ≤ end_of text → p ≡ record { at = at; to = to + 4; levels = 1; tag = Some tag_operator } → o₁ ≡ sets o to (field tag_operator (operator_of k ∷ [])) → WritesNode (ExpressionRow least 0) text p.at p.to 0 left o₁ o₂ q → s ≡ joined_of p q → Writes (InsideRow k least) text at to 9 left o o₂ s
unfolding written written_all levels levels_all
inside-operator {text} {k} {least} {at} {to} {left} {o} {o₁} {o₂} {p} {q} {s} a b e h n m w j =
    let v : Bounds text at to 4 left o o₁ p =
    record {
      lengths = ap length m ∙ length-sets o to (field tag_operator (operator_of k ∷ []));
      onward = omega (arith, ap (λ p. p.at) n);
      within = omega (arith, ap (λ p. p.at) n);
      room = omega (arith, ap (λ p. p.at) n, ap (λ p. p.to) n);
      behind = omega (arith, ap (λ p. p.to) n);
      depth = omega (arith, ap (λ p. p.levels) n);
    } in
    subst (λ s. Writes (InsideRow k least) text at to 9 left o o₂ s) (sym j)
    (record { bounds = bounds_from (bounds_behind v (omega arith) w.bounds) (omega arith) (omega arith); puts = λ xs rest f. go v xs rest f })
  where
    go : Bounds text at to 4 left o o₁ p → (xs : Nodes) (rest : Row) → InsideRow k least (row_at text at) rest xs → Put text rest (written_all xs) (levels_all xs) left to o o₂ (joined_of p q)
    go v xs rest (InsideRow.an_if h d) = absurd (a (eqb-true k if_word h))
    go v xs rest (InsideRow.a_function _ h d) = absurd (b (eqb-true k fn_word h))
    go v xs rest (InsideRow.a_list _ _ h d) = absurd (no_both_ways h e)
    go v _ rest (InsideRow.an_operator {x = x} _ _ _ d) =
        let z : to + 4 ≡ to + 3 + length (operator_of k ∷ []) = omega arith in
        put-behind (put_leaf_field tag_operator (operator_of k ∷ []) {at = at} {to = to} left refl (n ∙ ap (λ i. record { at = at; to = i; levels = 1; tag = Some tag_operator }) z) m) v.lengths w.bounds.behind (λ h.
        put_one x (w.puts x rest (rw h d)).put)

-- too deep to be continued
pub continued_deep : {text : Bytes} {t : piece.Token} {to left : ℕ} {o : Bytes} {v p : Part} → v.at ≤ end_of text → left ≤ v.levels → p ≡ record { at = end_of text; to = v.to; levels = left + 1; tag = None } → Continues text t to v left o o p
unfolding levels levels_all
continued_deep {text} {t} {to} {left} {o} {v} {p} h k e =
    record {
      bounds = bounds_deep v.at v.to left h e;
      ahead = λ g. omega (arith, ap (λ p. p.at) e);
      deep = λ _. omega (arith, ap (λ p. p.levels) e);
      puts = λ x xs rest base l f i. go x xs rest base f.put;
    }
  where
    go : (x : Node) (xs : Nodes) (rest : Row) (base : Bytes) → Put text (row_at text v.at) (written x) (levels x) left to base o v → PutNode text rest (node (continued_tag (number_of t.kind)) (x then xs)) left to base o p
    go x xs rest base (Put.too_deep a b) =
        let m = larger_is (levels x) (levels_all xs) in
        record { put = Put.too_deep (omega (arith, m.left)) (omega (arith, ap (λ p. p.levels) e)); tag = λ z. absurd (omega (arith, m.left)) }
    go x xs rest base (Put.fits a b c d f) =
        let m = larger_is (levels x) (levels_all xs) in
        record { put = Put.too_deep (omega (arith, m.left)) (omega (arith, ap (λ p. p.levels) e)); tag = λ z. absurd (omega (arith, m.left)) }

-- moving keeps the length
pub moved_length : (o : Bytes) (from end by : ℕ) → length (moved_by o from end by) ≡ length o
moved_length o from end by = chosen (λ m. length m ≡ length o) (ltb (length o) (end + by)) (λ _. refl) (λ _. length-sets o (from + by) (bytes (byte_at o) from (end - from)))

-- a field of what was put and what stands behind it, after room was made for its head
head_in_front : (base o o₁ o₂ o₃ xs ys : Bytes) (tag to from end : ℕ) → o ≡ sets base to xs → from ≡ to + length xs → o₁ ≡ moved_by o to from 3 → o₂ ≡ sets o₁ (from + 3) ys → o₃ ≡ sets o₂ to (heading tag (end - to - 3)) → end ≡ from + 3 + length ys → end ≤ length base → o₃ ≡ sets base to (field tag (xs ++ ys))
head_in_front base o o₁ o₂ o₃ xs ys tag to from end a f b c d e h =
    let n : length o ≡ length base = ap length a ∙ length-sets base to xs in
    let k : from - to ≡ length xs = omega arith in
    let r : bytes (byte_at o) to (from - to) ≡ xs = (λ i. bytes (byte_at (a i)) to (k i)) ∙ stored_bytes base to xs (omega arith) in
    let m : o₁ ≡ sets (sets base to xs) (to + 3) xs = b ∙ rw (le-ltb (length o) (from + 3) (omega arith)) (λ i. sets (a i) (to + 3) (r i)) in
    let z : end - to - 3 ≡ length (xs ++ ys) = omega (arith, length-append xs ys) in
    d ∙ (λ i. sets (c i) to (heading tag (z i))) ∙ ap (λ m. sets (sets m (from + 3) ys) to (heading tag (length (xs ++ ys)))) m
    ∙ head_inserted base to (heading tag (length (xs ++ ys))) xs ys {j = to + 3} {k = from + 3} refl (omega arith)

-- a call, an index or an infix operator
pub continued_writes : {text : Bytes} {t : piece.Token} {to l left : ℕ} {o o₁ o₂ o₃ : Bytes} {v q u s : Part} → left ≡ suc l → v.levels < left → v.at < t.end → to ≤ v.to → o₁ ≡ moved_by o to v.to 3 → Writes (InsideRow (number_of t.kind) (tight_of (number_of t.kind))) text t.end (v.to + 3) 9 l o₁ o₂ q → u ≡ joined_of v q → s ≡ closed_of (continued_tag (number_of t.kind)) u → o₃ ≡ sets o₂ to (heading (continued_tag (number_of t.kind)) (u.to - to - 3)) → Continues text t to v left o o₃ s
unfolding written written_all levels levels_all
continued_writes {text} {t} {to} {l} {left} {o} {o₁} {o₂} {o₃} {v} {q} {u} {s} z h k b m w i j n =
    let n' : o₃ ≡ sets o₂ to (heading (continued_tag (number_of t.kind)) (q.to - to - 3)) = n ∙ ap (λ u. sets o₂ to (heading (continued_tag (number_of t.kind)) (u.to - to - 3))) i in
    let y = larger_is v.levels q.levels in
    subst (λ s. Continues text t to v left o o₃ s) (sym (j ∙ ap (closed_of (continued_tag (number_of t.kind))) i))
    (record {
      bounds =
          record {
            lengths = ap length n' ∙ length-sets o₂ to (heading (continued_tag (number_of t.kind)) (q.to - to - 3)) ∙ w.bounds.lengths ∙ ap length m ∙ moved_length o to v.to 3;
            onward = omega (arith, w.bounds.onward);
            within = w.bounds.within;
            room = omega (arith, w.bounds.room);
            behind = omega (arith, w.bounds.behind);
            depth = omega (arith, y.least (left + 1) (omega arith) (omega (arith, w.bounds.depth)));
          };
      ahead = λ _. w.bounds.onward;
      deep = λ g. absurd (omega arith);
      puts = λ x xs rest base len f d. go n' x xs rest base len f.put (w.puts xs rest d);
    })
  where
    go : o₃ ≡ sets o₂ to (heading (continued_tag (number_of t.kind)) (q.to - to - 3)) → (x : Node) (xs : Nodes) (rest : Row) (base : Bytes) → length o ≡ length base → Put text (row_at text v.at) (written x) (levels x) left to base o v → Put text rest (written_all xs) (levels_all xs) l (v.to + 3) o₁ o₂ q → PutNode text rest (node (continued_tag (number_of t.kind)) (x then xs)) left to base o₃ (closed_of (continued_tag (number_of t.kind)) (joined_of v q))
    go e x xs rest base len (Put.too_deep a c) f = absurd (omega arith)
    go e x xs rest base len (Put.fits a r c d g) (Put.too_deep a' c') =
        let y = larger_is v.levels q.levels in
        let y' = larger_is (levels x) (levels_all xs) in
        record { put = Put.too_deep (omega (arith, y'.right)) (omega (arith, y.right)); tag = λ _. refl }
    go e x xs rest base len (Put.fits a r c d g) (Put.fits a' r' c' d' g') =
        let y' = larger_is (levels x) (levels_all xs) in
        let len₁ : length o₁ ≡ length base = ap length m ∙ moved_length o to v.to 3 ∙ len in
        record {
          put =
              Put.fits (omega (arith, y'.least l (omega arith) a')) r' (omega (arith, length-append (written x) (written_all xs))) (omega (arith, ap (λ i. larger i q.levels) d ∙ ap (larger (levels x)) d'))
              (λ f. head_in_front base o o₁ o₂ o₃ (written x) (written_all xs) (continued_tag (number_of t.kind)) to v.to q.to (g (omega arith)) c m (g' (omega arith)) e (omega arith) f);
          tag = λ _. refl;
        }
