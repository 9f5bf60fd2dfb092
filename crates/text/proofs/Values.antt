-- The values of `let`, and what statements have inside.
use Prim.Native.Nat.{ℕ, suc, ◌+◌, ◌-◌, ◌≤◌, ◌<◌}
use native.Mathlib.Omega.{arith}
use mathlib.Core.Bool.{Bool, true, false, not}
use mathlib.Core.List.{[], ◌++◌}
use mathlib.Core.Path.{◌≡◌, refl, sym, ap, subst, ◌∙◌}
use lib.ListN.{length, length-append}
use lib.Seq.{sets, length-sets}
use lib.Dec.{eqb}
use borrow.Author.Tests.{eq-eqb, eqb-true, eqb-false, ne_eqb, le-ltb}
use Rattle.std.specs.Prelude.{Option, None, Some}
use Rattle.std.specs.Option.{option_eq}
use Rattle.definition.specs.Basic.{Bytes, byte_at}
use Rattle.definition.specs.Field.{field, bytes}
use Rattle.definition.specs.Tag.{tag_function, tag_name}
use Rattle.definition.proofs.Basic.{chosen}
use Rattle.definition.proofs.Bytes.{length-bytes}
use Rattle.text.specs.Kind.{let_word, return_word, a_name, fn_word, if_word, open_paren, open_bracket, number_of}
use Rattle.text.specs.Token.{Row, kind_of, bytes_of}
use Rattle.definition.specs.Node.{Node, leaf, node, Nodes, ◌then◌, one, written, written_all, levels, levels_all}
use Rattle.text.specs.Named.{named}
use Rattle.text.specs.Shape.{continued_tag, operand_tag}
use Rattle.text.specs.Parse.{ExpressionRow, ClimbRow, OperandRow, InsideRow, FunctionRow, LetRow, ClauseRow}
use Rattle.session.specs.Write.{heading}
use Rattle.text.specs.Parts.{moved_by, row_at, content_of, Sees, Shaped, Put, PutToken, tag_of, Bounds, Spares, WritesNode, Writes, Named, joined_of}
use Rattle.text.specs.declared.part.Part.{Part}
use Rattle.text.specs.declared.scan.Token as piece
use Rattle.text.proofs.Storing.{behind_front, front_replaced}
use Rattle.text.proofs.Bounding.{bounds_behind}
use Rattle.text.proofs.Putting.{put_same, put-behind, put_one}
use Rattle.text.proofs.Writing.{put_leaf_field}
use Rattle.text.proofs.Looping.{content_name}
use Rattle.text.proofs.Operands.{LeafKind, is_leaf_kind, no_both_ways, moved_length}

-- the tags of what continues an operand are not a function's
continued_other : (k : ℕ) → continued_tag k ≡ tag_function → ⊥
unfolding continued_tag
continued_other k = chosen (λ m. m ≡ tag_function → ⊥) (eqb k open_paren) (λ _ e. omega arith) (λ _. chosen (λ m. m ≡ tag_function → ⊥) (eqb k open_bracket) (λ _ e. omega arith) (λ _ e. omega arith))

-- a function's operand begins with fn
leaf_other : (k : ℕ) → LeafKind k → operand_tag k ≡ tag_function → ⊥
unfolding operand_tag
leaf_other k (LeafKind.two e) h = let z = rw e at h in omega arith
leaf_other k (LeafKind.three e) h = let z = rw e at h in omega arith
leaf_other k (LeafKind.four e) h = let z = rw e at h in omega arith
leaf_other k (LeafKind.five e) h = let z = rw e at h in omega arith
leaf_other k (LeafKind.six e) h = let z = rw e at h in omega arith

function_operand : (k : ℕ) → operand_tag k ≡ tag_function → eqb k fn_word ≡ true
unfolding operand_tag
function_operand k =
    let P : ℕ → Type 0 = λ m. m ≡ tag_function → eqb k fn_word ≡ true in
    chosen P (eqb k 2) (λ _ e. absurd (omega arith)) (λ _. chosen P (eqb k 3) (λ _ e. absurd (omega arith)) (λ _. chosen P (eqb k 4) (λ _ e. absurd (omega arith)) (λ _. chosen P (eqb k 5) (λ _ e. absurd (omega arith)) (λ _. chosen P (eqb k 6) (λ _ e. absurd (omega arith)) (λ _. chosen P (eqb k 12) (λ _ e. absurd (omega arith)) (λ _. chosen P (eqb k 10) (λ _ e. absurd (omega arith)) (λ _. chosen P (eqb k 7) (λ _ e. absurd (omega arith)) (λ _. chosen P (eqb k 8) (λ h e. h) (λ _ e. absurd (omega arith))))))))))

-- what is read as an operand
function_body : {k least : ℕ} {ts us : Row} {xs : Nodes} → InsideRow k least ts us xs → eqb k fn_word ≡ true → Shaped (node tag_function xs)
function_body {k} (InsideRow.an_if h _) e = let z = eqb-true k if_word h in let y = eqb-true k fn_word e in absurd (omega arith)
function_body (InsideRow.a_function _ _ (FunctionRow.function_row {ns = ns} {b = b} _ _)) e = record { body = λ _. ns then one b; shape = λ _. refl }
function_body (InsideRow.a_list _ h _ _) e = absurd (no_both_ways e h)
function_body (InsideRow.an_operator _ h _ _) e = absurd (no_both_ways e h)

operand-shaped : {ts us : Row} {x : Node} → OperandRow ts us x → Shaped x
operand-shaped {ts} (OperandRow.a_leaf h) = record { body = λ e. absurd (leaf_other (kind_of ts) (is_leaf_kind (kind_of ts) h) e); shape = λ e. absurd (leaf_other (kind_of ts) (is_leaf_kind (kind_of ts) h) e) }
operand-shaped {ts} (OperandRow.deeper {xs = xs} _ _ d) =
    record {
      body = λ e. (function_body d (function_operand (kind_of ts) e)).body refl;
      shape = λ e. ap (λ t. node t xs) e ∙ (function_body d (function_operand (kind_of ts) e)).shape refl;
    }

climb_shaped : {least opened : ℕ} {x y : Node} {ts us : Row} → ClimbRow least opened x ts us y → Shaped x → Shaped y
climb_shaped (ClimbRow.closes _ c) s = climb_shaped c s
climb_shaped (ClimbRow.ends _ _) s = s
climb_shaped {ts = ts} (ClimbRow.goes _ _ _ c) s = climb_shaped c (record { body = λ e. absurd (continued_other (kind_of ts) e); shape = λ e. absurd (continued_other (kind_of ts) e) })

pub expression-shaped : {least opened : ℕ} {ts us : Row} {y : Node} → ExpressionRow least opened ts us y → Shaped y
expression-shaped (ExpressionRow.grouped _ d) = expression-shaped d
expression-shaped (ExpressionRow.begins _ o c) = climb_shaped c (operand-shaped o)

-- naming keeps the levels, and what is no function
named-levels : (n : Bytes) (x : Node) → Shaped x → levels (named n x) ≡ levels x
unfolding levels levels_all
named-levels n (leaf t c) s = refl
named-levels n (node t xs) s = go (eqb t tag_function) refl
  where
    at_function : (e : t ≡ tag_function) → levels (named n (node t xs)) ≡ levels (node t xs)
    at_function e = ap (λ x. levels (named n x)) (s.shape e) ∙ sym (ap levels (s.shape e))

    go : (b : Bool) → eqb t tag_function ≡ b → levels (named n (node t xs)) ≡ levels (node t xs)
    go true e = at_function (eqb-true t tag_function e)
    go false e = rw e refl

named_other : (n : Bytes) (x : Node) → (tag_of x ≡ tag_function → ⊥) → named n x ≡ x
named_other n (leaf t c) h = refl
named_other n (node t xs) h = rw (ne_eqb t tag_function h) refl

-- a tag is the one that it was compared with, or is another
pub tag_is : (t : Option ℕ) (n : ℕ) → not (option_eq eqb t (Some n)) ≡ false → t ≡ Some n
tag_is None n e = cc
tag_is (Some m) n e = ap Some (eqb-true m n (not_not (eqb m n) e))
  where
    not_not : (b : Bool) → not b ≡ false → b ≡ true
    not_not true q = refl
    not_not false q = cc

pub tag_differs : (t : Option ℕ) (n : ℕ) → not (option_eq eqb t (Some n)) ≡ true → t ≡ Some n → ⊥
tag_differs t n e h = let i : not (option_eq eqb (Some n) (Some n)) ≡ true = subst (λ t. not (option_eq eqb t (Some n)) ≡ true) h e in both_ways (eqb n n) (eq-eqb n n refl) i
  where
    both_ways : (b : Bool) → b ≡ true → not b ≡ true → ⊥
    both_ways true p q = cc
    both_ways false p q = cc

-- no function: it stays
pub named-plain : {text : Bytes} {name : piece.Token} {to : ℕ} {v p : Part} {o : Bytes} → (v.tag ≡ Some tag_function → ⊥) → p ≡ v → Named text name to v o o p
named-plain {text} {name} {to} {v} {p} {o} h e =
    subst (λ p. Named text name to v o o p) (sym e)
    (record { at = refl; levels = refl; behind = omega arith; most = omega arith; lengths = refl; puts = λ x rest left base _ _ s w. go x rest left base s w.put w.tag })
  where
    go : (x : Node) (rest : Row) (left : ℕ) (base : Bytes) → Shaped x → Put text rest (written x) (levels x) left to base o v → (levels x ≤ left → v.tag ≡ Some (tag_of x)) → Put text rest (written (named (content_of text name) x)) (levels (named (content_of text name) x)) left to base o v
    go x rest left base s (Put.too_deep a b) t = Put.too_deep (omega (arith, named-levels (content_of text name) x s)) b
    go x rest left base s (Put.fits a b c d f) t =
        let i = sym (named_other (content_of text name) x (λ k. h (t a ∙ ap Some k))) in
        put_same (ap written i) (ap levels i) (Put.fits a b c d f)

-- a function's bytes: two heads, and what is behind its name
written_function : (x : Node) (ys : Nodes) → x ≡ node tag_function (leaf tag_name [] then ys) → written x ≡ (heading tag_function (suc (suc (suc (length (written_all ys))))) ++ field tag_name []) ++ written_all ys
unfolding written written_all
written_function x ys e = ap written e

named_function : (n : Bytes) (x : Node) (ys : Nodes) → x ≡ node tag_function (leaf tag_name [] then ys) → written (named n x) ≡ heading tag_function (length (field tag_name n ++ written_all ys)) ++ (field tag_name n ++ written_all ys)
unfolding written written_all
named_function n x ys e = ap (λ x. written (named n x)) e

-- too short for a function
pub named_short : {text : Bytes} {name : piece.Token} {to : ℕ} {v p : Part} {o : Bytes} → v.tag ≡ Some tag_function → v.to < to + 6 → p ≡ v → Named text name to v o o p
named_short {text} {name} {to} {v} {p} {o} k h e =
    subst (λ p. Named text name to v o o p) (sym e)
    (record { at = refl; levels = refl; behind = omega arith; most = omega arith; lengths = refl; puts = λ x rest left base _ _ s w. go x rest left base s w.put w.tag })
  where
    go : (x : Node) (rest : Row) (left : ℕ) (base : Bytes) → Shaped x → Put text rest (written x) (levels x) left to base o v → (levels x ≤ left → v.tag ≡ Some (tag_of x)) → Put text rest (written (named (content_of text name) x)) (levels (named (content_of text name) x)) left to base o v
    go x rest left base s (Put.too_deep a b) t = Put.too_deep (omega (arith, named-levels (content_of text name) x s)) b
    go x rest left base s (Put.fits a b c d f) t =
        let g = sym (t a) ∙ k in
        let i : tag_of x ≡ tag_function = cc in
        let n = ap length (written_function x (s.body i) (s.shape i)) in
        absurd (omega (arith, length-append (heading tag_function (suc (suc (suc (length (written_all (s.body i)))))) ++ field tag_name []) (written_all (s.body i))))

-- the bytes of a function with its name in place
function_in_place : (base o o₁ o₂ o₃ n ys : Bytes) (to from by : ℕ) → o ≡ sets base to ((heading tag_function (suc (suc (suc (length ys)))) ++ field tag_name []) ++ ys) → from ≡ to + 6 + length ys → by ≡ length n → o₁ ≡ moved_by o (to + 6) from by → o₂ ≡ sets o₁ (to + 3) (field tag_name n) → o₃ ≡ sets o₂ to (heading tag_function (from + by - to - 3)) → from + by ≤ length base → o₃ ≡ sets base to (heading tag_function (length (field tag_name n ++ ys)) ++ (field tag_name n ++ ys))
function_in_place base o o₁ o₂ o₃ n ys to from by a f b c d e h =
    let front = heading tag_function (suc (suc (suc (length ys)))) ++ field tag_name [] in
    let l : length o ≡ length base = ap length a ∙ length-sets base to (front ++ ys) in
    let k : from - (to + 6) ≡ length ys = omega arith in
    let r : bytes (byte_at o) (to + 6) (from - (to + 6)) ≡ ys = (λ i. bytes (byte_at (a i)) (to + 6) (k i)) ∙ behind_front base to front ys {j = to + 6} refl (omega arith) in
    let m : o₁ ≡ sets (sets base to (front ++ ys)) (to + 6 + by) ys = c ∙ rw (le-ltb (length o) (from + by) (omega arith)) (λ i. sets (a i) (to + 6 + by) (r i)) in
    let z : from + by - to - 3 ≡ length (field tag_name n ++ ys) = omega (arith, length-append (field tag_name n) ys) in
    e ∙ (λ i. sets (d i) to (heading tag_function (z i))) ∙ ap (λ m. sets (sets m (to + 3) (field tag_name n)) to (heading tag_function (length (field tag_name n ++ ys)))) m
    ∙ front_replaced base to front (heading tag_function (length (field tag_name n ++ ys))) (field tag_name n) ys {j = to + 3} {k = to + 6 + by} (omega arith) refl (omega arith)

-- a function takes the name
pub named_writes : {text : Bytes} {name : piece.Token} {to : ℕ} {v p q : Part} {o o₁ o₂ o₃ : Bytes} → v.tag ≡ Some tag_function → o₁ ≡ moved_by o (to + 6) v.to (name.end - name.start) → PutToken tag_name text name (to + 3) o₁ o₂ q → o₃ ≡ sets o₂ to (heading tag_function (v.to + (name.end - name.start) - to - 3)) → p ≡ record { at = v.at; to = v.to + (name.end - name.start); levels = v.levels; tag = v.tag } → Named text name to v o o₃ p
unfolding content_of
named_writes {text} {name} {to} {v} {p} {q} {o} {o₁} {o₂} {o₃} k c w d e =
    subst (λ p. Named text name to v o o₃ p) (sym e)
    (record {
      at = refl;
      levels = refl;
      behind = omega arith;
      most = omega arith;
      lengths = ap length d ∙ length-sets o₂ to (heading tag_function (v.to + by - to - 3)) ∙ ap length w.stored ∙ length-sets o₁ (to + 3) (field tag_name (content_of text name)) ∙ ap length c ∙ moved_length o (to + 6) v.to by;
      puts = λ x rest left base _ g s w. go g x rest left base s w.put w.tag;
    })
  where
    by : ℕ
    by = name.end - name.start

    as_long : number_of name.kind ≡ a_name → by ≡ length (content_of text name)
    as_long g = rw g (sym (length-bytes (byte_at text) name.start by))

    go : number_of name.kind ≡ a_name → (x : Node) (rest : Row) (left : ℕ) (base : Bytes) → Shaped x → Put text rest (written x) (levels x) left to base o v → (levels x ≤ left → v.tag ≡ Some (tag_of x)) → Put text rest (written (named (content_of text name) x)) (levels (named (content_of text name) x)) left to base o₃ (record { at = v.at; to = v.to + by; levels = v.levels; tag = v.tag })
    go g x rest left base s (Put.too_deep a b) t = Put.too_deep (omega (arith, named-levels (content_of text name) x s)) b
    go g x rest left base s (Put.fits a b i j f) t =
        let e = sym (t a) ∙ k in
        let u : tag_of x ≡ tag_function = cc in
        let ys = written_all (s.body u) in
        let wf = written_function x (s.body u) (s.shape u) in
        let n = content_of text name in
        let nf = named_function n x (s.body u) (s.shape u) in
        let h = as_long g in
        let y = ap length wf ∙ length-append (heading tag_function (suc (suc (suc (length ys)))) ++ field tag_name []) ys in
        let y' = ap length nf ∙ length-append (heading tag_function (length (field tag_name n ++ ys))) (field tag_name n ++ ys) in
        let y'' = length-append (field tag_name n) ys in
        Put.fits (omega (arith, named-levels n x s)) b (omega arith) (j ∙ sym (named-levels n x s))
        (λ z. function_in_place base o o₁ o₂ o₃ n ys to v.to by (f (omega arith) ∙ ap (sets base to) wf) (omega arith) h c w.stored d z ∙ ap (sets base to) (sym nf))

-- let: the name and the value
pub let_writes : {text : Bytes} {at to left : ℕ} {o o₁ o₂ o₃ : Bytes} {t t' : piece.Token} {p v u s : Part} → Sees text at t → PutToken tag_name text t to o o₁ p → Sees text t.end t' → t.end ≤ t'.end → at ≤ t.end → WritesNode (ExpressionRow 0 0) text t'.end p.to 0 left o₁ o₂ v → Named text t p.to v o₂ o₃ u → s ≡ joined_of p u → Writes LetRow text at to 11 left o o₃ s
unfolding written written_all levels levels_all
let_writes {text} {at} {to} {left} {o} {o₁} {o₂} {o₃} {t} {t'} {p} {v} {u} {s} a w b k n e m j =
    let i = ap (λ p. p.at) w.part in
    let i' = ap (λ p. p.to) w.part in
    let l : Bounds text at to (11 + (t.end - t.start)) left o o₁ p =
    record {
      lengths = ap length w.stored ∙ length-sets o to (field tag_name (content_of text t));
      onward = omega arith;
      within = omega (arith, a.within);
      room = omega (arith, w.most);
      behind = omega arith;
      depth = omega (arith, ap (λ p. p.levels) w.part);
    } in
    let f : Bounds text t'.end p.to (t.end - t.start) left o₁ o₃ u =
    record {
      lengths = m.lengths ∙ e.bounds.lengths;
      onward = omega (arith, m.at, e.bounds.onward);
      within = omega (arith, m.at, e.bounds.within);
      room = omega (arith, m.at, m.most, e.bounds.room);
      behind = omega (arith, m.behind, e.bounds.behind);
      depth = omega (arith, m.levels, e.bounds.depth);
    } in
    let r = bounds_behind l (omega arith) f in
    subst (λ s. Writes LetRow text at to 11 left o o₃ s) (sym j)
    (record {
      bounds = record { lengths = r.lengths; onward = r.onward; within = r.within; room = omega (arith, m.at, m.most, e.bounds.room, w.most, a.from, a.order); behind = r.behind; depth = r.depth };
      puts = λ xs rest d. go l f xs rest d;
    })
  where
    go : Bounds text at to (11 + (t.end - t.start)) left o o₁ p → Bounds text t'.end p.to (t.end - t.start) left o₁ o₃ u → (xs : Nodes) (rest : Row) → LetRow (row_at text at) rest xs → Put text rest (written_all xs) (levels_all xs) left to o o₃ (joined_of p u)
    go l f _ _ (LetRow.let_row {us = us} {e = x} g d) =
        let k : number_of t.kind ≡ a_name = a.kind ∙ g in
        let c : content_of text t ≡ bytes_of (row_at text at) = content_name text t k ∙ a.content in
        let d' : ExpressionRow 0 0 (row_at text t'.end) us x = rw (b.rest, a.rest) d in
        subst (λ n. Put text us (written_all (leaf tag_name n then one (named n x))) (levels_all (leaf tag_name n then one (named n x))) left to o o₃ (joined_of p u)) c
        (put-behind (put_leaf_field tag_name (content_of text t) {at = t.end} left refl w.part w.stored) l.lengths f.behind (λ h.
        put_one (named (content_of text t) x) (m.puts x us left o₁ e.bounds.lengths k (expression-shaped d) (e.puts x us d'))))

-- what a statement has inside, by its first token
module _ {text : Bytes} {at to left : ℕ} {o o₁ : Bytes} {t : piece.Token} {p : Part} where
  pub clause_return : Sees text at t → at < t.end → number_of t.kind ≡ return_word → WritesNode (ExpressionRow 0 0) text t.end to 0 left o o₁ p → Writes ClauseRow text at to 0 left o o₁ p × Spares text at to p
  clause_return a h k w = (
    record {
      bounds = record { lengths = w.bounds.lengths; onward = omega (arith, w.bounds.onward); within = w.bounds.within; room = omega (arith, w.bounds.room); behind = w.bounds.behind; depth = w.bounds.depth };
      puts = λ xs rest f. go xs rest f;
    },
    λ _. omega (arith, w.bounds.room),
  )
    where
      go : (xs : Nodes) (rest : Row) → ClauseRow (row_at text at) rest xs → Put text rest (written_all xs) (levels_all xs) left to o o₁ p
      go xs rest (ClauseRow.a_let n _) = let z = eqb-true (kind_of (row_at text at)) let_word n in let y = a.kind in absurd (omega arith)
      go _ rest (ClauseRow.a_return {e = x} _ _ d) = put_one x (w.puts x rest (rw a.rest d)).put
      go _ rest (ClauseRow.an_expression _ n _) = absurd (eqb-false (kind_of (row_at text at)) return_word n (sym a.kind ∙ k))

  pub clause_expression : Sees text at t → (number_of t.kind ≡ let_word → ⊥) → (number_of t.kind ≡ return_word → ⊥) → WritesNode (ExpressionRow 0 0) text at to 0 left o o₁ p → Writes ClauseRow text at to 0 left o o₁ p
  clause_expression a h k w = record { bounds = w.bounds; puts = λ xs rest f. go xs rest f }
    where
      go : (xs : Nodes) (rest : Row) → ClauseRow (row_at text at) rest xs → Put text rest (written_all xs) (levels_all xs) left to o o₁ p
      go xs rest (ClauseRow.a_let n _) = absurd (h (a.kind ∙ eqb-true (kind_of (row_at text at)) let_word n))
      go _ rest (ClauseRow.a_return _ n _) = absurd (k (a.kind ∙ eqb-true (kind_of (row_at text at)) return_word n))
      go _ rest (ClauseRow.an_expression {e = x} _ _ d) = put_one x (w.puts x rest d).put
