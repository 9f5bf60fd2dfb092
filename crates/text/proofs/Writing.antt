-- Each construct, from what was put of its parts.
use Prim.Native.Nat.{ℕ, zero, suc, ◌+◌, ◌-◌, ◌≤◌, ◌<◌}
use native.Mathlib.Omega.{arith}
use mathlib.Core.List.{[]}
use mathlib.Core.Path.{◌≡◌, refl, sym, ap, subst, ◌∙◌}
use lib.ListN.{length}
use lib.Seq.{sets, length-sets}
use borrow.Author.Tests.{eqb-true, eqb-false}
use Rattle.std.specs.Prelude.{None, Some}
use Rattle.definition.specs.Basic.{Bytes}
use Rattle.definition.specs.Field.{field}
use Rattle.definition.specs.Tag.{tag_block, tag_name, tag_params}
use Rattle.text.specs.Kind.{else_word, number_of}
use Rattle.text.specs.Token.{Row, kind_of, behind}
use Rattle.definition.specs.Node.{Node, Nodes, written, written_all, levels, levels_all}
use Rattle.text.specs.Shape.{statement_tag}
use Rattle.text.specs.Parse.{past_semicolon, NamesRow, ParametersRow, ExpressionRow, IfRow, ElseRow, FunctionRow, BlockRow, StatementsRow, StatementRow, ClauseRow}
use Rattle.session.specs.Write.{heading}
use Rattle.text.specs.Parts.{end_of, row_at, Sees, Put, PutNode, Bounds, Spares, WritesNode, Writes, Passes, joined_of, moved_on, closed_of}
use Rattle.text.specs.declared.part.Part.{Part}
use Rattle.text.specs.declared.scan.Token as piece
use Rattle.text.proofs.Larger.{has_level}
use Rattle.text.proofs.Bounding.{bounds_none, bounds_from, bounds_behind, bounds_on, bounds_field, bounds_deep}
use Rattle.text.proofs.Putting.{put_none, put_same, put_on, put-behind, put-field, put_one}

-- too deep at once
pub deep_node : {F : Row → Row → Node → Type 0} {text : Bytes} {slack : ℕ} (at to left : ℕ) {old : Bytes} {p : Part} → at ≤ end_of text → left ≡ 0 → p ≡ record { at = end_of text; to = to; levels = 0 + 1; tag = None } → WritesNode F text at to slack left old old p
deep_node at to left h z e =
    rw z
    (record {
      bounds = bounds_from (bounds_deep at to 0 h e) (omega arith) (omega arith);
      puts = λ x rest f. record { put = Put.too_deep (has_level x) (omega (arith, ap (λ p. p.levels) e)); tag = λ g. absurd (omega (arith, has_level x)) };
    })

-- a field put in one go
pub put_leaf_field : {text : Bytes} {rest : Row} (tag : ℕ) (content : Bytes) {at to : ℕ} (left : ℕ) {old out : Bytes} {p : Part} → row_at text at ≡ rest → p ≡ record { at = at; to = to + 3 + length content; levels = 1; tag = Some tag } → out ≡ sets old to (field tag content) → Put text rest (field tag content) 1 left to old out p
put_leaf_field tag content zero r e s = Put.too_deep (omega arith) (omega (arith, ap (λ p. p.levels) e))
put_leaf_field {text} tag content (suc left) r e s =
    Put.fits (omega arith) (ap (λ p. row_at text p.at) e ∙ r) (ap (λ p. p.to) e ∙ omega arith) (ap (λ p. p.levels) e) (λ _. s)

-- if: the condition, the block, the other one
pub if_writes : {text : Bytes} {at to left : ℕ} {o o₁ o₂ o₃ : Bytes} {t t' : piece.Token} {p q r u s : Part} → Sees text at t → WritesNode (ExpressionRow 0 0) text t.end to 0 left o o₁ p → Sees text p.at t' → WritesNode BlockRow text t'.end p.to 3 left o₁ o₂ q → Writes ElseRow text q.at q.to 3 left o₂ o₃ r → u ≡ joined_of q r → s ≡ joined_of p u → at ≤ t.end → p.at ≤ t'.end → Writes IfRow text at to 6 left o o₃ s
unfolding written_all levels_all
if_writes {text} {at} {to} {left} {o} {o₁} {o₂} {o₃} {t} {t'} {p} {q} {r} {u} {s} a e b w v i j k l =
    subst (λ s. Writes IfRow text at to 6 left o o₃ s) (sym (j ∙ ap (joined_of p) i))
    (record {
      bounds = bounds_from (bounds_behind e.bounds l (bounds_behind w.bounds (omega arith) v.bounds)) k (omega arith);
      puts = λ xs rest f. go xs rest f;
    })
  where
    go : (xs : Nodes) (rest : Row) → IfRow (row_at text at) rest xs → Put text rest (written_all xs) (levels_all xs) left to o o₃ (joined_of p (joined_of q r))
    go _ _ (IfRow.if_row {us = us} {vs} {ws} {e = x} {b = y} {xs} d f g) =
        put-behind (e.puts x us (rw a.rest d)).put e.bounds.lengths (omega (arith, w.bounds.behind, v.bounds.behind)) (λ h.
        put-behind (w.puts y vs (rw (b.rest, h) f)).put w.bounds.lengths v.bounds.behind (λ h.
        v.puts xs ws (rw h g)))

-- no else
pub else_none : {text : Bytes} {at to left : ℕ} {o : Bytes} {t : piece.Token} {p : Part} → Sees text at t → (number_of t.kind ≡ else_word → ⊥) → at ≤ end_of text → p ≡ record { at = at; to = to; levels = 0; tag = None } → Writes ElseRow text at to 3 left o o p
unfolding written_all levels_all
else_none {text} {at} {to} {left} {o} {t} {p} a n h e = record { bounds = bounds_from (bounds_none at to left h e) (omega arith) (omega arith); puts = λ xs rest f. go xs rest f }
  where
    go : (xs : Nodes) (rest : Row) → ElseRow (row_at text at) rest xs → Put text rest (written_all xs) (levels_all xs) left to o o p
    go _ _ (ElseRow.no_else _) = put_none text at to left o (ap (λ p. p.at) e) (ap (λ p. p.to) e) (ap (λ p. p.levels) e)
    go _ _ (ElseRow.an_else k _) = absurd (n (a.kind ∙ eqb-true (kind_of (row_at text at)) else_word k))

-- else
pub else_block : {text : Bytes} {at to left : ℕ} {o o₁ : Bytes} {t : piece.Token} {p : Part} → Sees text at t → number_of t.kind ≡ else_word → at ≤ t.end → WritesNode BlockRow text t.end to 3 left o o₁ p → Writes ElseRow text at to 3 left o o₁ p
else_block {text} {at} {to} {left} {o} {o₁} {t} {p} a k h w = record { bounds = bounds_from w.bounds h (omega arith); puts = λ xs rest f. go xs rest f }
  where
    go : (xs : Nodes) (rest : Row) → ElseRow (row_at text at) rest xs → Put text rest (written_all xs) (levels_all xs) left to o o₁ p
    go _ _ (ElseRow.no_else n) = absurd (eqb-false (kind_of (row_at text at)) else_word n (sym a.kind ∙ k))
    go _ _ (ElseRow.an_else {us = us} {b} _ d) = put_one b (w.puts b us (rw a.rest d)).put

-- a function: its name, its parameters, its block
pub function_writes : {text : Bytes} {at to left : ℕ} {o o₁ o₂ o₃ : Bytes} {p q r u s : Part} → at ≤ end_of text → p ≡ record { at = at; to = to + 3; levels = 1; tag = Some tag_name } → o₁ ≡ sets o to (field tag_name []) → ((left : ℕ) → WritesNode ParametersRow text p.at p.to 3 left o₁ o₂ q) → WritesNode BlockRow text q.at q.to 3 left o₂ o₃ r → u ≡ joined_of q r → s ≡ joined_of p u → Writes FunctionRow text at to 9 left o o₃ s
unfolding written written_all levels levels_all
function_writes {text} {at} {to} {left} {o} {o₁} {o₂} {o₃} {p} {q} {r} {u} {s} h n m ps w i j =
    let b : Bounds text at to 3 left o o₁ p =
    record {
      lengths = ap length m ∙ length-sets o to (field tag_name []);
      onward = omega (arith, ap (λ p. p.at) n);
      within = omega (arith, ap (λ p. p.at) n);
      room = omega (arith, ap (λ p. p.at) n, ap (λ p. p.to) n);
      behind = omega (arith, ap (λ p. p.to) n);
      depth = omega (arith, ap (λ p. p.levels) n);
    } in
    subst (λ s. Writes FunctionRow text at to 9 left o o₃ s) (sym (j ∙ ap (joined_of p) i))
    (record {
      bounds = bounds_behind b (omega arith) (bounds_behind (ps left).bounds (omega arith) w.bounds);
      puts = λ xs rest f. go b xs rest f;
    })
  where
    go : Bounds text at to 3 left o o₁ p → (xs : Nodes) (rest : Row) → FunctionRow (row_at text at) rest xs → Put text rest (written_all xs) (levels_all xs) left to o o₃ (joined_of p (joined_of q r))
    go b _ _ (FunctionRow.function_row {us = us} {vs} {ns} {b = x} d f) =
        let z : to + 3 ≡ to + 3 + length {A = ℕ} [] = omega arith in
        put-behind (put_leaf_field tag_name [] {at = at} {to = to} left refl (n ∙ ap (λ k. record { at = at; to = k; levels = 1; tag = Some tag_name }) z) m) b.lengths (omega (arith, (ps left).bounds.behind, w.bounds.behind)) (λ h.
        put-behind ((ps left).puts ns us (rw h d)).put (ps left).bounds.lengths w.bounds.behind (λ h.
        put_one x (w.puts x vs (rw h f)).put))

-- a block: its statements between braces
pub block_writes : {text : Bytes} {at to l left : ℕ} {o o₁ o₂ : Bytes} {t t' : piece.Token} {p q s : Part} → left ≡ suc l → Sees text at t → Writes StatementsRow text t.end (to + 3) 0 l o o₁ p → Sees text p.at t' → q ≡ moved_on p t'.end → s ≡ closed_of tag_block q → o₂ ≡ sets o₁ to (heading tag_block (q.to - to - 3)) → at ≤ t.end → p.at ≤ t'.end → WritesNode BlockRow text at to 3 left o o₂ s
unfolding written levels
block_writes {text} {at} {to} {l} {left} {o} {o₁} {o₂} {t} {t'} {p} {q} {s} z a w b i j m k n =
    let m' : o₂ ≡ sets o₁ to (heading tag_block (p.to - to - 3)) = m ∙ ap (λ q. sets o₁ to (heading tag_block (q.to - to - 3))) i in
    subst (λ left. WritesNode BlockRow text at to 3 left o o₂ s) (sym z) (subst (λ s. WritesNode BlockRow text at to 3 (suc l) o o₂ s) (sym (j ∙ ap (closed_of tag_block) i))
    (record {
      bounds = bounds_from (bounds_field tag_block (bounds_on w.bounds n b.within) m') k (omega arith);
      puts = λ x rest f. go m' x rest f;
    }))
  where
    go : o₂ ≡ sets o₁ to (heading tag_block (p.to - to - 3)) → (x : Node) (rest : Row) → BlockRow (row_at text at) rest x → PutNode text rest x (suc l) to o o₂ (closed_of tag_block (moved_on p t'.end))
    go e _ _ (BlockRow.block_row {us = us} {xs} d) =
        record { put = put-field tag_block (put_on (λ h. b.rest ∙ ap behind h) (w.puts xs us (rw a.rest d))) e; tag = λ _. refl }

-- parameters: their names between parentheses
pub parameters_writes : {text : Bytes} {at to : ℕ} (left : ℕ) {o o₁ o₂ : Bytes} {t : piece.Token} {p s : Part} → Sees text at t → ((left : ℕ) → Writes NamesRow text t.end (to + 3) 0 left o o₁ p) → p.levels ≤ 1 → s ≡ closed_of tag_params p → o₂ ≡ sets o₁ to (heading tag_params (p.to - to - 3)) → at ≤ t.end → WritesNode ParametersRow text at to 3 left o o₂ s
unfolding written levels
parameters_writes {text} {at} {to} left {o} {o₁} {o₂} {t} {p} {s} a w y j m k =
    subst (λ s. WritesNode ParametersRow text at to 3 left o o₂ s) (sym j) (by left)
  where
    go : (l : ℕ) (x : Node) (rest : Row) → ParametersRow (row_at text at) rest x → PutNode text rest x (suc l) to o o₂ (closed_of tag_params p)
    go l _ _ (ParametersRow.parameters_row {us = us} {xs} d) = record { put = put-field tag_params ((w l).puts xs us (rw a.rest d)) m; tag = λ _. refl }

    by : (left : ℕ) → WritesNode ParametersRow text at to 3 left o o₂ (closed_of tag_params p)
    by zero =
        let b : Bounds text at to 3 1 o o₂ (closed_of tag_params p) = bounds_from (bounds_field tag_params (w 0).bounds m) k (omega arith) in
        record {
          bounds = record { lengths = b.lengths; onward = b.onward; within = b.within; room = b.room; behind = b.behind; depth = omega arith };
          puts = λ x rest f. record { put = Put.too_deep (has_level x) (omega arith); tag = λ g. absurd (omega (arith, has_level x)) };
        }
    by (suc l) = record { bounds = bounds_from (bounds_field tag_params (w l).bounds m) k (omega arith); puts = λ x rest f. go l x rest f }

-- a statement: what it has inside, and a `;`
pub one_writes : {text : Bytes} {at to l left : ℕ} {o o₁ o₂ : Bytes} {t : piece.Token} {p q s : Part} → left ≡ suc l → Sees text at t → at < end_of text → Writes ClauseRow text at (to + 3) 0 l o o₁ p → Spares text at (to + 3) p → q ≡ closed_of (statement_tag (number_of t.kind)) p → o₂ ≡ sets o₁ to (heading (statement_tag (number_of t.kind)) (p.to - to - 3)) → Passes text q s → WritesNode StatementRow text at to 0 left o o₂ s
unfolding written levels
one_writes {text} {at} {to} {l} {left} {o} {o₁} {o₂} {t} {p} {q} {s} z a k w v i m b =
    let f = bounds_field (statement_tag (number_of t.kind)) w.bounds m in
    let u = v k in
    let g : Bounds text at to 0 (suc l) o o₂ q = subst (λ q. Bounds text at to 0 (suc l) o o₂ q) (sym i) (record { lengths = f.lengths; onward = f.onward; within = f.within; room = omega arith; behind = f.behind; depth = f.depth }) in
    subst (λ left. WritesNode StatementRow text at to 0 left o o₂ s) (sym z)
    (record { bounds = subst (λ s. Bounds text at to 0 (suc l) o o₂ s) (sym b.part) (bounds_on g b.onward b.within); puts = λ x rest f. go x rest f })
  where
    go : (x : Node) (rest : Row) → StatementRow (row_at text at) rest x → PutNode text rest x (suc l) to o o₂ s
    go _ _ (StatementRow.statement_row {us = us} {xs} d) =
        let c : Put text us (field (statement_tag (number_of t.kind)) (written_all xs)) (suc (levels_all xs)) (suc l) to o o₂ q = subst (λ q. Put text us (field (statement_tag (number_of t.kind)) (written_all xs)) (suc (levels_all xs)) (suc l) to o o₂ q) (sym i) (put-field (statement_tag (number_of t.kind)) (w.puts xs us d) m) in
        let e : Put text (past_semicolon us) (field (statement_tag (number_of t.kind)) (written_all xs)) (suc (levels_all xs)) (suc l) to o o₂ s = subst (λ s. Put text (past_semicolon us) (field (statement_tag (number_of t.kind)) (written_all xs)) (suc (levels_all xs)) (suc l) to o o₂ s) (sym b.part) (put_on (λ h. b.row ∙ ap past_semicolon h) c) in
        record {
          put = put_same (ap (λ k. field (statement_tag k) (written_all xs)) a.kind) refl e;
          tag = λ _. ap (λ p. p.tag) b.part ∙ ap (λ p. p.tag) i ∙ ap (λ k. Some (statement_tag k)) a.kind;
        }
