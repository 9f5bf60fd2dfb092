-- A text that pass 1 takes: its tree, put twice, is what the definition answers.
use Prim.Native.Nat.{ℕ, zero, suc, ◌-◌, ◌≤◌, ◌<◌}
use native.Mathlib.Omega.{arith}
use mathlib.Core.List.{[], ◌∷◌}
use mathlib.Core.Path.{◌≡◌, refl, sym, ap, subst, ◌∙◌}
use lib.ListN.{length}
use lib.Seq.{sets, length-sets}
use borrow.Author.Tests.{lt-ltb, le-ltb}
use Rattle.definition.specs.Basic.{Bytes, byte_at}
use Rattle.definition.specs.Limit.{tree_limit, level_limit}
use Rattle.definition.specs.Number
use Rattle.definition.specs.Number.{refusal, bad_script}
use Rattle.definition.specs.Tag.{tag_program}
use Rattle.definition.specs.Answer.{Answer}
use Rattle.std.specs.Prelude.{Ok, Err}
use Rattle.definition.specs.declared.reason.Refusal.{Refusal}
use Rattle.session.proofs.Stores.{sets_over}
use Rattle.text.specs.Token.{Row}
use Rattle.definition.specs.Node.{Node, node, Nodes, written, levels}
use Rattle.text.specs.Grammar.{Script as ScriptRow}
use Rattle.text.specs.Reader.{Result, ok, bad}
use Rattle.text.specs.Scan.{Next, next_at, Tail, whole, cut, Scanned, scan_next, scan, scan_text, smaller}
use Rattle.text.specs.Script.{Outcome, tree, refused, judged, read_row, read_text, answer_of, output_of}
use Rattle.text.specs.Recognize.{recognition, closing, recognize_text}
use Rattle.text.specs.Parse.{StatementsRow}
use Rattle.session.specs.Write.{heading}
use Rattle.text.specs.Parts.{row_from, row_next, row_at, Put, PutsTree, Writes, closed_of}
use Rattle.text.specs.declared.part.Part.{Part}
use Rattle.text.proofs.Putting.{put-field}
use Rattle.text.proofs.Recognizes.{verdict_of, recognizes}
use Rattle.text.proofs.Settled.{settled, judged_row, settles}
use Rattle.text.proofs.Theorems.{Judges, judges}
use Rattle.text.proofs.Parsed.{parsed}

-- a row that ends with the text is the row as far as there are tokens
clean_row : (byte : ℕ → ℕ) (n fuel at k : ℕ) → (scan byte n fuel at).tail ≡ whole k → (scan byte n fuel at).tokens ≡ row_from byte n fuel at
unfolding scan row_from
clean_row byte n zero at k e = refl
clean_row byte n (suc fuel) at k e = go (next_at byte n at) e (λ end k e. clean_row byte n fuel end k e)
  where
    go : (x : Next) → (scan_next x (λ end. scan byte n fuel end)).tail ≡ whole k → ((end k : ℕ) → (scan byte n fuel end).tail ≡ whole k → (scan byte n fuel end).tokens ≡ row_from byte n fuel end) → (scan_next x (λ end. scan byte n fuel end)).tokens ≡ row_next x (λ end. row_from byte n fuel end)
    go (Next.found start end t) e r = ap (λ us. t ∷ us) (r end k e)
    go (Next.large start t) e r = let z : ◌≡◌ {A = ℕ} 0 1 = cc in absurd (omega arith)
    go (Next.broken start) e r = refl
    go (Next.finished end) e r = refl

-- what pass 1 takes
pub record Accepted (text : Bytes) : Type 0 where
  pub nodes : Nodes
  pub row : StatementsRow (row_at text 0) [] nodes
  pub read : (lent : ℕ) → read_text lent text ≡ judged lent (node tag_program nodes)

-- how a row ends that is taken
record Whole (s : Scanned) : Type 0 where
  pub end : ℕ
  pub is : s.tail ≡ whole end

taken-whole : (s : Scanned) → closing s.tail (λ _. Ok tt) ≡ Ok tt → Whole s
taken-whole s = go s.tail refl
  where
    go : (t : Tail) → s.tail ≡ t → closing t (λ _. Ok tt) ≡ Ok tt → Whole s
    go (whole n) e h = record { end = n; is = e }
    go (cut a b) e h = let z : ◌≡◌ {A = ℕ} 0 1 = cc in absurd (omega arith)

pub accepted : (text : Bytes) → recognize_text text ≡ Ok tt → Accepted text
unfolding recognize_text row_at
accepted text h = go (read_row ts) refl (judges ts)
  where
    s : Scanned
    s = scan_text text

    ts : Row
    ts = (scan_text text).tokens

    found : (r : Result Node) → read_row ts ≡ r → recognition s (verdict_of r) ≡ Ok tt
    found r e = ap (λ r. recognition s (verdict_of r)) (sym e) ∙ ap (recognition s) (sym (recognizes ts)) ∙ h

    by : {x : Node} → read_row ts ≡ ok x [] → Whole s → ScriptRow ts x → Accepted text
    by e w (ScriptRow.script {xs = xs} d) =
        record {
          nodes = xs;
          row = subst (λ us. StatementsRow us [] xs) (clean_row (byte_at text) (length text) (suc (length text)) 0 w.end w.is) (parsed d);
          read = λ lent. settles lent text ∙ ap (λ r. settled r (judged_row lent (read_row ts))) h' ∙ ap (judged_row lent) e;
        }
      where
        h' : recognize_text text ≡ Ok tt
        h' = h

    go : (r : Result Node) → read_row ts ≡ r → Judges ts (read_row ts) → Accepted text
    go r e j = made r e (subst (Judges ts) e j)
      where
        made : (r : Result Node) → read_row ts ≡ r → Judges ts r → Accepted text
        made _ e (Judges.accepted {x} d) = by e (taken-whole s (found (ok x []) e)) d
        made _ e (Judges.stopped {us = []} f) = absurd (no_end s.tail (found (bad []) e))
          where
            no_end : (t : Tail) → closing t (λ n. Err (refusal bad_script n)) ≡ Ok tt → ⊥
            no_end (whole n) g = let z : ◌≡◌ {A = ℕ} 0 1 = cc in omega arith
            no_end (cut a b) g = let z : ◌≡◌ {A = ℕ} 0 1 = cc in omega arith
        made _ e (Judges.stopped {us = t ∷ us} f) = let g = found (bad (t ∷ us)) e in let z : ◌≡◌ {A = ℕ} 0 1 = cc in absurd (omega arith)

-- the whole tree, from its statements
pub puts_tree : {text : Bytes} {old mid out : Bytes} {p s : Part} → Writes StatementsRow text 0 3 0 63 old mid p → s ≡ closed_of tag_program p → out ≡ sets mid 0 (heading tag_program (p.to - 0 - 3)) → PutsTree text old out s
unfolding written levels
puts_tree {text} {old} {mid} {out} {p} {s} w i m =
    subst (λ s. PutsTree text old out s) (sym i)
    (record { lengths = ap length m ∙ length-sets mid 0 (heading tag_program (p.to - 0 - 3)) ∙ w.bounds.lengths; puts = λ xs d. put-field {to = 0} tag_program (w.puts xs [] d) m })

-- what is answered and left, by what was measured and put
module _ (text old : Bytes) (a : Accepted text) where
  abbrev x : Node
  x = node tag_program a.nodes

  abbrev outcome : Outcome
  outcome = read_text (length old) text

  pub answers_deep : {o o' : Bytes} {p : Part} → PutsTree text o o' p → 64 < p.levels → outcome ≡ refused (refusal Number.too_deep 0)
  answers_deep {o} {o'} {p} w h = a.read (length old) ∙ go (w.puts a.nodes a.row)
    where
      go : Put text [] (written x) (levels x) 64 0 o o' p → judged (length old) x ≡ refused (refusal Number.too_deep 0)
      go (Put.too_deep d e) = rw (lt-ltb level_limit (levels x) d) refl
      go (Put.fits d r b c e) = absurd (omega arith)

  pub answers_short : {o o' : Bytes} {p : Part} → PutsTree text o o' p → p.levels ≤ 64 → smaller (length old) tree_limit < p.to → outcome ≡ refused (refusal Number.output_short 0)
  answers_short {o} {o'} {p} w h k = a.read (length old) ∙ go (w.puts a.nodes a.row)
    where
      go : Put text [] (written x) (levels x) 64 0 o o' p → judged (length old) x ≡ refused (refusal Number.output_short 0)
      go (Put.too_deep d e) = absurd (omega arith)
      go (Put.fits d r b c e) = rw (le-ltb level_limit (levels x) d, lt-ltb (smaller (length old) tree_limit) (length (written x)) (omega arith)) refl

  pub answers_tree : {o o' out : Bytes} {p q : Part} → PutsTree text o o' p → p.levels ≤ 64 → p.to ≤ smaller (length old) tree_limit → smaller (length old) tree_limit ≤ length old → PutsTree text old out q → (Ok q.to ≡ answer_of outcome) × (out ≡ output_of outcome old)
  answers_tree {o} {o'} {out} {p} {q} w h k l v = go (w.puts a.nodes a.row) (v.puts a.nodes a.row)
    where
      go : Put text [] (written x) (levels x) 64 0 o o' p → Put text [] (written x) (levels x) 64 0 old out q → (Ok q.to ≡ answer_of outcome) × (out ≡ output_of outcome old)
      go (Put.too_deep d e) f = absurd (omega arith)
      go (Put.fits d r b c e) (Put.too_deep d' e') = absurd (omega arith)
      go (Put.fits d r b c e) (Put.fits d' r' b' c' e') =
          let i : outcome ≡ tree (written x) = a.read (length old) ∙ rw (le-ltb level_limit (levels x) d, le-ltb (smaller (length old) tree_limit) (length (written x)) (omega arith)) refl in
          let n : q.to ≡ length (written x) = omega arith in
          (ap Ok n ∙ ap answer_of (sym i), e' (omega arith) ∙ sets_over old (written x) (omega arith) ∙ ap (λ o. output_of o old) (sym i))

-- a refusal is answered, and the output stays
pub answers_refusal : {o : Outcome} {r : Refusal} {given : Answer} {old : Bytes} → o ≡ refused r → given ≡ Err r → (given ≡ answer_of o) × (old ≡ output_of o old)
answers_refusal {old = old} e f = (f ∙ ap answer_of (sym e), ap (λ o. output_of o old) (sym e))

-- 20 and 21
pub answers_refused : (lent : ℕ) (text : Bytes) {r : Refusal} → recognize_text text ≡ Err r → read_text lent text ≡ refused r
answers_refused lent text h = settles lent text ∙ ap (λ r. settled r (judged_row lent (read_row (scan_text text).tokens))) h
