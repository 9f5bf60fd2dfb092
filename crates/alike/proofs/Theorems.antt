-- Scripts that are alike are read to trees of one shape; so series of them are compiled with nothing but literals to tell them apart.
use Prim.Native.Nat.{ℕ, ◌≤◌}
use native.Mathlib.Omega.{arith}
use mathlib.Core.List.{List}
use mathlib.Core.Path.{◌≡◌, refl, sym, ap, subst, ◌∙◌}
use lib.ListN.{length, take}
use borrow.Author.Tests.{le-ltb}
use Rattle.definition.specs.Basic.{Bytes}
use Rattle.definition.specs.Limit.{tree_limit, level_limit, session_size}
use Rattle.definition.specs.Number
use Rattle.definition.specs.Number.{refusal}
use Rattle.definition.specs.Shape.{shape}
use Rattle.definition.specs.Bytecode.{Image, image_bytes}
use Rattle.definition.specs.Session.{Words, word_list, field_count, Session}
use Rattle.definition.specs.Syntax.{Stmts}
use Rattle.definition.specs.Tree.{Parsed, read_tree}
use Rattle.definition.specs.Compile.{Outcome, Request, compile}
use Rattle.definition.specs.Call.{Called}
use Rattle.definition.specs.Series.{Call, Alike, AllAlike, shapes, Indistinguishable}
use Rattle.definition.specs.declared.reason.Refusal.{Refusal}
use Rattle.definition.proofs.Basic.{pick_false}
use Rattle.definition.proofs.Agreement.{image-length}
use Rattle.definition.proofs.Steps.{OutcomeLike, with_shape, like_itself, compile_like}
use Rattle.compiler.specs.Promise.{MadeBy, Ran}
use Rattle.compiler.proofs.Conditions.{compile_condition_3}
use Rattle.shape.specs.Alike.{AlikeFields}
use Rattle.shape.proofs.Alike.{shapes-alike}
use Rattle.definition.specs.Node.{Node, written, levels}
use Rattle.text.specs.Grammar.{Script}
use Rattle.text.specs.Scan.{smaller, whole, scan_text}
use Rattle.text.specs.Script.{Outcome as Reading, tree, refused as noTree, judged, at_end, verdict, read_text}
use Rattle.text.specs.Answer.{Answers}
use Rattle.text.proofs.Theorems.{answers, complete, unambiguous}
use Rattle.text.proofs.TreeCheck.{Parses, tree_passes}
use Rattle.text.proofs.RealTokens.{real_text}
use Rattle.text.proofs.Smaller.{smaller_right}
use Rattle.alike.specs.Scripts.{AlikeScripts, AlikeScriptCalls, AllScripts}
use Rattle.alike.proofs.Nodes.{like_length, like_levels, alike-bytes}
use Rattle.alike.proofs.Derived.{script_again}

-- a text that was read: what it denotes
record Denotes (text b : Bytes) : Type 0 where
  pub denoted : Node
  pub script : Script (scan_text text).tokens denoted
  pub is : written denoted ≡ b
  pub long : length (written denoted) ≤ tree_limit

denotes : (lent : ℕ) (text b : Bytes) → read_text lent text ≡ tree b → Denotes text b
denotes lent text b e = go (answers lent text) e
  where
    go : {o : Reading} → Answers lent (scan_text text) o → o ≡ tree b → Denotes text b
    go (Answers.bad_token _ _ _ _ _ _) e = let z : ◌≡◌ {A = ℕ} 0 1 = cc in absurd (omega arith)
    go (Answers.cut_short _ _ _ _) e = let z : ◌≡◌ {A = ℕ} 0 1 = cc in absurd (omega arith)
    go (Answers.ends_early _ _ _ _) e = let z : ◌≡◌ {A = ℕ} 0 1 = cc in absurd (omega arith)
    go (Answers.too_deep _ _ _ _ _) e = let z : ◌≡◌ {A = ℕ} 0 1 = cc in absurd (omega arith)
    go (Answers.too_long _ _ _ _ _ _) e = let z : ◌≡◌ {A = ℕ} 0 1 = cc in absurd (omega arith)
    go (Answers.denotes _ x _ d l h) e = record { denoted = x; script = d; is = cc; long = omega (arith, h, smaller_right lent tree_limit) }

-- Alike scripts that are read give alike trees
pub alike-trees : (m n : ℕ) (s t a b : Bytes) → AlikeScripts s t → read_text m s ≡ tree a → read_text n t ≡ tree b → AlikeFields a b
alike-trees m n s t a b l p q =
    let x = denotes m s a p in
    let y = denotes n t b q in
    let z = script_again l.tokens (real_text s) (real_text t) x.script in
    let e = unambiguous z.script y.script in
    subst (AlikeFields a) (ap written e ∙ y.is) (subst (λ c. AlikeFields c (written z.made)) x.is (alike-bytes z.like x.long))

-- so their trees have one shape
pub alike-scripts : (m n : ℕ) (s t a b : Bytes) → AlikeScripts s t → read_text m s ≡ tree a → read_text n t ≡ tree b → shape a ≡ shape b
alike-scripts m n s t a b l p q = go (read_tree a) refl (tree_passes m s a p) (read_tree b) refl (tree_passes n t b q)
  where
    go : (o : Parsed Stmts) → read_tree a ≡ o → Parses o → (r : Parsed Stmts) → read_tree b ≡ r → Parses r → shape a ≡ shape b
    go (Parsed.refused _) e x r f y = elim x [ ]
    go (Parsed.parsed _ _) e x (Parsed.refused _) f y = elim y [ ]
    go (Parsed.parsed _ _) e x (Parsed.parsed _ _) f y = (shapes-alike a b e f).1 (alike-trees m n s t a b l p q)

-- calls on trees of alike scripts are alike
scripts_call : {c d : Call} → AlikeScriptCalls c d → Alike c d
scripts_call {c} {d} a =
    record {
      tree = alike-scripts a.first_room a.second_room a.first_text a.second_text c.tree d.tree a.scripts a.first_read a.second_read;
      session = a.session;
      output = a.output;
      code = a.code;
      table = a.table;
    }

pub scripts_calls : {cs ds : List Call} → AllScripts cs ds → AllAlike cs ds
scripts_calls AllScripts.none = AllAlike.none
scripts_calls (AllScripts.more a rest) = AllAlike.more (scripts_call a) (scripts_calls rest)

-- Two series of compile calls on trees of alike scripts, step by step, from sessions of equal words,
-- can't be told apart but by the literals' bytes
pub scripts_condition_3 : {a b : Bytes} {u v : Words} → MadeBy a u → MadeBy b v → word_list u ≡ word_list v → (cs ds : List Call)
    → AllScripts cs ds → (xs ys : List Called)
    → Ran (take session_size a) cs xs → Ran (take session_size b) ds ys → Indistinguishable (field_count u ≡ field_count v) (shapes u cs) xs ys
scripts_condition_3 m n e cs ds l xs ys x y = compile_condition_3 m n e cs ds (scripts_calls l) xs ys x y

-- images of one length, or one refusal
pub data OneLength : Outcome → Outcome → Type 0 where
  accepted : {m n : Image} → length (image_bytes m) ≡ length (image_bytes n) → OneLength (Outcome.accepted m) (Outcome.accepted n)
  refused : (r : Refusal) → OneLength (Outcome.refused r) (Outcome.refused r)

-- at the same point of equal sessions, trees of one shape give images of one length, or the same refusal
pub one-length : (z : Session) (q r : Request) → with_shape q ≡ with_shape r → OneLength (compile z q).outcome (compile z r).outcome
one-length z q r e =
    go (compile_like (like_itself {compared = Unit {0}} z) q).outcome (subst (λ w. OutcomeLike (compile z r).outcome (compile z w).outcome) (sym e) (compile_like (like_itself {compared = Unit {0}} z) r).outcome)
  where
    go : {o p w : Outcome} → OutcomeLike o p → OutcomeLike w p → OneLength o w
    go (OutcomeLike.accepted x) (OutcomeLike.accepted y) = OneLength.accepted (image-length x ∙ sym (image-length y))
    go (OutcomeLike.refused r) (OutcomeLike.refused _) = OneLength.refused r

-- equal lengths, and alike trees that are read
pub record AlikeRequests (q r : Request) : Type 0 where
  pub code : q.code ≡ r.code
  pub table : q.table ≡ r.table
  pub session : q.session ≡ r.session
  pub output : q.output ≡ r.output
  pub first_end : ℕ
  pub second_end : ℕ
  pub first : Stmts
  pub second : Stmts
  pub first_reads : read_tree q.tree ≡ Parsed.parsed first first_end
  pub second_reads : read_tree r.tree ≡ Parsed.parsed second second_end
  pub trees : AlikeFields q.tree r.tree

pub alike-one-length : (z : Session) (q r : Request) → AlikeRequests q r → OneLength (compile z q).outcome (compile z r).outcome
alike-one-length z q r a =
    let t = (shapes-alike q.tree r.tree a.first_reads a.second_reads).1 a.trees in
    one-length z q r (λ i. record { code = a.code i; table = a.table i; session = a.session i; output = a.output i; tree = t i })

-- a text whose tokens are a script that is not too deep and has room is read
reads_made : (lent : ℕ) (text : Bytes) (end : ℕ) (x : Node) → Script (scan_text text).tokens x → (scan_text text).tail ≡ whole end
    → levels x ≤ level_limit → length (written x) ≤ smaller lent tree_limit → read_text lent text ≡ tree (written x)
unfolding read_text
reads_made lent text end x d e l h =
    ap (verdict lent (scan_text text)) (complete d) ∙ ap (λ k. at_end k (λ _. judged lent x)) e
    ∙ pick_false (noTree (refusal Number.too_deep 0)) _ (le-ltb level_limit (levels x) l)
    ∙ pick_false (noTree (refusal Number.output_short 0)) (tree (written x)) (le-ltb (smaller lent tree_limit) (length (written x)) h)

-- a script that is read, and one alike to it
pub record ReadAlike (lent : ℕ) (a t : Bytes) : Type 0 where
  pub bytes : Bytes
  pub reads : read_text lent t ≡ tree bytes
  pub shapes : shape a ≡ shape bytes

-- A script that is alike to one that is read is read too, unless its text is cut short:
-- bytes that are no token, or an integer above the limit
pub alike-read : (lent : ℕ) (s t a : Bytes) (end : ℕ) → AlikeScripts s t → read_text lent s ≡ tree a → (scan_text t).tail ≡ whole end
    → ReadAlike lent a t
alike-read lent s t a end l p e = go (answers lent s) p
  where
    go : {o : Reading} → Answers lent (scan_text s) o → o ≡ tree a → ReadAlike lent a t
    go (Answers.bad_token _ _ _ _ _ _) e = let z : ◌≡◌ {A = ℕ} 0 1 = cc in absurd (omega arith)
    go (Answers.cut_short _ _ _ _) e = let z : ◌≡◌ {A = ℕ} 0 1 = cc in absurd (omega arith)
    go (Answers.ends_early _ _ _ _) e = let z : ◌≡◌ {A = ℕ} 0 1 = cc in absurd (omega arith)
    go (Answers.too_deep _ _ _ _ _) e = let z : ◌≡◌ {A = ℕ} 0 1 = cc in absurd (omega arith)
    go (Answers.too_long _ _ _ _ _ _) e = let z : ◌≡◌ {A = ℕ} 0 1 = cc in absurd (omega arith)
    go (Answers.denotes _ x _ d v h) i =
        let z = script_again l.tokens (real_text s) (real_text t) d in
        let r = reads_made lent t end z.made z.script e (omega (arith, like_levels z.like)) (omega (arith, like_length z.like)) in
        record { bytes = written z.made; reads = r; shapes = alike-scripts lent lent s t a (written z.made) l p r }
