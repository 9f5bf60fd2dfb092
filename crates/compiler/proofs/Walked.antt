-- From the walk's promise on lent memory to the definition's walk.
use Prim.Native.Nat.{ℕ, ◌-◌}
use native.Mathlib.Omega.{arith}
use mathlib.Core.List.{List}
use mathlib.Core.Path.{◌≡◌, refl, sym, ap, subst, subst₂, ◌∙◌}
use lib.ListN.{length, take, replicate}
use lib.Seq.{sets, take_all}
use Rattle.definition.specs.Basic.{Bytes}
use Rattle.definition.specs.Limit.{session_size, code_size}
use Rattle.definition.specs.Syntax.{Stmts}
use Rattle.definition.specs.Tree.{Parsed, read_tree}
use Rattle.definition.specs.Session.{Session, session_bytes}
use Rattle.definition.specs.Valid.{AreBytes}
use Rattle.definition.specs.Walk.{Res, on, stop, walk_stmts}
use Rattle.definition.specs.Compiler as Structured
use Rattle.definition.specs.Compiler.{State}
use Rattle.definition.specs.Compile as Definition
use Rattle.definition.specs.Compile.{start, translate}
use Rattle.definition.specs.declared.reason.Refusal.{Refusal}
use Rattle.std.specs.Prelude.{Err, Ok}
use Rattle.definition.proofs.ReadWellFormed.{read_well_formed}
use Rattle.definition.proofs.Sessions.{session_length}
use Rattle.tree.specs.Check.{Good, verdict}
use Rattle.field.specs.Layout.{after}
use Rattle.scope.specs.View.{View, view, then}
use Rattle.scope.specs.Machine.{machine}
use Rattle.scope.specs.declared.State as Memory
use Rattle.scope.specs.Walked.{Walked, stopped}
use Rattle.refinement.specs.Relation.{pool_end, start_view, marks, Appended, Compiled, WalkEnds}
use Rattle.refinement.proofs.Walk.{walk_ends}
use Rattle.refinement.proofs.Outcome.{memory_through, memory_halts}
use Rattle.refinement.proofs.Buffer.{restored}
use Rattle.bytecode.specs.declared.SessionLayout.{SessionLayout}
use Rattle.symbol_table.specs.Contract.{HasNames, Starts}
use Rattle.step.specs.Memory.{Rest, rest, symbols_of, no_symbols, settled, memory, FineState, Origin, Walks}
use Rattle.walk.specs.Parts.{ReadsTree}
use Rattle.compiler.specs.Result.{refused_result, step_result, session_result, call_result}
use Rattle.compiler.specs.Stage.{Opened, Checked}
use Rattle.compiler.specs.Translated.{Small, start_state, Through, Halted, WalkEnded}
use Rattle.compiler.proofs.Opened.{opened}
use Rattle.compiler.proofs.Started.{opened_names, opened_small, opened_after, started_fine, started-view}

-- a walk that goes on is settled as it is
settled_on : {A : Type 0} (y : Res View A) {a : A} {v : View} → on a v ≡ settled y → y ≡ on a v
settled_on (on b u) e = sym e
settled_on (stop r u) e = let no : ◌≡◌ {A = ℕ} 0 1 = cc in absurd (omega arith)

-- the view of a walk that stopped, with its symbols
record Settles {A : Type 0} (y : Res View A) (r : Refusal) (v : View) : Type 0 where
  view : View
  same : y ≡ stop r view
  session : view.session ≡ v.session
  state : view.state ≡ v.state

settled_stop : {A : Type 0} (y : Res View A) {r : Refusal} {v : View} → stop r v ≡ settled y → Settles y r v
settled_stop (on b u) e = let no : ◌≡◌ {A = ℕ} 0 1 = cc in absurd (omega arith)
settled_stop (stop q u) {r} {v} e =
    let refusal : q ≡ r = cc in
    let same : view u.code u.session no_symbols u.state ≡ v = cc in
    record { view = u; same = ap (λ r. stop r u) refusal; session = ap (λ (x : View). x.session) same; state = ap (λ (x : View). x.state) same }

-- where the walk goes on, no function is open
started_level : (l : SessionLayout) {s : Memory.State} → Origin 0 (Ok (start_state l)) s → s.level ≡ 0
started_level l o =
    let same : start_state l ≡ o.from = let e = o.is in cc in
    let zero = ap (λ (s : Memory.State). s.level) same in
    omega (arith, o.level)

-- the definition's walk, and that on views
abbrev defined : Session → Stmts → Res State (Unit {0})
defined z b = walk_stmts Structured.machine b (start z)

abbrev done : Session → Bytes → Bytes → Stmts → Res View (Unit {0})
done z e c b = walk_stmts machine b (start_view z e c)

-- what the walk over a tree promises, from the start of a call on
abbrev pub WalksTree : Bytes → SessionLayout → Bytes → Bytes → Rest → Rest → Walked → Type 0
WalksTree tree l c c' m m' = Walks tree (ReadsTree tree) (walk_stmts machine) c c' m m' (Ok (start_state l))

-- In bytes that read as a session, with a table area that was started on it and a code area, for a tree that reads well
module _ {e : Bytes} {l : SessionLayout} (x : Opened e l) {t₀ t : List ℕ} (begun : Starts e l.words_end l.names_end t₀ t) (c : Bytes) (size : length c ≡ code_size)
    (tree : Bytes) (b : Stmts) (n : ℕ) (reads : read_tree tree ≡ Parsed.parsed b n) where
  -- the session's bytes are all of them
  whole : take session_size e ≡ session_bytes x.session
  whole = take_all session_size e (omega (arith, ap length x.bytes, session_length x.session x.valid)) ∙ x.bytes

  both_end : WalkEnds x.session e (length c) (defined x.session b) (done x.session e c b)
  both_end = walk_ends x.session x.valid e c whole (omega arith) b (read_well_formed tree b n reads)

  -- the call's result hangs on the definition's walk
  result_is : (o : Bytes) → call_result tree e o ≡ step_result e o (Definition.finish (length o) x.session (defined x.session b))
  unfolding call_result
  result_is o = ap (session_result tree e o) x.reads ∙ ap (λ p. step_result e o (translate (length o) x.session p)) reads

  -- the walk that was done is that on views
  walk_is : {c' : Bytes} {m : Rest} {r : Walked} → WalksTree tree l c c' (rest e t) m r → memory tree c' m r ≡ settled (done x.session e c b)
  walk_is w = w.step b (record { end = n; reads = reads }) ∙ ap (λ m. settled (then m (walk_stmts machine b))) (started-view x begun tree c)

  walk_through : {c' e' : Bytes} {t' : List ℕ} {s : Memory.State} → WalksTree tree l c c' (rest e t) (rest e' t') (Ok s) → Through tree e c' e' t' l s
  walk_through {c'} {e'} {t'} {s} w =
      let k = memory_through both_end (settled_on (done x.session e c b) (walk_is w)) in
      record {
        translated =
            record {
              session = x.session;
              state = k.state;
              valid = x.valid;
              layout = x.layout;
              compiled = subst₂ (λ e n. Compiled x.session e n k.state (view c' e' (symbols_of tree (rest e' t') s) s)) x.bytes size k.facts;
              fine = w.fine;
              level = started_level l (w.keeps.origin s refl);
            };
        same = λ o. result_is o ∙ (λ i. step_result (x.bytes i) o (Definition.finish (length o) x.session (k.same i)));
      }

  walk_stopped : {c' e' : Bytes} {t' : List ℕ} {q : Refusal} {s : Memory.State} → WalksTree tree l c c' (rest e t) (rest e' t') (Err (stopped q s)) → Halted tree e e' l q s
  walk_stopped {e'} {q} {s} w =
      let z = x.session in
      let u = settled_stop (done z e c b) (walk_is w) in
      let k = memory_halts both_end u.same in
      let a : Appended z e e' (marks s) = subst₂ (λ b s. Appended z e b (marks s)) u.session u.state k.facts.appended in
      let ends : l.pool_end ≡ pool_end z = ap (λ (l : SessionLayout). l.pool_end) x.layout in
      record {
        low = omega (arith, a.upto);
        high = a.within;
        restores = (λ i. sets e' (ends i) (replicate (s.pool_end - ends i) 0)) ∙ restored z e whole a;
        same = λ o. result_is o ∙ ap (λ w. step_result e o (Definition.finish (length o) z w)) k.same;
      }

  -- however it ended
  ended_so : {c' e' : Bytes} {t' : List ℕ} (r : Walked) → WalksTree tree l c c' (rest e t) (rest e' t') r → WalkEnded tree e c' e' t' l r
  ended_so (Ok s) w = walk_through w
  ended_so (Err z) w = walk_stopped w

-- The walk of a call

-- a tree that was found good reads as statements
record ReadsWell (x : Parsed Stmts) : Type 0 where
  statements : Stmts
  end : ℕ
  same : x ≡ Parsed.parsed statements end

reads_well : (x : Parsed Stmts) → verdict x ≡ Good → ReadsWell x
reads_well (Parsed.parsed b n) e = record { statements = b; end = n; same = refl }
reads_well (Parsed.refused r) e = let no : ◌≡◌ {A = ℕ} 0 1 = cc in absurd (omega arith)

module _ {tree e c : Bytes} {t : List ℕ} {l : SessionLayout} (k : Checked tree e c t l) (bytes : AreBytes e) where
  -- the session, and what the tree reads as
  x : Opened e l
  x = opened e bytes k.lengths.session k.layout

  well : ReadsWell (read_tree tree)
  well = reads_well (read_tree tree) k.good

  -- the layout's numbers are within the limits
  pub layout_small : Small l
  layout_small = opened_small x

  -- the session's names
  pub names_stand : HasNames e l.words_end
  names_stand = opened_names x

  module _ {end : ℕ} {t₁ : List ℕ} (ends : end ≡ after e l.words_end) (begun : Starts e l.words_end end t t₁) {s : Memory.State} (first : s ≡ start_state l) where
    begun_at : Starts e l.words_end l.names_end t t₁
    begun_at = subst (λ n. Starts e l.words_end n t t₁) (ends ∙ opened_after x) begun

    -- the table area stands well for the walk
    pub walk_fine : length t₁ ≡ length t → FineState tree (rest e t₁) s
    walk_fine n = rw first (started_fine x begun_at tree (n ∙ k.lengths.table))

    -- how it ended
    pub walk_ended : {c' e' : Bytes} {t' : List ℕ} (r : Walked) → Walks tree (ReadsTree tree) (walk_stmts machine) c c' (rest e t₁) (rest e' t') (Ok s) r → WalkEnded tree e c' e' t' l r
    walk_ended {c'} {e'} {t'} r w =
        ended_so x begun_at c k.lengths.code tree well.statements well.end well.same r
        (subst (λ s. Walks tree (ReadsTree tree) (walk_stmts machine) c c' (rest e t₁) (rest e' t') (Ok s) r) first w)

-- zeros over what was added, and the refusal
pub halted_result : (tree e : Bytes) {e' : Bytes} {l : SessionLayout} {q : Refusal} {s : Memory.State} → Halted tree e e' l q s → {b : Bytes} → b ≡ sets e' l.pool_end (replicate (s.pool_end - l.pool_end) 0)
    → (o : Bytes) → record { answer = Err q; session = b; output = o } ≡ call_result tree e o
halted_result tree e {q = q} h k o = (λ i. refused_result ((k ∙ h.restores) i) o q) ∙ sym (h.same o)
