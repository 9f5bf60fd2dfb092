-- Number 13 never arises: no tree is refused with it in any session, by any compile call, in Rattle or at C.
use Prim.Native.Nat.{ℕ, ◌+◌, ◌/◌, ◌≤◌}
use native.Mathlib.Omega.{arith}
use mathlib.Core.Bool.{Bool, true, false}
use mathlib.Core.List.{List}
use mathlib.Core.Path.{◌≡◌, refl, sym, ap, subst, ◌∙◌}
use lib.ListN.{length, take}
use lib.Dec.{leb}
use Rattle.std.specs.Prelude.{Ok, Err}
use Rattle.definition.specs.Basic.{Bytes, pick}
use Rattle.definition.specs.Limit.{session_size, tree_limit}
use Rattle.definition.specs.Number
use Rattle.definition.specs.Number.{refusal, number_of, tree_numbers}
use Rattle.definition.specs.Syntax.{Stmts}
use Rattle.definition.specs.Bytecode.{Image, size_of, image_bytes}
use Rattle.definition.specs.Walk.{Res, walk_stmts}
use Rattle.definition.specs.Compiler.{State, machine}
use Rattle.definition.specs.Tree.{Parsed, read_tree}
use Rattle.definition.specs.Session.{Session}
use Rattle.definition.specs.Decode.{Decoded, decoded, malformed, read_session}
use Rattle.definition.specs.Compile.{Outcome, Step, Request, start, image_of, session_of, turned_down, finish, translate, enough, compile}
use Rattle.definition.specs.Call.{Lent, Called, answered, in_session, request, call}
use Rattle.definition.specs.declared.reason.Refusal.{Refusal}
use Rattle.definition.specs.Answer.{Answer}
use Rattle.definition.proofs.Basic.{chosen}
use Rattle.definition.proofs.Numbers.{below}
use Rattle.definition.proofs.ReadPlaces.{PlacedParsed, read-places}
use Rattle.definition.proofs.ReadWellFormed.{read_well_formed}
use Rattle.records.specs.Call.{Recorded, call_records}
use Rattle.records.specs.declared.Record.{Record}
use Rattle.records.proofs.Logged.{CallAgrees, call_agrees}
use Rattle.names.specs.Promise.{call_names, blanks}
use Rattle.exported.specs.Packed.{half_bound, high, of_halves, CompilesPacked}
use Rattle.exported.proofs.Fits.{told}
use Rattle.exported.specs.Named.{names_answer, NamesPacked}
use Rattle.promises.proofs.Charged.{read_charged}
use Rattle.promises.proofs.Thirteen.{walk_not_13, walk_code}

-- an image, or a refusal that is not 13
data Fine : Outcome → Type 0 where
  accepted : {o : Outcome} → ((q : Refusal) → o ≡ Outcome.refused q → ⊥) → Fine o
  refused : {q : Refusal} → (number_of q.reason ≡ number_of Number.code → ⊥) → Fine (Outcome.refused q)

finish_fine : (output : ℕ) (z : Session) (x : Res State (Unit {0}))
    → ((r : Refusal) (s : State) → x ≡ Res.stop r s → number_of r.reason ≡ number_of Number.code → ⊥) → Fine (finish output z x).outcome
finish_fine output z (Res.on a s) h =
    chosen (λ (x : Step). Fine x.outcome) (leb (length (image_bytes (image_of s))) output)
    (λ _. Fine.accepted (λ q e. let i : ◌≡◌ {A = ℕ} 0 1 = cc in omega arith)) (λ _. Fine.refused {q = refusal Number.output_short 0} (λ e. omega arith))
finish_fine output z (Res.stop r s) h = Fine.refused (h r s refl)

compile_fine : (z : Session) (c : Request) → Fine (compile z c).outcome
unfolding compile
compile_fine z c =
    chosen (λ (x : Step). Fine x.outcome) (enough c) (λ _. go (read_tree c.tree) refl (read-places c.tree tree_limit (λ h. h))) (λ _. Fine.refused {q = refusal Number.short_buffer 0} (λ e. omega arith))
  where
    go : (p : Parsed Stmts) → read_tree c.tree ≡ p → PlacedParsed tree_limit p → Fine (translate c.output z p).outcome
    go (Parsed.parsed b n) e h =
        let k = read_charged c.tree e in
        finish_fine c.output z (walk_stmts machine b (start z)) (λ r s x. walk_not_13 b (start z) (read_well_formed c.tree b n e) (omega (arith, k.bytes, k.short)) x)
    go (Parsed.refused q) e (PlacedParsed.refused number place t h) = Fine.refused {q = refusal number place} (λ i. let l = below tree_numbers 5 tt (number_of number) t in omega arith)

-- No tree is refused with 13, in any session, whatever is lent
pub no_tree_is_13 : (z : Session) (c : Request) (p : ℕ) → (compile z c).outcome ≡ Outcome.refused (refusal Number.code p) → ⊥
no_tree_is_13 z c p e = go (compile_fine z c) e
  where
    go : {o : Outcome} → Fine o → o ≡ Outcome.refused (refusal Number.code p) → ⊥
    go (Fine.accepted h) e = h (refusal Number.code p) e
    go (Fine.refused {q} h) e = let i : q ≡ refusal Number.code p = cc in h (ap (λ (q : Refusal). number_of q.reason) i)

-- and the main code of an accepted tree is shorter than the tree, by the Program's head at least
pub code_within_tree : (z : Session) (c : Request) (m : Image) → (compile z c).outcome ≡ Outcome.accepted m
    → size_of m.code + 3 ≤ length c.tree
unfolding compile
code_within_tree z c m e = enoughly (enough c) e
  where
    by : {b : Stmts} {n : ℕ} → read_tree c.tree ≡ Parsed.parsed b n → (x : Res State (Unit {0})) → walk_stmts machine b (start z) ≡ x
        → (finish c.output z x).outcome ≡ Outcome.accepted m → size_of m.code + 3 ≤ length c.tree
    by {b} {n} r (Res.on tt s) w e =
        let k = read_charged c.tree r in
        let l = walk_code b (start z) (read_well_formed c.tree b n r) (omega (arith, k.bytes, k.short)) w in
        roomy (leb (length (image_bytes (image_of s))) c.output) e (omega (arith, k.bytes))
      where
        roomy : (x : Bool) → (pick x (record { outcome = Outcome.accepted (image_of s); session = session_of s }) (turned_down z (refusal Number.output_short 0))).outcome ≡ Outcome.accepted m → size_of s.code + 3 ≤ length c.tree → size_of m.code + 3 ≤ length c.tree
        roomy true e h = let i : image_of s ≡ m = cc in subst (λ (m : Image). size_of m.code + 3 ≤ length c.tree) i h
        roomy false e h = let i : ◌≡◌ {A = ℕ} 0 1 = cc in absurd (omega arith)
    by r (Res.stop q s) w e = let i : ◌≡◌ {A = ℕ} 0 1 = cc in absurd (omega arith)

    go : (p : Parsed Stmts) → read_tree c.tree ≡ p → (translate c.output z p).outcome ≡ Outcome.accepted m
        → size_of m.code + 3 ≤ length c.tree
    go (Parsed.parsed b n) r e = by r (walk_stmts machine b (start z)) refl e
    go (Parsed.refused q) r e = let i : ◌≡◌ {A = ℕ} 0 1 = cc in absurd (omega arith)

    enoughly : (x : Bool)
        → (pick x (translate c.output z (read_tree c.tree)) (turned_down z (refusal Number.short_buffer 0))).outcome ≡ Outcome.accepted m
        → size_of m.code + 3 ≤ length c.tree
    enoughly true e = go (read_tree c.tree) refl e
    enoughly false e = let i : ◌≡◌ {A = ℕ} 0 1 = cc in absurd (omega arith)

-- an answer that is not 13
abbrev Not13 : Answer → Type 0
Not13 a = (p : ℕ) → a ≡ Err (refusal Number.code p) → ⊥

-- of a whole call
pub no_call_is_13 : (tree : Bytes) (l : Lent) (p : ℕ) → (call tree l).answer ≡ Err (refusal Number.code p) → ⊥
unfolding call
no_call_is_13 tree l =
    chosen (λ (c : Called). Not13 c.answer) (enough (request l tree)) (λ _. opened (read_session (take session_size l.session))) (λ _ p e. let i : ◌≡◌ {A = ℕ} 1 13 = ap high e in omega arith)
  where
    by : (z s : Session) (o : Outcome) → (compile z (request l tree)).outcome ≡ o → Not13 (answered l s o).answer
    by z s (Outcome.accepted m) f p e = let i : ◌≡◌ {A = ℕ} 0 1 = cc in omega arith
    by z s (Outcome.refused q) f p e =
        let i : q ≡ refusal Number.code p = cc in no_tree_is_13 z (request l tree) p (f ∙ ap Outcome.refused i)

    opened : (d : Decoded Session) → Not13 (in_session l tree d).answer
    opened (decoded z n) = by z (compile z (request l tree)).session (compile z (request l tree)).outcome refl
    opened (malformed q) = λ p e. let i : ◌≡◌ {A = ℕ} 2 13 = ap high e in omega arith

-- of a call with records
pub no_records_call_is_13 : (tree : Bytes) (l : Lent) (rs : List Record) (p : ℕ)
    → (call_records tree l rs).called.answer ≡ Err (refusal Number.code p) → ⊥
no_records_call_is_13 tree l rs p e = go (call_agrees tree l rs) e
  where
    go : {x : Recorded} → CallAgrees tree l rs x (call tree l) → x.called.answer ≡ Err (refusal Number.code p) → ⊥
    go (CallAgrees.refused q _) e = no_call_is_13 tree l p e
    go (CallAgrees.accepted new _ _ _) e = no_call_is_13 tree l p e
    go (CallAgrees.few _) e = let i : ◌≡◌ {A = ℕ} 18 13 = ap high e in omega arith

-- the high half of an answer that is not 13
not_13 : (a : Answer) → Not13 a → high a ≡ number_of Number.code → ⊥
not_13 (Ok n) h e = omega arith
not_13 (Err q) h e = h q.place (sym (told (Err q)).back ∙ ap (λ n. of_halves n q.place) e)

-- `monkey_compile`
pub monkey_not_13 : {tree : Bytes} {l l' : Lent} {r : ℕ} → CompilesPacked tree l r l' → r / half_bound ≡ number_of Number.code → ⊥
monkey_not_13 {tree} {l} k e = not_13 (call tree l).answer (no_call_is_13 tree l) (sym k.answer.number ∙ e)

-- `monkey_compile_names`
pub monkey_names_not_13 : {tree : Bytes} {l l' : Lent} {xs xs' : List ℕ} {r : ℕ} → NamesPacked tree l xs r l' xs'
    → r / half_bound ≡ number_of Number.code → ⊥
unfolding call_names
monkey_names_not_13 {tree} {l} {xs = xs} k e =
    let y = call_records tree l (blanks (length xs / 4)) in
    go y.called.answer y.count (no_records_call_is_13 tree l (blanks (length xs / 4))) (sym k.answer.number ∙ e)
  where
    go : (a : Answer) (n : ℕ) → Not13 a → high (names_answer a n) ≡ number_of Number.code → ⊥
    go (Ok j) n h e = omega arith
    go (Err q) n h e = not_13 (Err q) h e
