-- Going over main: number 27, and the globals named.
use Rattle.std.proofs.Common.{◌≡◌, ℕ, ◌+◌, ◌<◌, ◌≤◌, Bool, true, false, ltb, leb, List, [], ◌∷◌, get_or, sym, refl, ap, ◌∙◌, subst, arith, ltb-true, le-leb, leb-true}
use Rattle.std.specs.Prelude.{Option, None as none, Some as some, Result, Ok, Err}
use Rattle.definition.specs.declared.reason.Refusal.{Refusal}
use Rattle.opcode.specs.Decoding.{instr_of}
use Rattle.opcode.specs.declared.Instruction.{Instruction}
use Rattle.opcode.proofs.EachInstruction.{ReadAt}
use borrow.Author.Tests.{lt-leb}
use Rattle.definition.specs.Basic.{Bytes, pick, both}
use Rattle.definition.specs.Opcode.{Instr}
use Rattle.definition.specs.Bytecode.{Code, size_of, Const, Image}
use Rattle.definition.specs.Trusted.{Stands}
use Rattle.definition.specs.Limit.{globals_limit}
use Rattle.definition.proofs.Basic.{both_left, both_right, chosen}
use Rattle.listing.specs.Reads.{CodeAt}
use Rattle.heights.specs.Pass.{Marks}
use Rattle.heights.specs.Marks.{marks_from}
use Rattle.trial.specs.Run.{Action, push, combine, change, constant, pop, jump_not_truthy, jump, get_global, set_global, return_value, other, or_else, action_of, runnable_as, runnable}
use Rattle.trial.specs.Output.{names_as, named_globals}
use Rattle.trial.specs.Cells.{stack_limit}
use Rattle.trial.specs.Call.{taken, first_refused, scan_answer}
use Rattle.definition.specs.Number.{refusal}
use Rattle.definition.specs.Number
use Rattle.trial.proofs.CodeLoop.{Behind, code-begins, code_ends, turn, rest}

module _ (pool : List Const) (f : Marks) where
  pub refused_more : (i : Instr) (c : Code) → first_refused pool f (i ∷ c) ≡ or_else (first_refused pool f c) (pick (taken pool f (size_of c) i) none (some (size_of c)))
  unfolding first_refused
  refused_more i c = refl

  pub refused_none : first_refused pool f [] ≡ none
  unfolding first_refused
  refused_none = refl

  -- the first stays the first
  pub refused_stays : {p : ℕ} (i : Instr) (c : Code) → first_refused pool f c ≡ some p → first_refused pool f (i ∷ c) ≡ some p
  refused_stays i c e = refused_more i c ∙ ap (λ o. or_else o (pick (taken pool f (size_of c) i) none (some (size_of c)))) e

  -- the next one, behind some that are taken
  pub refused_next : (b : Bool) (i : Instr) (c : Code) → first_refused pool f c ≡ none → taken pool f (size_of c) i ≡ b → first_refused pool f (i ∷ c) ≡ pick b none (some (size_of c))
  refused_next b i c e t = refused_more i c ∙ (λ j. or_else (e j) (pick (t j) none (some (size_of c))))

  -- none refused: all are taken
  pub all_taken : (c : Code) → first_refused pool f c ≡ none → {i : Instr} {p : ℕ} → Stands i p c → taken pool f p i ≡ true
  all_taken [] e s = elim s [ ]
  all_taken (i ∷ c) e (Stands.last) = go (first_refused pool f c) (taken pool f (size_of c) i) (sym (refused_more i c) ∙ e)
    where
      go : (o : Option ℕ) (b : Bool) → or_else o (pick b none (some (size_of c))) ≡ none → b ≡ true
      go (some p) b e = let z : ◌≡◌ {A = ℕ} 0 1 = cc in absurd (omega arith)
      go none true e = refl
      go none false e = let z : ◌≡◌ {A = ℕ} 0 1 = cc in absurd (omega arith)
  all_taken (i ∷ c) e (Stands.before s) = all_taken c (go (first_refused pool f c) (sym (refused_more i c) ∙ e)) s
    where
      go : (o : Option ℕ) → or_else o (pick (taken pool f (size_of c) i) none (some (size_of c))) ≡ none → o ≡ none
      go (some p) e = let z : ◌≡◌ {A = ℕ} 0 1 = cc in absurd (omega arith)
      go none e = refl

  pub taken_runs : (p : ℕ) (i : Instr) → taken pool f p i ≡ true → runnable pool i ≡ true
  taken_runs p i e = both_left (runnable pool i) (leb (f p) (2 + stack_limit)) e

  pub taken-low : (p : ℕ) (i : Instr) → taken pool f p i ≡ true → f p ≤ 2 + stack_limit
  taken-low p i e = leb-true (f p) (2 + stack_limit) (both_right (runnable pool i) (leb (f p) (2 + stack_limit)) e)

-- names
named_more : (i : Instr) (c : Code) → named_globals (i ∷ c) ≡ names_as (named_globals c) i.a (action_of i)
unfolding named_globals
named_more i c = refl

named_none : named_globals [] ≡ 0
unfolding named_globals
named_none = refl

-- where all are taken, the indices are below 1,024
names-below : (pool : List Const) (n k : ℕ) (a : Action) → n ≤ 1024 → runnable_as pool k a ≡ true → names_as n k a ≤ 1024
names-below pool n k (push v) h e = h
names-below pool n k (combine o) h e = h
names-below pool n k (change o) h e = h
names-below pool n k constant h e = h
names-below pool n k pop h e = h
names-below pool n k jump_not_truthy h e = h
names-below pool n k jump h e = h
names-below pool n k get_global h e = chosen (λ x. x ≤ 1024) (ltb k n) (λ _. h) (λ _. let l = ltb-true k globals_limit e in omega arith)
names-below pool n k set_global h e = chosen (λ x. x ≤ 1024) (ltb k n) (λ _. h) (λ _. let l = ltb-true k globals_limit e in omega arith)
names-below pool n k return_value h e = h
names-below pool n k other h e = h

pub named_small : (pool : List Const) (f : Marks) (c : Code) → first_refused pool f c ≡ none → named_globals c ≤ 1024
named_small pool f c e = go c (λ i p s. taken_runs pool f p i (all_taken pool f c e s))
  where
    go : (d : Code) → ((i : Instr) (p : ℕ) → Stands i p d → runnable pool i ≡ true) → named_globals d ≤ 1024
    go [] h = omega (arith, named_none)
    go (i ∷ d) h = let l = names-below pool (named_globals d) i.a (action_of i) (go d (λ j p s. h j p (Stands.before s))) (h i (size_of d) Stands.last) in omega (arith, named_more i d, l)

-- what a scan answers of an image
abbrev pub scanned : List ℕ → Image → Result ℕ Refusal
scanned l m = scan_answer (first_refused m.pool (marks_from l 3) m.code) (named_globals m.code)

-- the loop
module _ (b : Bytes) (end : ℕ) (l : List ℕ) (m : Image) (h : CodeAt b 3 end m.code) where
  pub record ScanLoop (at names : ℕ) : Type 0 where
    pub code : Code
    pub behind : Behind b end h code at
    pub clear : first_refused m.pool (marks_from l 3) code ≡ none
    pub names_are : names ≡ named_globals code

  pub scan_begins : ScanLoop 3 0
  scan_begins = record { code = []; behind = code-begins b end h; clear = refused_none m.pool (marks_from l 3); names_are = sym named_none }

module _ {b : Bytes} {end : ℕ} {l : List ℕ} {m : Image} {h : CodeAt b 3 end m.code} {at names : ℕ} (s : ScanLoop b end l m h at names) where
  -- at the same offset
  pub same : {at₁ : ℕ} → at ≡ at₁ → ScanLoop b end l m h at₁ names
  same e = subst (λ at. ScanLoop b end l m h at names) e s

  pub scan_ends : end ≤ at → Ok names ≡ scanned l m
  scan_ends g =
      let q = code_ends s.behind g in
      ap Ok (s.names_are ∙ ap named_globals q) ∙ sym (ap (λ o. scan_answer o (named_globals m.code)) (ap (first_refused m.pool (marks_from l 3)) (sym q) ∙ s.clear))

  marks-at : get_or l at 0 ≡ marks_from l 3 (size_of s.code)
  marks-at = ap (λ n. get_or l n 0) (sym s.behind.size_is)

  module _ {i : Instruction} {after : ℕ} (r : ReadAt b end at i after) where
    refuses : taken m.pool (marks_from l 3) (size_of s.code) (instr_of i) ≡ false → Err (refusal Number.not_runnable at) ≡ scanned l m
    refuses t =
        let o = rest s.behind r (λ c. first_refused m.pool (marks_from l 3) c ≡ some (size_of s.code)) (λ x xs p. refused_stays m.pool (marks_from l 3) x xs p) (refused_next m.pool (marks_from l 3) false (instr_of i) s.code s.clear t) in
        ap (λ p. Err (refusal Number.not_runnable p)) (sym s.behind.size_is) ∙ sym (ap (λ o. scan_answer o (named_globals m.code)) o)

    pub not-runnable : runnable m.pool (instr_of i) ≡ false → Err (refusal Number.not_runnable at) ≡ scanned l m
    not-runnable e = refuses (ap (λ b. both b (leb (marks_from l 3 (size_of s.code)) (2 + stack_limit))) e)

    pub too_high : runnable m.pool (instr_of i) ≡ true → 1026 < get_or l at 0 → Err (refusal Number.not_runnable at) ≡ scanned l m
    too_high e g = refuses (λ j. both (e j) (lt-leb (marks_from l 3 (size_of s.code)) (2 + stack_limit) (omega (arith, marks-at)) j))

    pub scan_again : {names₁ : ℕ} → runnable m.pool (instr_of i) ≡ true → get_or l at 0 ≤ 1026 → names₁ ≡ names_as names i.operand (action_of (instr_of i)) → ScanLoop b end l m h after names₁
    scan_again e k n =
        record {
          code = instr_of i ∷ s.code;
          behind = (turn s.behind r).behind;
          clear = refused_next m.pool (marks_from l 3) true (instr_of i) s.code s.clear (λ j. both (e j) (le-leb (marks_from l 3 (size_of s.code)) (2 + stack_limit) (omega (arith, marks-at)) j));
          names_are = n ∙ ap (λ n. names_as n i.operand (action_of (instr_of i))) s.names_are ∙ sym (named_more (instr_of i) s.code);
        }
