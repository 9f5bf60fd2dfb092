-- The loop that runs main: behind each instruction the code's state is the definition's run so far.
use Rattle.std.proofs.Common.{◌≡◌, ℕ, ◌+◌, ◌-◌, ◌<◌, ◌≤◌, true, List, [], ◌∷◌, length, get_or, sym, refl, ap, ◌∙◌, subst, arith, ltb-true}
use Rattle.definition.specs.Basic.{Bytes}
use Rattle.definition.specs.Limit.{globals_limit}
use Rattle.definition.specs.Opcode.{Instr, instr, size}
use Rattle.definition.specs.Bytecode.{Code, size_of, Const, Image}
use Rattle.definition.specs.Trusted.{Stands}
use Rattle.definition.specs.Effect.{takes, gives}
use Rattle.definition.proofs.Instructions.{code-count}
use Rattle.opcode.specs.Decoding.{instr_of}
use Rattle.opcode.specs.declared.Instruction.{Instruction}
use Rattle.opcode.proofs.EachInstruction.{ReadAt}
use Rattle.listing.specs.Reads.{CodeAt}
use Rattle.heights.specs.Judgement.{Reaches}
use Rattle.heights.proofs.Positions.{Behind, behind_it}
use Rattle.trial.specs.Value.{Globals}
use Rattle.trial.specs.Run.{Action, actions, runnable_as, Frame, frame, Run, execute, come_to, pass, Trial, trial_of, trial, unset_globals}
use Rattle.trial.specs.Cells.{Stacked, Keeping, stack_limit}
use Rattle.trial.specs.Machine.{Runs, StepReady, Step, went_on, goes_on, Framed, After, EndsAs, Safe}
use Rattle.trial.specs.declared.machine.State.{State}
use Rattle.std.specs.Prelude.{Result, Ok, Err}
use Rattle.std.specs.declared.ops.ControlFlow.TheVariants.{Break}
use Rattle.definition.specs.Number.{refusal}
use Rattle.definition.specs.declared.reason.Refusal.{Refusal}
use Rattle.trial.proofs.Passes.{comes_run, leaves_out, Within, pass_within}
use Rattle.trial.proofs.RunHeights.{KeepsHeight, execute_height}
use Rattle.trial.proofs.Memory.{stacked_length}
use Rattle.trial.proofs.ByByte.{runs}
use Rattle.trial.proofs.Producing.{known}
use Rattle.trial.proofs.CodeLoop as CodeLoop
use Rattle.definition.specs.declared.reason.Reason.{Reason}

-- where a run starts
abbrev begin : Run
begin = Run.on (frame 0 [] unset_globals 0)

-- what a step gave, by its answer
record Went (w : List ℕ) (t : State) (r : Run) : Type 0 where
  frame : Frame
  is : r ≡ Run.on frame
  framed : Framed w t frame

went : {w : List ℕ} {t : State} {p : ℕ} {a : Step} {r : Run} → After w t p a r → a ≡ went_on → Went w t r
went (After.on {f} h) e = record { frame = f; is = refl; framed = h }
went (After.returned {n = n} k) e = let z : ◌≡◌ {A = ℕ} 0 1 = cc in absurd (omega arith)
went (After.stopped {k = k}) e = let z : ◌≡◌ {A = ℕ} 0 1 = cc in absurd (omega arith)

record Came (w : List ℕ) (n : ℕ) (r : Run) : Type 0 where
  globals : Globals
  is : r ≡ Run.returned globals n
  keeping : Keeping w globals

came : {w : List ℕ} {s : State} {p : ℕ} {a : Step} {r : Run} {n : ℕ} → After w s p a r → a ≡ Ok (Break n) → Came w n r
came {n = n} (After.on {f} h) e = let z : ◌≡◌ {A = ℕ} 0 1 = cc in absurd (omega arith)
came {n = n} (After.returned {g} {n = k} q) e = let i : k ≡ n = cc in record { globals = g; is = ap (Run.returned g) i; keeping = q }
came {n = n} (After.stopped {k = k}) e = let z : ◌≡◌ {A = ℕ} 0 1 = cc in absurd (omega arith)

record Halted (p : ℕ) (q : Refusal) (r : Run) : Type 0 where
  reason : Reason
  is : r ≡ Run.stopped reason p
  refusal_is : q ≡ refusal reason (3 + p)

halted : {w : List ℕ} {s : State} {p : ℕ} {a : Step} {r : Run} {q : Refusal} → After w s p a r → a ≡ Err q → Halted p q r
halted {q = q} (After.on {f} h) e = let z : ◌≡◌ {A = ℕ} 0 1 = cc in absurd (omega arith)
halted {q = q} (After.returned {g} {n = k} h) e = let z : ◌≡◌ {A = ℕ} 0 1 = cc in absurd (omega arith)
halted {p = p} {q = q} (After.stopped {k = k}) e = record { reason = k; is = refl; refusal_is = cc }

-- of the one image
pub for_image : {w : List ℕ} {e : Result ℕ Refusal} {m n : Image} → m ≡ n → EndsAs w e (trial m) → EndsAs w e (trial n)
for_image {w} {e} q h = subst (λ (m : Image). EndsAs w e (trial m)) q h

-- the pass, one instruction more
pass_more : (pool : List Const) (i : Instr) (c : Code) (s : Run) → pass pool 0 (i ∷ c) s ≡ come_to pool (0 + size_of c) i (pass pool 0 c s)
unfolding pass
pass_more pool i c s = refl

pass_none : (pool : List Const) (s : Run) → pass pool 0 [] s ≡ s
unfolding pass
pass_none pool s = refl

keeps_on : {c : Code} {r : Run} {f : Frame} → KeepsHeight c r → r ≡ Run.on f → Reaches c f.at (length f.stack)
keeps_on {c} {f = f} (KeepsHeight.on {f = g} h) e = let q : g ≡ f = cc in subst (λ (f : Frame). Reaches c f.at (length f.stack)) q h
keeps_on {f = f} (KeepsHeight.returned {g} {n}) e = let z : ◌≡◌ {A = ℕ} 0 1 = cc in absurd (omega arith)
keeps_on {f = f} (KeepsHeight.stopped {k} {p}) e = let z : ◌≡◌ {A = ℕ} 0 1 = cc in absurd (omega arith)

within_on : {k : ℕ} {r : Run} {f : Frame} → Within k r → r ≡ Run.on f → f.steps ≤ k
within_on {f = f} (Within.on {f = g} h) e = let q : g.steps ≡ f.steps = ap (λ (f : Frame). f.steps) (let i : g ≡ f = cc in i) in omega arith
within_on {f = f} (Within.returned {g} {n} h) e = let z : ◌≡◌ {A = ℕ} 0 1 = cc in absurd (omega arith)
within_on {f = f} (Within.stopped {m} {p}) e = let z : ◌≡◌ {A = ℕ} 0 1 = cc in absurd (omega arith)

-- there is room for what an instruction puts: the next one, or main's end, is reached with it
module _ {pool : List Const} {c : Code} (safe : Safe pool c) where
  fits : {n : ℕ} (a b : ℕ) {p x : ℕ} → Runs n → Stands (instr n a b) p c → Reaches c p x → x + gives (instr n a b) ≤ stack_limit + takes (instr n a b)
  fits a b Runs.pop s r = let l = safe.low s r in let e : gives (instr 0x02 a b) ≡ 0 = refl in omega (arith, l, e)
  fits a b Runs.jump_not_truthy s r = let l = safe.low s r in let e : gives (instr 0x0D a b) ≡ 0 = refl in omega (arith, l, e)
  fits a b Runs.jump s r = let l = safe.low s r in let e : gives (instr 0x0E a b) ≡ 0 = refl in omega (arith, l, e)
  fits a b Runs.set_global s r = let l = safe.low s r in let e : gives (instr 0x11 a b) ≡ 0 = refl in omega (arith, l, e)
  fits a b Runs.return_value s r = let l = safe.low s r in let e : gives (instr 0x16 a b) ≡ 0 = refl in omega (arith, l, e)
  fits {n} a b {p} {x} (Runs.produces q) s r =
      let k = known q in
      let m = safe.enough s r in
      let g = k.gives_is a b in
      let y : ℕ = x + 1 - takes (instr n a b) in
      let t : Reaches c (p + size (instr n a b)) (x + 1 - takes (instr n a b)) = Reaches.next {y = x + 1 - takes (instr n a b)} r s (k.falls_is a b) (omega (arith, m, g)) in
      let l = low_there (behind_it s) t in
      omega (arith, m, g, l)
    where
      low_there : {t y : ℕ} → Behind c t → Reaches c t y → y ≤ stack_limit
      low_there (Behind.starts d) r = safe.low d r
      low_there {y = y} (Behind.ends e) r = let z = safe.ends (subst (λ t. Reaches c t y) e r) in omega (arith, z)

  global_below : (op a : ℕ) → runnable_as pool a (get_or actions op Action.other) ≡ true → op ≡ 0x10 → a < 1024
  global_below op a e q = ltb-true a globals_limit (sym (ap (λ o. runnable_as pool a (get_or actions o Action.other)) q) ∙ e)

  set_below : (op a : ℕ) → runnable_as pool a (get_or actions op Action.other) ≡ true → op ≡ 0x11 → a < 1024
  set_below op a e q = ltb-true a globals_limit (sym (ap (λ o. runnable_as pool a (get_or actions o Action.other)) q) ∙ e)

-- the loop
module _ (b : Bytes) (end : ℕ) (m : Image) (h : CodeAt b 3 end m.code) (safe : Safe m.pool m.code) where
  pub record RunLoop (w : List ℕ) (at : ℕ) (s : State) : Type 0 where
    pub code : Code
    pub behind : CodeLoop.Behind b end h code at
    pub frame : Frame
    pub run : pass m.pool 0 code begin ≡ Run.on frame
    pub framed : Framed w s frame
    pub reached : Reaches m.code frame.at (length frame.stack)

  pub run-begins : {w : List ℕ} → Keeping w unset_globals → RunLoop w 3 (goes_on 3 0 0)
  run-begins k =
      record {
        code = [];
        behind = CodeLoop.code-begins b end h;
        frame = frame 0 [] unset_globals 0;
        run = pass_none m.pool begin;
        framed = record { stands = refl; stack = Stacked.bottom; globals = k; steps = refl };
        reached = Reaches.start;
      }

module _ {b : Bytes} {end : ℕ} {m : Image} {h : CodeAt b 3 end m.code} {safe : Safe m.pool m.code} {w : List ℕ} {at : ℕ} {s : State}
    (l : RunLoop b end m h safe w at s) where
  -- at the same offset
  pub same : {at₁ : ℕ} → at ≡ at₁ → RunLoop b end m h safe w at₁ s
  same e = subst (λ at. RunLoop b end m h safe w at s) e l

  -- at the end
  pub run_ends : end ≤ at → EndsAs w (Ok s.steps) (trial m)
  run_ends g =
      let q = CodeLoop.code_ends l.behind g in
      let t : trial m ≡ Trial.ran l.frame.globals s.steps = ap trial_of (ap (λ c. pass m.pool 0 c begin) (sym q) ∙ l.run) ∙ ap (Trial.ran l.frame.globals) (sym l.framed.steps) in
      subst (EndsAs w (Ok s.steps)) (sym t) (EndsAs.ran l.framed.globals)

  pub few_steps : end ≤ 65536 → s.steps ≤ 131072
  few_steps g =
      let n = within_on (pass_within {k = 0} m.pool 0 l.code (Within.on {f = frame 0 [] unset_globals 0} (omega arith))) l.run in
      omega (arith, n, code-count l.code, l.behind.size_is, l.behind.order, l.framed.steps)

  module _ {i : Instruction} {after : ℕ} (r : ReadAt b end at i after) where
    -- an instruction that a jump left out
    pub run-over : (at ≡ s.next → ⊥) → RunLoop b end m h safe w after s
    run-over n =
        record {
          code = instr_of i ∷ l.code;
          behind = (CodeLoop.turn l.behind r).behind;
          frame = l.frame;
          run = pass_more m.pool (instr_of i) l.code begin ∙ ap (come_to m.pool (0 + size_of l.code) (instr_of i)) l.run ∙ leaves_out m.pool (0 + size_of l.code) (instr_of i) l.frame (λ e. n (omega (arith, l.behind.size_is, l.framed.stands)));
          framed = l.framed;
          reached = l.reached;
        }

    -- one that the run stands before
    module _ (here : at ≡ s.next) where
      position : size_of l.code ≡ l.frame.at
      position = omega (arith, l.behind.size_is, l.framed.stands)

      stands_here : Stands (instr_of i) l.frame.at m.code
      stands_here = subst (λ p. Stands (instr_of i) p m.code) position (CodeLoop.stands l.behind r)

      executed : pass m.pool 0 (instr_of i ∷ l.code) begin ≡ execute m.pool (instr_of i) l.frame
      executed = pass_more m.pool (instr_of i) l.code begin ∙ comes_run m.pool (0 + size_of l.code) (instr_of i) l.frame l.run (omega (arith, position))

      pub run_next : after ≡ 3 + (l.frame.at + size (instr_of i))
      run_next = omega (arith, (CodeLoop.turn l.behind r).sized, position, l.behind.size_is)

      module _ {w₁ : List ℕ} {t : State} {a : Step} (x : After w₁ t l.frame.at a (execute m.pool (instr_of i) l.frame)) where
        pub run_again : a ≡ went_on → RunLoop b end m h safe w₁ after t
        run_again e =
            let g = went x e in
            record {
              code = instr_of i ∷ l.code;
              behind = (CodeLoop.turn l.behind r).behind;
              frame = g.frame;
              run = executed ∙ g.is;
              framed = g.framed;
              reached = keeps_on (execute_height m.pool (record { there = λ s r. safe.enough s r }) (instr_of i) l.frame stands_here l.reached) g.is;
            }

        pub run_returns : {n : ℕ} → a ≡ Ok (Break n) → EndsAs w₁ (Ok n) (trial m)
        run_returns {n} e =
            let g = came x e in
            let q = CodeLoop.rest l.behind r (λ c. pass m.pool 0 c begin ≡ Run.returned g.globals n) (λ x xs p. pass_more m.pool x xs begin ∙ ap (come_to m.pool (0 + size_of xs) x) p) (executed ∙ g.is) in
            subst (EndsAs w₁ (Ok n)) (sym (ap trial_of q)) (EndsAs.ran g.keeping)

        pub run_stops : {q : Refusal} → a ≡ Err q → EndsAs w₁ (Err q) (trial m)
        run_stops {q} e =
            let g = halted x e in
            let d = CodeLoop.rest l.behind r (λ c. pass m.pool 0 c begin ≡ Run.stopped g.reason l.frame.at) (λ x xs p. pass_more m.pool x xs begin ∙ ap (come_to m.pool (0 + size_of xs) x) p) (executed ∙ g.is) in
            subst (λ q. EndsAs w₁ (Err q) (trial m)) (sym g.refusal_is) (subst (EndsAs w₁ (Err (refusal g.reason (3 + l.frame.at)))) (sym (ap trial_of d)) EndsAs.stopped)

      -- the step can be made
      pub step_ready : end ≤ 65536 → StepReady (instr_of i) after s × Runs i.op
      step_ready g =
          let e = stacked_length l.framed.stack in
          let o = safe.runs stands_here in
          let v = runs m.pool i.operand i.op o in
          let t = (CodeLoop.turn l.behind r).within in (
            record {
              room =
                  record {
                    enough = omega (arith, e, safe.enough stands_here l.reached);
                    low = omega (arith, e, safe.low stands_here l.reached);
                    fits = omega (arith, e, fits safe i.operand i.captures v stands_here l.reached);
                    global = global_below safe i.op i.operand o;
                    global_set = set_below safe i.op i.operand o;
                  };
              near = omega arith;
              few = few_steps g;
            },
            v,
          )
