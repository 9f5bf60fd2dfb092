-- A run through an If: one branch is taken, and the other is passed over.
use Rattle.std.proofs.Common.{◌≡◌, ℕ, ◌+◌, Bool, true, false, List, ◌∷◌, ◌++◌, sym, refl, ap, ◌∙◌, subst, subst₂, arith}
use Rattle.definition.specs.Basic.{pick}
use Rattle.definition.specs.Opcode.{Instr, instr, op_jump_not_truthy, op_jump}
use Rattle.definition.specs.Bytecode.{Code, size_of, Const}
use Rattle.trial.specs.Value.{Value, Globals, truthy}
use Rattle.trial.specs.Run.{frame, Run, come_to, pass}
use Rattle.trial.specs.Evaluate.{Evaluated, and_then}
use Rattle.definition.proofs.Emits.{size_of-append}
use Rattle.definition.proofs.Account.{after_jump, if_code}
use Rattle.trial.proofs.Passes.{comes, leaves_out, pass-over, pass_if}
use Rattle.trial.proofs.Meets.{Meets, Keeps, keeps_then, keeps_pass, keeps_come, meets_then, meets_after, Gives}

-- the code of a condition, of a branch and of the other, from a position
module _ (pool : List Const) (at : ℕ) (c d e : Code) where
  -- where the branch begins
  abbrev branch : ℕ
  branch = after_jump at c

  -- the branch's end
  abbrev branch_end : ℕ
  branch_end = branch + size_of d

  -- where the other begins
  abbrev other : ℕ
  other = after_jump branch d

  -- where it ends
  abbrev end : ℕ
  end = other + size_of e

  -- the jump behind the condition
  abbrev test : Instr
  test = instr op_jump_not_truthy other 0

  -- the jump behind the branch
  abbrev leap : Instr
  leap = instr op_jump end 0

  -- from the branch's end
  abbrev from_end : Run → Run
  from_end s = pass pool other e (come_to pool branch_end leap s)

  -- from the condition's end
  abbrev from_test : Run → Run
  from_test s = from_end (pass pool branch d (come_to pool (at + size_of c) test s))

  -- a run that ended stays as it is
  keeps_end : Keeps from_end
  keeps_end = keeps_then (keeps_come pool branch_end leap) (keeps_pass pool other e)

  -- from the test, too
  keeps_test : Keeps from_test
  keeps_test = keeps_then (keeps_come pool (at + size_of c) test) (keeps_then (keeps_pass pool branch d) keeps_end)

  -- behind the branch, the other is passed over
  leaps-over : (us : List Value) (h : Globals) (m : ℕ) → from_end (Run.on (frame branch_end us h m)) ≡ Run.on (frame end us h (m + 1))
  leaps-over us h m = ap (pass pool other e) (comes pool branch_end leap (frame branch_end us h m) refl) ∙ pass-over pool other e (frame end us h (m + 1)) (omega arith)

  -- before the other, the branch is
  left_out : (us : List Value) (h : Globals) (m : ℕ) → from_end (pass pool branch d (Run.on (frame other us h m))) ≡ pass pool other e (Run.on (frame other us h m))
  left_out us h m =
      ap from_end (pass-over pool branch d (frame other us h m) (omega arith)) ∙ ap (pass pool other e) (leaves_out pool branch_end leap (frame other us h m) (λ (q : other ≡ branch_end). omega arith))

  -- the branch is taken
  taken : {st : List Value} {h : Globals} {m : ℕ} {r : Evaluated Value} → Gives pool branch d st st h m r → Meets end st (from_end (pass pool branch d (Run.on (frame branch st h m)))) r
  taken {st} a = meets_after from_end keeps_end a.meets (λ v h m. subst (λ s. Meets end st s (Evaluated.on v h)) (sym (leaps-over (v ∷ st) h m)) Meets.on)

  -- by the condition's value
  pub chosen_gives : {st : List Value} {g : Globals} {n : ℕ} {r : Evaluated Value} {x y : Globals → Evaluated Value} → Gives pool at c st st g n r
      → ((h : Globals) (m : ℕ) → Gives pool branch d st st h m (x h)) → ((h : Globals) (m : ℕ) → Gives pool other e st st h m (y h))
      → Gives pool at (if_code at c d e) st st g n (and_then r (λ v h. pick (truthy v) (x h) (y h)))
  chosen_gives {st} {g} {n} {r} {x} {y} a yes₁ no₁ =
      record { meets = subst₂ (λ (p : ℕ) (s : Run). Meets p st s (and_then r (λ v h. pick (truthy v) (x h) (y h)))) ends (sym (pass_if pool at c d e (Run.on (frame at st g n)))) (meets_then from_test keeps_test a.meets (λ v h m. go v h m (truthy v) refl)) }
    where
      ends : end ≡ at + size_of (if_code at c d e)
      ends = let p = size_of-append e (leap ∷ (d ++ test ∷ c)) in let q = size_of-append d (test ∷ c) in omega arith

      go : (v : Value) (h : Globals) (m : ℕ) (b : Bool) → truthy v ≡ b → Meets end st (from_test (Run.on (frame (at + size_of c) (v ∷ st) h m))) (pick (truthy v) (x h) (y h))
      go v h m true q =
          subst₂ (λ (s : Run) (b : Bool). Meets end st (from_end (pass pool branch d s)) (pick b (x h) (y h)))
          (sym (comes pool (at + size_of c) test (frame (at + size_of c) (v ∷ st) h m) refl ∙ (λ j. Run.on (frame (pick (q j) branch other) st h (m + 1))))) (sym q) (taken (yes₁ h (m + 1)))
      go v h m false q =
          subst₂ (λ (s : Run) (b : Bool). Meets end st (from_end (pass pool branch d s)) (pick b (x h) (y h)))
          (sym (comes pool (at + size_of c) test (frame (at + size_of c) (v ∷ st) h m) refl ∙ (λ j. Run.on (frame (pick (q j) branch other) st h (m + 1))))) (sym q)
          (subst (λ s. Meets end st s (y h)) (sym (left_out st h (m + 1))) (no₁ h (m + 1)).meets)
