-- A check that agrees with a reading, and the steps of readers that keep that.
use Prim.Native.Nat.{ℕ, ◌+◌, ◌≤◌, ◌<◌}
use mathlib.Core.Bool.{Bool, true, false}
use mathlib.Core.Option.{none}
use mathlib.Core.Path.{◌≡◌, refl, sym, ap, ◌∙◌}
use lib.Dec.{leb}
use borrow.Author.Tests.{leb-true, lt-ltb, le-ltb}
use Rattle.definition.specs.Basic.{pick, both}
use Rattle.definition.specs.Limit.{level_limit}
use Rattle.definition.specs.Field.{Head, fits, head}
use Rattle.definition.specs.Tree.{Read, seq, read, fault, met, head_at, Parsed, judged}
use Rattle.definition.specs.declared.reason.Refusal.{Refusal}
use Rattle.definition.proofs.ReadShape.{judged-seq, judged-met}
use Rattle.definition.proofs.ReadShape as reading
use Rattle.definition.proofs.Basic.{both_true}
use Rattle.tree.specs.Grammar.{Kind, good_head, good_own}
use Rattle.tree.specs.Check.{Checked, Good, verdict, and_then, bad_tree, too_deep, next, good_field}
use Rattle.std.specs.Prelude.{Err}

-- both are right, the reading up to `n`, which is not past `end`; or both refuse alike
pub data Same {A : Type 0} (n end : ℕ) : Parsed A → Checked → Type 0 where
  good : {a : A} {m : ℕ} → m ≡ n → n ≤ end → Same n end (Parsed.parsed a m) Good
  bad : {r : Refusal} → Same n end (Parsed.refused r) (Err r)

-- a reading and a check
pub record Agrees {A : Type 0} (n end : ℕ) (x : Read A) (c : Checked) : Type 0 where
  pub same : Same n end (judged x) c

-- the check is the reading's verdict
pub agrees_verdict : {A : Type 0} {n end : ℕ} {x : Read A} {c : Checked} → Agrees n end x c → c ≡ verdict (judged x)
agrees_verdict h = go h.same
  where
    go : {A : Type 0} {n end : ℕ} {p : Parsed A} {c : Checked} → Same n end p c → c ≡ verdict p
    go (good e l) = refl
    go bad = refl

-- what is right up to `n`
pub agrees_good : {A : Type 0} {m n end : ℕ} {a : A} {l : ℕ → Bool} → m ≡ n → n ≤ end → Agrees n end (Read.ok a m none l) Good
agrees_good e h = record { same = good e h }

-- what is wrong
pub agrees_fault : {A : Type 0} {n end : ℕ} (p : ℕ) → Agrees n end (fault {A = A} p) (bad_tree p)
agrees_fault p = record { same = bad }

-- a nearer end
pub agrees_within : {A : Type 0} {n end : ℕ} {x : Read A} {c : Checked} → n ≤ end → Agrees n n x c → Agrees n end x c
agrees_within {A} {n} {end} h a = record { same = go a.same }
  where
    go : {p : Parsed A} {c : Checked} → Same n n p c → Same n end p c
    go (good e l) = good e h
    go bad = bad

-- one step, and then another
same_then : {A B : Type 0} {n end m z : ℕ} {p : Parsed A} {c d : Checked} {k : A → ℕ → Parsed B}
    → Same n end p c → ((a : A) (i : ℕ) → i ≡ n → n ≤ end → Same m z (k a i) d) → Same m z (reading.and_then p k) (and_then c d)
same_then (good {a = a} {m = i} e h) f = f a i e h
same_then bad f = bad

-- a sequence
pub agrees_seq : {A B : Type 0} {n end m z : ℕ} {x : Read A} {c d : Checked} {k : A → ℕ → Read B}
    → Agrees n end x c → ((a : A) (i : ℕ) → i ≡ n → n ≤ end → Agrees m z (k a i) d) → Agrees m z (seq x k) (and_then c d)
agrees_seq {x = x} {k = k} h f = record { same = rw (judged-seq x k) (same_then h.same (λ a i e l. (f a i e l).same)) }

-- something else is made of what was read
pub agrees_map : {A B : Type 0} {n end : ℕ} {x : Read A} {c : Checked} (g : A → B) → Agrees n end x c → Agrees n end (seq x (λ a i. read (g a) i)) c
agrees_map {A} {B} {n} {end} {x} {c} g h = record { same = rw (judged-seq x (λ a i. read (g a) i)) (go h.same) }
  where
    go : {p : Parsed A} {d : Checked} → Same n end p d → Same n end (reading.and_then p (λ a i. judged (read (g a) i))) d
    go (good e l) = good e l
    go bad = bad

-- what was read already
pub agrees_read : {A B : Type 0} {n end i : ℕ} {a : A} {c : Checked} (k : A → ℕ → Read B) → Agrees n end (k a i) c → Agrees n end (seq (read a i) k) c
agrees_read {i = i} {a = a} k h = record { same = rw (judged-seq (read a i) k) h.same }

-- a sequence of sequences
pub agrees_assoc : {A B C : Type 0} {n end : ℕ} {c : Checked} (x : Read A) (g : A → ℕ → Read B) (k : B → ℕ → Read C) → Agrees n end (seq x (λ a i. seq (g a i) k)) c → Agrees n end (seq (seq x g) k) c
agrees_assoc {A} x g k h = record { same = rw assoc h.same }
  where
    go : (p : Parsed A) → reading.and_then (reading.and_then p (λ a i. judged (g a i))) (λ b i. judged (k b i)) ≡ reading.and_then p (λ a i. reading.and_then (judged (g a i)) (λ b i. judged (k b i)))
    go (Parsed.parsed a i) = refl
    go (Parsed.refused r) = refl

    assoc : judged (seq (seq x g) k) ≡ judged (seq x (λ a i. seq (g a i) k))
    assoc =
        judged-seq (seq x g) k
        ∙ ap (λ p. reading.and_then p (λ b i. judged (k b i))) (judged-seq x g)
        ∙ go (judged x)
        ∙ (λ j. reading.and_then (judged x) (λ a i. sym (judged-seq (g a i) k) j))
        ∙ sym (judged-seq x (λ a i. seq (g a i) k))

-- a field at its level: it is too deep, or what is inside it agrees
pub data Inside {A : Type 0} (level at n end : ℕ) (x : Read A) : Checked → Type 0 where
  deep : level_limit < level → Inside level at n end x (too_deep at)
  room : {c : Checked} → level ≤ level_limit → Agrees n end x c → Inside level at n end x c

pub agrees_met : {A : Type 0} {level at n end : ℕ} {x : Read A} {c : Checked} → Inside level at n end x c → Agrees n end (met level at x) c
agrees_met {level = level} {at = at} {x = x} (deep h) = record { same = rw (judged-met level at x, lt-ltb level_limit level h) bad }
agrees_met {level = level} {at = at} {x = x} (room h a) = record { same = rw (judged-met level at x, le-ltb level_limit level h) a.same }

module _ (byte : ℕ → ℕ) where
  -- a field: its head, its own bytes, and what follows
  pub agrees_field : {A : Type 0} (kind : Kind) (at end : ℕ) (c : Checked) {k : Head → ℕ → Read A}
      → ((h : Head) (in₀ : ℕ) → h ≡ head byte at → in₀ ≡ at + 3 → next byte at ≤ end → good_head kind (head byte at) ≡ true → Agrees (next byte at) end (k h in₀) (pick (good_own (byte at) (byte (at + 3))) c (bad_tree at)))
      → Agrees (next byte at) end (seq (head_at byte (good_head kind) at end) k) (pick (good_field byte kind at end) c (bad_tree at))
  agrees_field {A} kind at end c {k} f = go (fits at end h₀) (good_head kind h₀) (λ e. leb-true _ _ (both_true (leb (at + 3) end) _ e).1) (λ e. e)
    where
      h₀ : Head
      h₀ = head byte at

      own : Bool
      own = good_own (byte at) (byte (at + 3))

      go : (fit g₀ : Bool) → (fit ≡ true → next byte at ≤ end) → (g₀ ≡ true → good_head kind h₀ ≡ true)
          → Agrees (next byte at) end (seq (pick (both fit g₀) (read h₀ (at + 3)) (fault at)) k) (pick (both fit (both g₀ own)) c (bad_tree at))
      go true true e g = record { same = rw (judged-seq (read h₀ (at + 3)) k) (f h₀ (at + 3) refl refl (e refl) (g refl)).same }
      go true false e g = record { same = bad }
      go false g₀ e g = record { same = bad }
