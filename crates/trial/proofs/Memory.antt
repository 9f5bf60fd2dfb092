-- The work area: what a store changes, and what it leaves.
use Rattle.std.proofs.Common.{◌≡◌, ℕ, suc, ◌+◌, ◌-◌, ◌<◌, ◌≤◌, Bool, true, false, eqb, List, ◌∷◌, length, get_or, set, replicate, sym, refl, ap, ◌∙◌, subst, arith, length-set, get_or-set_other, get_or-set_same, lt-length-set, eqb-true}
use Rattle.std.specs.Prelude.{Option, None as none, Some as some}
use lib.ListN.{length-replicate, get_or-replicate}
use borrow.Author.Tests.{eqb-false}
use Rattle.definition.specs.Limit.{globals_limit}
use Rattle.trial.specs.Value.{Value, Globals}
use Rattle.trial.specs.Run.{top, below, unset_globals}
use Rattle.trial.specs.Cells.{Keeps, Stacked, Keeping, kinds_at, stack_at, stack_kinds_at, work_size}

-- a value by its kind and word
pub keeps_as : {k l v w : ℕ} {o : Option Value} → k ≡ l → v ≡ w → Keeps l w o → Keeps k v o
keeps_as {k} {l} {v} {w} {o} e f h = subst (λ k. Keeps k v o) (sym e) (subst (λ v. Keeps l v o) (sym f) h)

-- as high as it has values
pub stacked_length : {w : List ℕ} {n : ℕ} {st : List Value} → Stacked w n st → n ≡ length st
stacked_length Stacked.bottom = refl
stacked_length (Stacked.more h s) = ap suc (stacked_length s)

-- the same numbers keep the same stack
pub stacked_same : {w v : List ℕ} {n : ℕ} {st : List Value} → ((j : ℕ) → j < n → get_or v (stack_kinds_at + j) 0 ≡ get_or w (stack_kinds_at + j) 0) → ((j : ℕ) → j < n → get_or v (stack_at + j) 0 ≡ get_or w (stack_at + j) 0) → Stacked w n st → Stacked v n st
stacked_same e f Stacked.bottom = Stacked.bottom
stacked_same {w} {v} e f (Stacked.more {n} h s) = Stacked.more (keeps_as (e n (omega arith)) (f n (omega arith)) h) (stacked_same (λ j l. e j (omega arith)) (λ j l. f j (omega arith)) s)

-- the top, and what lies below it
pub top_kept : {w : List ℕ} {n : ℕ} {st : List Value} → Stacked w n st → 1 ≤ n → Keeps (get_or w (stack_kinds_at + (n - 1)) 0) (get_or w (stack_at + (n - 1)) 0) (some (top st))
top_kept Stacked.bottom h = absurd (omega arith)
top_kept {w} (Stacked.more {n} {v} k s) h = subst (λ j. Keeps (get_or w (stack_kinds_at + j) 0) (get_or w (stack_at + j) 0) (some v)) (omega arith) k

pub below_kept : {w : List ℕ} {n : ℕ} {st : List Value} → Stacked w n st → 1 ≤ n → Stacked w (n - 1) (below st)
below_kept Stacked.bottom h = absurd (omega arith)
below_kept {w} (Stacked.more {n} {v} {st} k s) h = subst (λ j. Stacked w j st) (omega arith) s

-- a list after two stores
module _ (w : List ℕ) (i j : ℕ) (x y : ℕ) (l : length w ≡ work_size) where
  two : List ℕ
  two = set (set w i x) j y

  pub two_long : length (set (set w i x) j y) ≡ work_size
  two_long = length-set (set w i x) j y ∙ length-set w i x ∙ l

  pub two_first : i < work_size → (i ≡ j → ⊥) → get_or (set (set w i x) j y) i 0 ≡ x
  two_first h n = get_or-set_other (set w i x) j i y 0 n ∙ get_or-set_same w i x 0 (omega arith)

  pub two_second : j < work_size → get_or (set (set w i x) j y) j 0 ≡ y
  two_second h = get_or-set_same (set w i x) j y 0 (lt-length-set w i x (omega arith))

  pub two_other : (k : ℕ) → (k ≡ i → ⊥) → (k ≡ j → ⊥) → get_or (set (set w i x) j y) k 0 ≡ get_or w k 0
  two_other k a b = get_or-set_other (set w i x) j k y 0 b ∙ get_or-set_other w i k x 0 a

-- a value on the stack
module _ (w : List ℕ) (g : Globals) (k : Keeping w g) {n : ℕ} (h : n < 1024) (kind word : ℕ) where
  pub pushed : List ℕ
  pushed = set (set w (stack_at + n) word) (stack_kinds_at + n) kind

  pub push_globals : Keeping (set (set w (stack_at + n) word) (stack_kinds_at + n) kind) g
  push_globals =
      record {
        long = two_long w (stack_at + n) (stack_kinds_at + n) word kind k.long;
        many = k.many;
        each = λ j l. keeps_as (two_other w (stack_at + n) (stack_kinds_at + n) word kind k.long (kinds_at + j) (λ e. omega arith) (λ e. omega arith))
            (two_other w (stack_at + n) (stack_kinds_at + n) word kind k.long j (λ e. omega arith) (λ e. omega arith)) (k.each j l);
      }

  pub push_stack : {st : List Value} {v : Value} → Stacked w n st → Keeps kind word (some v) → Stacked (set (set w (stack_at + n) word) (stack_kinds_at + n) kind) (n + 1) (v ∷ st)
  push_stack {st} {v} s q =
      let l = k.long in
      let t : Stacked (set (set w (stack_at + n) word) (stack_kinds_at + n) kind) (suc n) (v ∷ st) =
      Stacked.more (keeps_as (two_second w (stack_at + n) (stack_kinds_at + n) word kind l (omega arith)) (two_first w (stack_at + n) (stack_kinds_at + n) word kind l (omega arith) (λ e. omega arith)) q)
      (stacked_same (λ j m. two_other w (stack_at + n) (stack_kinds_at + n) word kind l (stack_kinds_at + j) (λ e. omega arith) (λ e. omega arith)) (λ j m.
      two_other w (stack_at + n) (stack_kinds_at + n) word kind l (stack_at + j) (λ e. omega arith) (λ e. omega arith)) s) in
      subst (λ m. Stacked (set (set w (stack_at + n) word) (stack_kinds_at + n) kind) m (v ∷ st)) (omega arith) t

-- a global
module _ (w : List ℕ) (g : Globals) (q : Keeping w g) {k : ℕ} (h : k < 1024) (kind word : ℕ) where
  pub set-globals : {v : Value} → Keeps kind word (some v) → Keeping (set (set w k word) (kinds_at + k) kind) (set g k (some v))
  set-globals {v} p =
      record {
        long = two_long w k (kinds_at + k) word kind q.long;
        many = length-set g k (some v) ∙ q.many;
        each = λ j l. go j l (eqb j k) refl;
      }
    where
      go : (j : ℕ) → j < globals_limit → (b : Bool) → eqb j k ≡ b → Keeps (get_or (set (set w k word) (kinds_at + k) kind) (kinds_at + j) 0) (get_or (set (set w k word) (kinds_at + k) kind) j 0) (get_or (set g k (some v)) j none)
      go j l true e =
          let i = eqb-true j k e in
          subst (λ j. Keeps (get_or (set (set w k word) (kinds_at + k) kind) (kinds_at + j) 0) (get_or (set (set w k word) (kinds_at + k) kind) j 0) (get_or (set g k (some v)) j none)) (sym i)
          (keeps_as (two_second w k (kinds_at + k) word kind q.long (omega arith)) (two_first w k (kinds_at + k) word kind q.long (omega arith) (λ e. omega arith))
          (subst (Keeps kind word) (sym (get_or-set_same g k (some v) none (omega (arith, q.many)))) p))
      go j l false e =
          let n = eqb-false j k e in
          keeps_as (two_other w k (kinds_at + k) word kind q.long (kinds_at + j) (λ e. omega arith) (λ e. n (omega arith))) (two_other w k (kinds_at + k) word kind q.long j n (λ e. omega arith))
          (subst (Keeps (get_or w (kinds_at + j) 0) (get_or w j 0)) (sym (get_or-set_other g k j (some v) none n)) (q.each j l))

  pub set_stack : {n : ℕ} {st : List Value} → Stacked w n st → Stacked (set (set w k word) (kinds_at + k) kind) n st
  set_stack s =
      stacked_same (λ j m. two_other w k (kinds_at + k) word kind q.long (stack_kinds_at + j) (λ e. omega arith) (λ e. omega arith)) (λ j m.
      two_other w k (kinds_at + k) word kind q.long (stack_at + j) (λ e. omega arith) (λ e. omega arith)) s

-- a cleared work area
pub cleared_keeps : Keeping (replicate work_size 0) unset_globals
unfolding unset_globals
cleared_keeps =
    record {
      long = length-replicate {A = ℕ} work_size 0;
      many = length-replicate {A = Option Value} globals_limit none;
      each = λ k h. keeps_as (get_or-replicate {A = ℕ} work_size (kinds_at + k) 0 0 (omega arith)) (get_or-replicate {A = ℕ} work_size k 0 0 (omega arith)) (subst (Keeps 0 0) (sym (get_or-replicate {A = Option Value} globals_limit k none none h)) Keeps.nothing);
    }
