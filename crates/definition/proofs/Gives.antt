-- What a reader gives, where nothing is wrong: each step of a reader keeps that.
use Prim.Native.Nat.{ℕ, zero, suc, ◌+◌, ◌≤◌}
use native.Mathlib.Omega.{arith}
use mathlib.Core.Bool.{Bool, true, false}
use mathlib.Core.Option.{Option, none, some}
use mathlib.Core.Path.{◌≡◌, subst₂}
use lib.Dec.{leb, eqb}
use borrow.Author.Tests.{eqb-true, leb-true}
use Rattle.definition.specs.Basic.{pick, both}
use Rattle.definition.specs.Limit.{tree_limit}
use Rattle.definition.specs.Field.{Head, fits, head}
use Rattle.definition.specs.Tree.{Read, after, seq, met, child, last, many, head_at, one_byte, Parsed, judged}
use Rattle.definition.proofs.Basic.{chosen, both_true}

-- what was read is P, with the offset after it; or something is wrong
pub data Gives {A : Type 0} (P : A → ℕ → Type 0) : Read A → Type 0 where
  right : {a : A} {n : ℕ} {d : Option ℕ} {l : ℕ → Bool} → P a n → Gives P (Read.ok a n d l)
  wrong : {p : ℕ} {d : Option ℕ} {l : ℕ → Bool} → Gives P (Read.wrong p d l)

-- what was read is W, and ends at an offset or after it
pub record Past {A : Type 0} (W : A → Type 0) (from : ℕ) (a : A) (n : ℕ) : Type 0 where
  pub past : from ≤ n
  pub wf : W a

-- a reader of fields, each P at its offset, before an end that is within a limit
pub record Fields {A : Type 0} (limit : ℕ) (P : ℕ → ℕ → A → ℕ → Type 0) (f : ℕ → ℕ → Read A) : Type 0 where
  pub each : (at end : ℕ) → end ≤ limit → Gives (P at end) (f at end)

-- a reader of fields that are W, in a tree
abbrev pub WfFields : {A : Type 0} → (A → Type 0) → (ℕ → ℕ → Read A) → Type 0
WfFields W f = Fields tree_limit (λ at _. Past W (at + 3)) f

-- items up to the end, with no more of what is counted than bytes
pub record Filled {B : Type 0} (U : B → Type 0) (size : B → ℕ) (at end : ℕ) (b : B) (n : ℕ) : Type 0 where
  pub room : at + size b ≤ end
  pub ends : n ≡ end
  pub wf : U b

-- what came before
gives_after : {A : Type 0} {P : A → ℕ → Type 0} (n : ℕ) (d : Option ℕ) (l : ℕ → Bool) {x : Read A} → Gives P x → Gives P (after n d l x)
gives_after n d l (right p) = right p
gives_after n d l wrong = wrong

-- one after the other
pub gives-seq : {A B : Type 0} {P : A → ℕ → Type 0} {Q : B → ℕ → Type 0} {x : Read A} {k : A → ℕ → Read B}
    → Gives P x → ((a : A) (n : ℕ) → P a n → Gives Q (k a n)) → Gives Q (seq x k)
gives-seq (right {a = a} {n = n} {d = d} {l = l} p) f = gives_after n d l (f a n p)
gives-seq wrong f = wrong

-- something that follows
pub gives-map : {A : Type 0} {P Q : A → ℕ → Type 0} {x : Read A} → ((a : A) (n : ℕ) → P a n → Q a n) → Gives P x → Gives Q x
gives-map f (right {a = a} {n = n} p) = right (f a n p)
gives-map f wrong = wrong

-- one or the other, by a test
pub gives-pick : {A : Type 0} {P : A → ℕ → Type 0} {x y : Read A} (b : Bool) → (b ≡ true → Gives P x) → (b ≡ false → Gives P y) → Gives P (pick b x y)
gives-pick {P = P} = chosen (Gives P)

-- a field at its level
pub gives-met : {A : Type 0} {P : A → ℕ → Type 0} (level at : ℕ) {x : Read A} → Gives P x → Gives P (met level at x)
gives-met level at (right p) = right p
gives-met level at wrong = wrong

-- a child
pub gives-child : {A : Type 0} {limit : ℕ} {P : ℕ → ℕ → A → ℕ → Type 0} {f : ℕ → ℕ → Read A} → Fields limit P f → (parent at end : ℕ) → end ≤ limit → Gives (P at end) (child f parent at end)
gives-child F parent at end h = gives-pick (eqb at end) (λ _. wrong) (λ _. F.each at end h)

-- an end
pub gives_end : {A : Type 0} {P : A → ℕ → Type 0} (a : A) (at end : ℕ) → (at ≡ end → P a at) → Gives P (last a at end)
gives_end a at end p = gives-pick (eqb at end) (λ e. right (p (eqb-true at end e))) (λ _. wrong)

-- what follows a field's head, which is right, and whose content ends before `end`
pub record Behind {A : Type 0} (byte : ℕ → ℕ) (good : Head → Bool) (at end : ℕ) (P : A → ℕ → Type 0) (k : Head → ℕ → Read A) : Type 0 where
  pub gives : at + 3 + (head byte at).len ≤ end → good (head byte at) ≡ true → Gives P (k (head byte at) (at + 3))

-- a field
pub gives_head : {A : Type 0} (byte : ℕ → ℕ) (good : Head → Bool) (at end : ℕ) {P : A → ℕ → Type 0} {k : Head → ℕ → Read A} → Behind byte good at end P k → Gives P (seq (head_at byte good at end) k)
gives_head byte good at end {P = P} {k = k} b =
    let h = head byte at in
    gives-seq {P = λ x n. Gives P (k x n)}
    (gives-pick (both (fits at end h) (good h))
    (λ e.
    let e₁ = both_true (fits at end h) (good h) e in
    right (b.gives (leb-true _ _ (both_true (leb (at + 3) end) (leb (at + 3 + h.len) end) e₁.0).1) e₁.1))
    (λ _. wrong))
    (λ _ _ g. g)

-- a byte that is not larger, alone in its field
pub gives-one_byte : {A : Type 0} {P : A → ℕ → Type 0} (byte : ℕ → ℕ) (f : ℕ → A) (most : ℕ) (l : ℕ → Bool) (level at in₀ : ℕ)
    → (byte in₀ ≤ most → P (f (byte in₀)) (in₀ + 1)) → Gives P (one_byte byte f most l level at in₀)
gives-one_byte byte f most l level at in₀ p = gives-pick (leb (byte in₀) most) (λ e. gives-met level at (right (p (leb-true _ _ e)))) (λ _. wrong)

module _ {A B : Type 0} {limit : ℕ} {P : ℕ → ℕ → A → ℕ → Type 0} {R : ℕ → ℕ → B → ℕ → Type 0} (nil : B) (cons : A → B → B)
    (nils : (at end : ℕ) → at ≡ end → R at end nil at) (conses : (at end : ℕ) (x : A) (at₁ : ℕ) (xs : B) (n : ℕ) → P at end x at₁ → R at₁ end xs n → R at end (cons x xs) n) where
  -- fields up to the end: R holds of none at the end, and of one more in front
  pub gives-items : {f : ℕ → ℕ → Read A} → Fields limit P f → (fuel at end : ℕ) → end ≤ limit → Gives (R at end) (many nil cons f fuel at end)
  gives-items F zero at end h = gives_end nil at end (nils at end)
  gives-items F (suc fuel) at end h =
      gives-pick (eqb at end) (λ e. right (nils at end (eqb-true at end e)))
      (λ _. gives-seq (F.each at end h) (λ x at₁ p. gives-seq (gives-items F fuel at₁ end h) (λ xs n q. right (conses at end x at₁ xs n p q))))

-- what is W and ends at an offset
pub gives-read : {A : Type 0} {W : A → Type 0} {from : ℕ} {a : A} {d : Option ℕ} {l : ℕ → Bool} (n : ℕ) → from ≤ n → W a → Gives (Past W from) (Read.ok a n d l)
gives-read n h w = right (record { past = h; wf = w })

-- and nothing follows
pub gives_last : {A : Type 0} {W : A → Type 0} {from : ℕ} (a : A) (at end : ℕ) → from ≤ at → W a → Gives (Past W from) (last a at end)
gives_last a at end h w = gives_end a at end (λ _. record { past = h; wf = w })

-- a field whose content is W
pub gives-field : {A : Type 0} {W : A → Type 0} (byte : ℕ → ℕ) (good : Head → Bool) (at end : ℕ) {k : Head → ℕ → Read A}
    → ((h : Head) (in₀ : ℕ) → in₀ + h.len ≤ end → good h ≡ true → Gives (Past W in₀) (k h in₀)) → Gives (Past W (at + 3)) (seq (head_at byte good at end) k)
gives-field byte good at end f = gives_head byte good at end (record { gives = f (head byte at) (at + 3) })

-- a byte that is W
pub gives_byte : {A : Type 0} {W : A → Type 0} (byte : ℕ → ℕ) (f : ℕ → A) (most : ℕ) (l : ℕ → Bool) (level at in₀ : ℕ)
    → ((x : ℕ) → x ≤ most → W (f x)) → Gives (Past W in₀) (one_byte byte f most l level at in₀)
gives_byte byte f most l level at in₀ h = gives-one_byte byte f most l level at in₀ (λ e. record { past = omega arith; wf = h (byte in₀) e })

-- fields up to the end that are W
pub gives-many : {A B : Type 0} {W : A → Type 0} {U : B → Type 0} (size : B → ℕ) (nil : B) (cons : A → B → B)
    → size nil ≡ 0 → ((x : A) (xs : B) → size (cons x xs) ≤ 3 + size xs) → U nil → ((x : A) (xs : B) → W x → U xs → U (cons x xs))
    → {f : ℕ → ℕ → Read A} → WfFields W f → (fuel at end : ℕ) → end ≤ tree_limit → Gives (Filled U size at end) (many nil cons f fuel at end)
gives-many size nil cons empty more nils conses =
    gives-items nil cons (λ at end e. record { room = omega (arith, empty); ends = e; wf = nils })
    (λ at end x at₁ xs n p q. record { room = omega (arith, more x xs); ends = q.ends; wf = conses x xs p.wf q.wf })

-- items up to the end end after their start
pub past_filled : {B : Type 0} {U : B → Type 0} {size : B → ℕ} {from at end : ℕ} {x : Read B} → from ≤ at → Gives (Filled U size at end) x → Gives (Past U from) x
past_filled h = gives-map (λ _ _ p. record { past = omega arith; wf = p.wf })

-- what is judged right
pub judged-gives : {A : Type 0} {P : A → ℕ → Type 0} {x : Read A} (b : A) (m : ℕ) → Gives P x → judged x ≡ Parsed.parsed b m → P b m
judged-gives {P = P} b m (right {d = none} p) e = subst₂ P (cc) (cc) p
judged-gives b m (right {d = some q} p) e = let z : ◌≡◌ {A = ℕ} 0 1 = cc in absurd (omega arith)
judged-gives b m (wrong {d = none}) e = let z : ◌≡◌ {A = ℕ} 0 1 = cc in absurd (omega arith)
judged-gives b m (wrong {d = some q}) e = let z : ◌≡◌ {A = ℕ} 0 1 = cc in absurd (omega arith)
