-- Reading fields that stand in a tree: where it ends, and nothing is wrong.
use Rattle.std.proofs.Common.{◌≡◌, ℕ, zero, suc, ◌+◌, ◌<◌, ◌≤◌, Bool, true, false, eqb, ltb, [], ◌++◌, length, refl, ◌∙◌, arith, length-append, le-ltb, eq-eqb, ne_eqb, le-leb}
use mathlib.Core.Option.{Option, none, some}
use Rattle.definition.specs.Basic.{Bytes, pick, both}
use Rattle.definition.specs.Limit.{level_limit}
use Rattle.definition.specs.Field.{Head, field, fits, head}
use Rattle.definition.specs.Syntax.{Stmts, Else, Expr, Exprs}
use Rattle.definition.specs.Tree.{pairs_of, else_of, Read, first, after, seq, met, child, last, many, head_at, read, fault, plain}
use Rattle.definition.proofs.Basic.{both_intro}
use Rattle.definition.proofs.Bytes.{Stands, stands_left, stands_right}
use Rattle.definition.proofs.Fields.{head_of, head-field, stands_content}
use Rattle.definition.specs.Node
use Rattle.definition.specs.Node.{Node, leaf, node, Nodes, ◌then◌, written, written_all}

-- read, up to an offset; and where P holds nothing is too deep
pub data Ends {A : Type 0} (P : Type 0) (n : ℕ) : Read A → Type 0 where
  ends : {a : A} {d : Option ℕ} {l : ℕ → Bool} → (P → d ≡ none) → Ends P n (Read.ok a n d l)

-- nothing too deep
pub ends_plain : {A : Type 0} {P : Type 0} {n : ℕ} {a : A} {l : ℕ → Bool} → Ends P n (Read.ok a n none l)
ends_plain = Ends.ends (λ _. refl)

-- neither of two
first_none : (d e : Option ℕ) → d ≡ none → e ≡ none → first d e ≡ none
first_none none e h k = k
first_none (some x) e h k = h

-- what came before
ends_after : {A : Type 0} {P : Type 0} (n : ℕ) (d : Option ℕ) (l : ℕ → Bool) {m : ℕ} {r : Read A} → (P → d ≡ none) → Ends P m r → Ends P m (after n d l r)
ends_after n d l h (Ends.ends {d = e} k) = Ends.ends (λ p. first_none d e (h p) (k p))

-- one after the other
pub ends_seq : {A B : Type 0} {P : Type 0} {n m : ℕ} {r : Read A} (k : A → ℕ → Read B) → Ends P n r → ((a : A) → Ends P m (k a n)) → Ends P m (seq r k)
ends_seq {n = n} k (Ends.ends {a} {d} {l} h) f = ends_after n d l h (f a)

-- no field that is too deep
met_none : (level at : ℕ) (d : Option ℕ) → level ≤ level_limit → d ≡ none → pick (ltb level_limit level) (some at) d ≡ none
met_none level at d h k = rw (le-ltb level_limit level h) k

-- a field at its level
pub ends_met : {A : Type 0} {P : Type 0} {n : ℕ} {r : Read A} (level at : ℕ) → (P → level ≤ level_limit) → Ends P n r → Ends P n (met level at r)
ends_met level at g (Ends.ends {d = d} h) = Ends.ends (λ p. met_none level at d (g p) (h p))

-- where Q holds, P does
pub ends_for : {A : Type 0} {P Q : Type 0} {n m : ℕ} {r : Read A} → n ≡ m → (Q → P) → Ends P n r → Ends Q m r
ends_for {m = m} e f (Ends.ends h) = rw e (Ends.ends (λ q. h (f q)))

-- every field has a head
pub written-length : (x : Node) → 3 ≤ length (written x)
unfolding written
written-length (leaf t c) = omega arith
written-length (node t xs) = omega arith

-- what is left of a content: it stands, up to its end; there is fuel for it, and it is no longer than a length can say
pub record Left (byte : ℕ → ℕ) (g at : ℕ) (rest : Bytes) (end : ℕ) : Type 0 where
  pub stands : Stands byte at rest
  pub upto : at + length rest ≡ end
  pub fuel : end ≤ at + g
  pub small : end < 65536

-- a reader of fields takes a node's, whatever follows
pub record Takes {A : Type 0} (P : Type 0) (byte : ℕ → ℕ) (g : ℕ) (f : ℕ → ℕ → Read A) (x : Node) : Type 0 where
  pub takes : (at end : ℕ) (rest : Bytes) → Left byte g at (written x ++ rest) end → Ends P (at + length (written x)) (f at end)

-- nodes of one reader
pub data TakesAll {A : Type 0} (P : Type 0) (byte : ℕ → ℕ) (g : ℕ) (f : ℕ → ℕ → Read A) : Nodes → Type 0 where
  nothing : TakesAll P byte g f Node.none
  another : {x : Node} {xs : Nodes} → Takes P byte g f x → TakesAll P byte g f xs → TakesAll P byte g f (x then xs)

-- keys and values
pub data TakesPairs {A : Type 0} (P : Type 0) (byte : ℕ → ℕ) (g : ℕ) (f : ℕ → ℕ → Read A) : Nodes → Type 0 where
  no_pairs : TakesPairs P byte g f Node.none
  pair : {k v : Node} {xs : Nodes} → Takes P byte g f k → Takes P byte g f v → TakesPairs P byte g f xs → TakesPairs P byte g f (k then v then xs)

module _ {byte : ℕ → ℕ} where
  -- behind a part
  pub left_behind : {g at end : ℕ} (x : Node) (rest : Bytes) → Left byte g at (written x ++ rest) end → Left byte g (at + length (written x)) rest end
  left_behind {g} {at} {end} x rest l =
      let h = length-append (written x) rest in
      record { stands = stands_right (written x) rest l.stands; upto = omega (arith, l.upto); fuel = omega (arith, l.fuel); small = l.small }

  -- a child, and what follows
  pub ends_part : {A B : Type 0} {P : Type 0} {g : ℕ} {f : ℕ → ℕ → Read A} (k : A → ℕ → Read B) {x : Node} (rest : Bytes) (parent at end : ℕ) {m : ℕ} → Takes P byte g f x → Left byte g at (written x ++ rest) end
      → ((a : A) → Left byte g (at + length (written x)) rest end → Ends P m (k a (at + length (written x)))) → Ends P m (seq (child f parent at end) k)
  ends_part k {x} rest parent at end t l r =
      rw (ne_eqb at end (λ e. omega (arith, l.upto, length-append (written x) rest, written-length x))) (ends_seq k (t.takes at end rest l) (λ a. r a (left_behind x rest l)))

  -- nothing follows
  pub ends_last : {A : Type 0} {P : Type 0} {g at end : ℕ} (a : A) → Left byte g at [] end → Ends P end (last a at end)
  ends_last {at = at} {end = end} a l = let e : at ≡ end = omega (arith, l.upto) in rw (eq-eqb at end e, e) ends_plain

  -- a field whose head is right
  pub ends_head : {A : Type 0} {P : Type 0} {m : ℕ} (good : Head → Bool) (k : Head → ℕ → Read A) (at end t : ℕ) (c rest : Bytes) {g : ℕ} → good (head_of t c) ≡ true → Left byte g at (field t c ++ rest) end
      → Ends P m (k (head_of t c) (at + 3)) → Ends P m (seq (head_at byte good at end) k)
  ends_head {m = m} good k at end t c rest e l r =
      let n = length-append (field t c) rest in
      let s = stands_left (field t c) rest l.stands in
      let h : head byte at ≡ head_of t c = head-field t c (omega (arith, l.upto, l.small)) s in
      let fit : both (fits at end (head_of t c)) (good (head_of t c)) ≡ true =
      both_intro (both_intro (le-leb (at + 3) end (omega (arith, l.upto))) (le-leb (at + 3 + length c) end (omega (arith, l.upto)))) e in
      let p : head_at byte good at end ≡ Read.ok (head_of t c) (at + 3) none plain =
      (λ i. pick (both (fits at end (h i)) (good (h i))) (read (h i) (at + 3)) (fault at)) ∙ (λ i. pick (fit i) (read (head_of t c) (at + 3)) (fault at)) in
      rw p (ends_after (at + 3) none plain (λ _. refl) r)

  -- a content within its field
  pub left_content : {g at end : ℕ} (t : ℕ) (c rest : Bytes) → Left byte (suc g) at (field t c ++ rest) end → Left byte g (at + 3) c (at + 3 + length c)
  left_content {g} {at} {end} t c rest l =
      let n = length-append (field t c) rest in
      record { stands = stands_content t c (stands_left (field t c) rest l.stands); upto = refl; fuel = omega (arith, l.upto, l.fuel); small = omega (arith, l.upto, l.small) }

  -- a part is no end
  part_open : {g at end : ℕ} (x : Node) (rest : Bytes) → Left byte g at (written x ++ rest) end → eqb at end ≡ false
  part_open {at = at} {end = end} x rest l = ne_eqb at end (λ e. omega (arith, l.upto, length-append (written x) rest, written-length x))

  -- no part is the end
  none_closed : {g at end : ℕ} → Left byte g at [] end → at ≡ end
  none_closed l = omega (arith, l.upto)

  -- fields up to the end
  pub ends_many : {A B : Type 0} {P : Type 0} (nil : B) (cons : A → B → B) {g : ℕ} {f : ℕ → ℕ → Read A} {xs : Nodes} → TakesAll P byte g f xs → (fuel at end : ℕ) → Left byte g at (written_all xs) end → end ≤ at + fuel → Ends P end (many nil cons f fuel at end)
  unfolding written
  ends_many nil cons TakesAll.nothing zero at end l h = ends_last nil l
  ends_many nil cons TakesAll.nothing (suc fuel) at end l h = rw (eq-eqb at end (none_closed l), none_closed l) ends_plain
  ends_many nil cons (TakesAll.another {x} {xs} t ts) zero at end l h = let z : ⊥ = omega (arith, l.upto, length-append (written x) (written_all xs), written-length x) in absurd z
  ends_many nil cons (TakesAll.another {x} {xs} t ts) (suc fuel) at end l h =
      rw (part_open x (written_all xs) l)
      (ends_seq _ (t.takes at end (written_all xs) l) (λ a.
      ends_seq _ (ends_many nil cons ts fuel (at + length (written x)) end (left_behind x (written_all xs) l) (omega (arith, written-length x))) (λ b. ends_plain)))

  -- keys and values up to the end
  pub ends_pairs : {P : Type 0} (parent : ℕ) {g : ℕ} {f : ℕ → ℕ → Read Expr} {xs : Nodes} → TakesPairs P byte g f xs → (fuel at end : ℕ) → Left byte g at (written_all xs) end → end ≤ at + fuel → Ends P end (pairs_of f parent fuel at end)
  unfolding written
  ends_pairs parent TakesPairs.no_pairs zero at end l h = ends_last Exprs.no_exprs l
  ends_pairs parent TakesPairs.no_pairs (suc fuel) at end l h = rw (eq-eqb at end (none_closed l), none_closed l) ends_plain
  ends_pairs parent (TakesPairs.pair {k} {v} {xs} t u ts) zero at end l h = let z : ⊥ = omega (arith, l.upto, length-append (written k) (written v ++ written_all xs), written-length k) in absurd z
  ends_pairs parent (TakesPairs.pair {k} {v} {xs} t u ts) (suc fuel) at end l h =
      let m = left_behind k (written v ++ written_all xs) l in
      let n = left_behind v (written_all xs) m in
      rw (part_open k (written v ++ written_all xs) l)
      (ends_seq _ (ends_seq _ (t.takes at end (written v ++ written_all xs) l) (λ a. ends_part _ (written_all xs) parent (at + length (written k)) end u m (λ b _. ends_plain))) (λ a.
      ends_seq _ (ends_pairs parent ts fuel (at + length (written k) + length (written v)) end n (omega (arith, written-length k))) (λ b. ends_plain)))

  -- a content, with as much fuel as it has bytes
  pub left_inside : {g at end : ℕ} (t : ℕ) (c rest : Bytes) → Left byte g at (field t c ++ rest) end → Left byte (length c) (at + 3) c (at + 3 + length c)
  left_inside {g} {at} {end} t c rest l =
      let n = length-append (field t c) rest in
      record { stands = stands_content t c (stands_left (field t c) rest l.stands); upto = refl; fuel = omega arith; small = omega (arith, l.upto, l.small) }

  -- no else, and an else
  pub ends_no_else : {P : Type 0} {g at end : ℕ} (f : ℕ → ℕ → Read Stmts) → Left byte g at [] end → Ends P end (else_of f at end)
  ends_no_else {at = at} {end = end} f l = rw (eq-eqb at end (none_closed l), none_closed l) ends_plain

  pub ends_else : {P : Type 0} {g at end : ℕ} {f : ℕ → ℕ → Read Stmts} {x : Node} → Takes P byte g f x → Left byte g at (written x ++ []) end → Ends P end (else_of f at end)
  ends_else {at = at} {end = end} {x = x} t l = rw (part_open x [] l) (ends_seq _ (t.takes at end [] l) (λ b. ends_last (Else.else b) (left_behind x [] l)))
