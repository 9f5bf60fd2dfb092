-- The session's buffer after the walk: what stands in it, and how a refusal restores it.
use Prim.Native.Nat.{ℕ, zero, suc, ◌+◌, ◌-◌, ◌/◌, ◌%◌, ◌≤◌}
use native.Mathlib.Omega.{arith}
use mathlib.Core.List.{List, [], ◌∷◌, ◌++◌, append_assoc, append-nil}
use mathlib.Core.Path.{◌≡◌, refl, sym, ap, ◌∙◌}
use lib.ListN.{length, take, drop, replicate, length-append, length-replicate, take-append-drop}
use lib.Seq.{sets, take_at, take-take, drop_at, length-sets}
use Rattle.definition.specs.Basic.{Bytes}
use Rattle.definition.specs.Limit.{session_size}
use Rattle.definition.specs.Tag.{tag_pool}
use Rattle.definition.specs.Field.{field}
use Rattle.definition.specs.Bytecode.{Const, pool_bytes, pool_size}
use Rattle.definition.specs.Session.{Session, word_list, name_bytes, names_bytes, front_fields, session_fields, session_bytes}
use Rattle.definition.specs.Decode.{words_in}
use Rattle.definition.specs.Valid.{ValidSession}
use Rattle.definition.proofs.Pools.{pool-length}
use Rattle.definition.proofs.Sessions.{words_alone}
use Rattle.refinement.specs.Relation.{names_end, pool_end, Marks, Appended, Pooled, Extends}
use Rattle.refinement.proofs.Stores.{sets_over, sets_behind}

-- zeros in place of as many zeros
zeros_again : (a k : ℕ) (r : Bytes) → a ≤ k → replicate a 0 ++ drop a (replicate k 0 ++ r) ≡ replicate k 0 ++ r
zeros_again zero k r h = refl
zeros_again (suc a) zero r h =
    let no : ⊥ = omega arith in
    absurd no
zeros_again (suc a) (suc k) r h = ap (λ l. 0 ∷ l) (zeros_again a k r (omega arith))

-- five parts, grouped another way
regroup : (a b c d f : Bytes) → (a ++ (b ++ c)) ++ (d ++ f) ≡ (a ++ b) ++ ((c ++ d) ++ f)
regroup a b c d f = simp append_assoc

-- what lies behind a session's fields: zeros up to the session's size, and bytes that don't matter
abbrev behind : Session → Bytes → Bytes
behind z e = replicate (session_size - pool_end z) 0 ++ drop session_size e

-- Of a session `z` whose bytes the buffer `e` began with
module _ (z : Session) (e : Bytes) (held : take session_size e ≡ session_bytes z) where
  -- the buffer in parts
  parts : e ≡ session_fields z ++ behind z e
  parts =
      sym (take-append-drop session_size e)
      ∙ ap (λ l. l ++ drop session_size e) held
      ∙ append_assoc (session_fields z) (replicate (session_size - pool_end z) 0) (drop session_size e)

  module _ {b : Bytes} {m : Marks} (a : Appended z e b m) where
    -- the new bytes stand behind the fields
    new_stands : b ≡ session_fields z ++ (a.new ++ drop (length a.new) (behind z e))
    new_stands =
        let k = session_size - pool_end z in
        let l : length a.new ≤ length (behind z e) = omega (arith, length-append (replicate {A = ℕ} k 0) (drop session_size e), length-replicate {A = ℕ} k 0, a.upto, a.within) in
        a.session ∙ ap (λ l. sets l (pool_end z) a.new) parts ∙ sets_behind (session_fields z) a.new (behind z e) (pool_end z) refl l

    -- zeros over the new bytes restore the buffer
    pub restored : sets b (pool_end z) (replicate (m.pool_end - pool_end z) 0) ≡ e
    restored =
        let n = length a.new in
        let l : m.pool_end - pool_end z ≡ n = omega (arith, a.upto) in
        (λ i. sets (new_stands i) (pool_end z) (replicate (l i) 0))
        ∙ sets_over (session_fields z) a.new (replicate n 0) (drop n (behind z e)) (pool_end z) refl (length-replicate n 0)
        ∙ ap (λ l. session_fields z ++ l) (zeros_again n (session_size - pool_end z) (drop session_size e) (omega (arith, a.upto, a.within)))
        ∙ sym parts

    -- the session's old fields are as they were
    pub fields_stand : take (pool_end z) b ≡ session_fields z
    fields_stand = ap (take (pool_end z)) new_stands ∙ take_at (session_fields z) (a.new ++ drop (length a.new) (behind z e)) (pool_end z) refl

    -- so are those before the pool
    pub front_stands : take (names_end z) b ≡ front_fields z.words z.globals
    front_stands =
        let front = front_fields z.words z.globals in
        let pool = field tag_pool (pool_bytes z.pool) in
        sym (take-take (names_end z) (pool_end z) b (omega (arith, length-append front pool))) ∙ ap (take (names_end z)) fields_stand ∙ take_at front pool (names_end z) refl

    -- and the words in front of them
    pub words-stand : ValidSession z → words_in (take m.names_end b) ≡ word_list z.words
    words-stand valid = (λ i. words_in (take (a.names i) b)) ∙ ap words_in front_stands ∙ words_alone z.words z.globals valid.words

  -- the pool's content stands in the buffer, behind the pool's head
  pub pool_stands : {b : Bytes} {m : Marks} {cs : List Const} → Pooled z e cs b m → take (pool_size cs) (drop (names_end z + 3) b) ≡ pool_bytes cs
  pool_stands {b} {cs = cs} r =
      let names = front_fields z.words z.globals in
      let old = pool_bytes z.pool in
      let head = tag_pool ∷ length old / 256 % 256 ∷ length old % 256 ∷ [] in
      let new = r.appended.new in
      let after = drop (length new) (behind z e) in
      let p : b ≡ (names ++ head) ++ (pool_bytes cs ++ after) = new_stands r.appended ∙ regroup names head old new after ∙ ap (λ l. (names ++ head) ++ (l ++ after)) (sym r.pool) in
      ap (λ l. take (pool_size cs) (drop (names_end z + 3) l)) p
      ∙ ap (take (pool_size cs)) (drop_at (names ++ head) (pool_bytes cs ++ after) (names_end z + 3) (length-append names head))
      ∙ take_at (pool_bytes cs) after (pool_size cs) (pool-length cs)

-- the buffer keeps its length
pub appended_length : {z : Session} {e b : Bytes} {m : Marks} → Appended z e b m → length b ≡ length e
appended_length {z} {e} a = ap length a.session ∙ length-sets e (pool_end z) a.new

-- the bytes of names are those of the old ones, then those of the new ones
pub names_extended : {ns gs : List Bytes} (x : Extends ns gs) → names_bytes gs ≡ names_bytes ns ++ names_bytes x.more
names_extended {ns} x = ap names_bytes x.same ∙ go x.more
  where
    go : (more : List Bytes) → names_bytes (more ++ ns) ≡ names_bytes ns ++ names_bytes more
    go [] = sym (append-nil (names_bytes ns))
    go (g ∷ gs) = ap (λ b. b ++ name_bytes g) (go gs) ∙ append_assoc (names_bytes ns) (names_bytes gs) (name_bytes g)
