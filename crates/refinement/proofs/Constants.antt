-- The session's buffer: a constant more behind the pool.
use Prim.Native.Nat.{ℕ, ◌+◌, ◌≤◌}
use native.Mathlib.Omega.{arith}
use mathlib.Core.List.{List, ◌∷◌, ◌++◌, append_assoc}
use mathlib.Core.Path.{◌≡◌, refl, ap, ◌∙◌}
use lib.ListN.{length, length-append}
use lib.Seq.{sets}
use Rattle.definition.specs.Basic.{Bytes}
use Rattle.definition.specs.Limit.{constants_limit, pool_limit}
use Rattle.definition.specs.Tag.{tag_names, tag_pool}
use Rattle.definition.specs.Field.{field}
use Rattle.definition.specs.Bytecode.{Const, content, tag_of, const_bytes, pool_bytes, pool_size}
use Rattle.definition.specs.Session.{Session, names_bytes, words_field, front_fields}
use Rattle.definition.specs.Valid.{ValidSession}
use Rattle.definition.specs.Compiler as Structured
use Rattle.definition.specs.Compiler.{State, with_pool}
use Rattle.definition.proofs.Simulation.{Both}
use Rattle.definition.proofs.Sessions.{words-length, names-length}
use Rattle.definition.proofs.Pools.{pool-length}
use Rattle.scope.specs.View.{View, view}
use Rattle.scope.specs.Machine.{add_constant, with_constant}
use Rattle.refinement.specs.Relation.{names_end, pool_end, Marks, marks, Pooled, Stopped}
use Rattle.refinement.proofs.Tests.{compared, on_same}
use Rattle.refinement.proofs.Stores.{sets_append}

-- where a valid session's names end
names-end : (z : Session) → ValidSession z → names_end z ≤ 36686
names-end z v = omega (arith, words-length z.words v.words, names-length v.names, v.count, length-append (words_field z.words) (field tag_names (names_bytes z.globals)))

-- the pool in the buffer begins behind its head, which follows the names
pub pool-end : {z : Session} {e : Bytes} {cs : List Const} {b : Bytes} {m : Marks} → Pooled z e cs b m → m.pool_end ≡ names_end z + 3 + pool_size cs
pool-end {z} {cs = cs} r =
    omega
    (arith, r.appended.upto, pool-length cs, ap length r.pool, length-append (pool_bytes z.pool) r.appended.new, length-append (front_fields z.words z.globals) (field tag_pool (pool_bytes z.pool)))

-- a constant's bytes behind the pool
abbrev pub with_field : Const → View → View
with_field c v = view v.code (sets v.session v.state.pool_end (const_bytes c)) v.symbols (with_constant (length (content c)) v.state)

-- the pool with it
pooled_more : {z : Session} {e : Bytes} {cs : List Const} {b : Bytes} {m : Marks} → ValidSession z → Pooled z e cs b m → (c : Const) → pool_size (c ∷ cs) ≤ pool_limit
    → Pooled z e (c ∷ cs) (sets b m.pool_end (const_bytes c)) (record { constants = m.constants + 1; names_end = m.names_end; pool_end = m.pool_end + (3 + length (content c)) })
pooled_more {z} {e} valid r c h =
    let new = r.appended.new in
    record {
      appended =
          record {
            new = new ++ const_bytes c;
            session = (λ i. sets (r.appended.session i) (r.appended.upto i) (const_bytes c)) ∙ sets_append new (const_bytes c) e (pool_end z);
            upto = omega (arith, r.appended.upto, length-append new (const_bytes c));
            within = omega (arith, pool-end r, names-end z valid);
            names = r.appended.names;
          };
      pool = ap (λ b. b ++ const_bytes c) r.pool ∙ append_assoc (pool_bytes z.pool) new (const_bytes c);
      constants = omega (arith, r.constants);
      size = h;
    }

-- both have the constant more
pub record Added (z : Session) (e : Bytes) (c : Const) (s : State) (v : View) (k : ℕ) (s' : State) (v' : View) : Type 0 where
  pub index : k ≡ length s.pool
  pub state : s' ≡ with_pool (c ∷ s.pool) s
  pub memory : v' ≡ with_field c v
  pub pooled : Pooled z e (c ∷ s.pool) (with_field c v).session (marks (with_field c v).state)

-- a constant is added, or both refuse
pub added : {z : Session} {e : Bytes} {n : ℕ} {s : State} {v : View} → ValidSession z → Pooled z e s.pool v.session (marks v.state) → length v.code ≡ n → (p : ℕ) (c : Const)
    → Both (λ _. Stopped z e n) (Added z e c s v) (Structured.add_constant p c s) (add_constant p (tag_of c) (content c) v)
unfolding Structured.add_constant add_constant
added {z} {e} {n} {s} {v} valid r a p c =
    let stopped : Stopped z e n v = record { appended = r.appended; area = a } in
    compared constants_limit (length s.pool) constants_limit v.state.constants 0 refl (omega (arith, r.constants)) (λ _. Both.stop _ tt stopped) (λ _.
    compared (pool_size (c ∷ s.pool)) pool_limit (v.state.pool_end + (3 + length (content c))) (v.state.names_end + 3 + pool_limit) (names_end z + 3)
    (omega (arith, pool-end r)) (omega (arith, r.appended.names))
    (λ h. on_same r.constants (record { index = refl; state = refl; memory = refl; pooled = pooled_more valid r c h })) (λ _. Both.stop _ tt stopped))
