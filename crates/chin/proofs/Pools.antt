-- The loop that turns constants: one a turn.
use Prim.Native.Nat.{ℕ, ◌+◌, ◌≤◌, ◌<◌}
use native.Mathlib.Omega.{arith}
use mathlib.Core.List.{List, ◌++◌}
use mathlib.Core.Path.{◌≡◌, refl, sym, ap, subst, ◌∙◌}
use lib.ListN.{length, drop}
use Rattle.definition.specs.Basic.{Bytes, byte_at}
use Rattle.definition.specs.Limit.{constants_limit}
use Rattle.definition.specs.Field.{head}
use Rattle.definition.specs.Bytecode.{Const, content, pool_size}
use Rattle.definition.specs.Decode.{decoded}
use Rattle.bytecode.specs.declared.Form.{Form}
use Rattle.bytecode.specs.Form.{const_in, read_const_in}
use Rattle.bytecode.proofs.Fields.{const_end_in, const_ends_in}
use Rattle.std.specs.Prelude.{Ok, Err}
use Rattle.chin.specs.declared.BadJump.{BadJump}
use Rattle.chin.specs.Turn.{Made, turn_const}
use Rattle.chin.specs.Rows.{other_form, jump_of, verdict, ConstAt, HasConst, TurnsConst, PoolAt, TurnsPool}
use Rattle.chin.proofs.Turns.{turn-const}
use Rattle.chin.proofs.Constants.{write_const}
use Rattle.chin.proofs.Chunks.{fine_made, bad_stopped, not-made}
use Rattle.chin.proofs.Functions.{returns_of, const_length}
use Rattle.chin.proofs.Loops.{Loop, loop_begins, loop_fine, loop_written, loop_next, loop_stops, loop_again}

-- a pool is read as one list
pub same_pool : {f : Form} {b : Bytes} {start end : ℕ} {cs ds : List Const} → PoolAt f b start end cs → PoolAt f b start end ds → cs ≡ ds
same_pool {cs = cs} {ds} p q = cc (p.reads, q.reads)

module _ (f : Form) (b : Bytes) (start end : ℕ) where
  -- a constant at an offset of the pool
  abbrev turn_at : ℕ → Const → Made Const
  turn_at at = turn_const (jump_of f) (start + at + 3)

  abbrev pub PoolLoop : Bytes → ℕ → Bytes → Type 0
  PoolLoop = Loop (read_const_in f (byte_at b)) pool_size turn_at (const_in (other_form f)) b constants_limit start end

  pub pool-begins : start ≤ end → (o : Bytes) → PoolLoop o start o
  pool-begins h o = loop_begins (read_const_in f (byte_at b)) pool_size turn_at (const_in (other_form f)) b constants_limit start end h refl o

  module _ {cs : List Const} (a : PoolAt f b start end cs) {o₀ o : Bytes} {at : ℕ} (l : PoolLoop o₀ at o) where
    pub pool_ends : end ≤ at → TurnsPool f b start end cs o₀ o (Ok tt)
    pool_ends h =
        record {
          judged = loop_fine (read_const_in f (byte_at b)) pool_size turn_at (const_in (other_form f)) b constants_limit start end l a.reads h;
          written = loop_written (read_const_in f (byte_at b)) pool_size turn_at (const_in (other_form f)) b constants_limit start end l a.reads h;
        }

    module _ (h : at < end) where
      -- a constant is there
      pub pool_const : HasConst f b at end
      pool_const =
          let k = loop_next (read_const_in f (byte_at b)) pool_size turn_at (const_in (other_form f)) b constants_limit start end l a.reads h in
          record { constant = k.x; is = record { within = a.within; small = a.small; reads = k.found ∙ ap (decoded k.x) (const_end_in (byte_at b) at end f k.found) } }

      abbrev x : Const
      x = pool_const.constant

      abbrev there : ConstAt f b at end x
      there = pool_const.is

      pub pool_within : (at < at + 3 + (head (byte_at b) at).len) × (at + 3 + (head (byte_at b) at).len ≤ end)
      pool_within = const_ends_in (byte_at b) at end f x (at + 3 + (head (byte_at b) at).len) there.reads

      -- its offset in the pool
      offset : turn_at (pool_size l.xs) x ≡ turn_const (jump_of f) (at + 3) x
      offset = ap (λ k. turn_const (jump_of f) (k + 3) x) (sym l.place)

      pub pool_stops : {o' o'' : Bytes} {p : BadJump} → TurnsConst f b at x o o' (Err p) → TurnsPool f b start end cs o₀ o'' (Err p)
      pool_stops {p = p} t =
          let q = loop_stops (read_const_in f (byte_at b)) pool_size turn_at (const_in (other_form f)) b constants_limit start end l a.reads h there.reads (offset ∙ bad_stopped _ t.judged) in
          record { judged = sym (ap verdict q); written = λ d k m. absurd (not-made q k) }

      pub pool_again : {o' : Bytes} → length o' ≡ length o → TurnsConst f b at x o o' (Ok tt) → PoolLoop o₀ (at + 3 + (head (byte_at b) at).len) o'
      pool_again {o'} kept t =
          let m = fine_made (turn_const (jump_of f) (at + 3) x) t.judged in
          let w = write_const f a.small.below at end there.reads in
          let s = turn-const (returns_of f) (at + 3) x w.sound m.1 in
          let n = const_length f b at end there in
          let e : at + 3 + length (content x) ≡ at + 3 + (head (byte_at b) at).len = omega arith in
          loop_again (read_const_in f (byte_at b)) pool_size turn_at (const_in (other_form f)) b constants_limit start end l a.reads h there.reads (offset ∙ m.1) pool_within.1 (omega (arith, l.place)) kept (omega (arith, s.long))
          (λ u p long is.
          subst (λ k. o' ≡ (p ++ const_in (other_form f) m.0) ++ drop k o₀) e
          (t.written m.0 m.1 p o₀ long is (record { room = omega (arith, u.room, pool_within.1); bytes = λ k g j. u.bytes k (omega (arith, l.place)) (omega (arith, pool_within.1)) })))
