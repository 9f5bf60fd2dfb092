-- The lines of a pool: a loop that puts a constant a turn.
use Prim.Native.Nat.{ℕ, ◌+◌, ◌≤◌, ◌<◌}
use mathlib.Core.Path.{◌≡◌, ◌∙◌, ap, sym, refl, subst, subst₂}
use mathlib.Core.List.{List, [], ◌∷◌, ◌++◌}
use native.Mathlib.Omega.{arith}
use lib.ListN.{length}
use Rattle.definition.specs.Basic.{Bytes, byte_at}
use Rattle.definition.specs.Limit.{constants_limit}
use Rattle.definition.specs.Field.{head}
use Rattle.definition.specs.Text.{decimal}
use Rattle.definition.specs.Bytecode.{Const}
use Rattle.definition.specs.Decode.{decoded, read_const}
use Rattle.definition.specs.Listing.{constant_fields, constant_lines}
use Rattle.bytecode.proofs.Fields.{const_end, const_ends}
use Rattle.listing.specs.declared.text.Writer.{Writer}
use Rattle.listing.specs.Put.{Puts}
use Rattle.listing.specs.Reads.{ConstantAt, PoolAt, HasPool}
use Rattle.listing.proofs.Puts.{both, none, reworded}
use Rattle.listing.proofs.Items.{Reading, begins, ends, Next, next}

module _ (b : Bytes) (start end : ℕ) where
  -- the loop at an offset, after so many constants
  pub record PoolLoop (w₀ w : Writer) (pos count : ℕ) : Type 0 where
    pub pool : List Const
    pub reading : Reading (read_const (byte_at b)) end constants_limit start pool pos
    pub order : pos ≤ end
    pub counted : length pool ≡ count
    pub puts : Puts w₀ w (constant_lines pool)

  pub pool-begins : (w : Writer) → w.at ≤ length w.output.now → start ≤ end → PoolLoop w w start 0
  pool-begins w l h =
      record {
        pool = [];
        reading = begins (read_const (byte_at b)) end constants_limit start;
        order = h;
        counted = refl;
        puts = none w l;
      }

module _ {b : Bytes} {start end : ℕ} {w₀ w : Writer} {pos count : ℕ} (l : PoolLoop b start end w₀ w pos count) where
  -- at the same offset, after as many constants
  pub same : {pos₁ count₁ : ℕ} → pos ≡ pos₁ → count ≡ count₁ → PoolLoop b start end w₀ w pos₁ count₁
  same e f = subst₂ (PoolLoop b start end w₀ w) e f l

  pub pool_ends : end ≤ pos → {cs : List Const} → PoolAt b start end cs → Puts w₀ w (constant_lines cs)
  pool_ends h k =
      let e : pos ≡ end = omega (arith, l.order) in
      reworded l.puts (ap constant_lines (ends (read_const (byte_at b)) end constants_limit start l.reading k.reads e))

  module _ (h : HasPool b start end) (before : pos < end) where
    pub found : Next (read_const (byte_at b)) end constants_limit start l.reading h.is.reads
    found = next (read_const (byte_at b)) end constants_limit start l.reading h.is.reads (λ i. omega arith)

    -- the constant there
    pub record Turn : Type 0 where
      pub constant : ConstantAt b pos end found.x
      pub after_is : found.next ≡ pos + 3 + (head (byte_at b) pos).len
      pub within : pos + 3 + (head (byte_at b) pos).len ≤ end

    pub pool-turn : Turn
    pool-turn =
        let e = const_end (byte_at b) pos end found.found in
        let i = const_ends (byte_at b) pos end found.x found.next found.found in
        record {
          constant = record { within = h.is.within; reads = found.found ∙ ap (decoded found.x) e };
          after_is = e;
          within = omega arith;
        }

    pub pool_again : {w₁ w₂ : Writer} {len : ℕ} → Puts w w₁ (decimal count) → Puts w₁ w₂ (constant_fields found.x) → len ≡ (head (byte_at b) pos).len
        → PoolLoop b start end w₀ w₂ (pos + 3 + len) (count + 1)
    pool_again {len = len} p q e =
        let k = pool-turn in
        let a : found.next ≡ pos + 3 + len = omega (arith, k.after_is) in
        record {
          pool = found.x ∷ l.pool;
          reading = subst (λ n. Reading (read_const (byte_at b)) end constants_limit start (found.x ∷ l.pool) n) a found.reading;
          order = omega (arith, k.within);
          counted = omega (arith, l.counted);
          puts = reworded (both (both l.puts p) q) (ap (λ n. constant_lines l.pool ++ decimal n ++ constant_fields found.x) (sym l.counted));
        }
