-- The constants of a pool that are gone over, as the pool has them.
use Rattle.std.proofs.Common.{ℕ, ◌≤◌, List, sym, refl, subst, arith}
use Rattle.definition.specs.Basic.{Bytes, byte_at}
use Rattle.definition.specs.Limit.{constants_limit}
use Rattle.definition.specs.Bytecode.{Const}
use Rattle.definition.specs.Decode.{read_const}
use Rattle.bytecode.specs.Constants.{NextIs, Ended}
use Rattle.bytecode.specs.declared.constants.Constants.{Constants}
use Rattle.bytecode.proofs.EachConstant.{Over, stands_at, none_left}
use Rattle.listing.specs.Reads.{PoolAt}
use Rattle.listing.proofs.Items.{Reading}
use Rattle.heights.proofs.Judges.{Turn, turn}

module _ {b : Bytes} {end : ℕ} {s : Constants} (o : Over b end s) where
  -- the constant there
  pub turn_at : {at after : ℕ} {t : Constants} → NextIs s at after t → {start : ℕ} {cs : List Const} → PoolAt b start end cs → {pool : List Const} → Reading (read_const (byte_at b)) end constants_limit start pool at → Turn b start end at pool after
  turn_at {at} n {start} h {pool} r = let k = stands_at o n in subst (Turn b start end at pool) (sym k.sized) (turn b h r k.before refl)

  -- none was left
  pub all_read : {start : ℕ} {cs : List Const} → PoolAt b start end cs → {pool : List Const} → Reading (read_const (byte_at b)) end constants_limit start pool s.at → Ended s → end ≤ s.at
  all_read h r e = none_left o e (λ l. let k = turn b h r l refl in omega (arith, k.behind, k.within, h.within))
