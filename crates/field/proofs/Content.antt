-- The content of a whole field: as a part of the bytes, as the definition reads it, and its length.
use Prim.Native.Nat.{ℕ, ◌+◌}
use mathlib.Core.Path.{◌≡◌, sym, ap, ◌∙◌}
use lib.ListN.{length}
use Rattle.definition.specs.Basic.{Bytes, byte_at}
use Rattle.definition.specs.Field.{bytes}
use Rattle.definition.proofs.Bytes.{bytes_slice, length-bytes}
use Rattle.field.specs.Layout.{len, content, Whole}

module _ {b : Bytes} {at : ℕ} where
  -- what the definition reads there
  pub content-bytes : Whole b at → bytes (byte_at b) (at + 3) (len b at) ≡ content b at
  content-bytes w = bytes_slice b (at + 3) (len b at) w.fits

  -- as long as its head says
  pub length-content : Whole b at → length (content b at) ≡ len b at
  length-content w = sym (ap length (content-bytes w)) ∙ length-bytes (byte_at b) (at + 3) (len b at)
