-- A function's constant: its head, its locals and parameters, and the chunk in work.
use Prim.Native.Nat.{ℕ, ◌+◌, ◌-◌, ◌≤◌}
use native.Mathlib.Omega.{arith}
use mathlib.Core.Bool.{Bool, true, false}
use mathlib.Core.Path.{◌≡◌, ap}
use lib.ListN.{length, take, drop, length-drop}
use lib.Seq.{sets, length-take-le}
use Rattle.definition.specs.Basic.{Bytes}
use Rattle.definition.specs.Limit.{code_size}
use Rattle.definition.specs.Number
use Rattle.definition.specs.Number.{refusal}
use Rattle.definition.specs.Tag.{tag_function_const}
use Rattle.definition.specs.Field.{field}
use Rattle.scope.specs.declared.State.{State}
use Rattle.std.specs.Prelude.{Ok, Err}
use Rattle.scope.specs.View.{Fits}
use Rattle.scope.specs.Machine.{with_constant, add_constant, function_content}
use Rattle.step.specs.Memory.{RoomyState}
use Rattle.step.specs.Contract.{has_room, Adds}
use Rattle.step.proofs.Constants.{adds_on, adds_full}

-- The chunk in work, as a part of the code area
module _ (c : Bytes) (s : State) (f : Fits s) (a : code_size ≤ length c) where
  pub part_bytes : take (s.chunk.start + s.chunk.len - s.chunk.start) (drop s.chunk.start c) ≡ take s.chunk.len (drop s.chunk.start c)
  part_bytes = let n : s.chunk.start + s.chunk.len - s.chunk.start ≡ s.chunk.len = omega arith in ap (λ n. take n (drop s.chunk.start c)) n

  chunk-length : length (take s.chunk.len (drop s.chunk.start c)) ≡ s.chunk.len
  chunk-length = length-take-le s.chunk.len (drop s.chunk.start c) (omega (arith, f.room, length-drop s.chunk.start c))

  module _ {e : Bytes} {t : Bool} (m : RoomyState e s) (o : t ≡ has_room (3 + s.chunk.len) s) (y : t ≡ true) where
    pub function_on : (p locals params : ℕ) {e' : Bytes} {s' : State} → e' ≡ sets e s.pool_end (field tag_function_const (function_content locals params (take s.chunk.len (drop s.chunk.start c))))
        → s' ≡ with_constant (3 + s.chunk.len) s → Adds (add_constant p tag_function_const (function_content locals params (take s.chunk.len (drop s.chunk.start c)))) e e' s s' (Ok s.constants)
    function_on p locals params st i =
        adds_on p tag_function_const (function_content locals params (take s.chunk.len (drop s.chunk.start c))) e (3 + s.chunk.len) m (omega (arith, chunk-length)) o y st i

  pub function_full : (p locals params : ℕ) {e : Bytes} {t : Bool} → t ≡ has_room (3 + s.chunk.len) s → t ≡ false
      → Adds (add_constant p tag_function_const (function_content locals params (take s.chunk.len (drop s.chunk.start c)))) e e s s (Err (refusal Number.pool p))
  function_full p locals params {e} o y =
      adds_full p tag_function_const (function_content locals params (take s.chunk.len (drop s.chunk.start c))) e (3 + s.chunk.len) (omega (arith, chunk-length)) o y
