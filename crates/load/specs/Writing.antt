-- What a function leaves that writes drawn fields at the start of what it is lent.
use Rattle.std.specs.Prelude.{◌≡◌, ℕ, ◌≤◌, length}
use Rattle.definition.specs.Basic.{Bytes}
use Rattle.definition.specs.Output.{over}
use Rattle.definition.specs.Node.{Node, Nodes, written, written_all}
use Rattle.load.specs.Size.{size, size_all}
use Rattle.load.specs.Draw.{Drawn}

-- a field: its bytes, its length and the new state; it keeps to what was lent
pub record Wrote (x : Drawn Node) (n s : ℕ) (before after : Bytes) : Type 0 where
  pub bytes : after ≡ over (written x.value) before
  pub len : n ≡ size x.value
  pub state : s ≡ x.state
  pub within : size x.value ≤ length before

-- fields in a row
pub record WroteAll (xs : Drawn Nodes) (n s : ℕ) (before after : Bytes) : Type 0 where
  pub bytes : after ≡ over (written_all xs.value) before
  pub len : n ≡ size_all xs.value
  pub state : s ≡ xs.state
  pub within : size_all xs.value ≤ length before
