-- Series of compile calls whose trees `monkey_read_text` wrote, from alike scripts.
use Rattle.std.specs.Prelude.{ℕ, ◌/◌, ◌%◌, List, [], ◌∷◌, ◌≡◌, length, take}
use Rattle.definition.specs.Basic.{Bytes}
use Rattle.definition.specs.Series.{Call}
use Rattle.alike.specs.Scripts.{AlikeScripts}
use Rattle.exported.specs.Packed.{half_bound, ReadsPacked}

-- the tree of a call is what an exported call that was not refused wrote of a text
pub record FromText (text : Bytes) (c : Call) : Type 0 where
  pub before : Bytes
  pub answer : ℕ
  pub output : Bytes
  pub reads : ReadsPacked text before answer output
  pub accepted : answer / half_bound ≡ 0
  pub tree : c.tree ≡ take (answer % half_bound) output

-- two such calls: alike scripts, and equal lent lengths
pub record AlikeTextCalls (c d : Call) : Type 0 where
  pub first_text : Bytes
  pub second_text : Bytes
  pub first : FromText first_text c
  pub second : FromText second_text d
  pub scripts : AlikeScripts first_text second_text
  pub session : length c.session ≡ length d.session
  pub output : length c.output ≡ length d.output
  pub code : length c.code ≡ length d.code
  pub table : length c.table ≡ length d.table

pub data AllTexts : List Call → List Call → Type 0 where
  none : AllTexts [] []
  more : {c d : Call} {cs ds : List Call} → AlikeTextCalls c d → AllTexts cs ds → AllTexts (c ∷ cs) (d ∷ ds)
