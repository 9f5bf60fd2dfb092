-- What a translation is lent stays lent from one step to the next.
use mathlib.Core.Path.{◌∙◌}
use Prim.Native.Nat.{ℕ}
use Rattle.std.specs.Prelude.{Result}
use Rattle.definition.specs.Basic.{Bytes}
use Rattle.definition.specs.Bytecode.{Const}
use Rattle.chin.specs.declared.BadJump.{BadJump}
use Rattle.chin.specs.Rows.{jump_of, TurnsInstr, ConstAt, TurnsConst}
use Rattle.chin.specs.Lent.{Keeps}
use Rattle.chin.specs.declared.row.Turning.{Turning}

pub keeps_on : {s t u : Turning} → Keeps s t → Keeps t u → Keeps s u
keeps_on a b = record { output = b.output ∙ a.output; image = b.image ∙ a.image; from = b.from ∙ a.from; same = b.same ∙ a.same }

-- what is turned is of the image and the form that the translation began with
module _ {s t : Turning} (k : Keeps s t) {at : ℕ} where
  pub turned_there : {start size : ℕ} {o o' : Bytes} {r : Result (Unit {0}) BadJump} → TurnsInstr (jump_of t.from) t.image.now start at size o o' r → TurnsInstr (jump_of s.from) s.image.now start at size o o' r
  turned_there h = rw (k.from, k.image) at h

  pub const_in : {end : ℕ} {x : Const} → ConstAt s.from s.image.now at end x → ConstAt t.from t.image.now at end x
  const_in h = rw (k.from, k.image) h

  pub const_there : {x : Const} {o o' : Bytes} {r : Result (Unit {0}) BadJump} → TurnsConst t.from t.image.now at x o o' r → TurnsConst s.from s.image.now at x o o' r
  const_there h = rw (k.from, k.image) at h
