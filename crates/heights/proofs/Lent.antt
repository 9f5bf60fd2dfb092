-- What judging is lent stays lent from one step to the next.
use mathlib.Core.Path.{refl, ◌∙◌}
use Rattle.heights.specs.Lent.{Lent, Lends, Keeps}
use Rattle.heights.specs.declared.chunk.Marks.{Marks}
use Rattle.heights.specs.declared.image.Judging.{Judging}
use Rattle.heights.specs.declared.propose.Proposer.{Proposer}

pub lent_still : (s : Judging) → Lent s s
lent_still s = record { output = refl; marks = refl; same = refl }

pub lent_on : {s t u : Judging} → Lent s t → Lent t u → Lent s u
lent_on a b = record { output = b.output ∙ a.output; marks = b.marks ∙ a.marks; same = b.same ∙ a.same }

pub lends_on : {s t u : Proposer} → Lends s t → Lends t u → Lends s u
lends_on a b = record { heights = b.heights ∙ a.heights; marks = b.marks ∙ a.marks; same = b.same ∙ a.same }

pub keeps_on : {s t u : Marks} → Keeps s t → Keeps t u → Keeps s u
keeps_on a b = record { levels = b.levels ∙ a.levels; code = b.code ∙ a.code; same = b.same ∙ a.same }
