-- `trial::cells::parts` meets its contract: a kind and a word for each value.
use Rattle.std.proofs.Common.{◌≡◌, Bool, true, false, subst, sym, ◌∙◌, ap, rules}
use Rattle.std.specs.Prelude.{Some as some, FitsSigned}
use Rattle.std.specs.Int.{w64, cast_unsigned}
use Rattle.std.proofs.lemmas.Int.{to_z-of_z}
use Rattle.trial.specs.Value.{Value, integer, boolean}
use Rattle.trial.specs.Cells.{Keeps}
use Rattle.trial.proofs.Words.{signed_law, unsigned_small}
use Rattle.trial.proofs.cells.parts.Goals as goal

pub returns-in-Integer : goal.returns-in-Integer
returns-in-Integer c =
    let n = c.in-Integer.n in
    let f : FitsSigned w64 n = search rules in
    let e : c.cast_unsigned.result ≡ cast_unsigned w64 n = c.cast_unsigned.ensures ∙ ap (cast_unsigned w64) (to_z-of_z w64 n f) in
    subst (λ x. Keeps 1 c.cast_unsigned.result (some x)) (sym c.in-Integer.is)
    (subst (λ w. Keeps 1 w (some (integer n))) (sym e) (subst (λ z. Keeps 1 (cast_unsigned w64 n) (some (integer z))) (signed_law n f) (Keeps.number (unsigned_small n f))))

kept : (b : Bool) → Keeps 2 (mir.Val.bool_byte b) (some (boolean b))
kept true = Keeps.yes
kept false = Keeps.no

pub returns-in-Boolean : goal.returns-in-Boolean
returns-in-Boolean c =
    let b = c.in-Boolean.b in
    subst (λ x. Keeps 2 c.from.result (some x)) (sym c.in-Boolean.is) (subst (λ w. Keeps 2 w (some (boolean b))) (sym c.from.ensures) (kept b))

pub returns-in-Null : goal.returns-in-Null
returns-in-Null c = subst (λ (x : Value). Keeps 3 0 (some x)) (sym c.in-Null.is) Keeps.empty
