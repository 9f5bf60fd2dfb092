-- `trial::cells::calculate` meets its contract: an operator a way.
use Rattle.std.proofs.Common.{◌≡◌, ◌+ℤ◌, ◌-ℤ◌, ◌*ℤ◌, ap, ◌∙◌, arith, rules}
use Rattle.std.specs.Prelude.{Some as some, option_map, int_lt}
use Rattle.std.specs.Int.{w64, cast_signed, cast_unsigned}
use Rattle.std.proofs.lemmas.Int.{to_z-of_z}
use Rattle.trial.specs.Value.{integer, boolean, combined}
use Rattle.trial.proofs.CellLaws.{is_infix, is_greater, fit, fit_law, divided, divided_law, mapped}
use Rattle.trial.proofs.cells.calculate.Goals as goal

pub returns-in-1 : goal.returns-in-1
returns-in-1 c = λ o i n m.
    let e : c.checked_add.result ≡ fit (c.args.a +ℤ c.args.b) = search rules in
    is_infix (λ o. c.map.result ≡ combined o (integer c.args.a) (integer c.args.b)) 0x01 i c.in-1.is (mapped _ _ c.map.ensures.cases ∙ ap (option_map integer) e ∙ fit_law (c.args.a +ℤ c.args.b))

pub returns-in-3 : goal.returns-in-3
returns-in-3 c = λ o i n m.
    let e : c.checked_sub.result ≡ fit (c.args.a -ℤ c.args.b) = search rules in
    is_infix (λ o. c.map-in-3.result ≡ combined o (integer c.args.a) (integer c.args.b)) 0x03 i c.in-3.is (mapped _ _ c.map-in-3.ensures.cases ∙ ap (option_map integer) e ∙ fit_law (c.args.a -ℤ c.args.b))

pub returns-in-4 : goal.returns-in-4
returns-in-4 c = λ o i n m.
    let e : c.checked_mul.result ≡ fit (c.args.a *ℤ c.args.b) = search rules in
    is_infix (λ o. c.map-in-4.result ≡ combined o (integer c.args.a) (integer c.args.b)) 0x04 i c.in-4.is (mapped _ _ c.map-in-4.ensures.cases ∙ ap (option_map integer) e ∙ fit_law (c.args.a *ℤ c.args.b))

pub returns-in-5 : goal.returns-in-5
returns-in-5 c = λ o i n m.
    let e : c.checked_div.result ≡ divided c.args.a c.args.b = search rules in
    is_infix (λ o. c.map-in-5.result ≡ combined o (integer c.args.a) (integer c.args.b)) 0x05 i c.in-5.is (mapped _ _ c.map-in-5.ensures.cases ∙ ap (option_map integer) e ∙ divided_law c.args.a c.args.b)

pub returns-in_default : goal.returns-in_default
returns-in_default c = λ o i n m.
    let a = to_z-of_z w64 c.args.a c.ranges.a in
    let b = to_z-of_z w64 c.args.b c.ranges.b in
    is_greater (λ o. some (boolean (int_lt (cast_signed w64 (cast_unsigned w64 c.args.b)) (cast_signed w64 (cast_unsigned w64 c.args.a)))) ≡ combined o (integer c.args.a) (integer c.args.b)) i (λ e. omega arith) (λ e. omega arith) (λ e. omega arith) (λ e. omega arith) n m (λ j. some (boolean (int_lt (b j) (a j))))
