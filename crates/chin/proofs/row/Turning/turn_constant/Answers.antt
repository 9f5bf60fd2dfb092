-- `chin::row::Turning::turn_constant` meets its contract: by the tag.
use mathlib.Core.Path.{◌∙◌, ap, sym}
use lib.ListN.{set}
use Rattle.bytecode.specs.Form.{tag_function_in}
use Rattle.chin.proofs.Functions.{const_stays, function_at, function_turned}
use Rattle.chin.proofs.row.Turning.turn_constant.Goals as goal

pub returns-then-image-at-clause-turns : goal.returns-then-image-at-clause-turns
returns-then-image-at-clause-turns c =
    let a = c.args in
    let s = a.self.now in
    λ x is. const_stays s.from s.image.now a.at a.end x is (λ e. c.if-image-at.true (e ∙ sym c.tags-function.ensures.function)) s.output.now

pub turn_code-requires : goal.turn_code-requires
turn_code-requires c =
    let a = c.args in
    let s = a.self.now in
    function_at s.from s.image.now a.at a.end c.requires.constant c.requires.is (c.if-image-at.false ∙ c.tags-function.ensures.function) c.length_at-len.ensures.is

pub returns : goal.returns
returns c =
    let a = c.args in
    let s = a.self.now in
    let turn = c.turn_code.ensures in
    let put = c.store.ensures ∙ ap (set s.output.now a.at) (c.tags-tag.ensures.function ∙ ap tag_function_in c.other_form.ensures) in
    record {
      turns = λ x is. function_turned s.from s.image.now a.at a.end x is (c.if-image-at.false ∙ c.tags-function.ensures.function) c.length_at-len.ensures.is put turn.turns;
      lent = record { output = turn.lent.output ∙ c.store.auto.output; image = turn.lent.image; from = turn.lent.from; same = turn.lent.same };
    }
