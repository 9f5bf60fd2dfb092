-- `bytecode::check_image` meets its contract: the plain form is the definition's.
use mathlib.Core.Path.{◌∙◌, ap}
use Rattle.bytecode.specs.Checked.{image_answer}
use Rattle.bytecode.proofs.Images.{read_plain}
use Rattle.bytecode.proofs.check_image.Goals as goal

pub returns : goal.returns
returns c =
    let start = c in
    c.check_form.ensures ∙ ap image_answer (read_plain start.args.image.now)
