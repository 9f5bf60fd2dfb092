-- `bytecode::section::Section::check_name_fields` meets its contract: names, one after the other.
use mathlib.Core.Path.{◌∙◌, refl}
use mathlib.Core.List.{[]}
use Rattle.std.proofs.Common.{rules}
use Rattle.definition.specs.Basic.{byte_at}
use Rattle.definition.specs.Decode.{read_name_field}
use Rattle.bytecode.specs.Checked.{item}
use Rattle.bytecode.proofs.Counted.{counted-items}
use Rattle.bytecode.proofs.section.Section.check_name_fields.Goals as goal

pub returns : goal.returns
returns c =
    let a = c.args in
    c.check_items.ensures (λ at. item (read_name_field (byte_at a.self.span.bytes.now) at a.self.span.end)) (λ at w r h p. search rules)
    ∙ counted-items (read_name_field (byte_at a.self.span.bytes.now)) a.self.span.end a.most a.self.span.start [] refl
