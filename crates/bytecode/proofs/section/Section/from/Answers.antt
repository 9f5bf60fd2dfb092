-- `bytecode::section::Section::from` meets its contract: from an offset there is one section.
use Rattle.bytecode.proofs.Answered.{same_section}
use Rattle.bytecode.proofs.section.Section.from.Goals as goal

pub returns-clause-is : goal.returns-clause-is
returns-clause-is c = λ w. same_section c.args.self c.args.start _ w
