-- `compile_lent` is the call's result, and the work areas zeroed. Assumes nothing.
use Rattle.std.proofs.Common.{◌≡◌, length, replicate, ap, ◌∙◌, rules}
use Rattle.definition.specs.Limit.{code_size, table_size}
use Rattle.compiler.proofs.compile_lent.Goals as goal

pub returns-clause-code : goal.returns-clause-code
returns-clause-code c =
    let l : length c.compile_in-answer.new.code ≡ code_size = search rules in
    c.fill.ensures.after (λ y e. e) ∙ ap (λ n. replicate n 0) l

pub returns-clause-table : goal.returns-clause-table
returns-clause-table c =
    let l : length c.compile_in-answer.new.table ≡ table_size = search rules in
    c.fill-2.ensures.after (λ y e. e) ∙ ap (λ n. replicate n 0) l
