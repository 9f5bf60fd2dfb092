-- `trial::run_in` meets its contract: cleared before and after.
use Rattle.std.proofs.Common.{◌≡◌, length, replicate, ap, ◌∙◌, rules}
use Rattle.trial.proofs.run_in.Goals as goal

pub run_image-answer-requires : goal.run_image-answer-requires
run_image-answer-requires c =
    let l : length c.args.work.now ≡ 4096 = search rules in
    c.fill.ensures.after (λ y e. e) ∙ ap (λ n. replicate n 0) l

pub returns-clause-clears : goal.returns-clause-clears
returns-clause-clears c =
    let l : length c.run_image-answer.new.work ≡ 4096 = search rules in
    c.fill-2.ensures.after (λ y e. e) ∙ ap (λ n. replicate n 0) l
