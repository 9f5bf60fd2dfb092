-- `judge_constant` meets its contract: by its code.
use Rattle.heights.proofs.Judges.{code_of, chunk_judges, chunk_ready}
use Rattle.heights.proofs.image.Judging.judge_constant.Goals as goal

pub judge_chunk-requires : goal.judge_chunk-requires
judge_chunk-requires c = chunk_ready (code_of c.args.constant c.function.ensures c.in-Some.is) c.args.self.now.marks.now c.requires

pub returns-clause-judges : goal.returns-clause-judges
returns-clause-judges c =
    let a = c.args in
    chunk_judges (code_of a.constant c.function.ensures c.in-Some.is) a.before a.self.now.output.now c.judge_chunk.ensures.judges
