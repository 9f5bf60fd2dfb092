-- `judge_chunk` meets its contract: by the check of the chunk.
use mathlib.Core.Path.{refl}
use Rattle.heights.proofs.Judges.{judged-on}
use Rattle.heights.proofs.image.Judging.judge_chunk.Goals as goal

pub returns : goal.returns
returns c =
    let a = c.args in
    record {
      judges = λ d k. judged-on a.before.chunks (c.check_chunk.ensures d k) a.self.now.output.now c.in_ok-chunk.was c.store.ensures;
      lent = record { output = c.store.auto.output; marks = c.check_chunk.auto.marks; same = refl };
    }
