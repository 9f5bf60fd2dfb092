-- `judge_image` meets its contract: main, then the pool.
use native.Mathlib.Omega.{arith}
use mathlib.Core.Path.{ap, ◌∙◌}
use lib.ListN.{length}
use Rattle.listing.proofs.Images.{has_image, code_in, pool_in}
use Rattle.heights.proofs.Whole.{main_ready, main_fails, main_passes, pool_ready}
use Rattle.heights.proofs.image.Judging.judge_image.Goals as goal

pub judge_chunk-requires : goal.judge_chunk-requires
judge_chunk-requires c =
    let a = c.args in
    main_ready a.image.bytes.now (has_image a.image.bytes.now a.image.sound).is c.parts.ensures 65536 (omega arith) c.requires.blank

pub judge_pool-requires : goal.judge_pool-requires
judge_pool-requires c =
    let a = c.args in
    let i = (has_image a.image.bytes.now a.image.sound).is in
    let j = c.judge_chunk.ensures in
    pool_ready a.image.bytes.now i c.parts.ensures a.heights.now a.self.now.output.now (j.judges _ (code_in a.image.bytes.now i c.parts.ensures)) c.in-Some.is 65536 (omega arith) (j.lent.marks ∙ ap length c.requires.blank)

pub returns-in_default-clause-judges : goal.returns-in_default-clause-judges
returns-in_default-clause-judges c =
    let a = c.args in
    λ m i.
    main_fails a.image.bytes.now i c.parts.ensures a.heights.now a.self.now.output.now (c.judge_chunk.ensures.judges m.code (code_in a.image.bytes.now i c.parts.ensures)) c.in_default.is

pub returns-clause-judges : goal.returns-clause-judges
returns-clause-judges c =
    let a = c.args in
    let d = c.parts.ensures in
    λ m i.
    c.judge_pool.ensures.judges m.pool (pool_in a.image.bytes.now i d) a.heights.now m a.self.now.output.now
    (main_passes a.image.bytes.now i d a.heights.now a.self.now.output.now (c.judge_chunk.ensures.judges m.code (code_in a.image.bytes.now i d)) c.in-Some.is)
