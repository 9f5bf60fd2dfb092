-- `propose_image` meets its contract: main, then the pool.
use native.Mathlib.Omega.{arith}
use mathlib.Core.Path.{ap, subst}
use Prim.Native.Nat.{◌+◌}
use lib.ListN.{length}
use Rattle.listing.proofs.Images.{has_image, code_in, pool_in}
use Rattle.heights.specs.Proposal.{Proposed}
use Rattle.heights.proofs.Flows.{main_flow, pool_flow, image_proposed}
use Rattle.heights.proofs.propose.Proposer.propose_image.Goals as goal

pub propose_chunk-requires : goal.propose_chunk-requires
propose_chunk-requires c =
    let a = c.args in
    main_flow a.image.bytes.now (has_image a.image.bytes.now a.image.sound).is c.parts.ensures 65536 (omega arith) c.requires.blank c.requires.none

pub propose_pool-requires : goal.propose_pool-requires
propose_pool-requires c =
    let a = c.args in
    let i = (has_image a.image.bytes.now a.image.sound).is in
    let j = c.propose_chunk.ensures in
    pool_flow a.image.bytes.now i c.parts.ensures _ (omega (arith, j.lent.marks, ap length c.requires.blank)) (j.proposes _ (code_in a.image.bytes.now i c.parts.ensures))

pub returns-clause-proposes : goal.returns-clause-proposes
returns-clause-proposes c =
    let a = c.args in
    let d = c.parts.ensures in
    λ m i.
    let o = c.propose_chunk.new.self in
    let p = subst (λ n. Proposed (n + length m.code) c.parts.result.code.end a.self.now.heights.now o.count o.heights.now) c.requires.none (c.propose_chunk.ensures.proposes m.code (code_in a.image.bytes.now i d)) in
    image_proposed a.image.bytes.now i d p (c.propose_pool.ensures.proposes m.pool (pool_in a.image.bytes.now i d) m (omega (arith, p.many, c.requires.none)))
