-- `propose_constant` meets its contract: by its code.
use Rattle.heights.proofs.Judges.{code_of}
use Rattle.heights.proofs.Flows.{chunk_flow, chunk_proposed}
use Rattle.heights.proofs.propose.Proposer.propose_constant.Goals as goal

pub propose_chunk-requires : goal.propose_chunk-requires
propose_chunk-requires c = chunk_flow (code_of c.args.constant c.function.ensures c.in-Some.is) c.args.self.now.count c.requires

pub returns-clause-proposes : goal.returns-clause-proposes
returns-clause-proposes c = chunk_proposed (code_of c.args.constant c.function.ensures c.in-Some.is) c.args.self.now.count c.propose_chunk.ensures.proposes
