-- What the exported functions promise of heights.
use Rattle.std.specs.Prelude.{ℕ, List, ◌≡◌, length, drop}
use Rattle.definition.specs.Basic.{Bytes}
use Rattle.definition.specs.Decode.{read_image}
use Rattle.heights.specs.Pass.{heights_answer, heights_into}
use Rattle.heights.specs.Proposal.{proposal_answer, proposal_size}
use Rattle.exported.specs.Packed.{Packs}

-- checking heights: answer and output are the definition's
pub record ChecksPacked (image : Bytes) (hs o : List ℕ) (r : ℕ) (o' : List ℕ) : Type 0 where
  pub answer : Packs (heights_answer (read_image image) hs (length o)) r
  pub output : o' ≡ heights_into (read_image image) hs o

-- proposing heights: the answer is the definition's, and what is behind the heights stays
pub record ProposesPacked (image : Bytes) (o : List ℕ) (r : ℕ) (o' : List ℕ) : Type 0 where
  pub answer : Packs (proposal_answer (read_image image) (length o)) r
  pub stays : drop (proposal_size (read_image image) (length o)) o' ≡ drop (proposal_size (read_image image) (length o)) o
