-- What the two functions on heights promise.
use Rattle.std.specs.Prelude.{ℕ, List, ◌≡◌, length, drop}
use Rattle.definition.specs.Basic.{Bytes}
use Rattle.definition.specs.Decode.{read_image}
use Rattle.definition.specs.Answer.{Answer}
use Rattle.heights.specs.Pass.{heights_answer, heights_into}
use Rattle.heights.specs.Proposal.{proposal_answer, proposal_size}

-- checking the heights offered for an image: answer and output are the definition's
pub record Checks (image : Bytes) (hs o : List ℕ) (r : Answer) (o' : List ℕ) : Type 0 where
  pub answer : r ≡ heights_answer (read_image image) hs (length o)
  pub output : o' ≡ heights_into (read_image image) hs o

-- proposing heights for an image: the answer is the definition's, and what is behind the heights stays
pub record Proposes (image : Bytes) (o : List ℕ) (r : Answer) (o' : List ℕ) : Type 0 where
  pub answer : r ≡ proposal_answer (read_image image) (length o)
  pub stays : drop (proposal_size (read_image image) (length o)) o' ≡ drop (proposal_size (read_image image) (length o)) o
