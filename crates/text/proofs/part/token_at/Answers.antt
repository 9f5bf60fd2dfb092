-- `token_at` meets its contract: what is next.
use Rattle.text.proofs.RowAt.{sees_next}
use Rattle.text.proofs.part.token_at.Goals as goal

pub returns : goal.returns
returns c = sees_next _ _ c.requires _ c.next_token.ensures c.no_token.ensures c.unwrap_or.ensures
