-- A session is made in zeros of its size.
use Rattle.std.specs.Prelude.{◌≡◌, ℕ, List, replicate, length, leb, Ok}
use Rattle.std.proofs.Common.{ap}
use Rattle.definition.specs.Basic.{pick}
use Rattle.definition.specs.Limit.{session_size}
use Rattle.definition.specs.Number
use Rattle.definition.specs.Session.{six}
use Rattle.definition.specs.Call.{begins, not_made, made}
use Rattle.std.proofs.lemmas.List.{length-replicate}

-- of so many zeros
abbrev zeros : ℕ → List ℕ
zeros n = replicate n 0

-- not refused
pub made_fresh : (made (replicate session_size 0)).answer ≡ Ok session_size
unfolding made
made_fresh =
    let size : length (zeros session_size) ≡ session_size = length-replicate {A = ℕ} session_size 0 in
    ap (λ (n : ℕ). (pick (leb session_size n) (begins six (zeros session_size)) (not_made Number.short_buffer (zeros session_size))).answer) size
