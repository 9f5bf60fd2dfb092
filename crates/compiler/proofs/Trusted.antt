-- Every image of a session that was made, and that calls alone have written, can be trusted (P2), of any calls that keep the promise of `compile`.
use mathlib.Core.List.{List}
use mathlib.Core.Path.{sym, subst}
use lib.ListN.{take}
use Rattle.definition.specs.Basic.{Bytes}
use Rattle.definition.specs.Limit.{session_size}
use Rattle.definition.specs.Session.{Words}
use Rattle.definition.specs.Call.{Called}
use Rattle.definition.specs.Series.{Call}
use Rattle.definition.specs.Trusted.{TrustedCall}
use Rattle.definition.specs.Valid.{All}
use Rattle.definition.proofs.Trusted.{trusted_calls}
use Rattle.compiler.proofs.Conditions.{ran-calls, made-start}
use Rattle.compiler.specs.Promise.{MadeBy, Ran}

-- each image in the output reads as one that is trusted beside the session which its call left
pub compile_trusted : {a : Bytes} {w : Words} → MadeBy a w → (cs : List Call) (xs : List Called) → Ran (take session_size a) cs xs → All TrustedCall xs
compile_trusted m cs xs x = subst (All TrustedCall) (sym (ran-calls x)) (trusted_calls (made-start m) cs)
