-- P2 of series in which plain calls, calls with records and calls with numbers follow one another in any order; and their sessions read
-- back.
use mathlib.Core.List.{List, map}
use lib.ListN.{take}
use Rattle.definition.specs.Basic.{Bytes}
use Rattle.definition.specs.Limit.{session_size}
use Rattle.definition.specs.Session.{Words}
use Rattle.definition.specs.Series.{Start, ReadsBack}
use Rattle.definition.specs.Trusted.{TrustedCall}
use Rattle.definition.specs.Valid.{All}
use Rattle.compiler.specs.Promise.{MadeBy}
use Rattle.compiler.proofs.Conditions.{made-start}
use Rattle.records.proofs.Turns.{turns-read_back, trusted_turns}
use Rattle.promises.specs.Mixed.{AnyCall, AnyDone, called_of, RanBy, RanMixed, turn_of}
use Rattle.promises.proofs.Mixed.{Gives, kept_done, all_ran}

-- of any calls that give what the definition's turns give
pub any_trusted : {K : Bytes → AnyCall → AnyDone → Type 0} → Gives K → {s : Bytes} {w : Words} → Start s w
    → {cs : List AnyCall} {xs : List AnyDone} → RanBy K s cs xs → All (λ (x : AnyDone). TrustedCall (called_of x)) xs
any_trusted g a {cs} x = all_ran g TrustedCall x (trusted_turns a (map turn_of cs))

-- each image in the output reads as one that is trusted beside the session which its call left
pub mixed_trusted : {a : Bytes} {w : Words} → MadeBy a w → (cs : List AnyCall) (xs : List AnyDone) → RanMixed (take session_size a) cs xs
    → All (λ (x : AnyDone). TrustedCall (called_of x)) xs
mixed_trusted m cs xs x = any_trusted kept_done (made-start m) x

-- of any such calls
pub any_read_back : {K : Bytes → AnyCall → AnyDone → Type 0} → Gives K → {s : Bytes} {w : Words} → Start s w
    → {cs : List AnyCall} {xs : List AnyDone} → RanBy K s cs xs → All (λ (x : AnyDone). ReadsBack (called_of x)) xs
any_read_back g a {cs} x = all_ran g ReadsBack x (turns-read_back a (map turn_of cs))

-- a session that calls of any kind alone have written always reads back, and none of them is refused with 2
pub mixed_read_back : {a : Bytes} {w : Words} → MadeBy a w → (cs : List AnyCall) (xs : List AnyDone) → RanMixed (take session_size a) cs xs
    → All (λ (x : AnyDone). ReadsBack (called_of x)) xs
mixed_read_back m cs xs x = any_read_back kept_done (made-start m) x
