-- A machine that stays, and a step that stores nothing.
use Rattle.std.proofs.Common.{ℕ, List, ◌+◌, sym, ◌∙◌, subst}
use Rattle.std.specs.Prelude.{Ok}
use Rattle.std.specs.declared.ops.ControlFlow.{ControlFlow}
use Rattle.definition.specs.Bytecode.{Const}
use Rattle.listing.specs.Reads.{PoolIn}
use Rattle.trial.specs.Run.{Run}
use Rattle.trial.specs.declared.pool.Program.{Program}
use Rattle.trial.specs.Machine.{went_on, goes_on, After, Stays, Steps}
use Rattle.trial.specs.declared.machine.Machine.{Machine}

pub stays_on : {s t u : Machine} → Stays s t → Stays t u → Stays s u
stays_on a b = record { program = b.program ∙ a.program; same = b.same ∙ a.same }

pub stepped : {s t : Machine} {next height p : ℕ} {a : ControlFlow ℕ (Unit {0})} {r : Run} → Steps s t next height a → After s.work.now (goes_on next height (s.state.steps + 1)) p went_on r → After t.work.now t.state p (Ok a) r
stepped {s} {t} {next} {height} {p} {a} {r} h x =
    subst (λ a. After t.work.now t.state p (Ok a) r) (sym h.answers)
    (subst (λ u. After t.work.now u p went_on r) (sym h.state) (subst (λ w. After w (goes_on next height (s.state.steps + 1)) p went_on r) (sym h.still) x))

-- the constants of its program
pub pools_in : {s t : Machine} {cs : List Const} → Stays s t → PoolIn s.program.parts.pool cs → PoolIn t.program.parts.pool cs
pools_in {cs = cs} h p = subst (λ (q : Program). PoolIn q.parts.pool cs) (sym h.program) p
