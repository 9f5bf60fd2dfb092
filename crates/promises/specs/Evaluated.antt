-- A trial run beside the value of the tree: a run that is refused by nothing up to 15, and what it is to give.
use Rattle.std.specs.Prelude.{ℕ, List, [], ◌∷◌, ◌≡◌, T, Result, Ok, Err}
use Rattle.definition.specs.Basic.{Bytes}
use Rattle.definition.specs.Number.{is_one_of, numbers_of, number_of, short_buffer, bad_image, bad_heights, not_runnable, output_short}
use Rattle.definition.specs.Output.{over}
use Rattle.definition.specs.Tree.{read_tree}
use Rattle.definition.specs.declared.reason.Refusal.{Refusal}
use Rattle.trial.specs.Value.{Globals}
use Rattle.trial.specs.Evaluate.{End, tree_end}
use Rattle.trial.specs.Output.{shown}
use Rattle.trial.specs.declared.Ran.{Ran}

-- the numbers up to 15, in the call's order: 1, 17, 25, 27, 15
abbrev pub up_to15 : List ℕ
up_to15 = numbers_of (short_buffer ∷ bad_image ∷ bad_heights ∷ not_runnable ∷ output_short ∷ [])

-- an answer that is none of these refusals
pub record NotUpTo15 (r : Result Ran Refusal) : Type 0 where
  pub later : (q : Refusal) → r ≡ Err q → T (is_one_of up_to15 (number_of q.reason)) → ⊥

-- a run's answer and output are what evaluating the tree by these rules gives: its globals, shown at the front of the output, or a stop of
-- the same number
pub data EvaluatedAs (tree o : Bytes) : Result Ran Refusal → Bytes → Type 0 where
  globals : {g : Globals} {n k : ℕ} → tree_end (read_tree tree) ≡ End.globals g → EvaluatedAs tree o (Ok (record { globals = n; steps = k })) (over (shown n g) o)
  stop : {q : Refusal} → tree_end (read_tree tree) ≡ End.stop q.reason → EvaluatedAs tree o (Err q) o
