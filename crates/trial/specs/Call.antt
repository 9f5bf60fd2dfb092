-- The whole call: its numbers in their order, its answer, its output and its work area.
use Rattle.std.specs.Prelude.{◌≡◌, ℕ, ◌+◌, ◌*◌, Bool, List, [], ◌∷◌, length, nat_le, nat_lt, Option, Some as some, None as none, Result, Ok, Err}
use Rattle.std.specs.Prelude.{Option, Some as some, None as none}
use Rattle.definition.specs.Basic.{Bytes, pick, both}
use Rattle.definition.specs.Number.{refusal, short_buffer, bad_image, output_short, bad_heights}
use Rattle.definition.specs.Opcode.{Instr}
use Rattle.definition.specs.Bytecode.{Code, size_of, Const, Image}
use Rattle.definition.specs.Decode.{Decoded, decoded, malformed, read_image}
use Rattle.definition.specs.Call.{cleared}
use Rattle.definition.specs.Output.{over}
use Rattle.definition.specs.declared.reason.Refusal.{Refusal}
use Rattle.listing.specs.Reads.{ImageAt}
use Rattle.heights.specs.Pass.{Marks, onwards, pass, Verdict, judged}
use Rattle.definition.specs.Number
use Rattle.trial.specs.Value.{Globals}
use Rattle.trial.specs.Run.{or_else, runnable, Trial, trial}
use Rattle.trial.specs.Output.{named_globals, shown}
use Rattle.trial.specs.Cells.{work_size, stack_limit}
use Rattle.trial.specs.declared.Ran.{Ran}

-- number 27 does not refuse an instruction at a position: a run takes it, and where it is reached its height is at most 1,024 (what arrives is 2 more)
abbrev pub taken : List Const → Marks → ℕ → Instr → Bool
taken pool f p i = both (runnable pool i) (nat_le (f p) (2 + stack_limit))

-- the first position that it refuses
unfoldable pub first_refused : List Const → Marks → Code → Option ℕ
first_refused pool f [] = none
first_refused pool f (i ∷ c) = or_else (first_refused pool f c) (pick (taken pool f (size_of c) i) none (some (size_of c)))

-- with the heights offered, where main passes with them
abbrev pub refused_with : List ℕ → Image → Option ℕ
refused_with hs m = onwards (pass hs 0 (size_of m.code) m.code) none (λ s. first_refused m.pool s.marks m.code)

-- what a call gives: how many globals are shown, the globals, the steps; or a refusal
pub data Outcome : Type 0 where
  ran : ℕ → Globals → ℕ → Outcome
  refused : Refusal → Outcome

-- a run's
abbrev pub trial_outcome : ℕ → Trial → Outcome
trial_outcome n (Trial.ran g k) = Outcome.ran n g k
trial_outcome n (Trial.stopped k p) = Outcome.refused (refusal k p)

-- nine bytes for each global, or 15
abbrev pub room_outcome : Image → ℕ → Outcome
room_outcome m room = pick (nat_le (9 * named_globals m.code) room) (trial_outcome (named_globals m.code) (trial m)) (Outcome.refused (refusal output_short 0))

-- 27
abbrev pub taken_outcome : Option ℕ → Image → ℕ → Outcome
taken_outcome (some p) m room = Outcome.refused (refusal Number.not_runnable (3 + p))
taken_outcome none m room = room_outcome m room

-- 25
abbrev pub judged_outcome : Verdict → List ℕ → Image → ℕ → Outcome
judged_outcome (Verdict.tops ns) hs m room = taken_outcome (refused_with hs m) m room
judged_outcome (Verdict.fails place) hs m room = Outcome.refused (refusal bad_heights place)

-- 17
abbrev pub image_outcome : Decoded Image → List ℕ → ℕ → Outcome
image_outcome (decoded m n) hs room = judged_outcome (judged hs m m.pool) hs m room
image_outcome (malformed p) hs room = Outcome.refused (refusal bad_image p)

-- 1: the image, the heights, the numbers of the work area, the bytes of the output
abbrev pub run_outcome : Bytes → List ℕ → ℕ → ℕ → Outcome
run_outcome b hs work room = pick (nat_lt work work_size) (Outcome.refused (refusal short_buffer 0)) (image_outcome (read_image b) hs room)

-- as the code answers it
abbrev pub outcome_answer : Outcome → Result Ran Refusal
outcome_answer (Outcome.ran n g k) = Ok (record { globals = n; steps = k })
outcome_answer (Outcome.refused r) = Err r

-- the output afterwards
abbrev pub outcome_into : Outcome → Bytes → Bytes
outcome_into (Outcome.ran n g k) out = over (shown n g) out
outcome_into (Outcome.refused r) out = out

-- the work area afterwards
abbrev pub work_after : List ℕ → List ℕ
work_after w = pick (nat_lt (length w) work_size) w (cleared work_size w)

-- what going over main finds, as the code answers it
abbrev pub scan_answer : Option ℕ → ℕ → Result ℕ Refusal
scan_answer (some p) n = Err (refusal Number.not_runnable (3 + p))
scan_answer none n = Ok n

-- an image that passes with its heights
pub record ChunkToRun (b : Bytes) (hs : List ℕ) : Type 0 where
  pub image : Image
  pub reads : ImageAt b image
  pub tops : List ℕ
  pub passes : judged hs image image.pool ≡ Verdict.tops tops
