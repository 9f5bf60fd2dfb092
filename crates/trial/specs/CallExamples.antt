-- Whole calls: an image, heights, the numbers of the work area, the bytes of the output, and the answer.
use Rattle.std.specs.Prelude.{◌≡◌, ℕ, List, [], ◌∷◌, map, refl, Result, Ok, Err}
use Rattle.definition.specs.Basic.{Bytes}
use Rattle.definition.specs.Number.{refusal, short_buffer, output_short, bad_image, bad_heights, not_runnable, operand, unset}
use Rattle.definition.specs.Decode.{read_image_of, items}
use Rattle.heights.specs.Pass.{pass as check, judged}
use Rattle.trial.specs.Run.{pass, unset_globals}
use Rattle.trial.specs.Output.{named_globals}
use Rattle.trial.specs.Call.{first_refused, run_outcome, outcome_answer}
use Rattle.definition.specs.declared.reason.Refusal.{Refusal}
use Rattle.trial.specs.declared.Ran.{Ran}

pub record Example : Type 0 where
  pub image : Bytes
  pub heights : List ℕ
  pub work : ℕ
  pub room : ℕ
  pub gives : Result Ran Refusal

-- a row by its parts
abbrev example : Bytes → List ℕ → ℕ → ℕ → Result Ran Refusal → Example
example b hs work room r = record { image = b; heights = hs; work = work; room = room; gives = r }

-- the rows
abbrev pub table : List Example
table =
    -- Null, Pop
    example (0x50 ∷ 0x00 ∷ 0x02 ∷ 0x0F ∷ 0x02 ∷ 0x51 ∷ 0x00 ∷ 0x00 ∷ []) (0 ∷ 1 ∷ []) 4096 0 (Ok (record { globals = 0; steps = 2 }))
    -- a short work area comes before a wrong image
    ∷ example (0x00 ∷ []) [] 4095 0 (Err (refusal short_buffer 0))
    ∷ example (0x00 ∷ []) [] 4096 0 (Err (refusal bad_image 0))
    -- wrong heights
    ∷ example (0x50 ∷ 0x00 ∷ 0x02 ∷ 0x0F ∷ 0x02 ∷ 0x51 ∷ 0x00 ∷ 0x00 ∷ []) (1 ∷ 0 ∷ []) 4096 0 (Err (refusal bad_heights 0))
    -- Array comes before a short output
    ∷ example (0x50 ∷ 0x00 ∷ 0x07 ∷ 0x10 ∷ 0x00 ∷ 0x00 ∷ 0x12 ∷ 0x00 ∷ 0x01 ∷ 0x02 ∷ 0x51 ∷ 0x00 ∷ 0x00 ∷ []) (0 ∷ 1 ∷ 1 ∷ []) 4096 0 (Err (refusal not_runnable 6))
    -- a short output hides a stop
    ∷ example (0x50 ∷ 0x00 ∷ 0x04 ∷ 0x10 ∷ 0x00 ∷ 0x00 ∷ 0x02 ∷ 0x51 ∷ 0x00 ∷ 0x00 ∷ []) (0 ∷ 1 ∷ []) 4096 8 (Err (refusal output_short 0))
    ∷ example (0x50 ∷ 0x00 ∷ 0x04 ∷ 0x10 ∷ 0x00 ∷ 0x00 ∷ 0x02 ∷ 0x51 ∷ 0x00 ∷ 0x00 ∷ []) (0 ∷ 1 ∷ []) 4096 9 (Err (refusal unset 3))
    -- minus of true
    ∷ example (0x50 ∷ 0x00 ∷ 0x03 ∷ 0x06 ∷ 0x0B ∷ 0x02 ∷ 0x51 ∷ 0x00 ∷ 0x00 ∷ []) (0 ∷ 1 ∷ 1 ∷ []) 4096 0 (Err (refusal operand 4))
    -- the global is named where it is not reached
    ∷ example (0x50 ∷ 0x00 ∷ 0x06 ∷ 0x06 ∷ 0x16 ∷ 0x10 ∷ 0x00 ∷ 0x05 ∷ 0x02 ∷ 0x51 ∷ 0x00 ∷ 0x00 ∷ []) (0 ∷ 1 ∷ 9 ∷ 9 ∷ []) 4096 54 (Ok (record { globals = 6; steps = 2 }))
    ∷ []

-- the calls answer what the table says
pub examples : map (λ (x : Example). outcome_answer (run_outcome x.image x.heights x.work x.room)) table ≡ map (λ (x : Example). x.gives) table
unfolding read_image_of items judged check first_refused named_globals pass unset_globals
examples = refl
