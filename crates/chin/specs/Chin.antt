-- The two calls: an image into the chin form, and back.
use Rattle.std.specs.Prelude.{ℕ, Err}
use Rattle.definition.specs.Basic.{Bytes}
use Rattle.definition.specs.Number.{refusal, bad_image, bad_jump}
use Rattle.definition.specs.Bytecode.{Image}
use Rattle.definition.specs.Decode.{Decoded, decoded, malformed}
use Rattle.definition.specs.Output.{output_answer, output_after}
use Rattle.definition.specs.declared.reason.Refusal.{Refusal}
use Rattle.definition.specs.Answer.{Answer}
use Rattle.bytecode.specs.declared.Form.{Form}
use Rattle.bytecode.specs.declared.Form.TheVariants.{Plain, Chin}
use Rattle.bytecode.specs.Form.{image_in, read_form}
use Rattle.chin.specs.Turn.{Jump, distance, target, Made, made, stopped, turn_image}

-- the other form's bytes, or a refusal
pub data Given : Type 0 where
  given : Bytes → Given
  refused : Refusal → Given

-- the other form of what was read
abbrev pub wrote : Form → Made Image → Given
wrote to (made m) = given (image_in to m)
wrote to (stopped p) = refused (refusal bad_jump p)

abbrev pub turn : Form → Jump → Decoded Image → Given
turn to jump (decoded m n) = wrote to (turn_image jump m)
turn to jump (malformed p) = refused (refusal bad_image p)

-- from one form into the other
unfoldable pub translate : Form → Form → Jump → Bytes → Given
translate from to jump b = turn to jump (read_form from b)

abbrev pub to_chin : Bytes → Given
to_chin = translate Plain Chin distance

abbrev pub from_chin : Bytes → Given
from_chin = translate Chin Plain target

-- what a call answers, with so many bytes lent as output
abbrev pub answer_of : Given → ℕ → Answer
answer_of (given b) room = output_answer b room
answer_of (refused r) room = Err r

-- and the output after it
abbrev pub output_of : Given → Bytes → Bytes
output_of (given b) out = output_after b out
output_of (refused r) out = out
