-- Frames: an image cut into parts of one size, and the shorter part that is left.
use Rattle.std.specs.Prelude.{ℕ, ◌+◌, ◌*◌, ◌/◌, ◌%◌, Bool, [], ◌≡◌, length, take, drop, leb, ltb, eqb, Option, Result, Ok, Err}
use Rattle.std.specs.Result.{result_err}
use Rattle.std.specs.Borrow.{Bor}
use Rattle.definition.specs.Basic.{Bytes, pick, both}
use Rattle.definition.specs.Number.{refusal, bad_image, bad_size, no_frame}
use Rattle.definition.specs.Bytecode.{Image}
use Rattle.definition.specs.Decode.{Decoded, decoded, malformed, read_image}
use Rattle.definition.specs.declared.reason.Refusal.{Refusal}
use Rattle.frames.specs.declared.FrameCount.{FrameCount}
use Rattle.frames.specs.declared.FramePlace.{FramePlace}

-- the least and the greatest size of a frame
abbrev pub least_size : ℕ
least_size = 16

abbrev pub greatest_size : ℕ
greatest_size = 1024

abbrev pub size_in_range : ℕ → Bool
size_in_range size = both (leb least_size size) (leb size greatest_size)

-- so many whole frames, and bytes behind them
abbrev pub count_is : ℕ → ℕ → Result FrameCount Refusal
count_is whole rest = Ok (record { whole = whole; rest = rest })

-- a frame at an offset, of a length
abbrev pub place_is : ℕ → ℕ → Result FramePlace Refusal
place_is start len = Ok (record { start = start; len = len })

-- the whole frames of so many bytes, and the rest
abbrev pub counted : Decoded Image → ℕ → ℕ → Result FrameCount Refusal
counted (decoded m n) len size = pick (size_in_range size) (count_is (len / size) (len % size)) (Err (refusal bad_size 0))
counted (malformed p) len size = Err (refusal bad_image p)

-- the first call: 17, 23, or the number of whole frames and the rest
abbrev pub count_frames : Bytes → ℕ → Result FrameCount Refusal
count_frames b size = counted (read_image b) (length b) size

-- frame `k`: below the whole ones it has the size; the next is the rest, if there is one
abbrev pub place_in : ℕ → ℕ → ℕ → ℕ → Result FramePlace Refusal
place_in whole rest size k =
    pick (ltb k whole) (place_is (k * size) size)
    (pick (both (eqb k whole) (ltb 0 rest)) (place_is (k * size) rest) (Err (refusal no_frame 0)))

abbrev pub placed : Result FrameCount Refusal → ℕ → ℕ → Result FramePlace Refusal
placed (Ok c) size k = place_in c.whole c.rest size k
placed (Err r) size k = Err r

-- where a frame lies: 17, 23, 24, or its offset and length
abbrev pub find_frame : Bytes → ℕ → ℕ → Result FramePlace Refusal
find_frame b size k = placed (count_frames b size) size k

abbrev pub part_at : Bytes → Result FramePlace Refusal → Bytes
part_at b (Ok p) = take p.len (drop p.start b)
part_at b (Err r) = []

-- the second call: the bytes of a frame, none where it refuses
abbrev pub frame_of : Bytes → ℕ → ℕ → Bytes
frame_of b size k = part_at b (find_frame b size k)

-- the third call: the refusal of the second, if there is one
abbrev pub frame_refusal : Bytes → ℕ → ℕ → Option Refusal
frame_refusal b size k = result_err (find_frame b size k)

-- how far into the image a part lies; 0 for the empty part
abbrev pub offset_of : Result FramePlace Refusal → ℕ
offset_of (Ok p) = p.start
offset_of (Err r) = 0

-- a slice is a frame of an image: it begins so far into the image's own memory, and has the frame's bytes
pub record IsFrame (image part : Bor Bytes) (size k : ℕ) : Type 0 where
  pub place : part.ref_ptr ≡ (image.ref_ptr.0, image.ref_ptr.1 + offset_of (find_frame image.now size k))
  pub bytes : part.now ≡ frame_of image.now size k
