-- Small images in frames, as the definition cuts them: the order of the refusals, both ends of the range, the last shorter frame.
use Rattle.std.specs.Prelude.{ℕ, ◌+◌, List, [], ◌∷◌, map, ◌≡◌, refl, replicate, Result, Err}
use Rattle.definition.specs.declared.reason.Refusal.{Refusal}
use Rattle.definition.specs.Basic.{Bytes}
use Rattle.definition.specs.Number.{refusal, bad_image, bad_size, no_frame}
use Rattle.definition.specs.Decode.{items, read_image_of}
use Rattle.frames.specs.declared.FrameCount.{FrameCount}
use Rattle.frames.specs.declared.FramePlace.{FramePlace}
use Rattle.frames.specs.Frames.{count_is, place_is, count_frames, find_frame}

-- an image of 9 + n bytes, whose only constant is a string of n
abbrev sized : ℕ → Bytes
sized n = 0x50 ∷ 0x00 ∷ 0x00 ∷ 0x51 ∷ 0x00 ∷ (3 + n) ∷ 0x61 ∷ 0x00 ∷ n ∷ replicate n 0xA5

-- an image, a size, and the count
pub record Count : Type 0 where
  pub image : Bytes
  pub size : ℕ
  pub gives : Result FrameCount Refusal

abbrev count : Bytes → ℕ → Result FrameCount Refusal → Count
count b size c = record { image = b; size = size; gives = c }

abbrev pub counts : List Count
counts =
    count (0x00 ∷ []) 15 (Err (refusal bad_image 0))
    ∷ count (sized 31) 15 (Err (refusal bad_size 0))
    ∷ count (sized 31) 16 (count_is 2 8)
    ∷ count (sized 31) 1024 (count_is 0 40)
    ∷ count (sized 31) 1025 (Err (refusal bad_size 0))
    ∷ count (sized 23) 16 (count_is 2 0)
    ∷ []

pub counted_so : map (λ (x : Count). count_frames x.image x.size) counts ≡ map (λ (x : Count). x.gives) counts
unfolding items read_image_of
counted_so = refl

-- an image, a size, a number, and where the frame lies
pub record Place : Type 0 where
  pub image : Bytes
  pub size : ℕ
  pub number : ℕ
  pub gives : Result FramePlace Refusal

abbrev place : Bytes → ℕ → ℕ → Result FramePlace Refusal → Place
place b size k p = record { image = b; size = size; number = k; gives = p }

abbrev pub places : List Place
places =
    place (0x00 ∷ []) 15 9 (Err (refusal bad_image 0))
    ∷ place (sized 31) 15 9 (Err (refusal bad_size 0))
    ∷ place (sized 31) 16 1 (place_is 16 16)
    ∷ place (sized 31) 16 2 (place_is 32 8)
    ∷ place (sized 31) 16 3 (Err (refusal no_frame 0))
    ∷ place (sized 31) 16 268435456 (Err (refusal no_frame 0))
    ∷ place (sized 23) 16 2 (Err (refusal no_frame 0))
    ∷ []

pub placed_so : map (λ (x : Place). find_frame x.image x.size x.number) places ≡ map (λ (x : Place). x.gives) places
unfolding items read_image_of
placed_so = refl
