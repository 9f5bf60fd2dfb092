-- Frames tell no more of an image than its length; so the two images of a step in condition 3 are sent in equally many and equally long frames.
use Prim.Native.Nat.{ℕ, ◌*◌}
use native.Mathlib.Omega.{arith}
use mathlib.Core.Bool.{true}
use mathlib.Core.Path.{◌≡◌, refl, sym, ap, subst, ◌∙◌}
use lib.ListN.{length, take}
use lib.Seq.{take-append_seam, length-take-le}
use lib.Dec.{leb}
use borrow.Author.Tests.{leb-true}
use Rattle.std.specs.Prelude.{Result, Ok, Err}
use Rattle.std.specs.Result.{result_err}
use Rattle.definition.specs.Basic.{Bytes}
use Rattle.definition.specs.Limit.{session_size, code_size, table_size}
use Rattle.definition.specs.Bytecode.{Image, image_bytes}
use Rattle.definition.specs.Session.{Session}
use Rattle.definition.specs.Decode.{Decoded, decoded, malformed, read_image, read_session}
use Rattle.definition.specs.Compile.{Outcome, Step, enough, compile}
use Rattle.definition.specs.Call.{Lent, Called, answered, in_session, request, call}
use Rattle.definition.specs.Series.{Answers, Same}
use Rattle.definition.specs.Valid.{AreBytes, ValidImage}
use Rattle.definition.specs.declared.reason.Refusal.{Refusal}
use Rattle.definition.proofs.Basic.{chosen, both_right}
use Rattle.definition.proofs.Agreement.{agree-length}
use Rattle.definition.proofs.Images.{read-image}
use Rattle.definition.proofs.Sessions.{write_session}
use Rattle.definition.proofs.Steps.{compile-valid}
use Rattle.frames.specs.declared.FramePlace.{FramePlace}
use Rattle.frames.specs.Frames.{counted, count_frames, placed, find_frame, part_at, frame_of}
use Rattle.frames.specs.Together.{Sound, SameFrames, FramesAlike}
use Rattle.frames.proofs.Division.{PlaceOf, part_length, frame-place}
use Rattle.definition.specs.Answer.{Answer}

-- how long a part is
abbrev length_of : Result FramePlace Refusal → ℕ
length_of (Ok p) = p.len
length_of (Err r) = 0

frame-length : (b : Bytes) (size k : ℕ) → length (frame_of b size k) ≡ length_of (find_frame b size k)
frame-length b size k = go (find_frame b size k) (frame-place b size k)
  where
    go : (p : Result FramePlace Refusal) → PlaceOf (length b) size k p → length (part_at b p) ≡ length_of p
    go _ (PlaceOf.inside {n} some short fit) = part_length b (k * size) n fit
    go _ (PlaceOf.refused some) = refl

-- Two sound images, equally long, have the same counts and rests, and equally long frames
pub same_frames : (a b : Bytes) {m p : Image} {n q : ℕ} → read_image a ≡ decoded m n → read_image b ≡ decoded p q → length a ≡ length b → SameFrames a b
same_frames a b {m} {p} {n} {q} s t e = record { counts = counts; lengths = lengths; refusals = λ size k. ap (λ c. result_err (placed c size k)) (counts size) }
  where
    counts : (size : ℕ) → count_frames a size ≡ count_frames b size
    counts size = ap (λ d. counted d (length a) size) s ∙ ap (λ len. counted (decoded m n) len size) e ∙ sym (ap (λ d. counted d (length b) size) t)

    lengths : (size k : ℕ) → length (frame_of a size k) ≡ length (frame_of b size k)
    lengths size k = frame-length a size k ∙ ap (λ c. length_of (placed c size k)) (counts size) ∙ sym (frame-length b size k)

-- the answers of a step, given that its images are sound
pub answers_alike : {o : Outcome} {x y : Called} → Answers o x y → Sound x → Sound y → FramesAlike x y
answers_alike (Answers.accepted {m} {x} {y} a b h) s t =
    let n = length (image_bytes m) in
    FramesAlike.accepted a b (same_frames (take n x.lent.output) (take n y.lent.output) (s.reads n a).1 (t.reads n b).1 (agree-length h))
answers_alike (Answers.refused a b) s t = FramesAlike.refused a b

-- an accepted outcome's image reads back
answered_sound : (l : Lent) (z : Session) (o : Outcome) → ((m : Image) → o ≡ Outcome.accepted m → ValidImage m) → Sound (answered l z o)
answered_sound l z (Outcome.accepted m) v = record { reads = λ n e. (m, same n e) }
  where
    same : (n : ℕ) → ◌≡◌ {A = Answer} (Ok (length (image_bytes m))) (Ok n) → read_image (take n (answered l z (Outcome.accepted m)).lent.output) ≡ decoded m n
    same n e =
        let k : length (image_bytes m) ≡ n = cc in
        subst (λ n. read_image (take n (answered l z (Outcome.accepted m)).lent.output) ≡ decoded m n) k
        (ap read_image (take-append_seam (image_bytes m) _) ∙ read-image m (v m refl))
answered_sound l z (Outcome.refused r) v = record { reads = λ n e. let w : ◌≡◌ {A = ℕ} 0 1 = cc in absurd (omega arith) }

-- a refusal has no image
refused_sound : {r : Refusal} (l : Lent) → Sound (record { answer = Err r; lent = l })
refused_sound l = record { reads = λ n e. let w : ◌≡◌ {A = ℕ} 0 1 = cc in absurd (omega arith) }

-- The image of an accepted call, in a session of any bytes, is sound
pub sound_call : (tree : Bytes) (l : Lent) → AreBytes (take session_size l.session) → Sound (call tree l)
unfolding call
sound_call tree l a = chosen Sound (enough (request l tree)) (λ big. opened big (read_session (take session_size l.session)) refl) (λ _. refused_sound l)
  where
    opened : enough (request l tree) ≡ true → (d : Decoded Session) → read_session (take session_size l.session) ≡ d → Sound (in_session l tree d)
    opened big (decoded z n) e =
        let s = both_right (leb code_size (length l.code)) _ big in
        let k = both_right (leb table_size (length l.table)) _ s in
        let long : length (take session_size l.session) ≡ session_size = length-take-le session_size l.session (leb-true session_size (length l.session) k) in
        let v = compile-valid z (write_session (take session_size l.session) a long e).sound (request l tree) in
        let x = compile z (request l tree) in
        answered_sound l x.session x.outcome v.image
    opened big (malformed p) e = refused_sound _

-- The two images of a step in condition 3 have equal counts and rests at one frame size, and equally long frames
pub step_frames : (tree tree' : Bytes) (l l' : Lent) → AreBytes (take session_size l.session) → AreBytes (take session_size l'.session) → {compared : Type 0} {p : Step} → Same compared p (call tree l) (call tree' l')
    → FramesAlike (call tree l) (call tree' l')
step_frames tree tree' l l' a b s = answers_alike s.answer (sound_call tree l a) (sound_call tree' l' b)
