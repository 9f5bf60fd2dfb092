-- In condition 3's two series, of plain calls and calls with records, the functions on frames answer alike on both images of every step.
use mathlib.Core.List.{List, map}
use mathlib.Core.Path.{◌≡◌, sym, ap, subst₂, ◌∙◌}
use lib.ListN.{length}
use Rattle.definition.specs.Basic.{Bytes}
use Rattle.definition.specs.Session.{Words, word_list}
use Rattle.definition.specs.Call.{Called}
use Rattle.definition.specs.Series.{Call, Start, calls, AllAlike}
use Rattle.definition.specs.Trusted.{TrustedCall}
use Rattle.definition.specs.Valid.{All}
use Rattle.records.specs.Records.{Traced}
use Rattle.records.specs.Call.{Recorded, Turn, turns, AllAlikeTurns, IndistinguishableTurns}
use Rattle.records.proofs.Turns.{trusted_turns, condition_3_records}
use Rattle.frames.specs.Frames.{placed, frame_of}
use Rattle.frames.specs.Together.{Sound, SameFrames, FramesAlike}
use Rattle.frames.proofs.Alike.{answers_alike}
use Rattle.promises.specs.Alike.{Stepwise, FramesAgree, FramesAnswered}
use Rattle.promises.proofs.Plain.{called_in, plain-turns, plain-alike}

-- an image that can be trusted is sound
trusted_sound : {x : Called} → TrustedCall x → Sound x
trusted_sound t = record { reads = λ n e. ((t.wrote n e).image, (t.wrote n e).reads) }

-- calls that keep the promises answer alike on two images that look alike
frames_agree : {a b : Bytes} → SameFrames a b → FramesAgree a b
frames_agree s =
    record {
      counts = λ {size} c d. c.answer ∙ s.counts size ∙ sym d.answer;
      places = λ {size} {k} c d. c.answer ∙ ap (λ n. placed n size k) (s.counts size) ∙ sym d.answer;
      refusals = λ {size} {k} c d. c.answer ∙ s.refusals size k ∙ sym d.answer;
      frames = λ {size = size} {k = k} e f c d. ap length c.bytes ∙ ap (λ b. length (frame_of b size k)) e ∙ s.lengths size k ∙ sym (ap length d.bytes ∙ ap (λ b. length (frame_of b size k)) f);
    }

-- of one step
answered : {x y : Called} → FramesAlike x y → FramesAnswered x y
answered (FramesAlike.accepted a b s) = FramesAnswered.accepted a b (frames_agree s)
answered (FramesAlike.refused a b) = FramesAnswered.refused a b

-- every step
pub each_frames : {compared : Type 0} {ps : List Traced} {xs ys : List Recorded} → IndistinguishableTurns compared ps xs ys
    → All (λ (x : Recorded). TrustedCall x.called) xs → All (λ (y : Recorded). TrustedCall y.called) ys
    → Stepwise FramesAnswered (called_in xs) (called_in ys)
each_frames IndistinguishableTurns.done All.none All.none = Stepwise.done
each_frames (IndistinguishableTurns.step s rest) (All.more t ts) (All.more u us) =
    Stepwise.step (answered (answers_alike s.called.answer (trusted_sound t) (trusted_sound u))) (each_frames rest ts us)

-- two series of turns from sessions of equal words
pub turns_frames : {s t : Bytes} {u v : Words} → Start s u → Start t v → word_list u ≡ word_list v → (ts us : List Turn)
    → AllAlikeTurns ts us → Stepwise FramesAnswered (called_in (turns s ts)) (called_in (turns t us))
turns_frames x y e ts us alike = each_frames (condition_3_records x y e ts us alike) (trusted_turns x ts) (trusted_turns y us)

-- and of plain calls
pub calls_frames : {s t : Bytes} {u v : Words} → Start s u → Start t v → word_list u ≡ word_list v → (cs ds : List Call) → AllAlike cs ds
    → Stepwise FramesAnswered (calls s cs) (calls t ds)
calls_frames {s} {t} x y e cs ds alike =
    subst₂ (Stepwise FramesAnswered) (plain-turns s cs) (plain-turns t ds) (turns_frames x y e (map Turn.plain cs) (map Turn.plain ds) (plain-alike alike))
