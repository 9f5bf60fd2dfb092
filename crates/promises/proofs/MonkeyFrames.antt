-- Of exported calls: at every step of condition 3's two series the three exported calls about frames answer one number of both images, at
-- any size and any frame number.
use Prim.Native.Nat.{ℕ}
use mathlib.Core.List.{List, map}
use mathlib.Core.Path.{◌≡◌, refl, sym, ap, ◌∙◌}
use lib.ListN.{take}
use Rattle.definition.specs.Basic.{Bytes}
use Rattle.definition.specs.Limit.{session_size}
use Rattle.definition.specs.Session.{Words, word_list}
use Rattle.definition.specs.Call.{Called}
use Rattle.definition.specs.Series.{Call, AllAlike}
use Rattle.definition.specs.Answer.{Answer}
use Rattle.compiler.proofs.Conditions.{made-start}
use Rattle.exported.specs.Packed.{packed, Packs, MadeByPacked, RanPacked}
use Rattle.exported.specs.Framed.{count_answer, place_answer, refusal_answer}
use Rattle.exported.proofs.Conditions.{made-unpacked, ran-unpacked}
use Rattle.promises.specs.Alike.{Stepwise, FramesAgree, FramesAnswered}
use Rattle.promises.specs.Mixed.{AnyCall, AnyDone, called_of, AllAlikeAny}
use Rattle.promises.specs.Monkey.{RanMixedPacked, SameFramesPacked, FramesPacked}
use Rattle.promises.proofs.SeriesFrames.{compile_frames, any_frames}
use Rattle.promises.proofs.MonkeyMixed.{packed_done}

-- equal answers are one number
pub one_number : {a b : Answer} {r q : ℕ} → a ≡ b → Packs a r → Packs b q → r ≡ q
one_number e p s = p.whole ∙ ap packed e ∙ sym s.whole

-- of two images on which the functions on frames answer alike
same_packed : {a b : Bytes} → FramesAgree a b → SameFramesPacked a b
same_packed {a} {b} s =
    record {
      counts = λ {size} p q. one_number (ap count_answer (s.counts {size = size} (record { answer = refl }) (record { answer = refl }))) p.answer q.answer;
      places = λ {size} {k} p q. one_number (ap place_answer (s.places {size = size} {k = k} (record { answer = refl }) (record { answer = refl }))) p.answer q.answer;
      refusals = λ {size} {k} p q. one_number (ap refusal_answer (s.refusals {size = size} {k = k} (record { answer = refl }) (record { answer = refl }))) p.answer q.answer;
    }

-- at every step
each-packed : {xs ys : List Called} → Stepwise FramesAnswered xs ys → Stepwise FramesPacked xs ys
each-packed Stepwise.done = Stepwise.done
each-packed (Stepwise.step h rest) = Stepwise.step (one h) (each-packed rest)
  where
    one : {x y : Called} → FramesAnswered x y → FramesPacked x y
    one (FramesAnswered.accepted a b s) = FramesPacked.accepted a b (same_packed s)
    one (FramesAnswered.refused a b) = FramesPacked.refused a b

-- of calls of `monkey_compile`
pub monkey_frames : {a b : Bytes} {u v : Words} → MadeByPacked a u → MadeByPacked b v → word_list u ≡ word_list v → (cs ds : List Call)
    → AllAlike cs ds → (xs ys : List Called)
    → RanPacked (take session_size a) cs xs → RanPacked (take session_size b) ds ys → Stepwise FramesPacked xs ys
monkey_frames m n e cs ds alike xs ys x y =
    each-packed (compile_frames (made-unpacked m) (made-unpacked n) e cs ds alike xs ys (ran-unpacked x) (ran-unpacked y))

-- and of `monkey_compile_names` among them
pub monkey_mixed_frames : {a b : Bytes} {u v : Words} → MadeByPacked a u → MadeByPacked b v → word_list u ≡ word_list v
    → (cs ds : List AnyCall) → AllAlikeAny cs ds → (xs ys : List AnyDone)
    → RanMixedPacked (take session_size a) cs xs → RanMixedPacked (take session_size b) ds ys → Stepwise FramesPacked (map called_of xs) (map called_of ys)
monkey_mixed_frames m n e cs ds alike xs ys x y =
    each-packed (any_frames packed_done (made-start (made-unpacked m)) (made-start (made-unpacked n)) e alike x y)
