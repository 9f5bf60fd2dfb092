-- Of exported calls: at every step of condition 3's two series `monkey_to_chin` answers one number of both images, with outputs equally
-- long, and what it writes agrees at all but the literals' places.
use Prim.Native.Nat.{ℕ}
use mathlib.Core.List.{List, map}
use mathlib.Core.Path.{◌≡◌, refl}
use lib.ListN.{length, take}
use Rattle.definition.specs.Basic.{Bytes}
use Rattle.definition.specs.Limit.{session_size}
use Rattle.definition.specs.Session.{Words, word_list}
use Rattle.definition.specs.Compile.{Outcome, Step}
use Rattle.definition.specs.Call.{Called}
use Rattle.definition.specs.Literal.{Mask}
use Rattle.definition.specs.Series.{Call, AllAlike, shapes}
use Rattle.chin.specs.Chin.{Given, answer_of}
use Rattle.chin.specs.Promise.{Turns}
use Rattle.compiler.proofs.Conditions.{made-start}
use Rattle.records.specs.Call.{shaped_turns}
use Rattle.exported.specs.Packed.{MadeByPacked, RanPacked}
use Rattle.exported.specs.Turned.{TurnsPacked}
use Rattle.exported.proofs.Conditions.{made-unpacked, ran-unpacked}
use Rattle.exported.proofs.Fits.{packs_wrote}
use Rattle.promises.specs.Alike.{ChinAgree, ChinAlike, ChinStepwise}
use Rattle.promises.specs.Mixed.{AnyCall, AnyDone, called_of, AllAlikeAny, turn_of}
use Rattle.promises.specs.Monkey.{RanMixedPacked, SameChinPacked, ChinPacked, ChinPackedStepwise}
use Rattle.promises.proofs.Plain.{steps_in}
use Rattle.promises.proofs.SeriesChin.{compile_chin, any_chin}
use Rattle.promises.proofs.MonkeyMixed.{packed_done}
use Rattle.promises.proofs.MonkeyFrames.{one_number}

-- the promise that an exported translation keeps
pub turns_of : {g : Given} {o o' : Bytes} {r : ℕ} → TurnsPacked g o r o' → Turns g o (answer_of g (length o)) o'
turns_of k = record { answer = refl; output = k.output }

-- of two images on which `to_chin` answers alike
same_packed : {m : Mask} {a b : Bytes} → ChinAgree m a b → SameChinPacked m a b
same_packed {m} {a} {b} s =
    record {
      numbers = λ t u e. one_number (s.answers (turns_of t) (turns_of u) e) t.answer u.answer;
      bytes = λ t u e z. s.bytes (turns_of t) (turns_of u) e (packs_wrote t.answer z);
    }

-- at every step
each-packed : {ps : List Step} {xs ys : List Called} → ChinStepwise ps xs ys → ChinPackedStepwise ps xs ys
each-packed ChinStepwise.done = ChinPackedStepwise.done
each-packed (ChinStepwise.step h rest) = ChinPackedStepwise.step (one h) (each-packed rest)
  where
    one : {o : Outcome} {x y : Called} → ChinAlike o x y → ChinPacked o x y
    one (ChinAlike.accepted a b s) = ChinPacked.accepted a b (same_packed s)
    one (ChinAlike.refused a b) = ChinPacked.refused a b

-- of calls of `monkey_compile`
pub monkey_chin : {a b : Bytes} {u v : Words} → MadeByPacked a u → MadeByPacked b v → word_list u ≡ word_list v → (cs ds : List Call)
    → AllAlike cs ds → (xs ys : List Called)
    → RanPacked (take session_size a) cs xs → RanPacked (take session_size b) ds ys → ChinPackedStepwise (shapes u cs) xs ys
monkey_chin m n e cs ds alike xs ys x y =
    each-packed (compile_chin (made-unpacked m) (made-unpacked n) e cs ds alike xs ys (ran-unpacked x) (ran-unpacked y))

-- and of `monkey_compile_names` among them
pub monkey_mixed_chin : {a b : Bytes} {u v : Words} → MadeByPacked a u → MadeByPacked b v → word_list u ≡ word_list v
    → (cs ds : List AnyCall) → AllAlikeAny cs ds → (xs ys : List AnyDone)
    → RanMixedPacked (take session_size a) cs xs → RanMixedPacked (take session_size b) ds ys → ChinPackedStepwise (steps_in (shaped_turns u (map turn_of cs))) (map called_of xs) (map called_of ys)
monkey_mixed_chin m n e cs ds alike xs ys x y =
    each-packed (any_chin packed_done (made-start (made-unpacked m)) (made-start (made-unpacked n)) e alike x y)
