-- Ticket 112 from end to end: two series of scripts that are alike, read and compiled by exported calls from sessions of equal words, can't be
-- told apart by answers, image lengths, bytes that are no literal's, frames or chin forms.
use mathlib.Core.List.{List}
use mathlib.Core.Path.{◌≡◌}
use lib.ListN.{take}
use Rattle.definition.specs.Basic.{Bytes}
use Rattle.definition.specs.Limit.{session_size}
use Rattle.definition.specs.Session.{Words, word_list, field_count}
use Rattle.definition.specs.Call.{Called}
use Rattle.definition.specs.Series.{Call, shapes, Indistinguishable}
use Rattle.alike.proofs.Theorems.{scripts_calls}
use Rattle.exported.specs.Packed.{MadeByPacked, RanPacked}
use Rattle.promises.specs.Scripts.{AllTexts}
use Rattle.promises.proofs.MonkeyScripts.{texts_calls, monkey_scripts_condition_3}
use Rattle.promises.specs.Alike.{Stepwise}
use Rattle.promises.specs.Monkey.{FramesPacked, ChinPackedStepwise}
use Rattle.promises.proofs.MonkeyFrames.{monkey_frames}
use Rattle.promises.proofs.MonkeyChin.{monkey_chin}

-- what nobody on the way can tell, step by step
pub record SameOnTheRadio (u v : Words) (cs : List Call) (xs ys : List Called) : Type 0 where
  -- answers, lengths, and all bytes of images and sessions that are no literal's
  pub images : Indistinguishable (field_count u ≡ field_count v) (shapes u cs) xs ys
  -- number, place and length of every frame at every size
  pub frames : Stepwise FramesPacked xs ys
  -- the chin unit's forms
  pub chin : ChinPackedStepwise (shapes u cs) xs ys

-- from the texts that were typed to the frames that are sent
pub text_to_radio : {a b : Bytes} {u v : Words} → MadeByPacked a u → MadeByPacked b v → word_list u ≡ word_list v → (cs ds : List Call) → AllTexts cs ds → (xs ys : List Called)
    → RanPacked (take session_size a) cs xs → RanPacked (take session_size b) ds ys → SameOnTheRadio u v cs xs ys
text_to_radio m n e cs ds l xs ys x y =
    record {
      images = monkey_scripts_condition_3 m n e cs ds l xs ys x y;
      frames = monkey_frames m n e cs ds (scripts_calls (texts_calls l)) xs ys x y;
      chin = monkey_chin m n e cs ds (scripts_calls (texts_calls l)) xs ys x y;
    }
