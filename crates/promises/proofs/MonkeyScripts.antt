-- Profiles as text, end to end: series of alike scripts, read and compiled by exported calls, are told apart by literals alone.
use Prim.Native.Nat.{ℕ, ◌%◌}
use Rattle.std.specs.Prelude.{Ok, Err}
use Rattle.definition.specs.Answer.{Answer}
use native.Mathlib.Omega.{arith}
use mathlib.Core.List.{List}
use mathlib.Core.Path.{◌≡◌, refl, sym, ap, ◌∙◌}
use lib.ListN.{length, take, drop}
use lib.Seq.{take_at}
use Rattle.definition.specs.Basic.{Bytes}
use Rattle.definition.specs.Limit.{session_size}
use Rattle.definition.specs.Session.{Words, word_list, field_count}
use Rattle.definition.specs.Call.{Called}
use Rattle.definition.specs.Series.{Call, shapes, Indistinguishable}
use Rattle.text.specs.Script.{Outcome, tree, read_text, answer_of as readAnswer, output_of as readOutput}
use Rattle.alike.specs.Scripts.{AlikeScriptCalls, AllScripts}
use Rattle.alike.proofs.Theorems.{scripts_calls}
use Rattle.exported.proofs.Fits.{packs_wrote}
use Rattle.exported.specs.Packed.{half_bound, Packs, MadeByPacked, RanPacked}
use Rattle.promises.specs.Scripts.{FromText, AlikeTextCalls, AllTexts}
use Rattle.exported.proofs.Conditions.{monkey_condition_3}

-- the tree of such a call is the one that its text is read to
from_text : {text : Bytes} {c : Call} (f : FromText text c) → read_text (length f.before) text ≡ tree c.tree
from_text {text} {c} f = go (read_text (length f.before) text) refl f.reads.answer f.reads.output
  where
    go : (o : Outcome) → read_text (length f.before) text ≡ o → Packs (readAnswer o) f.answer → f.output ≡ readOutput o f.before
        → read_text (length f.before) text ≡ tree c.tree
    go (Outcome.tree b) e p q =
        e ∙ ap tree (sym (f.tree ∙ ap (take (f.answer % half_bound)) q ∙ take_at b (drop (length b) f.before) (f.answer % half_bound) (sym p.value)))
    go (Outcome.refused r) e p q =
        let y : ◌≡◌ {A = Answer} (Err r) (Ok (f.answer % half_bound)) = packs_wrote p f.accepted in let z : ◌≡◌ {A = ℕ} 0 1 = cc in absurd (omega arith)

-- alike scripts
texts_call : {c d : Call} → AlikeTextCalls c d → AlikeScriptCalls c d
texts_call a =
    record {
      first_text = a.first_text;
      second_text = a.second_text;
      first_room = length a.first.before;
      second_room = length a.second.before;
      first_read = from_text a.first;
      second_read = from_text a.second;
      scripts = a.scripts;
      session = a.session;
      output = a.output;
      code = a.code;
      table = a.table;
    }

pub texts_calls : {cs ds : List Call} → AllTexts cs ds → AllScripts cs ds
texts_calls AllTexts.none = AllScripts.none
texts_calls (AllTexts.more a rest) = AllScripts.more (texts_call a) (texts_calls rest)

-- Two series of exported compile calls, each on the tree that an exported call read from a text, from sessions of equal words:
-- if at every step the two scripts are alike and the lent lengths equal, they can't be told apart but by the literals' bytes
pub monkey_scripts_condition_3 : {a b : Bytes} {u v : Words} → MadeByPacked a u → MadeByPacked b v → word_list u ≡ word_list v
    → (cs ds : List Call) → AllTexts cs ds → (xs ys : List Called)
    → RanPacked (take session_size a) cs xs → RanPacked (take session_size b) ds ys → Indistinguishable (field_count u ≡ field_count v) (shapes u cs) xs ys
monkey_scripts_condition_3 m n e cs ds l xs ys x y = monkey_condition_3 m n e cs ds (scripts_calls (texts_calls l)) xs ys x y
