-- What the calls answer and leave, from what the functions that they call did.
use Prim.Native.Nat.{ℕ, ◌≤◌, ◌<◌}
use native.Mathlib.Omega.{arith}
use mathlib.Core.Bool.{false}
use mathlib.Core.List.{[], ◌∷◌, ◌++◌}
use mathlib.Core.Path.{◌≡◌, refl, sym, ap, ◌∙◌}
use lib.ListN.{length, take, drop, length-append, length-drop, get_or-append}
use lib.Seq.{take-length, drop-append_seam}
use lib.Dec.{leb}
use borrow.Author.Tests.{le-leb, lt-leb}
use Rattle.definition.specs.Basic.{Bytes, byte_at}
use Rattle.definition.specs.Number.{refusal, output_short, bad_jump}
use Rattle.definition.specs.Bytecode.{Image}
use Rattle.definition.specs.Decode.{Decoded, decoded, malformed}
use Rattle.definition.specs.Output.{over}
use Rattle.definition.specs.Valid.{AreBytes}
use Rattle.definition.specs.declared.reason.Refusal.{Refusal}
use Rattle.definition.specs.Answer.{Answer}
use Rattle.std.specs.Prelude.{Ok, Err, Result}
use Rattle.definition.proofs.Basic.{pick_true, pick_false}
use Rattle.bytecode.specs.declared.Form.{Form}
use Rattle.bytecode.specs.Form.{image_in, read_form}
use Rattle.bytecode.specs.Checked.{image_answer}
use Rattle.chin.specs.declared.BadJump.{BadJump}
use Rattle.chin.specs.Turn.{Made, made, turn_image}
use Rattle.chin.specs.Chin.{refused, wrote, turn, translate, answer_of, output_of}
use Rattle.chin.specs.Rows.{other_form, jump_of, Same, ImageAt, HasImage, TurnsImage, Copied}
use Rattle.chin.proofs.Chunks.{fine_made, bad_stopped}
use Rattle.chin.proofs.Whole.{other_length, image_at}

-- an output that is too short
pub copied_short : (f : Form) (b : Bytes) {m : Image} → ImageAt f b m → (o : Bytes) → length o < length b → Copied f m o (Err (refusal output_short 0)) o
copied_short f b {m} a o h =
    record {
      answer = λ n e. sym (pick_false (Ok (length (image_in (other_form f) n))) (Err (refusal output_short 0)) (long n e));
      output = λ n e. sym (pick_false (over (image_in (other_form f) n) o) o (long n e));
    }
  where
    long : (n : Image) → turn_image (jump_of f) m ≡ made n → leb (length (image_in (other_form f) n)) (length o) ≡ false
    long n e = lt-leb (length (image_in (other_form f) n)) (length o) (omega (arith, other_length f b a e))

-- one that has room: the image is copied, and turned
pub copied_long : (f : Form) (b : Bytes) {m : Image} → ImageAt f b m → (o : Bytes) → length b ≤ length o → {o₁ o₂ : Bytes} {r : Result (Unit {0}) BadJump} → o₁ ≡ take (length b) b ++ drop (length b) o → TurnsImage f m b o₁ o₂ r
    → Copied f m o (Ok (length b)) o₂
copied_long f b {m} a o h {o₁} {o₂} c t =
    record {
      answer = λ n e.
          let l = other_length f b a e in
          ap Ok (sym l) ∙ sym (pick_true (Ok (length (image_in (other_form f) n))) (Err (refusal output_short 0)) (le-leb (length (image_in (other_form f) n)) (length o) (omega arith)));
      output = λ n e.
          let l = other_length f b a e in
          t.written n e same ∙ (λ i. image_in (other_form f) n ++ (ap (drop (length b)) copy ∙ drop-append_seam b (drop (length b) o)) i)
          ∙ ap (λ k. image_in (other_form f) n ++ drop k o) (sym l)
          ∙ sym (pick_true (over (image_in (other_form f) n) o) o (le-leb (length (image_in (other_form f) n)) (length o) (omega arith)));
    }
  where
    copy : o₁ ≡ b ++ drop (length b) o
    copy = c ∙ ap (λ z. z ++ drop (length b) o) (take-length b)

    same : Same o₁ b 0 (length b)
    same = record { room = omega (arith, ap length copy, length-append b (drop (length b) o), length-drop (length b) o); bytes = λ k g j. ap (λ z. byte_at z k) copy ∙ get_or-append b (drop (length b) o) 0 k j }

-- an image that was checked
module _ (f : Form) (b : Bytes) {x : Result ℕ Refusal} (e : x ≡ image_answer (read_form f b)) where
  pub sound_form : {k : ℕ} → x ≡ Ok k → AreBytes b → HasImage f b
  sound_form {k} s a = go (read_form f b) refl (sym e ∙ s)
    where
      go : (d : Decoded Image) → read_form f b ≡ d → image_answer d ≡ Ok k → HasImage f b
      go (decoded m n) h i = record { image = m; is = image_at f b a h }
      go (malformed p) h i = cc

  pub wrong_form : {r : Refusal} → x ≡ Err r → translate f (other_form f) (jump_of f) b ≡ refused r
  unfolding translate
  wrong_form {r} s = go (read_form f b) (sym e ∙ s)
    where
      go : (d : Decoded Image) → image_answer d ≡ Err r → turn (other_form f) (jump_of f) d ≡ refused r
      go (decoded m n) i = cc
      go (malformed p) i = cc

-- its translation, by what the jumps are
module _ (f : Form) (b : Bytes) {m : Image} (a : ImageAt f b m) where
  turned_is : {r : Made Image} → turn_image (jump_of f) m ≡ r → translate f (other_form f) (jump_of f) b ≡ wrote (other_form f) r
  unfolding translate
  turned_is e = ap (turn (other_form f) (jump_of f)) a.reads ∙ ap (wrote (other_form f)) e

  pub bad_form : {o o' : Bytes} {p : BadJump} → TurnsImage f m b o o' (Err p) → translate f (other_form f) (jump_of f) b ≡ refused (refusal bad_jump p.place)
  bad_form {p = p} t = turned_is (bad_stopped (turn_image (jump_of f) m) t.judged)

  pub fine_answer : {o o' : Bytes} → TurnsImage f m b o o' (Ok tt) → {z z' : Bytes} {r : Answer} → Copied f m z r z' → r ≡ answer_of (translate f (other_form f) (jump_of f) b) (length z)
  fine_answer t {z} c =
      let n = fine_made (turn_image (jump_of f) m) t.judged in
      c.answer n.0 n.1 ∙ sym (ap (λ g. answer_of g (length z)) (turned_is n.1))

  pub fine_output : {o o' : Bytes} → TurnsImage f m b o o' (Ok tt) → {z z' : Bytes} {r : Answer} → Copied f m z r z' → z' ≡ output_of (translate f (other_form f) (jump_of f) b) z
  fine_output t {z} c =
      let n = fine_made (turn_image (jump_of f) m) t.judged in
      c.output n.0 n.1 ∙ sym (ap (λ g. output_of g z) (turned_is n.1))

-- an empty part in front
pub empty-part : (l o : Bytes) → length l ≡ 0 → l ++ o ≡ o
empty-part [] o e = refl
empty-part (x ∷ l) o e = absurd (omega arith)
