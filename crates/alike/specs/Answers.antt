-- What is answered to two scripts that are alike, refused ones too.
use Rattle.std.specs.Prelude.{ℕ, ◌<◌, ◌≡◌, length, get_or}
use Rattle.definition.specs.Basic.{Bytes}
use Rattle.definition.specs.Number.{refusal, bad_script, too_deep, output_short}
use Rattle.definition.specs.declared.reason.Reason.{Reason}
use Rattle.shape.specs.Alike.{AlikeFields}
use Rattle.text.specs.Answer.{Beginning}
use Rattle.text.specs.Scan.{whole, cut, Scanned}
use Rattle.text.specs.Script.{Outcome, tree, refused}

-- the answers to two texts with these tokens, each read into an output of one length
pub data AlikeAnswers (s t : Scanned) : Outcome → Outcome → Type 0 where
  -- alike trees
  read : {a b : Bytes} → AlikeFields a b → AlikeAnswers s t (tree a) (tree b)
  -- 20 at the same token, the first that no script goes on with
  token : (k : ℕ) → k < length s.tokens
      → AlikeAnswers s t (refused (refusal bad_script (get_or s.places k 0))) (refused (refusal bad_script (get_or t.places k 0)))
  -- 20 at the end of each
  early : (m n : ℕ) → s.tail ≡ whole m → t.tail ≡ whole n
      → AlikeAnswers s t (refused (refusal bad_script m)) (refused (refusal bad_script n))
  -- 4, or 15
  deep : AlikeAnswers s t (refused (refusal too_deep 0)) (refused (refusal too_deep 0))
  long : AlikeAnswers s t (refused (refusal output_short 0)) (refused (refusal output_short 0))
  -- the tokens begin a script, and one of the texts is cut behind them: by bytes that are no token, or an integer above the limit.
  -- It is refused there; of the other nothing is said
  first_cut : {o : Outcome} (r : Reason) (p : ℕ) → s.tail ≡ cut r p → Beginning s.tokens → AlikeAnswers s t (refused (refusal r p)) o
  second_cut : {o : Outcome} (r : Reason) (p : ℕ) → t.tail ≡ cut r p → Beginning t.tokens → AlikeAnswers s t o (refused (refusal r p))
