-- Scripts that are alike: their tokens are equal except in integer values, true for false, and string bytes of unchanged length.
use Rattle.std.specs.Prelude.{ℕ, List, [], ◌∷◌, ◌≡◌, length}
use Rattle.definition.specs.Basic.{Bytes}
use Rattle.definition.specs.Series.{Call}
use Rattle.text.specs.Kind.{an_integer, a_string, true_word, false_word}
use Rattle.text.specs.Token.{Token, token, Row}
use Rattle.text.specs.Scan.{scan_text}
use Rattle.text.specs.Script.{tree, read_text}

-- two tokens
pub data AlikeToken : Token → Token → Type 0 where
  same : (t : Token) → AlikeToken t t
  integers : (b c : Bytes) → AlikeToken (token an_integer b) (token an_integer c)
  true_false : (b c : Bytes) → AlikeToken (token true_word b) (token false_word c)
  false_true : (b c : Bytes) → AlikeToken (token false_word b) (token true_word c)
  strings : (b c : Bytes) → length b ≡ length c → AlikeToken (token a_string b) (token a_string c)

-- one token after the other
pub data AlikeTokens : Row → Row → Type 0 where
  ended : AlikeTokens [] []
  next : {t u : Token} {ts us : Row} → AlikeToken t u → AlikeTokens ts us → AlikeTokens (t ∷ ts) (u ∷ us)

-- two texts
pub record AlikeScripts (s t : Bytes) : Type 0 where
  pub tokens : AlikeTokens (scan_text s).tokens (scan_text t).tokens

-- two calls of a series: their trees were read from alike scripts, each into an output of some length, and the lent lengths are equal
pub record AlikeScriptCalls (c d : Call) : Type 0 where
  pub first_text : Bytes
  pub second_text : Bytes
  pub first_room : ℕ
  pub second_room : ℕ
  pub first_read : read_text first_room first_text ≡ tree c.tree
  pub second_read : read_text second_room second_text ≡ tree d.tree
  pub scripts : AlikeScripts first_text second_text
  pub session : length c.session ≡ length d.session
  pub output : length c.output ≡ length d.output
  pub code : length c.code ≡ length d.code
  pub table : length c.table ≡ length d.table

pub data AllScripts : List Call → List Call → Type 0 where
  none : AllScripts [] []
  more : {c d : Call} {cs ds : List Call} → AlikeScriptCalls c d → AllScripts cs ds → AllScripts (c ∷ cs) (d ∷ ds)
