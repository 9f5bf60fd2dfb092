-- What a caller is told of an offset of a text: the token that is next in three numbers, or why there is none.
use Rattle.std.specs.Prelude.{ℕ, ◌-◌, List, [], ◌∷◌, length, leb, Result, Ok, Err}
use Rattle.definition.specs.Basic.{Bytes, byte_at, pick}
use Rattle.definition.specs.Number.{refusal, bad_script, large_integer}
use Rattle.definition.specs.declared.reason.Refusal.{Refusal}
use Rattle.text.specs.Kind.{ended, number_of}
use Rattle.text.specs.Token.{token}
use Rattle.text.specs.Scan.{Next, found, large, broken, finished, next_at}
use Rattle.text.specs.Parts.{end_of}
use Rattle.text.specs.declared.scan.NextToken.{NextToken}

-- a token's start, length and kind
abbrev pub three : ℕ → ℕ → ℕ → List ℕ
three start len kind = start ∷ len ∷ kind ∷ []

-- what is next: a token, the text's end as one of no bytes, 21 or 20 at its place
abbrev pub told : Next → Result (List ℕ) Refusal
told (found start end (token k b)) = Ok (three start (end - start) k)
told (large start t) = Err (refusal large_integer start)
told (broken start) = Err (refusal bad_script start)
told (finished end) = Ok (three end 0 ended)

-- the same at an offset; behind the text, or behind where tokens end at the latest, 20 there
unfoldable pub token_at : Bytes → ℕ → Result (List ℕ) Refusal
token_at text at = pick (leb at (end_of text)) (told (next_at (byte_at text) (length text) at)) (Err (refusal bad_script (end_of text)))

-- the same as the code answers it
abbrev pub three_of : Result NextToken Refusal → Result (List ℕ) Refusal
three_of (Ok t) = Ok (three t.start t.len (number_of t.kind))
three_of (Err r) = Err r
