-- Words that stand in front are read, whatever stands behind them.
use Prim.Native.Nat.{ℕ, ◌+◌, ◌≤◌, ◌<◌}
use mathlib.Core.List.{List, reverse}
use mathlib.Core.Path.{◌≡◌, refl, ap, ◌∙◌}
use lib.ListN.{length}
use lib.Dec.{eqb}
use Rattle.definition.specs.Basic.{pick}
use Rattle.definition.specs.Limit.{words_limit}
use Rattle.definition.specs.Tag.{tag_words}
use Rattle.definition.specs.Field.{field, tagged}
use Rattle.definition.specs.Session.{six, listed, names_bytes, words_field}
use Rattle.definition.specs.Decode.{decoded, then, as_words, read_name_fields, read_words}
use Rattle.definition.specs.Valid.{All, ValidList}
use Rattle.definition.proofs.Bytes.{Stands, stands_head}
use Rattle.definition.proofs.Fields.{read-row}
use Rattle.definition.proofs.Sessions.{all_reversed, length-reverse, words-length, as-words, reads_name}
use native.Mathlib.Omega.{arith}
use Rattle.definition.specs.Basic.{Bytes}

-- words that stand in front are read
pub read-listed : {byte : ℕ → ℕ} (ws : List Bytes) → ValidList ws → (end : ℕ) → Stands byte 0 (words_field (listed ws)) → length (words_field (listed ws)) ≤ end → read_words byte 0 end ≡ decoded (listed ws) (length (words_field (listed ws)))
read-listed {byte} ws v end s h = λ i. pick (eqb (stands_head s i) tag_words) (own i) (decoded six 0)
  where
    fields : Bytes
    fields = names_bytes (reverse ws)

    own : then (read_name_fields byte tag_words words_limit 0 end) as_words ≡ decoded (listed ws) (length (field tag_words fields))
    own =
        let few : length (reverse ws) ≤ words_limit = omega (arith, length-reverse ws, v.count) in
        let short : length fields < 65536 = omega (arith, words-length (listed ws) v) in
        let e = read-row (tagged tag_words) (λ _. words_limit) tag_words reads_name (all_reversed v.names All.none) short refl few {at = 0} end s (omega arith) in
        let p : 0 + length (field tag_words fields) ≡ length (field tag_words fields) = omega arith in
        (λ i. then (e i) as_words) ∙ as-words v (0 + length (field tag_words fields)) ∙ ap (decoded (listed ws)) p
