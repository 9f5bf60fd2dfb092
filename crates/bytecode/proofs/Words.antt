-- A session's words, by its first byte, their fields and whether one is repeated.
use Prim.Native.Nat.{◌+◌}
use mathlib.Core.Path.{◌≡◌, ◌∙◌, ap, sym, refl}
use mathlib.Core.Bool.{Bool, true, false}
use mathlib.Core.List.{List, reverse}
use native.Mathlib.Omega.{arith}
use lib.ListN.{length}
use borrow.Author.Tests.{eq-eqb, ne_eqb}
use Rattle.definition.specs.Basic.{Bytes, byte_at, pick}
use Rattle.definition.specs.Limit.{words_limit}
use Rattle.definition.specs.Tag.{tag_words}
use Rattle.definition.specs.Field.{head, tagged}
use Rattle.definition.specs.SymbolTable.{distinct}
use Rattle.definition.specs.Session.{six, listed}
use Rattle.definition.specs.Decode.{Decoded, decoded, malformed, then, as_words, read_name_fields, read_words, read_handed}
use Rattle.field.specs.Row.{HasRow}
use Rattle.field.proofs.Reading.{Filled, filled}
use Rattle.std.specs.Prelude.{Result, Ok, Err}
use Rattle.bytecode.specs.declared.item_check.Items.{Items}
use Rattle.bytecode.specs.declared.Malformed.{Malformed}
use Rattle.bytecode.specs.Checked.{item, wrong, checked, is_read, name_fields}
use Rattle.bytecode.proofs.Fields.{head_read, names_content}
use Rattle.bytecode.proofs.ReadConstants.{checked_good, checked_wrong}

-- Words that are handed over

module _ (b : Bytes) {r : Result Items Malformed} (e : r ≡ checked (name_fields (byte_at b) words_limit 0 (length b))) where
  pub handed_wrong : {x : Malformed} → r ≡ Err x → false ≡ is_read (read_handed b)
  handed_wrong w = sym (ap (λ d. is_read (then d as_words)) (checked_wrong (name_fields (byte_at b) words_limit 0 (length b)) e w))

  module _ {v : Items} (w : r ≡ Ok v) where
    good : (ns : List Bytes) × (name_fields (byte_at b) words_limit 0 (length b) ≡ decoded ns v.end) × (length ns ≡ v.count)
    good = checked_good (name_fields (byte_at b) words_limit 0 (length b)) e w

    fill : Filled b words_limit 0 v.end good.0
    fill = filled b words_limit 0 (length b) v.end (omega arith) good.1

    pub handed-row : HasRow b 0 v.end
    handed-row = fill.has

    pub handed_tested : {z : Bool} → ((h : HasRow b 0 v.end) → z ≡ distinct h.names) → z ≡ is_read (read_handed b)
    handed_tested {z} d =
        d fill.has ∙ ap distinct fill.order ∙ same (distinct (reverse good.0)) ∙ sym (ap (λ d. is_read (then d as_words)) good.1)
      where
        same : (t : Bool) → t ≡ is_read (pick t (decoded (listed (reverse good.0)) v.end) (malformed v.end))
        same true = refl
        same false = refl

-- Words in a session

module _ (b : Bytes) where
  -- their field's content
  abbrev own : Decoded (List Bytes)
  own = read_name_fields (byte_at b) tag_words words_limit 0 (length b)

  -- no bytes at all, or another tag
  pub other_tag : (byte_at b 0 ≡ tag_words → ⊥) → Ok 0 ≡ item (read_words (byte_at b) 0 (length b))
  other_tag n = ap (λ t. item (pick t (then own as_words) (decoded six 0))) (sym (ne_eqb (byte_at b 0) tag_words n))

  module _ (t : byte_at b 0 ≡ tag_words) where
    own_words : read_words (byte_at b) 0 (length b) ≡ then own as_words
    own_words = ap (λ t. pick t (then own as_words) (decoded six 0)) (eq-eqb (byte_at b 0) tag_words t)

    module _ {r : Result Items Malformed} (e : r ≡ checked own) where
      pub own_wrong : {x : Malformed} → r ≡ Err x → Err x ≡ item (read_words (byte_at b) 0 (length b))
      own_wrong w = sym (ap item (own_words ∙ ap (λ d. then d as_words) (checked_wrong own e w)))

      module _ {v : Items} (w : r ≡ Ok v) where
        names : (ns : List Bytes) × (own ≡ decoded ns v.end) × (length ns ≡ v.count)
        names = checked_good own e w

        -- their fields fill the part behind the head
        own_filled : Filled b words_limit 3 v.end names.0
        own_filled =
            let h = head_read (byte_at b) 0 (length b) (tagged tag_words) (names_content (byte_at b) words_limit) names.1 in
            filled b words_limit 3 (3 + (head (byte_at b) 0).len) v.end h.0.within h.1

        pub own_row : HasRow b 3 v.end
        own_row = own_filled.has

        module _ {z : Bool} (d : (h : HasRow b 3 v.end) → z ≡ distinct h.names) where
          by_test : item (read_words (byte_at b) 0 (length b)) ≡ item (pick z (decoded (listed (reverse names.0)) v.end) (malformed v.end))
          by_test =
              ap item (own_words ∙ ap (λ d. then d as_words) names.1) ∙ ap (λ t. item (pick t (decoded (listed (reverse names.0)) v.end) (malformed v.end))) (sym (d own_filled.has ∙ ap distinct own_filled.order))

          pub own_good : z ≡ true → Ok v.end ≡ item (read_words (byte_at b) 0 (length b))
          own_good q = sym (by_test ∙ ap (λ t. item (pick t (decoded (listed (reverse names.0)) v.end) (malformed v.end))) q)

          pub own_repeated : z ≡ false → wrong v.end ≡ item (read_words (byte_at b) 0 (length b))
          own_repeated q = sym (by_test ∙ ap (λ t. item (pick t (decoded (listed (reverse names.0)) v.end) (malformed v.end))) q)
