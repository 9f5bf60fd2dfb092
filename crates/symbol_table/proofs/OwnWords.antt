-- The words that a session begins with: their fields, and a search among them.
use Prim.Native.Nat.{ℕ, ◌+◌, ◌≤◌, ◌<◌}
use mathlib.Core.Path.{◌≡◌, refl, sym, ap, subst, ◌∙◌}
use mathlib.Core.Bool.{Bool, true, false}
use mathlib.Core.List.{List, [], ◌∷◌, reverse}
use mathlib.Core.Option.{none, some}
use native.Mathlib.Omega.{arith}
use lib.ListN.{length}
use lib.Dec.{lit≤}
use borrow.Author.Tests.{eq-eqb, ne_eqb}
use Rattle.definition.specs.Basic.{Bytes, byte_at, pick}
use Rattle.definition.specs.Limit.{words_limit}
use Rattle.definition.specs.Tag.{tag_words}
use Rattle.definition.specs.SymbolTable.{Symbol, same, builtins, find_builtin, distinct}
use Rattle.definition.specs.Session.{Words, six, listed, words_field}
use Rattle.definition.specs.Decode.{Decoded, decoded, malformed, then, as_words, read_name_fields, read_words, list_in, words_in}
use Rattle.field.specs.Layout.{after}
use Rattle.field.specs.Row.{RowTo, HasRow, RowOf, found_of}
use Rattle.field.specs.Fields.{Begins}
use Rattle.field.specs.declared.fields.Fields.{Fields}
use Rattle.std.specs.Prelude.{Option, Some, None}
use Rattle.field.proofs.Reading.{items-row, Filled, filled, names-read}
use Rattle.symbol_table.specs.Layout.{symbol_of}
use Rattle.symbol_table.specs.Contract.{as_symbol, HasWords, IsWords}
use Rattle.symbol_table.proofs.Codes.{symbol_builtin}

-- what is found is one of the words
pub found_below : (n : Bytes) (ws : List Bytes) (i : ℕ) {k : ℕ} → find_builtin n ws i ≡ some k → k < i + length ws
unfolding find_builtin
found_below n [] i e = let z : ◌≡◌ {A = ℕ} 0 1 = cc in absurd (omega arith)
found_below n (w ∷ ws) i {k} e = go (same n w) e (λ h. found_below n ws (i + 1) h)
  where
    go : (t : Bool) → pick t (some i) (find_builtin n ws (i + 1)) ≡ some k → (find_builtin n ws (i + 1) ≡ some k → k < i + 1 + length ws) → k < i + length (w ∷ ws)
    go true h rest = let l : i ≡ k = cc in omega arith
    go false h rest = omega (arith, rest h)

-- what a search among few fields answers, as a symbol
module _ {names : Bytes} {s : Fields} (w : IsWords names s) (name : Bytes) {f : Option ℕ} (e : (h : RowOf s) → found_of f ≡ find_builtin name h.names 0) where
  pub word_index : {k : ℕ} → f ≡ Some k → k < words_limit
  word_index q = omega (arith, w.few, found_below name w.row.names 0 (sym (e w.row) ∙ ap found_of q))

  pub word_miss : f ≡ None → none ≡ as_symbol Symbol.builtin (find_builtin name (words_in names) 0)
  word_miss q = ap (as_symbol Symbol.builtin) (sym (ap found_of q) ∙ e w.row ∙ ap (λ ws. find_builtin name ws 0) w.are)

  pub word_hit : {k : ℕ} → f ≡ Some k → some (symbol_of (768 + k)) ≡ as_symbol Symbol.builtin (find_builtin name (words_in names) 0)
  word_hit {k} q = ap some (symbol_builtin k (omega (arith, word_index q))) ∙ ap (as_symbol Symbol.builtin) (sym (ap found_of q) ∙ e w.row ∙ ap (λ ws. find_builtin name ws 0) w.are)

-- fields that are read as the words
words_there : {names b : Bytes} {from to : ℕ} {s : Fields} → Begins b from to s → (g : HasRow b from to) → length g.names ≤ words_limit → g.names ≡ words_in names → IsWords names s
words_there n g l e = record { row = record { names = g.names; row = rw (n.bytes, n.at, n.end) g.row; within = rw (n.bytes, n.end) g.within }; few = l; are = e }

-- document 01's builtins
abbrev six_row : HasRow (words_field (listed builtins)) 3 45
six_row = record { names = builtins; row = RowTo.more refl (lit≤ tt) (RowTo.more refl (lit≤ tt) (RowTo.more refl (lit≤ tt) (RowTo.more refl (lit≤ tt) (RowTo.more refl (lit≤ tt) (RowTo.more refl (lit≤ tt) (RowTo.end refl)))))); within = lit≤ tt }

module _ (b : Bytes) where
  -- the names of their field
  abbrev own : Decoded (List Bytes)
  own = read_name_fields (byte_at b) tag_words words_limit 0 (length b)

  -- where there are no bytes, or another tag, they are the words
  six_are : (byte_at b 0 ≡ tag_words → ⊥) → builtins ≡ words_in b
  unfolding words_in
  six_are n = ap (λ t. list_in (pick t (then own as_words) (decoded six 0))) (sym (ne_eqb (byte_at b 0) tag_words n))

  -- a session's own words: their fields fill the first field
  record Own : Type 0 where
    pub fits : after b 0 ≤ length b
    pub row : HasRow b 3 (after b 0)
    pub few : length row.names ≤ words_limit
    pub are : row.names ≡ words_in b

  module _ (h : HasWords b) (t : byte_at b 0 ≡ tag_words) where
    own_words : read_words (byte_at b) 0 (length b) ≡ then own as_words
    own_words = ap (λ t. pick t (then own as_words) (decoded six 0)) (eq-eqb (byte_at b 0) tag_words t)

    -- none is repeated, as they were read
    unrepeated : (d : Bool) (ns : List Bytes) (e : ℕ) {w : Words} {n : ℕ} → pick d (decoded (listed (reverse ns)) e) (malformed e) ≡ decoded w n → reverse ns ≡ list_in (pick d (decoded (listed (reverse ns)) e) (malformed e))
    unrepeated true ns e p = refl
    unrepeated false ns e p = let z : ◌≡◌ {A = ℕ} 0 1 = cc in absurd (omega arith)

    own_are : Own
    unfolding words_in
    own_are = go own refl
      where
        go : (y : Decoded (List Bytes)) → own ≡ y → Own
        go (decoded ns e) p =
            let r = names-read b tag_words words_limit 0 ns e p in
            let f = subst (λ n. Filled b words_limit 3 n ns) (items-row b words_limit [] 3 (after b 0) r.fits r.items).ends (filled b words_limit 3 (after b 0) e r.fits r.items) in
            let q : read_words (byte_at b) 0 (length b) ≡ as_words ns e = own_words ∙ ap (λ y. then y as_words) p in
            record { fits = r.fits; row = f.has; few = f.few; are = f.order ∙ unrepeated (distinct (reverse ns)) ns e (sym q ∙ h.reads) ∙ ap list_in (sym q) }
        go (malformed o) p = let q : malformed o ≡ decoded h.words h.end = ap (λ y. then y as_words) (sym p) ∙ sym own_words ∙ h.reads in let z : ◌≡◌ {A = ℕ} 0 1 = cc in absurd (omega arith)

-- document 01's fields are read as the words where there are no bytes, or another tag
pub six_there : {b : Bytes} {s : Fields} → (byte_at b 0 ≡ tag_words → ⊥) → Begins (words_field (listed builtins)) 3 45 s → IsWords b s
six_there {b} n g = words_there g six_row (lit≤ tt) (six_are b n)

-- a session's own are where it begins with their tag
pub own_there : {b : Bytes} {s : Fields} → HasWords b → byte_at b 0 ≡ tag_words → Begins b 3 (after b 0) s → IsWords b s
own_there {b} h t g = let o = own_are b h t in words_there g o.row o.few o.are
