-- In an accepted session the names that there were before lie in front of its names, behind its words.
use Prim.Native.Nat.{ℕ, ◌+◌, ◌-◌, ◌≤◌}
use native.Mathlib.Omega.{arith}
use mathlib.Core.List.{List, ◌++◌, reverse}
use mathlib.Core.Path.{◌≡◌, refl, sym, ap, subst, ◌∙◌}
use lib.ListN.{length, take, replicate, length-append, length-take}
use lib.Seq.{length-take-le, take-take}
use Rattle.definition.specs.Basic.{Bytes, byte_at}
use Rattle.definition.specs.Limit.{session_size, globals_limit}
use Rattle.definition.specs.Tag.{tag_words, tag_names, tag_pool}
use Rattle.definition.specs.Field.{field}
use Rattle.definition.specs.Bytecode.{Const, pool_bytes}
use Rattle.definition.specs.Session.{listed, Session, name_bytes, names_bytes, words_field, front_fields, session_fields, session_bytes}
use Rattle.definition.specs.Decode.{decoded, read_words, list_in, words_in}
use Rattle.definition.specs.Valid.{All, IsName, ValidSession}
use Rattle.definition.proofs.Bytes.{bytes_slice, Stands, stands_at, stands_left, stands_right, stands_front, stands_take}
use Rattle.definition.proofs.Fields.{stands_content, head-field}
use Rattle.definition.proofs.Items.{read-items}
use Rattle.definition.proofs.Sessions.{words-length, reads_name}
use Rattle.session.proofs.Sessions.{written-append, front_length}
use Rattle.field.specs.Layout.{after}
use Rattle.trace.specs.Promise.{HasOlder}
use Rattle.trace.proofs.Front.{read-listed}

-- these names and words
pub record Older (e : Bytes) (ws old : List Bytes) : Type 0 where
  pub has : HasOlder e (length (names_bytes old))
  pub names : has.items.names ≡ old
  pub words : words_in (take (after e 0 + 3 + length (names_bytes old)) e) ≡ ws

-- what stands in front stands in front of a part that holds it
stands_part : (e : Bytes) (n : ℕ) (xs : Bytes) → length xs ≤ n → Stands (byte_at e) 0 xs → length xs ≤ length e → Stands (byte_at (take n e)) 0 xs
stands_part e n xs h s l = record { same = bytes_slice (take n e) 0 (length xs) (omega (arith, length-take n e)) ∙ take-take (length xs) n e h ∙ sym (stands_take e s l) }

module _ (ws gs : List Bytes) (cs : List Const) (v : ValidSession (record { words = listed ws; globals = gs; pool = cs })) (old new : List Bytes) (g : gs ≡ new ++ old) (valid : All IsName old) where
  abbrev z : Session
  z = record { words = listed ws; globals = gs; pool = cs }

  abbrev e : Bytes
  e = session_bytes z

  abbrev words : Bytes
  words = words_field (listed ws)

  abbrev names : Bytes
  names = names_bytes gs

  -- all fields before the pool
  front : Stands (byte_at e) 0 (words ++ field tag_names names)
  front = stands_left (front_fields (listed ws) gs) (field tag_pool (pool_bytes cs)) (stands_front (session_fields z) (replicate (session_size - length (session_fields z)) 0))

  -- the words' field ends where they do
  words_after : after e 0 ≡ length words
  words_after =
      let fields = names_bytes (reverse ws) in
      let h = head-field tag_words fields (omega (arith, words-length (listed ws) v.words)) (stands_left words (field tag_names names) front) in
      let n : after e 0 ≡ 0 + 3 + length fields = λ i. 0 + 3 + (h i).len in
      omega arith

  -- the names stand behind
  names_stand : Stands (byte_at e) (length words + 3) names
  names_stand = stands_content tag_names names (stands_at (omega arith) (stands_right words (field tag_names names) front))

  split : names ≡ names_bytes old ++ names_bytes new
  split = ap names_bytes g ∙ written-append name_bytes new old

  old_stand : Stands (byte_at e) (length words + 3) (names_bytes old)
  old_stand = stands_left (names_bytes old) (names_bytes new) (subst (Stands (byte_at e) (length words + 3)) split names_stand)

  old_within : length words + 3 + length (names_bytes old) ≤ length e
  old_within = omega (arith, ap length split, length-append (names_bytes old) (names_bytes new), front_length (listed ws) gs, length-append (session_fields z) (replicate (session_size - length (session_fields z)) 0), length-append (front_fields (listed ws) gs) (field tag_pool (pool_bytes cs)))

  count : length old ≤ globals_limit
  count = omega (arith, v.count, ap length g, length-append new old)

  read-part : (n : ℕ) → length words ≤ n → n ≤ length e → read_words (byte_at (take n e)) 0 (length (take n e)) ≡ decoded (listed ws) (length words)
  read-part n h k = read-listed ws v.words (length (take n e)) (stands_part e n words h (stands_left words (field tag_names names) front) (omega arith)) (omega (arith, length-take-le n e k))

  pub older : Older e ws old
  unfolding words_in
  older =
      record {
        has = record {
          whole = record { fits = omega (arith, words_after, old_within) };
          items = record {
            names = old;
            stop = after e 0 + 3 + length (names_bytes old);
            reads = read-items reads_name valid count (stands_at (omega (arith, words_after)) old_stand) refl;
            order = omega arith;
            within = omega (arith, words_after, old_within);
          };
          words = record { words = listed ws; end = length words; reads = read-part (after e 0 + 3 + length (names_bytes old)) (omega (arith, words_after)) (omega (arith, words_after, old_within)) };
        };
        names = refl;
        words = ap list_in (read-part (after e 0 + 3 + length (names_bytes old)) (omega (arith, words_after)) (omega (arith, words_after, old_within)));
      }
