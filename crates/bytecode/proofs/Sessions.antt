-- A session, from its words, its names, its pool and the zeros behind.
use Prim.Native.Nat.{ℕ, ◌-◌, ◌≤◌}
use mathlib.Core.Path.{◌≡◌, ◌∙◌, ap, sym, refl}
use mathlib.Core.Bool.{Bool, true, false}
use mathlib.Core.List.{List, [], reverse}
use native.Mathlib.Omega.{arith}
use native.Mathlib.Nat.{le_of_eq}
use lib.ListN.{length, take, drop, length-drop}
use lib.Seq.{take_all}
use lib.Dec.{eqb}
use Rattle.definition.specs.Basic.{Bytes, byte_at, pick}
use Rattle.definition.specs.Limit.{globals_limit, words_limit}
use Rattle.definition.specs.Tag.{tag_words, tag_names}
use Rattle.definition.specs.Field.{tagged}
use Rattle.definition.specs.Bytecode.{Const}
use Rattle.definition.specs.SymbolTable.{distinct}
use Rattle.definition.specs.Session.{Words, six, listed, Session}
use Rattle.definition.specs.Decode.{Decoded, decoded, malformed, then, all_zero, as_words, pool_head, read_const, read_name_field, read_name_fields, read_words, read_names, read_front, read_pool, read_session}
use Rattle.std.specs.Prelude.{Option, Some, None, Result, Ok, Err}
use Rattle.std.specs.Result.{result_ok}
use Rattle.bytecode.specs.declared.item_check.Items.{Items}
use Rattle.bytecode.specs.declared.Malformed.{Malformed}
use Rattle.bytecode.specs.declared.SessionLayout.{SessionLayout}
use Rattle.bytecode.specs.Checked.{item, checked, layout, layout_of, layout_answer, session_answer, WordsEnd, LaysOut}
use Rattle.bytecode.proofs.Items.{unlike, ended}
use Rattle.bytecode.proofs.Fields.{item_wrong, then_read, head_read, names_content, pool_content}
use Rattle.bytecode.proofs.ReadConstants.{checked_good, checked_wrong}

-- what a result was whose value was taken
pub was_ok : {T E : Type 0} (r : Result T E) {x : T} → Some x ≡ result_ok r → r ≡ Ok x
was_ok (Ok y) e = ap (λ (z : _). Ok z) (sym (cc))
was_ok (Err y) e = cc

pub was_err : {T E : Type 0} (r : Result T E) → None ≡ result_ok r → (x : E) × (r ≡ Err x)
was_err (Ok y) e = cc
was_err (Err y) e = (y, refl)

module _ (b : Bytes) where
  -- what follows the words
  abbrev pub after_words : Words → ℕ → Decoded (Words × List Bytes)
  after_words w at = then (read_names (byte_at b) at (length b)) (λ ns. decoded (w, ns))

  -- what follows the names
  unfoldable pub after_front : Words × List Bytes → ℕ → Decoded Session
  after_front f at =
      then (read_pool (byte_at b) at (length b)) (λ cs at₁. pick (all_zero (drop at₁ b)) (decoded (record { words = f.0; globals = f.1; pool = cs }) at₁) (malformed at₁))

  pub session_is : read_session b ≡ then (read_front (byte_at b) 0 (length b)) after_front
  unfolding read_session after_front
  session_is = refl

  -- the layout, by what is read of the words
  abbrev from_words : Decoded Words → Option SessionLayout
  from_words x = layout x (then x after_words) (then (then x after_words) after_front)

  layout_is : layout_of b ≡ from_words (read_words (byte_at b) 0 (length b))
  layout_is = ap (layout (read_words (byte_at b) 0 (length b)) (read_front (byte_at b) 0 (length b))) session_is

  -- the number of a layout is the session's
  layout-answer : layout_answer (layout_of b) ≡ session_answer (read_session b)
  layout-answer = ap layout_answer layout_is ∙ go (read_words (byte_at b) 0 (length b)) ∙ ap session_answer (sym session_is)
    where
      inner : (w : Words) (k : ℕ) (f : Words × List Bytes) (at : ℕ) (d : Decoded Session) → layout_answer (layout (decoded w k) (decoded f at) d) ≡ session_answer d
      inner w k f at (decoded z n) = refl
      inner w k f at (malformed p) = refl

      front : (w : Words) (k : ℕ) (y : Decoded (Words × List Bytes)) → layout_answer (layout (decoded w k) y (then y after_front)) ≡ session_answer (then y after_front)
      front w k (decoded f at) = inner w k f at (after_front f at)
      front w k (malformed p) = refl

      go : (x : Decoded Words) → layout_answer (from_words x) ≡ session_answer (then (then x after_words) after_front)
      go (decoded w k) = front w k (after_words w k)
      go (malformed p) = refl

  -- a layout that is the definition's keeps the promise
  pub lays_out : {r : Option SessionLayout} → r ≡ layout_of b → LaysOut b r
  lays_out e = record { layout = e; answer = ap layout_answer e ∙ layout-answer }

  -- words that are wrong
  pub words_wrong : {r : Result ℕ Malformed} {x : Malformed} → r ≡ item (read_words (byte_at b) 0 (length b)) → r ≡ Err x → None ≡ layout_of b
  words_wrong e w = sym (layout_is ∙ ap from_words (item_wrong (read_words (byte_at b) 0 (length b)) e w))

  -- a field of names that is read ends within the bytes
  pub fields_within : (tag most at : ℕ) {ns : List Bytes} {n : ℕ} → read_name_fields (byte_at b) tag most at (length b) ≡ decoded ns n → n ≤ length b
  fields_within tag most at e =
      let h = head_read (byte_at b) at (length b) (tagged tag) (names_content (byte_at b) most) e in
      let m = ended (read_name_field (byte_at b)) _ _ [] _ h.1 in
      omega (arith, h.0.within, m.ends)

  -- so do words
  pub words_within : {k : ℕ} → WordsEnd b k → k ≤ length b
  words_within {k} x = go (eqb (byte_at b 0) tag_words) x.reads
    where
      same : (ns : List Bytes) (m : ℕ) (t : Bool) → pick t (decoded (listed (reverse ns)) m) (malformed m) ≡ decoded x.words k → m ≡ k
      same ns m true e = cc
      same ns m false e = absurd (unlike e)

      go : (t : Bool) → pick t (then (read_name_fields (byte_at b) tag_words words_limit 0 (length b)) as_words) (decoded six 0) ≡ decoded x.words k → k ≤ length b
      go true e =
          let t = then_read (read_name_fields (byte_at b) tag_words words_limit 0 (length b)) e in
          let m : t.1 ≡ k = same t.0 t.1 (distinct (reverse t.0)) t.3 in
          omega (arith, fields_within tag_words words_limit 0 t.2)
      go false e = let m : ◌≡◌ {A = ℕ} 0 k = cc in omega arith

  module _ {k : ℕ} (x : WordsEnd b k) {r : Result Items Malformed} (e : r ≡ checked (read_names (byte_at b) k (length b))) where
    -- the layout behind the words
    behind : layout_of b ≡ from_words (decoded x.words k)
    behind = layout_is ∙ ap from_words x.reads

    abbrev from_names : Decoded (List Bytes) → Option SessionLayout
    from_names d = let f : Decoded (Words × List Bytes) = then d (λ ns. decoded (x.words, ns)) in layout (decoded x.words k) f (then f after_front)

    pub names_wrong : {x : Malformed} → r ≡ Err x → None ≡ layout_of b
    names_wrong w = sym (behind ∙ ap from_names (checked_wrong (read_names (byte_at b) k (length b)) e w))

    module _ {v : Items} (w : r ≡ Ok v) where
      names-read : (ns : List Bytes) × (read_names (byte_at b) k (length b) ≡ decoded ns v.end) × (length ns ≡ v.count)
      names-read = checked_good (read_names (byte_at b) k (length b)) e w

      pub names_within : v.end ≤ length b
      names_within = fields_within tag_names globals_limit k names-read.1

      layout_after : layout_of b ≡ layout (decoded x.words k) (decoded (x.words, names-read.0) v.end) (after_front (x.words, names-read.0) v.end)
      layout_after = behind ∙ ap from_names names-read.1

      module _ {s : Result Items Malformed} (f : s ≡ checked (read_pool (byte_at b) v.end (length b))) where
        pub pool_broken : {x : Malformed} → s ≡ Err x → None ≡ layout_of b
        unfolding after_front
        pool_broken p = sym (layout_after ∙ rw (checked_wrong (read_pool (byte_at b) v.end (length b)) f p))

        module _ {u : Items} (q : s ≡ Ok u) where
          pool_is : (cs : List Const) × (read_pool (byte_at b) v.end (length b) ≡ decoded cs u.end) × (length cs ≡ u.count)
          pool_is = checked_good (read_pool (byte_at b) v.end (length b)) f q

          pub pool_within : u.end ≤ length b
          pool_within =
              let h = head_read (byte_at b) v.end (length b) (pool_head (byte_at b)) (pool_content (byte_at b)) pool_is.1 in
              let m = ended (read_const (byte_at b)) _ _ [] _ h.1 in
              omega (arith, h.0.within, m.ends)

          tail_is : {z : Bool} → z ≡ all_zero (take (length b - u.end) (drop u.end b)) → all_zero (drop u.end b) ≡ z
          tail_is t = sym (t ∙ ap all_zero (take_all (length b - u.end) (drop u.end b) (le_of_eq (length-drop u.end b))))

          module _ {z : Bool} (t : z ≡ all_zero (take (length b - u.end) (drop u.end b))) where
            pub tail_broken : z ≡ false → None ≡ layout_of b
            unfolding after_front
            tail_broken y = sym (layout_after ∙ rw (pool_is.1, tail_is t, y))

            pub layout_sound : z ≡ true → Some (record { words_end = k; names_end = v.end; pool_end = u.end; names = v.count; constants = u.count }) ≡ layout_of b
            unfolding after_front
            layout_sound y = sym (layout_after ∙ rw (pool_is.1, tail_is t, y, names-read.2, pool_is.2))
