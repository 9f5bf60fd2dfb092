-- What the code sees at an offset: the first token of the row from there on, and the row behind it.
use Prim.Native.Nat.{ℕ, zero, suc, ◌+◌, ◌-◌, ◌≤◌, ◌<◌}
use native.Mathlib.Omega.{arith}
use mathlib.Core.Bool.{Bool, true, false}
use mathlib.Core.List.{[], ◌∷◌}
use mathlib.Core.Path.{◌≡◌, refl, sym, ap, subst, ◌∙◌}
use lib.ListN.{length}
use lib.Dec.{leb, ltb, eqb}
use borrow.Author.Tests.{leb-true, leb-false, ltb-true, ltb-false, eqb-false}
use Rattle.std.specs.Prelude.{Result, Ok, Err}
use Rattle.std.specs.Result.{result_unwrap_or}
use Rattle.definition.specs.Basic.{Bytes, byte_at, pick, both}
use Rattle.definition.specs.Limit.{name_limit}
use Rattle.definition.specs.Field.{bytes}
use Rattle.definition.proofs.Basic.{chosen, both_true}
use Rattle.text.specs.Kind.{a_name, an_integer, a_string, bang, assign, ended, number_of}
use Rattle.text.specs.Token.{Token, token, kind_of, bytes_of, behind}
use Rattle.text.specs.Scan.{words, marks, kind_in, value, Next, no_mark, ending, either, is_blank, is_letter, is_digit, is_inside, smaller, skip, up_to, word_at, integer_at, string_at, mark_at, next_at, text_limit, integer_limit}
use Rattle.text.specs.Seen.{ahead, next_of}
use Rattle.text.specs.Parts.{end_of, row_next, row_from, row_at, denoted, Sees}
use Rattle.text.specs.declared.scan.Token as piece
use Rattle.text.specs.declared.scan.Stop.{Stop}
use Rattle.text.specs.declared.scan.Stop.TheVariants.{Large, Broken, Finished}
use Rattle.text.specs.declared.kind.Kind.TheVariants as kinds
use Rattle.text.proofs.RealTokens.{none_is, kind-in, skip-on}
use Rattle.text.proofs.Enough.{Moves, moves_next}
use Rattle.text.proofs.Skips.{skip_most}
use Rattle.text.proofs.Smaller.{smaller_left}

-- the smaller is the largest below both
pub least_end : (text : Bytes) {i : ℕ} → i ≤ length text → i ≤ text_limit → i ≤ end_of text
unfolding end_of
least_end text {i} a b = chosen (λ m. i ≤ m) (leb (length text) text_limit) (λ _. a) (λ _. b)

pub end_within : (text : Bytes) → end_of text ≤ length text
unfolding end_of
end_within text = smaller_left (length text) text_limit

pub end_early : (text : Bytes) → end_of text ≤ text_limit
unfolding end_of
end_early text = chosen (λ m. m ≤ text_limit) (leb (length text) text_limit) (λ e. leb-true (length text) text_limit e) (λ _. omega arith)

-- a token found: where it stands and what it denotes
pub data Piece (text : Bytes) (at : ℕ) : Next → Type 0 where
  found : {start end k : ℕ} {b : Bytes} → at ≤ start → start < end → end ≤ end_of text → denoted text k start end ≡ b → (k ≡ a_string → start + 2 ≤ end) → (k ≡ an_integer → value 0 (bytes (byte_at text) start (end - start)) ≤ integer_limit) → (k ≡ ended → ⊥) → Piece text at (Next.found start end (token k b))
  large : {start : ℕ} {t : Token} → Piece text at (Next.large start t)
  broken : {start : ℕ} → Piece text at (Next.broken start)
  finished : {end : ℕ} → Piece text at (Next.finished end)

-- one that ends in time
piece_ending : {text : Bytes} {at : ℕ} (start end : ℕ) {t : Next} → (end ≤ text_limit → Piece text at t) → Piece text at (ending start end t)
piece_ending {text} {at} start end r = chosen (Piece text at) (leb end text_limit) (λ e. r (leb-true end text_limit e)) (λ _. Piece.broken)

-- a token that denotes nothing
silent : (text : Bytes) (k start end : ℕ) → eqb k a_name ≡ false → eqb k a_string ≡ false → eqb k an_integer ≡ false → denoted text k start end ≡ []
unfolding denoted
silent text k start end a b c = rw (a, b, c) refl

-- a word
word-denoted : (text : Bytes) (k start end : ℕ) → eqb k a_string ≡ false → eqb k an_integer ≡ false → denoted text k start end ≡ pick (eqb k a_name) (bytes (byte_at text) start (end - start)) []
unfolding denoted
word-denoted text k start end a b = rw (a, b) refl

module _ (text : Bytes) where
  abbrev byte : ℕ → ℕ
  byte = byte_at text

  abbrev n : ℕ
  n = length text

  -- where a run from the next byte on ends
  run_ends : (test : ℕ → Bool) (start : ℕ) → start < n → (start < up_to byte n test (start + 1)) × (up_to byte n test (start + 1) ≤ n)
  run_ends test start h =
      let left = smaller n (text_limit + 1) - (start + 1) in
      (omega (arith, skip-on byte n test left (start + 1)), omega (arith, skip_most byte n test left (start + 1), smaller_left n (text_limit + 1)))

  -- each piece
  module _ (at start : ℕ) (l : at ≤ start) (h : start < n) where
    piece_word : Piece text at (word_at byte n start)
    unfolding none_is
    piece_word =
        let end = up_to byte n is_letter (start + 1) in
        let b = bytes byte start (end - start) in
        let k = kind_in words a_name b in
        let s = kind-in a_string words a_name b refl refl in
        let i = kind-in an_integer words a_name b refl refl in
        let f = kind-in ended words a_name b refl refl in
        chosen (Piece text at) (leb (end - start) name_limit)
        (λ _. piece_ending start end (λ e. Piece.found l (run_ends is_letter start h).0 (least_end text (run_ends is_letter start h).1 e) (word-denoted text k start end s i) (λ z. absurd (eqb-false k a_string s z)) (λ z. absurd (eqb-false k an_integer i z)) (eqb-false k ended f)))
        (λ _. Piece.broken)

    piece_integer : Piece text at (integer_at byte n start)
    unfolding denoted
    piece_integer =
        let end = up_to byte n is_digit (start + 1) in
        let v = value 0 (bytes byte start (end - start)) in
        piece_ending start end (λ e.
        chosen (Piece text at) (leb v integer_limit)
        (λ f. Piece.found l (run_ends is_digit start h).0 (least_end text (run_ends is_digit start h).1 e) refl (λ z. absurd (omega arith)) (λ _. leb-true v integer_limit f) (λ z. absurd (omega arith)))
        (λ _. Piece.large))

    piece_string : Piece text at (string_at byte n start)
    unfolding denoted
    piece_string =
        let end = up_to byte n is_inside (start + 1) in
        chosen (Piece text at) (ltb end n)
        (λ e. piece_ending start (end + 1) (λ f.
        let g : end + 1 - 1 ≡ end = omega arith in
        let lo = skip-on byte n is_inside (smaller n (text_limit + 1) - (start + 1)) (start + 1) in
        Piece.found l (omega arith) (least_end text (omega (arith, ltb-true end n e)) f) (ap (λ m. bytes byte (start + 1) (m - (start + 1))) g) (λ _. omega arith) (λ z. absurd (omega arith)) (λ z. absurd (omega arith))))
        (λ _. Piece.broken)

    piece_mark : start < text_limit → Piece text at (mark_at byte n start)
    unfolding denoted none_is
    piece_mark late =
        let k = kind_in marks no_mark (byte start ∷ []) in
        let a = kind-in a_name marks no_mark (byte start ∷ []) refl refl in
        let s = kind-in a_string marks no_mark (byte start ∷ []) refl refl in
        let i = kind-in an_integer marks no_mark (byte start ∷ []) refl refl in
        let f = kind-in ended marks no_mark (byte start ∷ []) refl refl in
        chosen (Piece text at) (both (either (eqb k assign) (eqb k bang)) (both (ltb (start + 1) n) (eqb (byte (start + 1)) 61)))
        (λ e. piece_ending start (start + 2) (λ g.
        let m = ltb-true (start + 1) n (both_true (ltb (start + 1) n) (eqb (byte (start + 1)) 61) (both_true (either (eqb k assign) (eqb k bang)) (both (ltb (start + 1) n) (eqb (byte (start + 1)) 61)) e).1).0 in
        chosen (λ j. Piece text at (Next.found start (start + 2) (token j []))) (eqb k assign)
        (λ _. Piece.found l (omega arith) (least_end text (omega arith) g) refl (λ z. absurd (omega arith)) (λ z. absurd (omega arith)) (λ z. absurd (omega arith)))
        (λ _. Piece.found l (omega arith) (least_end text (omega arith) g) refl (λ z. absurd (omega arith)) (λ z. absurd (omega arith)) (λ z. absurd (omega arith)))))
        (λ _. chosen (Piece text at) (eqb k no_mark) (λ _. Piece.broken)
        (λ _. Piece.found l (omega arith) (least_end text (omega arith) (omega arith)) (silent text k start (start + 1) a s i) (λ z. absurd (eqb-false k a_string s z)) (λ z. absurd (eqb-false k an_integer i z)) (eqb-false k ended f)))

  -- what is next
  pub piece_next : (at : ℕ) → at ≤ n → Piece text at (next_at byte n at)
  unfolding next_at
  piece_next at h =
      let left = smaller n text_limit - at in
      let start = skip byte n is_blank left at in
      let lo = skip-on byte n is_blank left at in
      let hi = skip_most byte n is_blank left at in
      let sm = smaller_left n text_limit in
      chosen (Piece text at) (eqb start n) (λ _. Piece.finished)
      (λ e.
      let ne = eqb-false start n e in
      let lt : start < n = omega arith in
      chosen (Piece text at) (leb text_limit start) (λ _. Piece.broken)
      (λ f.
      chosen (Piece text at) (is_letter (byte start)) (λ _. piece_word at start lo lt) (λ _. chosen (Piece text at) (is_digit (byte start)) (λ _. piece_integer at start lo lt) (λ _. chosen (Piece text at) (eqb (byte start) 34) (λ _. piece_string at start lo lt) (λ _. piece_mark at start lo lt (leb-false text_limit start f))))))

  -- more fuel than bytes are left changes nothing
  row-enough : (fuel at : ℕ) → at ≤ n → n < at + fuel → row_from byte n fuel at ≡ row_from byte n (suc fuel) at
  unfolding row_from
  row-enough zero at h k = let z : ⊥ = omega arith in absurd z
  row-enough (suc fuel) at h k = go (moves_next byte n at h) (λ end i j. row-enough fuel end i j)
    where
      go : {x : Next} → Moves at n x → ((end : ℕ) → end ≤ n → n < end + fuel → row_from byte n fuel end ≡ row_from byte n (suc fuel) end) → row_next x (λ end. row_from byte n fuel end) ≡ row_next x (λ end. row_from byte n (suc fuel) end)
      go (Moves.found {start} {end} {t} a b late) r = ap (λ us. t ∷ us) (r end b (omega arith))
      go Moves.large r = refl
      go Moves.broken r = refl
      go Moves.finished r = refl

  -- so the row from an offset on is what is next, and the row behind it
  row-next : (at : ℕ) → at ≤ n → {x : Next} → next_at byte n at ≡ x → row_at text at ≡ row_next x (λ end. row_at text end)
  unfolding row_at row_from
  row-next at h {x} e = ap (λ y. row_next y (λ end. row_from byte n n end)) e ∙ go (rw e at (moves_next byte n at h))
    where
      go : {y : Next} → Moves at n y → row_next y (λ end. row_from byte n n end) ≡ row_next y (λ end. row_from byte n (suc n) end)
      go (Moves.found {start} {end} {t} a b late) = ap (λ us. t ∷ us) (row-enough n end b (omega arith))
      go Moves.large = refl
      go Moves.broken = refl
      go Moves.finished = refl

  -- no token is found where tokens end at the latest
  one_end : end_of text < text_limit → (end_of text ≡ n → ⊥) → ⊥
  unfolding end_of
  one_end = chosen (λ m. m < text_limit → (m ≡ n → ⊥) → ⊥) (leb n text_limit) (λ _ a b. b refl) (λ _ a b. omega arith)

  none_left : smaller n text_limit - end_of text ≡ 0
  unfolding end_of
  none_left = omega arith

  pub row_end : row_at text (end_of text) ≡ []
  unfolding row_at row_from next_at skip
  row_end =
      let start = skip byte n is_blank (smaller n text_limit - end_of text) (end_of text) in
      let z : smaller n text_limit - end_of text ≡ 0 = none_left in
      let s : start ≡ end_of text = ap (λ m. skip byte n is_blank m (end_of text)) z in
      chosen (λ x. row_next x (λ end. row_from byte n n end) ≡ []) (eqb start n) (λ _. refl) (λ e. chosen (λ x. row_next x (λ end. row_from byte n n end) ≡ []) (leb text_limit start) (λ _. refl) (λ f. absurd (one_end (omega (arith, leb-false text_limit start f)) (λ g. eqb-false start n e (s ∙ g)))))

-- a token
pub sees_found : (text : Bytes) (at : ℕ) → at ≤ end_of text → {y : Result piece.Token Stop} {t : piece.Token} → next_of y ≡ ahead (next_at (byte_at text) (length text) at) → y ≡ Ok t → Sees text at t
sees_found text at h {y} {t} e f = go (piece_next text at (omega (arith, end_within text))) refl (sym e ∙ ap next_of f)
  where
    go : {x : Next} → Piece text at x → next_at (byte_at text) (length text) at ≡ x → ahead x ≡ Next.found t.start t.end (token (number_of t.kind) []) → Sees text at t
    go (Piece.found {start} {end} {k} {b} l o w d s v n) i j =
        let r : row_at text at ≡ token k b ∷ row_at text end = row-next text at (omega (arith, end_within text)) i in
        let p : start ≡ t.start = cc in
        let q : end ≡ t.end = cc in
        let u : k ≡ number_of t.kind = cc in
        record {
          kind = sym u ∙ sym (ap kind_of r);
          rest = ap (row_at text) (sym q) ∙ sym (ap behind r);
          content = (λ m. denoted text (sym u m) (sym p m) (sym q m)) ∙ d ∙ sym (ap bytes_of r);
          from = omega arith;
          order = omega arith;
          within = omega arith;
          onward = λ _. omega arith;
          string = λ z. omega (arith, s (u ∙ z));
          integer = λ z. let g : value 0 (bytes (byte_at text) start (end - start)) ≡ value 0 (bytes (byte_at text) t.start (t.end - t.start)) = (λ m. value 0 (bytes (byte_at text) (p m) (q m - p m))) in omega (arith, v (u ∙ z));
        }
    go Piece.large i j = let z : ◌≡◌ {A = ℕ} 0 1 = cc in absurd (omega arith)
    go Piece.broken i j = let z : ◌≡◌ {A = ℕ} 0 1 = cc in absurd (omega arith)
    go Piece.finished i j = let z : ◌≡◌ {A = ℕ} 0 1 = cc in absurd (omega arith)

-- none
pub sees_ended : (text : Bytes) (at : ℕ) → at ≤ end_of text → {y : Result piece.Token Stop} {z : Stop} → next_of y ≡ ahead (next_at (byte_at text) (length text) at) → y ≡ Err z → {t : piece.Token} → t ≡ record { kind = kinds.Ended; start = end_of text; end = end_of text } → Sees text at t
unfolding denoted
sees_ended text at h {y} {z} e f {t} w = go z (piece_next text at (omega (arith, end_within text))) refl (sym e ∙ ap next_of f)
  where
    none : row_at text at ≡ [] → Sees text at t
    none r =
        subst (λ t. Sees text at t) (sym w)
        (record {
          kind = sym (ap kind_of r);
          rest = row_end text ∙ sym (ap behind r);
          content = sym (ap bytes_of r);
          from = h;
          order = omega arith;
          within = omega arith;
          onward = λ k. k;
          string = λ k. absurd (omega arith);
          integer = λ k. absurd (omega arith);
        })

    go : {x : Next} (z : Stop) → Piece text at x → next_at (byte_at text) (length text) at ≡ x → ahead x ≡ next_of (Err z) → Sees text at t
    go (Large p) (Piece.found l o w d s v n) i j = let z : ◌≡◌ {A = ℕ} 0 1 = cc in absurd (omega arith)
    go (Broken p) (Piece.found l o w d s v n) i j = let z : ◌≡◌ {A = ℕ} 0 1 = cc in absurd (omega arith)
    go (Finished p) (Piece.found l o w d s v n) i j = let z : ◌≡◌ {A = ℕ} 0 1 = cc in absurd (omega arith)
    go _ Piece.large i j = none (row-next text at (omega (arith, end_within text)) i)
    go _ Piece.broken i j = none (row-next text at (omega (arith, end_within text)) i)
    go _ Piece.finished i j = none (row-next text at (omega (arith, end_within text)) i)

-- a token or none
pub sees_next : (text : Bytes) (at : ℕ) → at ≤ end_of text → (y : Result piece.Token Stop) {t u : piece.Token} → next_of y ≡ ahead (next_at (byte_at text) (length text) at) → t ≡ record { kind = kinds.Ended; start = end_of text; end = end_of text } → u ≡ result_unwrap_or y t → Sees text at u
sees_next text at h (Ok v) e w f = subst (λ u. Sees text at u) (sym f) (sees_found text at h e refl)
sees_next text at h (Err z) e w f = subst (λ u. Sees text at u) (sym f) (sees_ended text at h e refl w)

-- a token stands before the end
pub sees_more : {text : Bytes} {at : ℕ} {t : piece.Token} → Sees text at t → at ≤ end_of text → (number_of t.kind ≡ ended → ⊥) → at < end_of text
sees_more {text} {at} {t} s h f = go (ltb at (end_of text)) refl
  where
    go : (b : Bool) → ltb at (end_of text) ≡ b → at < end_of text
    go true e = ltb-true at (end_of text) e
    go false e =
        let i : at ≡ end_of text = omega (arith, ltb-false at (end_of text) e) in
        absurd (f (s.kind ∙ ap (λ j. kind_of (row_at text j)) i ∙ ap kind_of (row_end text)))

-- so it ends behind where it was looked for
pub sees_ahead : {text : Bytes} {at : ℕ} {t : piece.Token} → Sees text at t → at ≤ end_of text → (number_of t.kind ≡ ended → ⊥) → at < t.end
sees_ahead s h f = s.onward (sees_more s h f)
