-- The bytes written of the globals.
use Rattle.std.proofs.Common.{◌≡◌, ℕ, zero, suc, ◌+◌, ◌-◌, ◌*◌, ◌/◌, ◌%◌, ◌<◌, ◌≤◌, List, [], ◌∷◌, ◌++◌, length, get_or, set, take, drop, take_all, sym, refl, ap, ◌∙◌, arith, length-append, length-set}
use Rattle.std.specs.Prelude.{Option, None as none}
use lib.Seq.{sets}
use Rattle.std.specs.Int.{to_be_bytes, w64}
use Rattle.std.proofs.lemmas.List.Edits.{sets-eq}
use Rattle.std.proofs.lemmas.Slice.{put_mid-paste}
use borrow.Rule.Slice.PartMut.{put_mid}
use Rattle.definition.specs.Basic.{Bytes}
use Rattle.definition.specs.Output.{over}
use Rattle.session.proofs.Stores.{sets_append, sets_over}
use Rattle.trial.specs.Value.{Value, Globals}
use Rattle.trial.specs.Output.{bytes_in, cell, cell_of, shown}
use Rattle.trial.specs.Cells.{Keeps, Keeping, kinds_at}
use Rattle.trial.proofs.Words.{word_law}

-- a kind and a word are the bytes of their value
pub cell_kept : {k w : ℕ} {o : Option Value} → Keeps k w o → cell k w ≡ cell_of o
cell_kept Keeps.nothing = refl
cell_kept (Keeps.number {w = w} h) = ap (cell 1) (sym (word_law w h))
cell_kept Keeps.yes = refl
cell_kept Keeps.no = refl
cell_kept Keeps.empty = refl

-- a kind is small
pub kind_small : {k w : ℕ} {o : Option Value} → Keeps k w o → k < 256
kind_small Keeps.nothing = omega arith
kind_small (Keeps.number h) = omega arith
kind_small Keeps.yes = omega arith
kind_small Keeps.no = omega arith
kind_small Keeps.empty = omega arith

-- nine bytes each
pub bytes_long : (k n : ℕ) → length (bytes_in k n) ≡ k
unfolding bytes_in
bytes_long zero n = refl
bytes_long (suc k) n = length-append (bytes_in k (n / 256)) (n % 256 ∷ []) ∙ (let e = bytes_long k (n / 256) in omega arith)

cell_long : {k w : ℕ} {o : Option Value} → Keeps k w o → length (cell_of o) ≡ 9
cell_long {k} {w} h = ap length (sym (cell_kept h)) ∙ ap suc (bytes_long 8 w)

module _ (w : List ℕ) (g : Globals) (q : Keeping w g) where
  pub shown_long : (n : ℕ) → n ≤ 1024 → length (shown n g) ≡ 9 * n
  unfolding shown
  shown_long zero h = refl
  shown_long (suc n) h = length-append (shown n g) (cell_of (get_or g n none)) ∙ (let e = shown_long n (omega arith) in let f = cell_long (q.each n (omega arith)) in omega arith)

  shown_more : (n : ℕ) → shown (suc n) g ≡ shown n g ++ cell_of (get_or g n none)
  unfolding shown
  shown_more n = refl

  -- one more
  pub shown_again : (o₀ : Bytes) {o o₁ : Bytes} (n : ℕ) {kind word : ℕ} → n < 1024 → o ≡ sets o₀ 0 (shown n g) → kind ≡ get_or w (kinds_at + n) 0 → word ≡ get_or w n 0 → o₁ ≡ sets o (9 * n) (cell kind word) → o₁ ≡ sets o₀ 0 (shown (n + 1) g)
  shown_again o₀ n {kind} {word} h e a b s =
      let k : cell kind word ≡ cell_of (get_or g n none) = (λ j. cell (a j) (b j)) ∙ cell_kept (q.each n h) in
      let m : suc n ≡ n + 1 = omega arith in
      s ∙ (λ j. sets (e j) (9 * n) (k j)) ∙ sets_append o₀ 0 (shown n g) (cell_of (get_or g n none)) (omega (arith, shown_long n (omega arith))) ∙ ap (sets o₀ 0) (sym (shown_more n) ∙ ap (λ n. shown n g) m)

  pub shown_ends : (o₀ : Bytes) {o : Bytes} (n k : ℕ) → n ≤ 1024 → k ≡ n → 9 * n ≤ length o₀ → o ≡ sets o₀ 0 (shown k g) → o ≡ over (shown n g) o₀
  shown_ends o₀ n k h e l s = s ∙ ap (λ k. sets o₀ 0 (shown k g)) e ∙ sets_over o₀ (shown n g) (omega (arith, shown_long n h))

pub shown_none : (g : Globals) (o : Bytes) → o ≡ sets o 0 (shown 0 g)
unfolding shown
shown_none g o = refl

-- a word in eight bytes, as the library writes it
pub word_bytes : (n : ℕ) → to_be_bytes w64 n ≡ bytes_in 8 n
unfolding bytes_in
word_bytes n =
    let a : n / 65536 ≡ n / 256 / 256 = omega arith in
    let b : n / 16777216 ≡ n / 256 / 256 / 256 = omega arith in
    let c : n / 4294967296 ≡ n / 256 / 256 / 256 / 256 = omega arith in
    let d : n / 1099511627776 ≡ n / 256 / 256 / 256 / 256 / 256 = omega arith in
    let e : n / 281474976710656 ≡ n / 256 / 256 / 256 / 256 / 256 / 256 = omega arith in
    let f : n / 72057594037927936 ≡ n / 256 / 256 / 256 / 256 / 256 / 256 / 256 = omega arith in
    λ j. f j % 256 ∷ e j % 256 ∷ d j % 256 ∷ c j % 256 ∷ b j % 256 ∷ a j % 256 ∷ n / 256 % 256 ∷ n % 256 ∷ []

-- a kind, then a word
pub cell-stored : (o : Bytes) (at kind word : ℕ) {b : Bytes} → at + 9 ≤ length o → b ≡ to_be_bytes w64 word → put_mid (at + 1) (at + 9 - (at + 1)) (set o at kind) b ≡ sets o at (cell kind word)
cell-stored o at kind word {b} h e =
    let p = set o at kind in
    let v = bytes_in 8 word in
    let l = length-set o at kind in
    let q : at + 1 ≡ suc at = omega arith in
    put_mid-paste (at + 1) (at + 9 - (at + 1)) p b v 8 (e ∙ word_bytes word) (omega arith) (sym (bytes_long 8 word))
    ∙ ap (λ t. take (at + 1) p ++ t ++ drop (at + 1 + 8) p) (take_all 8 v (omega (arith, bytes_long 8 word)))
    ∙ ap (λ k. take (at + 1) p ++ v ++ drop (at + 1 + k) p) (sym (bytes_long 8 word))
    ∙ sym (sets-eq v p (at + 1) (omega (arith, l, bytes_long 8 word)))
    ∙ ap (λ j. sets p j v) q
