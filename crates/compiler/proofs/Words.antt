-- Making a session with words.
use Prim.Native.Nat.{ℕ, ◌≤◌, ◌<◌}
use native.Mathlib.Omega.{arith}
use mathlib.Core.Bool.{Bool, true, false}
use mathlib.Core.List.{List, reverse}
use mathlib.Core.Path.{◌≡◌, refl, sym, ap, ◌∙◌}
use lib.ListN.{length}
use borrow.Author.Tests.{le-leb}
use Rattle.definition.specs.Basic.{Bytes}
use Rattle.definition.specs.Limit.{session_size}
use Rattle.definition.specs.Number
use Rattle.definition.specs.Number.{refusal}
use Rattle.definition.specs.Session.{Words, listed, begun, names_bytes, session_bytes}
use Rattle.definition.specs.Decode.{Decoded, decoded, malformed, read_handed}
use Rattle.definition.specs.Call.{Made, not_made, begins_with, made_words}
use Rattle.definition.specs.Output.{over}
use Rattle.definition.specs.Valid.{AreBytes}
use Rattle.definition.specs.Answer.{Answer}
use Rattle.std.specs.Prelude.{Ok, Err}
use Rattle.definition.proofs.Basic.{pick_true}
use Rattle.definition.proofs.Sessions.{Handed, write_handed, words-length}
use Rattle.definition.proofs.Making.{made-words, short-words}
use Rattle.bytecode.specs.Checked.{is_read}
use Rattle.compiler.specs.Promise.{MakesWords}

-- what was made is the definition's
makes : {s names : Bytes} {r : Answer} {s' : Bytes} → made_words s names ≡ record { answer = r; session = s' } → MakesWords s names r s'
makes e = record { answer = sym (ap (λ (m : Made). m.answer) e); session = sym (ap (λ (m : Made). m.session) e) }

-- a short buffer
pub words_short : {s names : Bytes} → length s < session_size → MakesWords s names (Err (refusal Number.short_buffer 0)) s
words_short {s} {names} h = makes (short-words s names h)

-- bytes that are no list of words
pub words_bad : (s names : Bytes) → session_size ≤ length s → {r : Bool} → r ≡ is_read (read_handed names) → r ≡ false → MakesWords s names (Err (refusal Number.bad_words 0)) s
unfolding made_words
words_bad s names size e f = makes (pick_true (begins_with (read_handed names) s) (not_made Number.short_buffer s) (le-leb session_size (length s) size) ∙ go (read_handed names) (sym e ∙ f))
  where
    go : (d : Decoded Words) → is_read d ≡ false → begins_with d s ≡ not_made Number.bad_words s
    go (decoded w n) h = let no : ◌≡◌ {A = ℕ} 0 1 = cc in absurd (omega arith)
    go (malformed p) h = refl

module _ (names : Bytes) (bytes : AreBytes names) {r : Bool} (e : r ≡ is_read (read_handed names)) (t : r ≡ true) where
  -- the list that was handed over
  handed : (w : Words) × Handed names w
  handed = go (read_handed names) refl (sym e ∙ t)
    where
      go : (d : Decoded Words) → read_handed names ≡ d → is_read d ≡ true → (w : Words) × Handed names w
      go (decoded w n) q h = (w, write_handed names bytes q)
      go (malformed p) q h = let no : ◌≡◌ {A = ℕ} 0 1 = cc in absurd (omega arith)

  -- it is short
  pub words_fit : length names ≤ 840
  words_fit = let h = handed.1 in omega (arith, words-length (listed h.list) h.valid, ap length h.bytes)

  -- its session
  pub words-made : (s : Bytes) → session_size ≤ length s → {s' : Bytes} → ((ws : List Bytes) → names_bytes (reverse ws) ≡ names → s' ≡ over (session_bytes (begun (listed ws))) s) → MakesWords s names (Ok session_size) s'
  words-made s size k =
      let h = handed.1 in
      makes (ap (made_words s) (sym h.bytes) ∙ made-words s size h.valid ∙ (λ i. record { answer = Ok session_size; session = sym (k h.list h.bytes) i }))
