-- A row of trees: its calls are a series, and the loop over it.
use Prim.Native.Nat.{ℕ, ◌+◌, ◌≤◌, ◌<◌}
use Rattle.std.proofs.Common.{Bor}
use native.Mathlib.Numerals.{add-one}
use mathlib.Core.Bool.{true}
use mathlib.Core.List.{List, [], ◌∷◌, ◌++◌, map}
use mathlib.Core.Path.{◌≡◌, refl, sym, ap, subst, ◌∙◌}
use lib.Dec.{leb}
use lib.ListN.{length, take, drop, get_or, take-append-drop, drop_of_length-le}
use lib.Seq.{length-take-le, drop-cons}
use borrow.Author.Tests.{leb-true}
use Rattle.definition.specs.Basic.{Bytes}
use Rattle.definition.specs.Limit.{session_size}
use Rattle.definition.specs.Call.{Lent, Called, call}
use Rattle.definition.specs.Output.{over}
use Rattle.definition.specs.Series.{Call, session_before, session_after, session_made, lent}
use Rattle.definition.specs.Answer.{Answer}
use Rattle.definition.proofs.Basic.{chosen, pick_true}
use Rattle.compiler.specs.Promise.{Compiles, Makes, Ran}
use Rattle.compiler.specs.Stage.{lent_of}
use Rattle.series.specs.Row.{row_calls, row_gives, last_of, started, RunsRow}

-- a buffer with room for a session has s at its front
pub record Carries (s b : Bytes) : Type 0 where
  pub front : leb session_size (length b) ≡ true → take session_size b ≡ s

-- so it is what a call of the series is lent
pub carried : (s b : Bytes) → Carries s b → session_before s b ≡ b
carried s b h = chosen (λ x. x ≡ b) (leb session_size (length b)) (λ t. go (h.front t) (leb-true session_size (length b) t)) (λ _. refl)
  where
    go : take session_size b ≡ s → session_size ≤ length b → over s b ≡ b
    go e r = subst (λ x. over x b ≡ b) e (ap (λ n. take session_size b ++ drop n b) (length-take-le session_size b r) ∙ take-append-drop session_size b)

-- and after a call the series' session
pub carries_after : (s b : Bytes) → Carries (session_after s b) b
carries_after s b = record { front = λ t. sym (pick_true (take session_size b) s t) }

-- the bytes that a slice of a row has, and what stands behind the last
abbrev pub bytes_of : Bor Bytes → Bytes
bytes_of tree = tree.now

abbrev pub nowhere : Bor Bytes
nowhere = record { ref_ptr = (0, 0); now = [] }

-- The calls of a row are a series
pub row-ran : (ts : List Bytes) (s : Bytes) (l : Lent) → Carries s l.session → Ran s (row_calls ts l) (row_gives ts l)
row-ran [] s l h = Ran.none
row-ran (t ∷ ts) s l h =
    Ran.more {c = c} (subst (λ (m : Lent). Compiles t m (call t l).answer (call t l).lent) (sym same) (record { answer = refl; lent = refl }))
    (row-ran ts (session_after s (call t l).lent.session) (call t l).lent (carries_after s (call t l).lent.session))
  where
    c : Call
    c = record { tree = t; session = l.session; output = l.output; code = l.code; table = l.table }

    same : lent s c ≡ l
    same = λ i. record { session = carried s l.session h i; output = l.output; code = l.code; table = l.table }

-- The loop over a row: what is left decides
pub record RowLoop (trees : List (Bor Bytes)) (x₀ x : Called) (k : ℕ) : Type 0 where
  pub decides : last_of x (row_gives (map bytes_of (drop k trees)) x.lent) ≡ last_of x₀ (row_gives (map bytes_of trees) x₀.lent)
  pub session : length x.lent.session ≡ length x₀.lent.session
  pub output : length x.lent.output ≡ length x₀.lent.output
  pub code : length x.lent.code ≡ length x₀.lent.code
  pub table : length x.lent.table ≡ length x₀.lent.table

pub row-begins : (trees : List (Bor Bytes)) (x : Called) → RowLoop trees x x 0
row-begins trees x = record { decides = refl; session = refl; output = refl; code = refl; table = refl }

module _ (trees : List (Bor Bytes)) {x₀ x : Called} {k : ℕ} (i : RowLoop trees x₀ x k) (more : k < length trees) where
  -- a turn: the tree there is compiled
  pub row-turns : {r : Answer} {l' : Lent} → Compiles (get_or trees k nowhere).now x.lent r l'
      → length l'.session ≡ length x.lent.session → length l'.output ≡ length x.lent.output → length l'.code ≡ length x.lent.code → length l'.table ≡ length x.lent.table
      → RowLoop trees x₀ (record { answer = r; lent = l' }) (k + 1)
  row-turns {r = r} {l' = l'} p s o c t =
      let same : record { answer = r; lent = l' } ≡ call (get_or trees k nowhere).now x.lent = λ j. record { answer = p.answer j; lent = p.lent j } in
      let here : drop k trees ≡ get_or trees k nowhere ∷ drop (k + 1) trees = drop-cons trees k nowhere more ∙ ap (λ m. get_or trees k nowhere ∷ drop m trees) (sym (add-one k)) in
      record {
        decides = (λ j. last_of (same j) (row_gives (map bytes_of (drop (k + 1) trees)) (same j).lent)) ∙ ap (λ ts. last_of x (row_gives (map bytes_of ts) x.lent)) (sym here) ∙ i.decides;
        session = s ∙ i.session;
        output = o ∙ i.output;
        code = c ∙ i.code;
        table = t ∙ i.table;
      }

-- the end
pub row_ends : (trees : List (Bor Bytes)) (l : Lent) {r : Answer} {s : Bytes} → Makes l.session r s → {x : Called} {k : ℕ}
    → RowLoop trees (record { answer = r; lent = lent_of s l.output l.code l.table }) x k → length trees ≤ k → RunsRow (map bytes_of trees) l x.answer x.lent
row_ends trees l {r} {s} m {x} i h =
    record {
      ran = row-ran (map bytes_of trees) (session_made l.session) (started l).lent (record { front = λ _. refl });
      last = ap (λ ts. last_of x (row_gives (map bytes_of ts) x.lent)) (sym (drop_of_length-le trees h)) ∙ i.decides
          ∙ (λ j. last_of (begun j) (row_gives (map bytes_of trees) (begun j).lent));
    }
  where
    begun : record { answer = r; lent = lent_of s l.output l.code l.table } ≡ started l
    begun = λ j. record { answer = m.answer j; lent = lent_of (m.session j) l.output l.code l.table }
