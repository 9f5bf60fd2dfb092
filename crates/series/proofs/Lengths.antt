-- A row of trees by their lengths: the loop over it.
use Prim.Native.Nat.{ℕ, ◌+◌, ◌-◌, ◌≤◌, ◌<◌}
use native.Mathlib.Omega.{arith}
use native.Mathlib.Numerals.{add-one}
use mathlib.Core.Bool.{Bool, true, false}
use mathlib.Core.List.{List, ◌∷◌}
use mathlib.Core.Path.{◌≡◌, refl, sym, ap, ◌∙◌}
use lib.Dec.{leb}
use lib.ListN.{length, take, drop, get_or, length-drop, drop_of_length-le}
use lib.Seq.{take_all, drop-drop, drop-cons}
use borrow.Author.Tests.{leb-true, leb-false}
use Rattle.definition.specs.Basic.{Bytes, pick}
use Rattle.definition.specs.Call.{Lent, Called, call}
use Rattle.definition.specs.Series.{session_made}
use Rattle.definition.specs.Answer.{Answer}
use Rattle.compiler.specs.Promise.{Compiles, Makes}
use Rattle.compiler.specs.Stage.{lent_of}
use Rattle.series.specs.Row.{trees_of, row_gives, last_of, started, RunsRow}
use Rattle.series.proofs.Row.{row-ran}

-- The loop over a row: what is left decides
pub record LengthsLoop (trees : Bytes) (lengths : List ℕ) (x₀ x : Called) (at k : ℕ) : Type 0 where
  pub within : at ≤ length trees
  pub decides : last_of x (row_gives (trees_of (drop at trees) (drop k lengths)) x.lent) ≡ last_of x₀ (row_gives (trees_of trees lengths) x₀.lent)
  pub session : length x.lent.session ≡ length x₀.lent.session
  pub output : length x.lent.output ≡ length x₀.lent.output
  pub code : length x.lent.code ≡ length x₀.lent.code
  pub table : length x.lent.table ≡ length x₀.lent.table

pub lengths-begin : (trees : Bytes) (lengths : List ℕ) (x : Called) → LengthsLoop trees lengths x x 0 0
lengths-begin trees lengths x = record { within = omega arith; decides = refl; session = refl; output = refl; code = refl; table = refl }

module _ (trees : Bytes) (at n size : ℕ) (h : at ≤ length trees) (e : size ≡ pick (leb n (length trees - at)) n (length trees - at)) where
  -- the part that is lent is the tree, and what is behind it is left
  pub record Cut : Type 0 where
    pub tree : take size (drop at trees) ≡ take n (drop at trees)
    pub left : drop (at + size) trees ≡ drop n (drop at trees)
    pub fits : at + size ≤ length trees

  pub cut : Cut
  cut = go (leb n (length trees - at)) refl e
    where
      go : (b : Bool) → leb n (length trees - at) ≡ b → size ≡ pick b n (length trees - at) → Cut
      go true t s =
          let r = leb-true n (length trees - at) t in
          record { tree = ap (λ k. take k (drop at trees)) s; left = ap (λ k. drop (at + k) trees) s ∙ sym (drop-drop n at trees); fits = omega arith }
      go false t s =
          let r = leb-false n (length trees - at) t in
          let l = length-drop at trees in
          let long : length (drop at trees) ≤ n = omega arith in
          let all : length (drop at trees) ≤ size = omega arith in
          record {
            tree = take_all size (drop at trees) all ∙ sym (take_all n (drop at trees) long);
            left = drop_of_length-le trees {i = at + size} (omega arith) ∙ sym (drop_of_length-le (drop at trees) {i = n} long);
            fits = omega arith;
          }

module _ (trees : Bytes) (lengths : List ℕ) {x₀ x : Called} {at k : ℕ} (i : LengthsLoop trees lengths x₀ x at k) (more : k < length lengths) where
  -- a turn
  pub lengths-turn : {size : ℕ} {r : Answer} {l' : Lent} → size ≡ pick (leb (get_or lengths k 0) (length trees - at)) (get_or lengths k 0) (length trees - at)
      → Compiles (take (at + size - at) (drop at trees)) x.lent r l'
      → length l'.session ≡ length x.lent.session → length l'.output ≡ length x.lent.output → length l'.code ≡ length x.lent.code → length l'.table ≡ length x.lent.table
      → LengthsLoop trees lengths x₀ (record { answer = r; lent = l' }) (at + size) (k + 1)
  lengths-turn {size} {r} {l'} e p s o c t =
      let f : at + size - at ≡ size = omega arith in
      let q = cut trees at (get_or lengths k 0) size i.within e in
      let tree = take (get_or lengths k 0) (drop at trees) in
      let same : record { answer = r; lent = l' } ≡ call tree x.lent = (λ j. record { answer = p.answer j; lent = p.lent j }) ∙ ap (λ b. call b x.lent) (ap (λ n. take n (drop at trees)) f ∙ q.tree) in
      let rest = drop (k + 1) lengths in
      let here : drop k lengths ≡ get_or lengths k 0 ∷ rest = drop-cons lengths k 0 more ∙ ap (λ m. get_or lengths k 0 ∷ drop m lengths) (sym (add-one k)) in
      record {
        within = q.fits;
        decides = (λ j. last_of (same j) (row_gives (trees_of (q.left j) rest) (same j).lent)) ∙ ap (λ ns. last_of x (row_gives (trees_of (drop at trees) ns) x.lent)) (sym here) ∙ i.decides;
        session = s ∙ i.session;
        output = o ∙ i.output;
        code = c ∙ i.code;
        table = t ∙ i.table;
      }

-- the end
pub lengths_end : (trees : Bytes) (lengths : List ℕ) (l : Lent) {r : Answer} {s : Bytes} → Makes l.session r s → {x : Called} {at k : ℕ}
    → LengthsLoop trees lengths (record { answer = r; lent = lent_of s l.output l.code l.table }) x at k → length lengths ≤ k → RunsRow (trees_of trees lengths) l x.answer x.lent
lengths_end trees lengths l {r} {s} m {x} {at} i h =
    record {
      ran = row-ran (trees_of trees lengths) (session_made l.session) (started l).lent (record { front = λ _. refl });
      last = ap (λ ns. last_of x (row_gives (trees_of (drop at trees) ns) x.lent)) (sym (drop_of_length-le lengths h)) ∙ i.decides
          ∙ (λ j. last_of (begun j) (row_gives (trees_of trees lengths) (begun j).lent));
    }
  where
    begun : record { answer = r; lent = lent_of s l.output l.code l.table } ≡ started l
    begun = λ j. record { answer = m.answer j; lent = lent_of (m.session j) l.output l.code l.table }
