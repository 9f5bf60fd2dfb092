-- What a sound layout says of the session's bytes.
use Prim.Native.Nat.{ℕ, ◌+◌, ◌≤◌}
use mathlib.Core.Path.{◌≡◌, ◌∙◌, ap, sym, refl, subst}
use mathlib.Core.Bool.{Bool, true, false}
use mathlib.Core.List.{List, []}
use native.Mathlib.Omega.{arith}
use lib.ListN.{length, drop}
use borrow.Author.Tests.{leb-true}
use Rattle.definition.specs.Basic.{Bytes, byte_at, pick}
use Rattle.definition.specs.Limit.{globals_limit, pool_limit}
use Rattle.definition.specs.Tag.{tag_names, tag_pool}
use Rattle.definition.specs.Field.{head, tagged}
use Rattle.definition.specs.Bytecode.{Const}
use Rattle.definition.specs.Session.{Words, Session}
use Rattle.definition.specs.Decode.{Decoded, decoded, malformed, then, items, all_zero, pool_head, read_const, read_name_field, read_words, read_names, read_front, read_pool, read_session}
use Rattle.bytecode.specs.declared.SessionLayout.{SessionLayout}
use Rattle.std.specs.Prelude.{Some}
use Rattle.bytecode.specs.Checked.{layout, layout_of}
use Rattle.bytecode.specs.Layout.{LaidOut}
use Rattle.definition.proofs.Basic.{both_true}
use Rattle.bytecode.proofs.Items.{unlike, ended}
use Rattle.bytecode.proofs.Fields.{then_read, head_read, names_content, pool_content}
use Rattle.bytecode.proofs.Sessions.{after_words, after_front, session_is}

module _ (b : Bytes) where
  -- a field of items: it ends within the bytes, its items fill it, and they are few enough
  record Filled {A : Type 0} (f : ℕ → ℕ → Decoded A) (most at end : ℕ) (xs : List A) : Type 0 where
    field : at + 3 + (head (byte_at b) at).len ≡ end
    fill : items f most [] (at + 3) end ≡ decoded xs end
    few : length xs ≤ most
    within : end ≤ length b

  filled : {A : Type 0} (f : ℕ → ℕ → Decoded A) (most at : ℕ) {end : ℕ} {xs : List A} → at + 3 + (head (byte_at b) at).len ≤ length b
      → items f most [] (at + 3) (at + 3 + (head (byte_at b) at).len) ≡ decoded xs end → Filled f most at end xs
  filled f most at {end} {xs} h e =
      let m = ended f (at + 3 + (head (byte_at b) at).len) most [] (at + 3) e in
      let n : at + 3 + (head (byte_at b) at).len ≡ end = sym m.ends in
      record { field = n; fill = rw n at e; few = omega (arith, m.few); within = omega (arith, m.ends) }

  -- the words, the names, the pool and the zeros of a session that was read
  record Parts (f : Words × List Bytes) (at : ℕ) (z : Session) (n : ℕ) : Type 0 where
    words_are : z.words ≡ f.0
    globals_are : z.globals ≡ f.1
    pool-read : read_pool (byte_at b) at (length b) ≡ decoded z.pool n
    zeros : all_zero (drop n b) ≡ true

  parts : (f : Words × List Bytes) (at : ℕ) (z : Session) (n : ℕ) → after_front b f at ≡ decoded z n → Parts f at z n
  unfolding after_front
  parts f at z n e =
      let t = then_read (read_pool (byte_at b) at (length b)) e in
      go t.0 t.1 t.2 (all_zero (drop t.1 b)) refl t.3
    where
      go : (cs : List Const) (at₁ : ℕ) → read_pool (byte_at b) at (length b) ≡ decoded cs at₁ → (q : Bool) → all_zero (drop at₁ b) ≡ q
          → pick (all_zero (drop at₁ b)) (decoded (record { words = f.0; globals = f.1; pool = cs }) at₁) (malformed at₁) ≡ decoded z n → Parts f at z n
      go cs at₁ p true q j =
          let i : decoded (record { words = f.0; globals = f.1; pool = cs }) at₁ ≡ decoded z n = rw q at j in
          let g : record { words = f.0; globals = f.1; pool = cs } ≡ z = cc in
          let m : at₁ ≡ n = cc in
          record { words_are = sym (ap (λ (y : Session). y.words) g); globals_are = sym (ap (λ (y : Session). y.globals) g); pool-read = rw (← g, ← m) p; zeros = rw (← m) q }
      go cs at₁ p false q j = absurd (unlike (rw q at j))

  laid_out : (w : Words) (k : ℕ) (f : Words × List Bytes) (at : ℕ) (z : Session) (n : ℕ) → read_words (byte_at b) 0 (length b) ≡ decoded w k → read_front (byte_at b) 0 (length b) ≡ decoded f at → read_session b ≡ decoded z n
      → LaidOut b (record { words_end = k; names_end = at; pool_end = n; names = length z.globals; constants = length z.pool })
  laid_out w k g at z n d e s =
      let p = parts g at z n (sym (session_is b ∙ ap (λ (d : Decoded (Words × List Bytes)). then d (after_front b)) e) ∙ s) in
      let t = then_read (read_names (byte_at b) k (length b)) (sym (ap (λ (d : Decoded Words). then d (after_words b)) d) ∙ e) in
      let same : decoded (w, t.0) t.1 ≡ decoded g at = t.3 in
      let pair : (w, t.0) ≡ g = cc in
      let upto : t.1 ≡ at = cc in
      let own : t.0 ≡ z.globals = ap (λ (f : Words × List Bytes). f.1) pair ∙ sym p.globals_are in
      let words : read_words (byte_at b) 0 (length b) ≡ decoded z.words k = d ∙ ap (λ v. decoded v k) (ap (λ (f : Words × List Bytes). f.0) pair ∙ sym p.words_are) in
      let names : read_names (byte_at b) k (length b) ≡ decoded z.globals at = t.2 ∙ (λ i. decoded (own i) (upto i)) in
      let h = head_read (byte_at b) k (length b) (tagged tag_names) (names_content (byte_at b) globals_limit) names in
      let k₁ = head_read (byte_at b) at (length b) (pool_head (byte_at b)) (pool_content (byte_at b)) p.pool-read in
      let f = filled (read_name_field (byte_at b)) _ k h.0.within h.1 in
      let g = filled (read_const (byte_at b)) _ at k₁.0.within k₁.1 in
      record {
        session = z;
        reads = s;
        words-read = words;
        names-read = names;
        names-field = f.field;
        names-items = f.fill;
        names-count = refl;
        names_few = f.few;
        pool-read = p.pool-read;
        pool-field = g.field;
        pool_short = leb-true (head (byte_at b) at).len pool_limit (both_true (tagged tag_pool (head (byte_at b) at)) _ k₁.0.is).1;
        pool-items = g.fill;
        pool-count = refl;
        pool_few = g.few;
        within = g.within;
        zeros = p.zeros;
      }

  -- the layout that is answered is that of the session that the bytes hold
  pub laid : {l : SessionLayout} → Some l ≡ layout_of b → LaidOut b l
  laid {l} e = go (read_words (byte_at b) 0 (length b)) refl (read_front (byte_at b) 0 (length b)) refl (read_session b) refl e
    where
      go : (v : Decoded Words) → read_words (byte_at b) 0 (length b) ≡ v → (x : Decoded (Words × List Bytes)) → read_front (byte_at b) 0 (length b) ≡ x → (y : Decoded Session) → read_session b ≡ y
          → Some l ≡ layout v x y → LaidOut b l
      go (decoded w k) o (decoded f at) p (decoded z n) q j =
          let i : record { words_end = k; names_end = at; pool_end = n; names = length z.globals; constants = length z.pool } ≡ l = cc in
          subst (λ (m : SessionLayout). LaidOut b m) i (laid_out w k f at z n o p q)
      go (decoded w k) o (decoded f at) p (malformed m) q j = let o : ◌≡◌ {A = ℕ} 0 1 = cc in absurd (omega arith)
      go (decoded w k) o (malformed m) p y q j = let o : ◌≡◌ {A = ℕ} 0 1 = cc in absurd (omega arith)
      go (malformed m) o x p y q j = let o : ◌≡◌ {A = ℕ} 0 1 = cc in absurd (omega arith)
