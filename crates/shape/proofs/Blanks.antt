-- A tree that is read and its shape, field by field.
use Prim.Native.Nat.{ℕ, zero, suc, ◌+◌, ◌*◌, ◌-◌, ◌≤◌, ◌<◌}
use native.Mathlib.Omega.{arith}
use native.Mathlib.Numerals.{unary_clauses}
use mathlib.Core.Bool.{Bool, true, false}
use mathlib.Core.List.{[], ◌∷◌, ◌++◌}
use mathlib.Core.Path.{◌≡◌, refl, sym, ap, subst, subst₂, ◌∙◌}
use lib.ListN.{length, take, drop, replicate, length-drop}
use lib.Seq.{drop-cons, drop-drop, drop-length}
use lib.Dec.{leb}
use borrow.Author.Tests.{lt-leb, le-leb}
use Rattle.definition.specs.Basic.{Bytes, byte_at, pick, both}
use Rattle.definition.specs.Field.{bytes, head}
use Rattle.definition.specs.Shape.{blanked, shape}
use Rattle.definition.specs.Syntax.{Stmts}
use Rattle.definition.specs.Tree.{read_tree, Parsed}
use Rattle.definition.proofs.Basic.{pick_true, pick_false}
use Rattle.definition.proofs.Bytes.{bytes_slice}
use Rattle.definition.proofs.Follows.{bytes_same}
use Rattle.tree.specs.Grammar.{is_leaf}
use Rattle.shape.specs.Fields.{is_literal, own_end, own_literal}
use Rattle.shape.proofs.Scan.{Scan, own-end, scan-on}
use Rattle.shape.proofs.ReadScan.{lits, scan_tree}

-- fields, and the same with 0 for the bytes of literals
pub data Blanks : Bytes → Bytes → Type 0 where
  ended : Blanks [] []
  inside : {b s : Bytes} (t h l : ℕ) → is_leaf t ≡ false → Blanks b s → Blanks (t ∷ h ∷ l ∷ b) (t ∷ h ∷ l ∷ s)
  kept : {b s : Bytes} (t h l : ℕ) → is_leaf t ≡ true → is_literal t ≡ false → h * 256 + l ≤ length b → Blanks (drop (h * 256 + l) b) s
      → Blanks (t ∷ h ∷ l ∷ b) (t ∷ h ∷ l ∷ (take (h * 256 + l) b ++ s))
  literal : {b s : Bytes} (t h l : ℕ) → is_leaf t ≡ true → is_literal t ≡ true → h * 256 + l ≤ length b → Blanks (drop (h * 256 + l) b) s
      → Blanks (t ∷ h ∷ l ∷ b) (t ∷ h ∷ l ∷ (replicate (h * 256 + l) 0 ++ s))

-- bytes in two parts
bytes-append : (v : ℕ → ℕ) (at m n : ℕ) → bytes v at (m + n) ≡ bytes v at m ++ bytes v (at + m) n
bytes-append v at zero n = (λ i. bytes v (p i) (q i))
  where
    p : at ≡ at + 0
    p = omega arith

    q : 0 + n ≡ n
    q = omega arith
bytes-append v at (suc m) n =
    let e : suc m + n ≡ suc (m + n) = omega arith in
    let k : at + 1 + m ≡ at + suc m = omega arith in
    ap (bytes v at) e ∙ ap (λ r. v at ∷ r) (bytes-append v (at + 1) m n ∙ ap (λ j. bytes v (at + 1) m ++ bytes v j n) k)

-- zeros
bytes_zeros : (v : ℕ → ℕ) (at n : ℕ) → ((i : ℕ) → at ≤ i → i < at + n → v i ≡ 0) → bytes v at n ≡ replicate n 0
bytes_zeros v at zero h = refl
bytes_zeros v at (suc n) h = λ i. h at (omega arith) (omega arith) i ∷ bytes_zeros v (at + 1) n (λ j p q. h j (omega arith) (omega arith)) i

-- three bytes, and those behind
drop_three : (b : Bytes) (at : ℕ) → at + 3 ≤ length b → drop at b ≡ byte_at b at ∷ byte_at b (at + 1) ∷ byte_at b (at + 2) ∷ drop (at + 3) b
drop_three b at h =
    let e₁ : suc at ≡ at + 1 = omega arith in
    let e₂ : suc (at + 1) ≡ at + 2 = omega arith in
    let e₃ : suc (at + 2) ≡ at + 3 = omega arith in
    drop-cons b at 0 (omega arith)
    ∙ ap (λ r. byte_at b at ∷ r) (ap (λ j. drop j b) e₁ ∙ drop-cons b (at + 1) 0 (omega arith) ∙ ap (λ r. byte_at b (at + 1) ∷ r) (ap (λ j. drop j b) e₂
    ∙ drop-cons b (at + 2) 0 (omega arith) ∙ ap (λ j. byte_at b (at + 2) ∷ drop j b) e₃))

bytes_three : (v : ℕ → ℕ) (at n : ℕ) → bytes v at (3 + n) ≡ v at ∷ v (at + 1) ∷ v (at + 2) ∷ bytes v (at + 3) n
bytes_three v at n =
    let e : at + 1 + 1 ≡ at + 2 = omega arith in
    bytes-append v at 3 n ∙ ap (λ j. v at ∷ v (at + 1) ∷ v j ∷ bytes v (at + 3) n) e

module _ (tree : Bytes) (l : ℕ → Bool) where
  abbrev v : ℕ → ℕ
  v = blanked l (byte_at tree)

  -- from an offset on
  abbrev Behind : ℕ → Type 0
  Behind at = Blanks (drop at tree) (bytes v at (length tree - at))

  module _ (at : ℕ) (own : (i : ℕ) → at ≤ i → i < own_end (byte_at tree) at → l i ≡ own_literal (byte_at tree) at i) (fits : own_end (byte_at tree) at ≤ length tree) where
    abbrev t : ℕ
    t = byte_at tree at

    abbrev len : ℕ
    len = (head (byte_at tree) at).len

    -- a head stays
    head_kept : (i : ℕ) → at ≤ i → i < at + 3 → v i ≡ byte_at tree i
    head_kept i p q =
        ap (λ c. pick c 0 (byte_at tree i)) (own i p (omega (arith, own-end (byte_at tree) at)) ∙ go (is_literal t) (leb (at + 3) i) (lt-leb (at + 3) i q))
      where
        go : (a b : Bool) → b ≡ false → both a b ≡ false
        go true b e = e
        go false b e = refl

    -- a content stays, or is zero
    content_own : is_leaf t ≡ true → (i : ℕ) → at + 3 ≤ i → i < at + 3 + len → v i ≡ pick (is_literal t) 0 (byte_at tree i)
    content_own e i p q =
        let m : own_end (byte_at tree) at ≡ at + 3 + len = pick_true (at + 3 + len) (at + 3) e in
        ap (λ c. pick c 0 (byte_at tree i)) (own i (omega arith) (omega arith) ∙ go (is_literal t) (leb (at + 3) i) (le-leb (at + 3) i p))
      where
        go : (a b : Bool) → b ≡ true → both a b ≡ a
        go true b e = e
        go false b e = refl

    -- the bytes of the shape behind a head
    three : bytes v at (length tree - at) ≡ t ∷ byte_at tree (at + 1) ∷ byte_at tree (at + 2) ∷ bytes v (at + 3) (length tree - (at + 3))
    three =
        let r : length tree - at ≡ 3 + (length tree - (at + 3)) = omega (arith, own-end (byte_at tree) at) in
        ap (bytes v at) r ∙ bytes_three v at (length tree - (at + 3))
        ∙ (λ i. head_kept at (omega arith) (omega arith) i ∷ head_kept (at + 1) (omega arith) (omega arith) i ∷ head_kept (at + 2) (omega arith) (omega arith) i ∷ bytes v (at + 3) (length tree - (at + 3)))

    abbrev Three : Bytes → Bytes → Type 0
    Three b s = Blanks (t ∷ byte_at tree (at + 1) ∷ byte_at tree (at + 2) ∷ b) (t ∷ byte_at tree (at + 1) ∷ byte_at tree (at + 2) ∷ s)

    whole : Three (drop (at + 3) tree) (bytes v (at + 3) (length tree - (at + 3))) → Behind at
    whole x = subst₂ Blanks (sym (drop_three tree at (omega (arith, own-end (byte_at tree) at)))) (sym three) x

    -- the bytes of the shape behind a leaf's head
    leaf : is_leaf t ≡ true → at + 3 + len ≤ length tree
        → bytes v (at + 3) (length tree - (at + 3)) ≡ bytes v (at + 3) len ++ bytes v (at + 3 + len) (length tree - (at + 3 + len))
    leaf e h =
        let r : length tree - (at + 3) ≡ len + (length tree - (at + 3 + len)) = omega arith in
        ap (bytes v (at + 3)) r ∙ bytes-append v (at + 3) len (length tree - (at + 3 + len))

    room : at + 3 + len ≤ length tree → len ≤ length (drop (at + 3) tree)
    room h = simp length-drop (omega arith)

    -- the next field, behind this one
    blanks-step : Behind (own_end (byte_at tree) at) → Behind at
    blanks-step x = go (is_leaf t) refl (is_literal t) refl
      where
        next : is_leaf t ≡ true → own_end (byte_at tree) at ≡ at + 3 + len
        next e = pick_true (at + 3 + len) (at + 3) e

        ends : is_leaf t ≡ true → at + 3 + len ≤ length tree
        ends e = let m = next e in omega arith

        behind : is_leaf t ≡ true → Blanks (drop len (drop (at + 3) tree)) (bytes v (at + 3 + len) (length tree - (at + 3 + len)))
        behind e =
            subst (λ b. Blanks b (bytes v (at + 3 + len) (length tree - (at + 3 + len)))) (sym (drop-drop len (at + 3) tree)) (subst Behind (next e) x)

        go : (a : Bool) → is_leaf t ≡ a → (b : Bool) → is_literal t ≡ b → Behind at
        go false e b k = whole (Blanks.inside t _ _ e (subst Behind (pick_false (at + 3 + len) (at + 3) e) x))
        go true e true k =
            let z = bytes_zeros v (at + 3) len (λ i p q. content_own e i p q ∙ ap (λ c. pick c 0 (byte_at tree i)) k) in
            whole (subst (Three (drop (at + 3) tree)) (sym (leaf e (ends e) ∙ ap (λ r. r ++ bytes v (at + 3 + len) (length tree - (at + 3 + len))) z)) (Blanks.literal t _ _ e k (room (ends e)) (behind e)))
        go true e false k =
            let z = bytes_same (byte_at tree) v (at + 3) len (λ i p q. sym (content_own e i p q ∙ ap (λ c. pick c 0 (byte_at tree i)) k)) ∙ bytes_slice tree (at + 3) len (ends e) in
            whole (subst (Three (drop (at + 3) tree)) (sym (leaf e (ends e) ∙ ap (λ r. r ++ bytes v (at + 3 + len) (length tree - (at + 3 + len))) z)) (Blanks.kept t _ _ e k (room (ends e)) (behind e)))

  -- a row of fields up to the end
  blanks-scan : {at n : ℕ} → n ≡ length tree → Scan (byte_at tree) l at n → Behind at
  blanks-scan e (Scan.done at) =
      let z : length tree - at ≡ 0 = omega arith in
      subst₂ Blanks (sym (ap (λ j. drop j tree) e ∙ drop-length tree)) (sym (ap (bytes v at) z)) Blanks.ended
  blanks-scan e (Scan.step {at} own s) = let h = scan-on s in blanks-step at own (omega arith) (blanks-scan e s)

-- a tree that is read, and its shape
pub blanks-shape : (tree : Bytes) {b : Stmts} {n : ℕ} → read_tree tree ≡ Parsed.parsed b n → Blanks tree (shape tree)
unfolding shape
blanks-shape tree h = simp unary_clauses at (blanks-scan tree (lits tree) refl (scan_tree tree h))
