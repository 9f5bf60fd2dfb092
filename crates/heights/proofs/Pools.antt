-- The pool: a loop that judges a constant a turn; the first that fails decides.
use Prim.Native.Nat.{ℕ, suc, ◌+◌, ◌≤◌}
use native.Mathlib.Omega.{arith}
use mathlib.Core.List.{List, [], ◌∷◌, ◌++◌}
use mathlib.Core.Path.{◌≡◌, refl, sym, ap, subst₂, ◌∙◌}
use lib.ListN.{length, drop, set, length-append}
use lib.Seq.{sets, drop-drop}
use Rattle.heights.proofs.Ends.{top_dropped}
use Rattle.definition.specs.Basic.{Bytes, byte_at}
use Rattle.definition.specs.Limit.{constants_limit}
use Rattle.definition.specs.Bytecode.{Const, Image}
use Rattle.definition.specs.Decode.{read_const}
use Rattle.session.proofs.Stores.{sets_append}
use Rattle.listing.specs.Reads.{PoolAt}
use Rattle.listing.proofs.Items.{Reading, begins, ends, all_read}
use Rattle.heights.specs.Judgement.{counted}
use Rattle.heights.specs.declared.chunk.Kind.TheVariants.{Function}
use Rattle.heights.specs.Pass.{Top, top_of, Verdict, also, judged_const, further, judged}
use Rattle.heights.specs.Marks.{Blank}
use Rattle.heights.specs.Chunks.{comes_to, top_answer, top_into, constant_answer, constant_into, pool_answer, Judges, ConstantReady, PoolReady, SoFar, PoolJudges}
use Rattle.heights.specs.declared.image.Progress.{Progress}
use Rattle.std.specs.Prelude.{Option, Some, None, Ok, Err}
use Rattle.heights.proofs.Judges.{not_on, Turn}

-- One more constant

-- behind constants that passed, the next decides
judged_more : (hs : List ℕ) (m : Image) (x : Const) (cs : List Const) {ns : List ℕ} → judged hs m cs ≡ Verdict.tops ns → judged hs m (x ∷ cs) ≡ judged_const hs m cs x ns
unfolding judged
judged_more hs m x cs e = ap (λ v. further v (judged_const hs m cs x)) e

-- behind one that failed nothing does
pub judged_failed : (hs : List ℕ) (m : Image) (x : Const) (cs : List Const) {place : ℕ} → judged hs m cs ≡ Verdict.fails place → judged hs m (x ∷ cs) ≡ Verdict.fails place
unfolding judged
judged_failed hs m x cs e = ap (λ v. further v (judged_const hs m cs x)) e

-- at most one chunk more
few_more : (x : Const) (p q : Progress) → Some (q.chunks, q.heights.now) ≡ constant_answer x p → q.chunks ≤ p.chunks + 1
few_more (Const.integer b) p q e = let i : ◌≡◌ {A = ℕ × List ℕ} (q.chunks, q.heights.now) (p.chunks, p.heights.now) = cc in omega (arith, ap (λ (p : ℕ × List ℕ). p.0) i)
few_more (Const.string b) p q e = let i : ◌≡◌ {A = ℕ × List ℕ} (q.chunks, q.heights.now) (p.chunks, p.heights.now) = cc in omega (arith, ap (λ (p : ℕ × List ℕ). p.0) i)
few_more (Const.function l n c) p q e = go (top_of p.heights.now Function 0 c) e
  where
    go : (t : Top) → Some (q.chunks, q.heights.now) ≡ top_answer t p.chunks (drop (length c) p.heights.now) → q.chunks ≤ p.chunks + 1
    go (Top.top k) e = let i : ◌≡◌ {A = ℕ × List ℕ} (q.chunks, q.heights.now) (p.chunks + 1, drop (length c) p.heights.now) = cc in omega (arith, ap (λ (p : ℕ × List ℕ). p.0) i)
    go Top.fails e = not_on (sym e)

-- one that is no function passes
module _ {hs : List ℕ} {m : Image} (x : Const) {cs : List Const} {o₀ o : List ℕ} {p q : Progress} {o₁ : List ℕ} (s : SoFar hs m cs o₀ o p)
    (v : judged hs m (x ∷ cs) ≡ Verdict.tops s.tops) (n : counted m (x ∷ cs) ≡ counted m cs + 0) (i : ◌≡◌ {A = ℕ × List ℕ} (q.chunks, q.heights.now) (p.chunks, p.heights.now)) (f : o₁ ≡ o) where
  no_chunk_more : SoFar hs m (x ∷ cs) o₀ o₁ q
  no_chunk_more =
      record {
        tops = s.tops;
        passed = v;
        chunks = s.chunks ∙ sym (ap (λ (p : ℕ × List ℕ). p.0) i);
        heights = ap (λ k. drop k hs) (omega (arith, n)) ∙ s.heights ∙ sym (ap (λ (p : ℕ × List ℕ). p.1) i);
        stored = f ∙ s.stored;
      }

-- one that passes
more : {hs : List ℕ} {m : Image} (x : Const) {cs : List Const} {o₀ o : List ℕ} {p q : Progress} {o₁ : List ℕ} → SoFar hs m cs o₀ o p → Some (q.chunks, q.heights.now) ≡ constant_answer x p → o₁ ≡ constant_into x p o → SoFar hs m (x ∷ cs) o₀ o₁ q
more {hs} {m} (Const.integer b) {cs} {p = p} {q} {o₁} s e f = no_chunk_more (Const.integer b) {q = q} {o₁ = o₁} s (judged_more hs m (Const.integer b) cs s.passed) (omega arith) (cc) f
more {hs} {m} (Const.string b) {cs} {p = p} {q} {o₁} s e f = no_chunk_more (Const.string b) {q = q} {o₁ = o₁} s (judged_more hs m (Const.string b) cs s.passed) (omega arith) (cc) f
more {hs} {m} (Const.function l n c) {cs} {o₀} {o} {p} {q} {o₁} s e f = go (top_of p.heights.now Function 0 c) refl e f
  where
    go : (t : Top) → top_of p.heights.now Function 0 c ≡ t → Some (q.chunks, q.heights.now) ≡ top_answer t p.chunks (drop (length c) p.heights.now) → o₁ ≡ top_into t p.chunks o → SoFar hs m (Const.function l n c ∷ cs) o₀ o₁ q
    go (Top.top k) g e f =
        let i : ◌≡◌ {A = ℕ × List ℕ} (q.chunks, q.heights.now) (p.chunks + 1, drop (length c) p.heights.now) = cc in
        let t : top_of hs Function (counted m cs) c ≡ Top.top k = sym (top_dropped hs Function (counted m cs) c) ∙ ap (λ h. top_of h Function 0 c) s.heights ∙ g in
        record {
          tops = s.tops ++ k ∷ [];
          passed = judged_more hs m (Const.function l n c) cs s.passed ∙ ap (λ t. also t (suc (length cs)) s.tops) t;
          chunks = omega (arith, length-append s.tops (k ∷ []), s.chunks, ap (λ (p : ℕ × List ℕ). p.0) i);
          heights = sym (drop-drop (length c) (counted m cs) hs) ∙ ap (drop (length c)) s.heights ∙ sym (ap (λ (p : ℕ × List ℕ). p.1) i);
          stored = f ∙ (λ j. set (s.stored j) (sym s.chunks j) k) ∙ sets_append o₀ 0 s.tops (k ∷ []) (omega arith);
        }
    go Top.fails g e f = not_on (sym e)

-- one that fails
fails_there : {hs : List ℕ} {m : Image} (x : Const) {cs : List Const} {o₀ o : List ℕ} {p : Progress} → SoFar hs m cs o₀ o p → None ≡ constant_answer x p → judged hs m (x ∷ cs) ≡ Verdict.fails (suc (length cs))
fails_there (Const.integer b) s e = not_on e
fails_there (Const.string b) s e = not_on e
fails_there {hs} {m} (Const.function l n c) {cs} {p = p} s e = go (top_of p.heights.now Function 0 c) refl e
  where
    go : (t : Top) → top_of p.heights.now Function 0 c ≡ t → None ≡ top_answer t p.chunks (drop (length c) p.heights.now) → judged hs m (Const.function l n c ∷ cs) ≡ Verdict.fails (suc (length cs))
    go (Top.top k) g e = not_on e
    go Top.fails g e = judged_more hs m (Const.function l n c) cs s.passed ∙ ap (λ t. also t (suc (length cs)) s.tops) (sym (top_dropped hs Function (counted m cs) c) ∙ ap (λ h. top_of h Function 0 c) s.heights ∙ g)

-- The loop

module _ (b : Bytes) (start end : ℕ) (o₀ l₀ : List ℕ) (p₀ : Progress) where
  -- at an offset, after so many constants
  pub record PoolLoop (o l : List ℕ) (at index : ℕ) (p : Progress) : Type 0 where
    pub pool : List Const
    pub reading : Reading (read_const (byte_at b)) end constants_limit start pool at
    pub order : at ≤ end
    pub many : start + index ≤ at
    pub counted : length pool ≡ index
    pub few : p.chunks ≤ at
    pub blank : Blank l (suc at)
    pub same_marks : length l ≡ length l₀
    pub same_output : length o ≡ length o₀
    pub so_far : (hs : List ℕ) (m : Image) (o' : List ℕ) → SoFar hs m [] o' o₀ p₀ → SoFar hs m pool o' o p

  module _ (h : PoolReady l₀ b start end p₀.chunks) where
    pub pool-begins : PoolLoop o₀ l₀ start 0 p₀
    pool-begins =
        record {
          pool = [];
          reading = begins (read_const (byte_at b)) end constants_limit start;
          order = h.pool.is.order;
          many = omega arith;
          counted = refl;
          few = h.few;
          blank = h.blank;
          same_marks = refl;
          same_output = refl;
          so_far = λ hs m o s. s;
        }

    module _ {o l : List ℕ} {at index : ℕ} {p : Progress} (i : PoolLoop o l at index p) where
      -- all constants passed
      pub pool_ends : end ≤ at → (cs : List Const) → PoolAt b start end cs → (hs : List ℕ) (m : Image) (o' : List ℕ) → SoFar hs m [] o' o₀ p₀ → PoolJudges hs m cs o' (Ok p.chunks) o
      pool_ends g cs k hs m o' s =
          let e : at ≡ end = omega (arith, i.order) in
          let same = ends (read_const (byte_at b)) end constants_limit start i.reading k.reads e in
          let t = i.so_far hs m o' s in
          let d : judged hs m cs ≡ Verdict.tops t.tops = ap (judged hs m) (sym same) ∙ t.passed in
          record { answers = ap Ok (sym t.chunks) ∙ sym (ap pool_answer d); stores = λ ns f. t.stored ∙ ap (sets o' 0) (tops_same (sym d ∙ f)) }
        where
          tops_same : {ns ks : List ℕ} → Verdict.tops ns ≡ Verdict.tops ks → ns ≡ ks
          tops_same e = cc

      module _ {after : ℕ} (t : Turn b start end at i.pool after) where
        pub constant_ready : ConstantReady l b at after p.chunks
        constant_ready =
            record {
              stands = record { constant = t.x; is = t.standing };
              room = omega (arith, t.within, h.room, i.same_marks);
              short = omega (arith, t.within, h.short);
              few = i.few;
              blank = i.blank;
            }

        module _ {r : Option Progress} {o₁ l₁ : List ℕ} (j : Judges after (constant_answer t.x p) (constant_into t.x p o) r o₁ l₁) where
          -- it fails
          pub pool_fails : r ≡ None → (cs : List Const) → PoolAt b start end cs → (hs : List ℕ) (m : Image) (o' : List ℕ) → SoFar hs m [] o' o₀ p₀ → PoolJudges hs m cs o' (Err (record { place = index + 1 })) o₁
          pool_fails f cs k hs m o' s =
              let g = t.reading in
              let d : judged hs m cs ≡ Verdict.fails (suc (length i.pool)) =
              all_read (read_const (byte_at b)) end (λ c _. judged hs m c ≡ Verdict.fails (suc (length i.pool))) (λ xs _ x _ q _. judged_failed hs m x xs q) g.rest (t.x ∷ i.pool) after
              (sym g.same ∙ k.reads) (fails_there t.x (i.so_far hs m o' s) (sym (ap comes_to f) ∙ j.answers)) in
              let n : index + 1 ≡ suc (length i.pool) = omega (arith, i.counted) in
              record { answers = ap (λ n. Err (record { place = n })) n ∙ sym (ap pool_answer d); stores = λ ns q. never (sym d ∙ q) }
            where
              never : {ns : List ℕ} {place : ℕ} {A : Type 0} → Verdict.fails place ≡ Verdict.tops ns → A
              never e = let z : ◌≡◌ {A = ℕ} 0 1 = cc in absurd (omega arith)

          -- or it passes
          pub pool_again : {q : Progress} → r ≡ Some q → length l₁ ≡ length l → length o₁ ≡ length o → PoolLoop o₁ l₁ after (index + 1) q
          pool_again {q} e f g =
              record {
                pool = t.x ∷ i.pool;
                reading = t.reading;
                order = t.within;
                many = omega (arith, t.behind, i.many);
                counted = omega (arith, i.counted);
                few = omega (arith, few_more t.x p q (sym (ap comes_to e) ∙ j.answers), i.few, t.behind);
                blank = j.blank q e;
                same_marks = f ∙ i.same_marks;
                same_output = g ∙ i.same_output;
                so_far = λ hs m o' s. more t.x (i.so_far hs m o' s) (sym (ap comes_to e) ∙ j.answers) j.stores;
              }

-- the loop at the same offset, after as many
pub pool_at : {b : Bytes} {start end : ℕ} {o₀ l₀ : List ℕ} {p₀ : Progress} {o l : List ℕ} {at at₁ index index₁ : ℕ} {p : Progress} → PoolLoop b start end o₀ l₀ p₀ o l at index p → at ≡ at₁ → index ≡ index₁ → PoolLoop b start end o₀ l₀ p₀ o l at₁ index₁ p
pool_at {b} {start} {end} {o₀} {l₀} {p₀} {o} {l} {p = p} i e f = subst₂ (λ at k. PoolLoop b start end o₀ l₀ p₀ o l at k p) e f i
