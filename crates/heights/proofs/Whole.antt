-- A sound image: main, then the pool; and what checking its heights answers.
use Prim.Native.Nat.{ℕ, ◌+◌, ◌≤◌, ◌<◌}
use native.Mathlib.Omega.{arith}
use mathlib.Core.List.{List, [], ◌∷◌}
use mathlib.Core.Path.{◌≡◌, refl, sym, ap, ◌∙◌}
use lib.ListN.{length, drop, replicate, length-replicate}
use Rattle.definition.specs.Basic.{Bytes}
use Rattle.definition.specs.Limit.{image_limit}
use Rattle.definition.specs.Bytecode.{Const, Image}
use Rattle.listing.specs.Reads.{ImageAt}
use Rattle.bytecode.specs.declared.span.Parts.{Parts}
use Rattle.bytecode.specs.Parts.{Divides}
use Rattle.listing.proofs.Images.{parts, image_short, code_in, pool_in}
use Rattle.heights.specs.declared.chunk.Kind.TheVariants.{Main}
use Rattle.heights.specs.Pass.{Top, top_of, Verdict, also, judged}
use Rattle.heights.specs.Marks.{ChunkReady}
use Rattle.heights.specs.Chunks.{comes_to, top_answer, top_into, pool_answer, Judges, PoolReady, SoFar, PoolJudges}
use Rattle.heights.specs.declared.image.Progress.{Progress}
use Rattle.std.specs.Prelude.{Option, Some, None, Err}
use Rattle.heights.proofs.Tables.{one_element}
use Rattle.heights.proofs.Judges.{not_on, blank_later}
use Rattle.heights.proofs.Pools.{judged_failed}

-- main alone
judged_main : (hs : List ℕ) (m : Image) → judged hs m [] ≡ also (top_of hs Main 0 m.code) 0 []
unfolding judged
judged_main hs m = refl

module _ (b : Bytes) {m : Image} (i : ImageAt b m) where
  module _ {p : Parts} (d : Divides b p) where
    -- main's code ends within the limit
    pub code_short : p.code.end ≤ image_limit
    code_short = omega (arith, image_short b i, (parts b i refl).code.within, d.behind)

    -- main can be judged
    pub main_ready : (n : ℕ) → 65536 ≤ n → {l : List ℕ} → l ≡ replicate n 0 → ChunkReady l p.code.bytes.now p.code.start p.code.end × (0 < 131072)
    main_ready n h q = (
      record {
        code = record { code = m.code; is = code_in b i d };
        room = omega (arith, ap length q, length-replicate {A = ℕ} n 0, code_short);
        short = omega (arith, code_short);
        blank = record { zero = λ j _. rw q (one_element 0 n j) };
      },
      omega arith,
    )

    module _ (hs out : List ℕ) {r : Option Progress} {out₁ l : List ℕ} (j : Judges p.code.end (top_answer (top_of hs Main 0 m.code) 0 (drop (length m.code) hs)) (top_into (top_of hs Main 0 m.code) 0 out) r out₁ l) where
      -- main fails
      pub main_fails : r ≡ None → {o : List ℕ} → PoolJudges hs m m.pool out (Err (record { place = 0 })) o
      main_fails f =
          let d = all m.pool (first (top_of hs Main 0 m.code) refl (sym (ap comes_to f) ∙ j.answers)) in
          record { answers = sym (ap pool_answer d); stores = λ ns q. never (sym d ∙ q) }
        where
          first : (t : Top) → top_of hs Main 0 m.code ≡ t → None ≡ top_answer t 0 (drop (length m.code) hs) → judged hs m [] ≡ Verdict.fails 0
          first (Top.top n) g q = not_on q
          first Top.fails g q = judged_main hs m ∙ ap (λ t. also t 0 []) g

          all : (cs : List Const) → judged hs m [] ≡ Verdict.fails 0 → judged hs m cs ≡ Verdict.fails 0
          all [] q = q
          all (x ∷ cs) q = judged_failed hs m x cs (all cs q)

          never : {ns : List ℕ} {A : Type 0} → Verdict.fails 0 ≡ Verdict.tops ns → A
          never e = let z : ◌≡◌ {A = ℕ} 0 1 = cc in absurd (omega arith)

      module _ {p₁ : Progress} (f : r ≡ Some p₁) where
        -- main passes
        pub main_passes : SoFar hs m [] out out₁ p₁
        main_passes = go (top_of hs Main 0 m.code) refl (sym (ap comes_to f) ∙ j.answers) j.stores
          where
            go : (t : Top) → top_of hs Main 0 m.code ≡ t → Some (p₁.chunks, p₁.heights.now) ≡ top_answer t 0 (drop (length m.code) hs) → out₁ ≡ top_into t 0 out → SoFar hs m [] out out₁ p₁
            go (Top.top n) g q s =
                let i : ◌≡◌ {A = ℕ × List ℕ} (p₁.chunks, p₁.heights.now) (0 + 1, drop (length m.code) hs) = cc in
                record {
                  tops = n ∷ [];
                  passed = judged_main hs m ∙ ap (λ t. also t 0 []) g;
                  chunks = omega (arith, ap (λ (p : ℕ × List ℕ). p.0) i);
                  heights = sym (ap (λ (p : ℕ × List ℕ). p.1) i);
                  stored = s;
                }
            go Top.fails g q s = not_on (sym q)

        -- and the pool can be judged
        pub pool_ready : (n : ℕ) → 65536 ≤ n → length l ≡ length {A = ℕ} (replicate n 0) → PoolReady l p.pool.bytes.now p.pool.start p.pool.end p₁.chunks
        pool_ready n h q =
            let s = image_short b i in
            record {
              pool = record { pool = m.pool; is = pool_in b i d };
              room = omega (arith, length-replicate {A = ℕ} n 0, d.last);
              short = omega (arith, d.last);
              few = omega (arith, d.next, main_passes.chunks, one main_passes.passed);
              blank = blank_later (omega (arith, d.behind, d.next)) (j.blank p₁ f);
            }
          where
            one : {ns : List ℕ} → judged hs m [] ≡ Verdict.tops ns → length ns ≡ 1
            one {ns} g = go (top_of hs Main 0 m.code) (sym (judged_main hs m) ∙ g)
              where
                go : (t : Top) → also t 0 [] ≡ Verdict.tops ns → length ns ≡ 1
                go (Top.top n) q = let i : n ∷ [] ≡ ns = cc in sym (ap length i)
                go Top.fails q = let z : ◌≡◌ {A = ℕ} 0 1 = cc in absurd (omega arith)
