-- The chunks of an image one after the other: what one answers, and what stands in the output then.
use Prim.Native.Nat.{ℕ, suc, ◌+◌, ◌≤◌, ◌<◌}
use native.Mathlib.Omega.{arith}
use mathlib.Core.List.{List, ◌∷◌}
use mathlib.Core.Path.{◌≡◌, refl, sym, ap, subst, ◌∙◌}
use mathlib.Core.Bool.{Bool, true, false}
use lib.Dec.{eqb}
use lib.ListN.{length, drop, set}
use borrow.Author.Tests.{eqb-true}
use Rattle.definition.specs.Basic.{Bytes, byte_at}
use Rattle.definition.specs.Limit.{constants_limit}
use Rattle.definition.specs.Tag.{tag_integer_const, tag_string_const, tag_function_const}
use Rattle.definition.specs.Field.{head, bytes}
use Rattle.definition.specs.Bytecode.{Code, Const}
use Rattle.definition.specs.Decode.{decoded, const_head, read_content, read_const}
use Rattle.definition.proofs.Basic.{both_true, picked_some}
use Rattle.bytecode.specs.declared.span.Span.{Span}
use Rattle.bytecode.specs.Parts.{function_code}
use Rattle.bytecode.proofs.Fields.{Good, head_read, const_end, const_ends}
use Rattle.listing.specs.Reads.{CodeAt, CodeIn, PoolAt, function_of}
use Rattle.listing.proofs.Items.{Reading, next}
use Rattle.listing.proofs.Constants.{function_is}
use Rattle.heights.specs.Judgement.{instructions}
use Rattle.heights.specs.declared.chunk.Kind.{Kind}
use Rattle.heights.specs.declared.chunk.Kind.TheVariants.{Function}
use Rattle.heights.specs.Pass.{Top, top_of}
use Rattle.heights.specs.Marks.{Blank, passes_with, chunk_answer, ChunkReady, ChunkEnds}
use Rattle.heights.specs.Chunks.{comes_to, top_answer, top_into, constant_answer, constant_into, Judges, Standing, ConstantReady}
use Rattle.heights.specs.declared.chunk.ChunkTop.{ChunkTop}
use Rattle.heights.specs.declared.image.Progress.{Progress}
use Rattle.std.specs.Prelude.{Option, Some, None}

-- a constant that is a function, and its code
pub record IsCode (s k : Span) : Type 0 where
  pub tag : byte_at s.bytes.now s.start ≡ tag_function_const
  pub is : k ≡ record { bytes = s.bytes; start = s.start + 3 + 3; end = s.end }

-- whether it is one
module _ (s : Span) {r : Option Span} (f : r ≡ function_code s) where
  pub code_of : {k : Span} → r ≡ Some k → IsCode s k
  code_of e =
      let g = picked_some (eqb (byte_at s.bytes.now s.start) tag_function_const) (sym e ∙ f) in
      let n : s.start + 6 ≡ s.start + 3 + 3 = omega arith in
      record { tag = eqb-true (byte_at s.bytes.now s.start) tag_function_const g.0; is = g.1 ∙ ap (λ n. record { bytes = s.bytes; start = n; end = s.end }) n }

-- what fails does not go on
pub not_on : {p : ℕ × List ℕ} {A : Type 0} → None ≡ Some p → A
not_on {p} e = let z : ◌≡◌ {A = ℕ} 0 1 = cc in absurd (omega arith)

module _ {hs : List ℕ} {kind : Kind} {end : ℕ} {c : Code} (chunks : ℕ) {r : Option ChunkTop} {l : List ℕ} (e : ChunkEnds hs kind end c r l) (out : List ℕ) where
  -- a chunk that fails
  pub judged_fails : r ≡ None → {r₁ : Option Progress} → r₁ ≡ None → Judges end (top_answer (top_of hs kind 0 c) chunks (drop (length c) hs)) (top_into (top_of hs kind 0 c) chunks out) r₁ out l
  judged_fails f q = subst (λ r. Judges end (top_answer (top_of hs kind 0 c) chunks (drop (length c) hs)) (top_into (top_of hs kind 0 c) chunks out) r out l) (sym q) (go (top_of hs kind 0 c) (sym (ap passes_with f) ∙ e.answer))
    where
      go : (t : Top) → None ≡ chunk_answer t (drop (length c) hs) → Judges end (top_answer t chunks (drop (length c) hs)) (top_into t chunks out) None out l
      go (Top.top n) q = not_on q
      go Top.fails q = record { answers = refl; stores = refl; blank = λ p g. not_on (ap comes_to g) }

  -- a chunk that passes
  pub judged-on : {t : ChunkTop} {out₁ : List ℕ} → r ≡ Some t → out₁ ≡ set out chunks t.top
      → Judges end (top_answer (top_of hs kind 0 c) chunks (drop (length c) hs)) (top_into (top_of hs kind 0 c) chunks out) (Some (record { chunks = chunks + 1; heights = t.rest })) out₁ l
  judged-on {t} {out₁} f s = go (top_of hs kind 0 c) (sym (ap passes_with f) ∙ e.answer)
    where
      go : (u : Top) → Some (t.top, t.rest.now) ≡ chunk_answer u (drop (length c) hs)
          → Judges end (top_answer u chunks (drop (length c) hs)) (top_into u chunks out) (Some (record { chunks = chunks + 1; heights = t.rest })) out₁ l
      go (Top.top n) q =
          let a : ◌≡◌ {A = ℕ × List ℕ} (t.top, t.rest.now) (n, drop (length c) hs) = cc in
          record { answers = ap (λ (a : ℕ × List ℕ). Some (chunks + 1, a.1)) a; stores = s ∙ ap (λ (a : ℕ × List ℕ). set out chunks a.0) a; blank = λ _ _. e.after t f }
      go Top.fails q = not_on (sym q)

-- nothing arrives from a later offset on either
pub blank_later : {l : List ℕ} {i j : ℕ} → i ≤ j → Blank l i → Blank l j
blank_later h b = record { zero = λ k g. b.zero k (omega arith) }

module _ (b : Bytes) {at next : ℕ} {x : Const} (s : Standing b at next x) where
  -- a constant has a head
  pub standing_head : at + 3 ≤ next
  standing_head = omega (arith, s.sized)

  read : Good (byte_at b) at s.end (const_head (byte_at b)) × (read_content (byte_at b) (head (byte_at b) at) (at + 3) ≡ decoded x (at + 3 + (head (byte_at b) at).len))
  read = head_read (byte_at b) at s.end (const_head (byte_at b)) (read_content (byte_at b)) s.constant.reads

  -- one that is no function is an integer or a string
  module _ (n : byte_at b at ≡ tag_function_const → ⊥) (P : Const → Type 0) where
    no_function : ((c : Bytes) → P (Const.integer c)) → ((c : Bytes) → P (Const.string c)) → P x
    no_function f g = go (eqb (byte_at b at) tag_integer_const) refl (eqb (byte_at b at) tag_string_const) refl
      where
        go : (i : Bool) → eqb (byte_at b at) tag_integer_const ≡ i → (t : Bool) → eqb (byte_at b at) tag_string_const ≡ t → P x
        go true e t u =
            let r : decoded (Const.integer (bytes (byte_at b) (at + 3) (head (byte_at b) at).len)) (at + 3 + (head (byte_at b) at).len) ≡ decoded x (at + 3 + (head (byte_at b) at).len) = rw e at read.1 in
            subst P (cc) (f (bytes (byte_at b) (at + 3) (head (byte_at b) at).len))
        go false e true u =
            let r : decoded (Const.string (bytes (byte_at b) (at + 3) (head (byte_at b) at).len)) (at + 3 + (head (byte_at b) at).len) ≡ decoded x (at + 3 + (head (byte_at b) at).len) = rw (e, u) at read.1 in
            subst P (cc) (g (bytes (byte_at b) (at + 3) (head (byte_at b) at).len))
        go false e false u = let g = both_true (eqb (byte_at b at) tag_function_const) _ (rw (e, u) at read.0.is) in absurd (n (eqb-true (byte_at b at) tag_function_const g.0))

  -- it has no instruction
  pub no_instructions : (byte_at b at ≡ tag_function_const → ⊥) → instructions x ≡ 0
  no_instructions n = no_function n (λ x. instructions x ≡ 0) (λ c. refl) (λ c. refl)

  -- and no chunk
  pub no_chunk : (byte_at b at ≡ tag_function_const → ⊥) → (p : Progress) (out l : List ℕ) → Blank l (suc at) → Judges next (constant_answer x p) (constant_into x p out) (Some p) out l
  no_chunk n p out l e =
      let k : Blank l (suc next) = blank_later (let w = standing_head in omega arith) e in
      no_function n (λ x. Judges next (constant_answer x p) (constant_into x p out) (Some p) out l) (λ c. record { answers = refl; stores = refl; blank = λ _ _. k }) (λ c. record { answers = refl; stores = refl; blank = λ _ _. k })

  -- the chunk of a function
  module _ (e : byte_at b at ≡ tag_function_const) where
    pub record Chunk : Type 0 where
      pub code : Code
      pub stands : CodeAt b (at + 3 + 3) next code
      pub is : function_of (byte_at b) (at + 3) code ≡ x

    pub chunk : Chunk
    chunk =
        let f = function_is b at s.end s.constant (λ i. omega arith) refl (λ i. omega arith) s.constant.within in
        record { code = f.code; stands = subst (λ n. CodeAt b (at + 3 + 3) n f.code) (sym s.sized) f.stands; is = f.is }

-- a function's chunk
module _ {s k : Span} (f : IsCode s k) where
  -- it can be judged
  pub chunk_ready : (l : List ℕ) {chunks : ℕ} → ConstantReady l s.bytes.now s.start s.end chunks → ChunkReady l k.bytes.now k.start k.end × (chunks < 131072)
  chunk_ready l {chunks} h =
      let c = chunk s.bytes.now h.stands.is f.tag in
      let w = standing_head s.bytes.now h.stands.is in
      subst (λ k. ChunkReady l k.bytes.now k.start k.end × (chunks < 131072)) (sym f.is)
      (record { code = record { code = c.code; is = c.stands }; room = h.room; short = h.short; blank = blank_later (omega arith) h.blank }, omega (arith, h.few, h.short))

  -- and is what the constant answers
  pub chunk_judges : (p : Progress) (out : List ℕ) {out₁ l : List ℕ} {r : Option Progress}
      → ((c : Code) → CodeIn k c → Judges k.end (top_answer (top_of p.heights.now Function 0 c) p.chunks (drop (length c) p.heights.now)) (top_into (top_of p.heights.now Function 0 c) p.chunks out) r out₁ l)
      → (x : Const) → Standing s.bytes.now s.start s.end x → Judges s.end (constant_answer x p) (constant_into x p out) r out₁ l
  chunk_judges p out {out₁} {l} {r} j x h =
      let c = chunk s.bytes.now h f.tag in
      let j = subst (λ k. CodeIn k c.code → Judges k.end (top_answer (top_of p.heights.now Function 0 c.code) p.chunks (drop (length c.code) p.heights.now)) (top_into (top_of p.heights.now Function 0 c.code) p.chunks out) r out₁ l) f.is (j c.code) in
      subst (λ x. Judges s.end (constant_answer x p) (constant_into x p out) r out₁ l) c.is (j c.stands)

-- the constant at an offset of a pool, behind some
pub record Turn (b : Bytes) (start end at : ℕ) (pool : List Const) (after : ℕ) : Type 0 where
  pub x : Const
  pub standing : Standing b at after x
  pub reading : Reading (read_const (byte_at b)) end constants_limit start (x ∷ pool) after
  pub behind : at + 3 ≤ after
  pub within : after ≤ end

pub turn : (b : Bytes) {start end : ℕ} {cs : List Const} → PoolAt b start end cs → {pool : List Const} {at : ℕ} → Reading (read_const (byte_at b)) end constants_limit start pool at → at < end
    → {len : ℕ} → len ≡ (head (byte_at b) at).len → Turn b start end at pool (at + 3 + len)
turn b {start} {end} h {pool} {at} r before {len} q =
    let found = next (read_const (byte_at b)) end constants_limit start r h.reads (λ e. omega arith) in
    let e = const_end (byte_at b) at end found.found in
    let w = const_ends (byte_at b) at end found.x found.next found.found in
    record {
      x = found.x;
      standing = record { end = end; constant = record { within = h.within; reads = found.found ∙ ap (decoded found.x) e }; sized = ap (λ n. at + 3 + n) q };
      reading = subst (λ n. Reading (read_const (byte_at b)) end constants_limit start (found.x ∷ pool) n) (e ∙ ap (λ n. at + 3 + n) (sym q)) found.reading;
      behind = omega arith;
      within = omega arith;
    }
