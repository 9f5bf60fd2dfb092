-- The proposer goes over each instruction once: how many there are, and that the list behind them stays.
use Prim.Native.Nat.{ℕ, ◌+◌, ◌-◌, ◌≤◌, ◌<◌}
use native.Mathlib.Omega.{arith}
use mathlib.Core.Bool.{Bool}
use mathlib.Core.List.{List, [], ◌∷◌}
use mathlib.Core.Path.{◌≡◌, refl, sym, ap, subst, subst₂, ◌∙◌}
use lib.Dec.{leb}
use lib.ListN.{length, drop, replicate, length-replicate}
use lib.Seq.{drop-drop}
use borrow.Author.Tests.{le-leb, lt-leb}
use Rattle.definition.specs.Basic.{Bytes, byte_at, pick}
use Rattle.definition.specs.Number.{refusal, output_short}
use Rattle.definition.specs.Limit.{constants_limit}
use Rattle.definition.specs.Tag.{tag_function_const}
use Rattle.definition.specs.Bytecode.{Code, Const, Image}
use Rattle.definition.specs.Decode.{read_instr, read_const, read_image}
use Rattle.definition.specs.declared.reason.Refusal.{Refusal}
use Rattle.std.specs.Prelude.{Ok, Err, Result}
use Rattle.opcode.specs.Decoding.{read_before, decode_answer, found as instruction_found}
use Rattle.opcode.specs.declared.Instruction.{Instruction}
use Rattle.opcode.specs.declared.Decoded.{Decoded as ReadInstruction}
use Rattle.listing.specs.Reads.{CodeAt, CodeIn, PoolAt, ImageAt}
use Rattle.bytecode.specs.declared.span.Span.{Span}
use Rattle.bytecode.specs.declared.span.Parts.{Parts}
use Rattle.bytecode.specs.Parts.{Divides}
use Rattle.listing.proofs.Images.{image_short, code_in, pool_in}
use Rattle.listing.proofs.Items.{Reading, begins, ends, Next, next}
use Rattle.listing.proofs.Lines.{whole-read}
use Rattle.heights.specs.Judgement.{instructions, counted}
use Rattle.heights.specs.Chunks.{Standing}
use Rattle.heights.specs.Proposal.{Proposed, FlowSpot, FlowReady, ConstantFlow, PoolFlow, proposal_answer, proposal_size}
use Rattle.opcode.proofs.Decoding.{before_within, answered, unanswered}
use Rattle.heights.proofs.Whole.{code_short}
use Rattle.heights.proofs.Judges.{IsCode, standing_head, no_instructions, chunk, Turn}

-- what stays from an index on stays from a later one on
pub stays_later : (o o₀ : List ℕ) (i j : ℕ) → i ≤ j → drop i o ≡ drop i o₀ → drop j o ≡ drop j o₀
stays_later o o₀ i j h e =
    let n : i + (j - i) ≡ j = omega arith in
    ap (λ k. drop k o) (sym n) ∙ sym (drop-drop (j - i) i o) ∙ ap (drop (j - i)) e ∙ drop-drop (j - i) i o₀ ∙ ap (λ k. drop k o₀) n

-- The instructions of a chunk

module _ (b : Bytes) (start end first : ℕ) where
  -- at an offset, behind so many instructions
  pub record FlowLoop (o₀ l₀ o l : List ℕ) (at k : ℕ) : Type 0 where
    pub code : Code
    pub reading : Reading (read_instr (byte_at b)) end (end - start) start code at
    pub from : start ≤ at
    pub order : at ≤ end
    pub few : k ≤ at
    pub many : k ≡ first + length code
    pub rest : drop k o ≡ drop k o₀
    pub same_heights : length o ≡ length o₀
    pub same_marks : length l ≡ length l₀

  module _ {l₀ : List ℕ} (h : FlowReady l₀ b start end first) where
    pub flow_begins : (o l : List ℕ) → FlowLoop o l o l start first
    flow_begins o l =
        record {
          code = [];
          reading = begins (read_instr (byte_at b)) end (end - start) start;
          from = omega arith;
          order = h.code.is.order;
          few = h.few;
          many = omega arith;
          rest = refl;
          same_heights = refl;
          same_marks = refl;
        }

    module _ {o₀ l₁ o l : List ℕ} {at k : ℕ} (p : FlowLoop o₀ l₁ o l at k) where
      pub flow_ends : end ≤ at → (c : Code) → CodeAt b start end c → Proposed (first + length c) end o₀ k o
      flow_ends g c a =
          let e : at ≡ end = omega (arith, p.order) in
          let q = ends (read_instr (byte_at b)) end (end - start) start p.reading a.reads e in
          record { many = p.many ∙ ap (λ c. first + length c) q; few = omega (arith, p.few); rest = p.rest }

      module _ (before : at < end) {r : Result ReadInstruction Refusal} (t₀ : r ≡ decode_answer (read_before b at end)) where
        e : r ≡ decode_answer (read_instr (byte_at b) at end)
        e = t₀ ∙ ap decode_answer (before_within b at end h.code.is.within)

        found : Next (read_instr (byte_at b)) end (end - start) start p.reading h.code.is.reads
        found = next (read_instr (byte_at b)) end (end - start) start p.reading h.code.is.reads (λ i. omega arith)

        pub flow_decodes : {q : Refusal} → r ≡ Err q → ⊥
        flow_decodes t = unanswered e found.found t

        module _ {i : Instruction} {after : ℕ} (t : r ≡ instruction_found i after) where
          pub flow_spot : length l₁ ≡ length l₀ → FlowSpot l start end at after
          flow_spot n =
              let w = whole-read (byte_at b) end at found.x found.next found.found in
              let a = answered e found.found t in
              record {
                from = omega (arith, p.from);
                behind = omega (arith, w.after, a.1);
                within = omega (arith, w.within, a.1);
                room = omega (arith, p.same_marks, h.room);
              }

          pub flow_again : length l₁ ≡ length l₀ → {o₁ l₂ : List ℕ} → drop (k + 1) o₁ ≡ drop (k + 1) o → length o₁ ≡ length o → length l₂ ≡ length l → FlowLoop o₀ l₁ o₁ l₂ after (k + 1)
          flow_again n d f g =
              let a = answered e found.found t in
              let s = flow_spot n in
              record {
                code = found.x ∷ p.code;
                reading = subst (λ n. Reading (read_instr (byte_at b)) end (end - start) start (found.x ∷ p.code) n) (sym a.1) found.reading;
                from = omega (arith, p.from, s.behind);
                order = s.within;
                few = omega (arith, p.few, s.behind);
                many = omega (arith, p.many);
                rest = d ∙ stays_later o o₀ k (k + 1) (omega arith) p.rest;
                same_heights = f ∙ p.same_heights;
                same_marks = g ∙ p.same_marks;
              }

-- The constants of a pool

module _ (b : Bytes) (start end first : ℕ) where
  pub record PoolLoop (o₀ l₀ o l : List ℕ) (at k : ℕ) : Type 0 where
    pub pool : List Const
    pub reading : Reading (read_const (byte_at b)) end constants_limit start pool at
    pub order : at ≤ end
    pub few : k ≤ at
    pub many : (m : Image) → counted m [] ≡ first → k ≡ counted m pool
    pub rest : drop k o ≡ drop k o₀
    pub same_heights : length o ≡ length o₀
    pub same_marks : length l ≡ length l₀

  module _ {l₀ : List ℕ} (h : PoolFlow l₀ b start end first) where
    pub pool-begins : (o : List ℕ) → PoolLoop o l₀ o l₀ start first
    pool-begins o =
        record {
          pool = [];
          reading = begins (read_const (byte_at b)) end constants_limit start;
          order = h.pool.is.order;
          few = h.few;
          many = λ m e. sym e;
          rest = refl;
          same_heights = refl;
          same_marks = refl;
        }

    module _ {o₀ o l : List ℕ} {at k : ℕ} (p : PoolLoop o₀ l₀ o l at k) where
      pub pool_ends : end ≤ at → (cs : List Const) → PoolAt b start end cs → (m : Image) → counted m [] ≡ first → Proposed (counted m cs) end o₀ k o
      pool_ends g cs a m q =
          let e : at ≡ end = omega (arith, p.order) in
          let same = ends (read_const (byte_at b)) end constants_limit start p.reading a.reads e in
          record { many = p.many m q ∙ ap (counted m) same; few = omega (arith, p.few); rest = p.rest }

      module _ {after : ℕ} (t : Turn b start end at p.pool after) where
        pub pool_constant : ConstantFlow l b at after k
        pool_constant =
            record {
              stands = record { constant = t.x; is = t.standing };
              room = omega (arith, t.within, h.room, p.same_marks);
              short = omega (arith, t.within, h.short);
              few = p.few;
            }

        pub pool_again : {o₁ l₁ : List ℕ} {r : ℕ} → Proposed (k + instructions t.x) after o r o₁ → length o₁ ≡ length o → length l₁ ≡ length l → PoolLoop o₀ l₀ o₁ l₁ after r
        pool_again {r = r} q f g =
            record {
              pool = t.x ∷ p.pool;
              reading = t.reading;
              order = t.within;
              few = q.few;
              many = λ m e. q.many ∙ ap (λ n. n + instructions t.x) (p.many m e);
              rest = q.rest ∙ stays_later o o₀ k r (omega (arith, q.many)) p.rest;
              same_heights = f ∙ p.same_heights;
              same_marks = g ∙ p.same_marks;
            }

-- A constant

module _ (b : Bytes) {l : List ℕ} {at next first : ℕ} (h : ConstantFlow l b at next first) where
  -- one that is no function has no instruction
  pub no_flow : (byte_at b at ≡ tag_function_const → ⊥) → (o : List ℕ) (x : Const) → Standing b at next x → Proposed (first + instructions x) next o first o
  no_flow n o x s =
      let z = no_instructions b s n in
      record { many = omega arith; few = omega (arith, h.few, standing_head b s); rest = refl }

-- a function's chunk
module _ {s k : Span} (f : IsCode s k) (first : ℕ) where
  pub chunk_flow : {l : List ℕ} → ConstantFlow l s.bytes.now s.start s.end first → FlowReady l k.bytes.now k.start k.end first
  chunk_flow {l} h =
      let c = chunk s.bytes.now h.stands.is f.tag in
      subst (λ k. FlowReady l k.bytes.now k.start k.end first) (sym f.is) (record { code = record { code = c.code; is = c.stands }; room = h.room; short = h.short; few = omega (arith, h.few) })

  pub chunk_proposed : {o o₁ : List ℕ} {r : ℕ} → ((c : Code) → CodeIn k c → Proposed (first + length c) k.end o r o₁) → (x : Const) → Standing s.bytes.now s.start s.end x → Proposed (first + instructions x) s.end o r o₁
  chunk_proposed {o} {o₁} {r} p x h =
      let c = chunk s.bytes.now h f.tag in
      let p = subst (λ k. CodeIn k c.code → Proposed (first + length c.code) k.end o r o₁) f.is (p c.code) in
      subst (λ x. Proposed (first + instructions x) s.end o r o₁) c.is (p c.stands)

-- An image

-- main's instructions are among all
main_counted : (m : Image) (cs : List Const) → length m.code ≤ counted m cs
main_counted m [] = omega arith
main_counted m (x ∷ cs) = let h = main_counted m cs in omega arith

module _ (b : Bytes) {m : Image} (i : ImageAt b m) {p : Parts} (d : Divides b p) where
  pub main_flow : (n : ℕ) → 65536 ≤ n → {l : List ℕ} {count : ℕ} → l ≡ replicate n 0 → count ≡ 0 → FlowReady l p.code.bytes.now p.code.start p.code.end count
  main_flow n h q z =
      let s = code_short b i d in
      record {
        code = record { code = m.code; is = code_in b i d };
        room = omega (arith, ap length q, length-replicate {A = ℕ} n 0);
        short = omega arith;
        few = omega arith;
      }

  pub pool_flow : (l : List ℕ) → 65536 ≤ length l → {n r : ℕ} {o o₁ : List ℕ} → Proposed n p.code.end o r o₁ → PoolFlow l p.pool.bytes.now p.pool.start p.pool.end r
  pool_flow l h q =
      let s = image_short b i in
      record {
        pool = record { pool = m.pool; is = pool_in b i d };
        room = omega (arith, d.last);
        short = omega (arith, d.last);
        few = omega (arith, d.behind, d.next, q.few);
      }

  -- main, then the pool
  pub image_proposed : {end r₁ r₂ : ℕ} {o o₁ o₂ : List ℕ} → Proposed (0 + length m.code) end o r₁ o₁ → Proposed (counted m m.pool) p.pool.end o₁ r₂ o₂ → Proposed (counted m m.pool) (length b) o r₂ o₂
  image_proposed {r₁ = r₁} {r₂} {o} {o₁} f q =
      let h = main_counted m m.pool in
      record { many = q.many; few = omega (arith, q.few, d.last); rest = q.rest ∙ stays_later o₁ o r₁ r₂ (omega (arith, f.many, q.many)) f.rest }

-- The answer

module _ (b : Bytes) {m : Image} (i : ImageAt b m) {count : ℕ} (c : count ≡ counted m m.pool) (room : ℕ) where
  by_test : {t : Bool} → leb (counted m m.pool) room ≡ t
      → (proposal_answer (read_image b) room ≡ pick t (Ok (counted m m.pool)) (Err (refusal output_short 0))) × (proposal_size (read_image b) room ≡ pick t (counted m m.pool) 0)
  by_test e = (
    ap (λ d. proposal_answer d room) i.reads ∙ ap (λ t. pick t (Ok (counted m m.pool)) (Err (refusal output_short 0))) e,
    ap (λ d. proposal_size d room) i.reads ∙ ap (λ t. pick t (counted m m.pool) 0) e,
  )

  -- no room
  pub proposal_long : room < count → (Err (refusal output_short 0) ≡ proposal_answer (read_image b) room) × (proposal_size (read_image b) room ≡ 0)
  proposal_long h = let t = by_test (lt-leb (counted m m.pool) room (omega arith)) in (sym t.0, t.1)

  -- room for all
  pub proposal_fits : count ≤ room → (Ok count ≡ proposal_answer (read_image b) room) × (proposal_size (read_image b) room ≡ count)
  proposal_fits h = let t = by_test (le-leb (counted m m.pool) room (omega arith)) in (ap Ok c ∙ sym t.0, t.1 ∙ sym c)

-- the loops at the same offset, after as many
pub flow_at : {b : Bytes} {start end first : ℕ} {o₀ l₀ o l : List ℕ} {at at₁ k k₁ : ℕ} → FlowLoop b start end first o₀ l₀ o l at k → at ≡ at₁ → k ≡ k₁ → FlowLoop b start end first o₀ l₀ o l at₁ k₁
flow_at {b} {start} {end} {first} {o₀} {l₀} {o} {l} p e f = subst₂ (FlowLoop b start end first o₀ l₀ o l) e f p

pub pool_at : {b : Bytes} {start end first : ℕ} {o₀ l₀ o l : List ℕ} {at at₁ k : ℕ} → PoolLoop b start end first o₀ l₀ o l at k → at ≡ at₁ → PoolLoop b start end first o₀ l₀ o l at₁ k
pool_at {b} {start} {end} {first} {o₀} {l₀} {o} {l} {k = k} p e = subst (λ at. PoolLoop b start end first o₀ l₀ o l at k) e p
