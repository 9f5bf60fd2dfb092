-- A loop over the instructions of main, which stands from 3 on.
use Rattle.std.proofs.Common.{◌≡◌, ℕ, ◌+◌, ◌-◌, ◌<◌, ◌≤◌, List, [], ◌∷◌, length, sym, refl, ap, ◌∙◌, subst, arith}
use Rattle.definition.specs.Basic.{Bytes, byte_at}
use Rattle.definition.specs.Field.{head}
use Rattle.definition.specs.Opcode.{Instr, size}
use Rattle.definition.specs.Bytecode.{Code, size_of, Const, Image}
use Rattle.definition.specs.Decode.{decoded, read_instr}
use Rattle.definition.specs.Trusted.{Stands}
use Rattle.definition.specs.declared.reason.Refusal.{Refusal}
use Rattle.opcode.specs.Decoding.{instr_of, decode_answer, read_before}
use Rattle.opcode.specs.declared.Instruction.{Instruction}
use Rattle.opcode.proofs.EachInstruction.{ReadAt}
use Rattle.bytecode.specs.declared.span.Parts.{Parts}
use Rattle.bytecode.specs.Parts.{Divides}
use Rattle.listing.specs.Reads.{CodeAt, PoolAt, PoolIn, ImageAt}
use Rattle.listing.proofs.Items.{Reading, begins, ends, Next, next, all_read}
use Rattle.listing.proofs.Lines.{whole-read}
use Rattle.listing.proofs.Images.{parts, pool_in, image_short, has_image}
use Rattle.opcode.proofs.Decoding.{before_within, answered, unanswered}
use Rattle.std.specs.Prelude.{Err}
use Rattle.trial.specs.declared.pool.Program.{Program}

-- bytes read as one image
pub one_image : {b : Bytes} {m n : Image} → ImageAt b m → ImageAt b n → m ≡ n
one_image {b} {m} {n} h k = let e : decoded m (length b) ≡ decoded n (length b) = sym h.reads ∙ k.reads in cc

-- main of an image whose main ends at an offset
pub main_code : (b : Bytes) {end : ℕ} {m : Image} → ImageAt b m → end ≡ 3 + (head (byte_at b) 0).len → CodeAt b 3 end m.code
main_code b {end} {m} i e = subst (λ n. CodeAt b 3 n m.code) (sym e) (parts b i refl).code

-- the image that bytes are, in their parts
pub read_in : {b : Bytes} {p : Parts} → Divides b p → {m : Image} → ImageAt b m → ImageAt p.code.bytes.now m
read_in d {m} h = subst (λ b. ImageAt b m) (sym d.main) h

-- a program by its bytes and main's end, with the image that they are
pub record Sound (b : Bytes) (end : ℕ) : Type 0 where
  pub image : Image
  pub reads : ImageAt b image
  pub ends : end ≡ 3 + (head (byte_at b) 0).len
  pub short : length b ≤ 65535

pub sound : (p : Program) → Sound p.parts.code.bytes.now p.parts.code.end
sound p =
    let b = p.parts.code.bytes.now in
    let h = has_image b p.sound in
    record { image = h.image; reads = h.is; ends = p.divides.behind; short = omega (arith, image_short b h.is) }

-- its constants
pub pools : (p : Program) {m : Image} → ImageAt p.parts.code.bytes.now m → PoolIn p.parts.pool m.pool
pools p i = pool_in p.parts.code.bytes.now i p.divides

-- they end with the bytes
pub pool_ends : (p : Program) → p.parts.pool.end ≡ length p.parts.pool.bytes.now
pool_ends p = p.divides.last ∙ ap length (sym p.divides.constants)

pub whole_pool : (p : Program) {cs : List Const} → PoolIn p.parts.pool cs → PoolAt p.parts.pool.bytes.now p.parts.pool.start (length p.parts.pool.bytes.now) cs
whole_pool p {cs} h = subst (λ e. PoolAt p.parts.pool.bytes.now p.parts.pool.start e cs) (pool_ends p) h

module _ (b : Bytes) (end : ℕ) {c : Code} (h : CodeAt b 3 end c) where
  -- behind some instructions, at an offset
  pub record Behind (code : Code) (at : ℕ) : Type 0 where
    pub reading : Reading (read_instr (byte_at b)) end (end - 3) 3 code at
    pub order : at ≤ end
    pub size_is : 3 + size_of code ≡ at

  pub code-begins : Behind [] 3
  code-begins = record { reading = begins (read_instr (byte_at b)) end (end - 3) 3; order = h.order; size_is = omega arith }

module _ {b : Bytes} {end : ℕ} {c : Code} {h : CodeAt b 3 end c} {code : Code} {at : ℕ} (l : Behind b end h code at) where
  -- at the end all were read
  pub code_ends : end ≤ at → code ≡ c
  code_ends g = ends (read_instr (byte_at b)) end (end - 3) 3 l.reading h.reads (omega (arith, l.order))

  module _ (before : at < end) where
    found : Next (read_instr (byte_at b)) end (end - 3) 3 l.reading h.reads
    found = next (read_instr (byte_at b)) end (end - 3) 3 l.reading h.reads (λ i. omega arith)

    pub not_refused : {q : Refusal} → decode_answer (read_before b at end) ≡ Err q → ⊥
    not_refused t = unanswered (ap decode_answer (before_within b at end h.within)) found.found t

  module _ {i : Instruction} {after : ℕ} (r : ReadAt b end at i after) where
    -- the instruction there
    pub record Turn : Type 0 where
      pub known : i.op < 30
      pub sized : after ≡ at + size (instr_of i)
      pub within : after ≤ end
      pub behind : Behind b end h (instr_of i ∷ code) after

    pub turn : Turn
    turn =
        let f = found r.before in
        let w = whole-read (byte_at b) end at f.x f.next f.found in
        let a = answered (ap decode_answer (before_within b at end h.within)) f.found r.read in
        let s : after ≡ at + size (instr_of i) = a.1 ∙ w.after ∙ ap (λ (j : Instr). at + size j) (sym a.0) in
        let g : Reading (read_instr (byte_at b)) end (end - 3) 3 (instr_of i ∷ code) after = subst (λ n. Reading (read_instr (byte_at b)) end (end - 3) 3 (instr_of i ∷ code) n) (sym a.1)
        (subst (λ (j : Instr). Reading (read_instr (byte_at b)) end (end - 3) 3 (j ∷ code) f.next) (sym a.0) f.reading) in
        record {
          known = omega (arith, w.known, ap (λ (j : Instr). j.op) a.0);
          sized = s;
          within = omega (arith, w.within, a.1);
          behind = record { reading = g; order = omega (arith, w.within, a.1); size_is = omega (arith, s, l.size_is) };
        }

    -- what holds behind it, and behind one more, holds of all
    pub rest : (P : Code → Type 0) → ((x : Instr) (xs : Code) → P xs → P (x ∷ xs)) → P (instr_of i ∷ code) → P c
    rest P f p = let g = turn.behind.reading in all_read (read_instr (byte_at b)) end (λ c _. P c) (λ xs _ x _ q _. f x xs q) g.rest (instr_of i ∷ code) after (sym g.same ∙ h.reads) p

    -- it stands in the code
    pub stands : Stands (instr_of i) (size_of code) c
    stands = rest (Stands (instr_of i) (size_of code)) (λ x xs p. Stands.before p) Stands.last
