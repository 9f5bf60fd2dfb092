-- Every image whose code is level has a list that offers each instruction that is reached its height.
use Prim.Native.Nat.{ℕ, suc, ◌+◌, ◌≤◌, ◌<◌}
use native.Mathlib.Omega.{arith}
use mathlib.Core.List.{List, [], ◌∷◌, ◌++◌}
use mathlib.Core.Path.{◌≡◌, refl, sym, ap, ◌∙◌}
use lib.ListN.{length, get_or, length-append, get_or-append}
use lib.Seq.{get_or-append_seam}
use Rattle.definition.specs.Opcode.{Instr}
use Rattle.definition.specs.Bytecode.{Code, size_of, Const, Image}
use Rattle.definition.specs.Session.{Session}
use Rattle.definition.specs.Valid.{All}
use Rattle.definition.proofs.Heights.{EdgeHeight, Level}
use Rattle.definition.proofs.Levels.{LevelConst}
use Rattle.definition.proofs.Reached.{LevelImage, reached, heights_count, edge_once, stands_within}
use Rattle.definition.proofs.Reached as Reached
use Rattle.heights.specs.Judgement.{Placed, Reaches, counted, ChunkOf, Offers}
use Rattle.heights.specs.declared.chunk.Kind.{Kind}
use Rattle.heights.proofs.Positions.{placed_stands}

-- the same ways
pub way : {c : Code} {p x : ℕ} → Reaches c p x → Reached.Reaches c p x
way Reaches.start = Reached.Reaches.start
way (Reaches.next r s t e) = Reached.Reaches.next (way r) s t e
way (Reaches.leap r s t e) = Reached.Reaches.leap (way r) s t e

-- One chunk

-- heights that are kept last first, in the order of the code
unfoldable ordered : List ℕ → List ℕ
ordered [] = []
ordered (m ∷ ms) = ordered ms ++ m ∷ []

ordered_length : (ms : List ℕ) → length (ordered ms) ≡ length ms
unfolding ordered
ordered_length [] = refl
ordered_length (m ∷ ms) = let h = ordered_length ms in omega (arith, length-append (ordered ms) (m ∷ []))

-- an index below that of the code's end
placed_below : {i : Instr} {c : Code} {p k : ℕ} → Placed i p k c → k < length c
placed_below Placed.last = omega arith
placed_below (Placed.before b) = let l = placed_below b in omega arith

-- the height at an edge is the one in the list
at_edge : {i : Instr} {c : Code} {ms : List ℕ} {n p k x : ℕ} → Placed i p k c → length ms ≡ length c → EdgeHeight 0 c ms n p x → get_or (ordered ms) k 0 ≡ x
unfolding ordered
at_edge (Placed.last {c}) l (EdgeHeight.end e) = absurd (omega arith)
at_edge (Placed.last {c}) l (EdgeHeight.earlier {ms = ms} {m = m} e) =
    let q : size_of c ≡ 0 + size_of c = omega arith in
    let n : length c ≡ length (ordered ms) = omega (arith, ordered_length ms) in
    ap (λ j. get_or (ordered ms ++ m ∷ []) j 0) n ∙ get_or-append_seam (ordered ms) m [] 0 ∙ sym (edge_once e (EdgeHeight.end q))
at_edge (Placed.before b) l (EdgeHeight.end e) = let w = stands_within (placed_stands b) in absurd (omega arith)
at_edge {k = k} (Placed.before b) l (EdgeHeight.earlier {ms = ms} {m = m} e) =
    get_or-append (ordered ms) (m ∷ []) 0 k (let w = placed_below b in omega (arith, ordered_length ms)) ∙ at_edge b (omega arith) e

module _ {c : Code} {n : ℕ} (l : Level 0 0 c n) where
  chunk_list : List ℕ
  chunk_list = ordered l.heights

  chunk_long : length chunk_list ≡ length c
  unfolding chunk_list
  chunk_long = ordered_length l.heights ∙ heights_count l.steady

  chunk_offered : {i : Instr} {p k x : ℕ} → Placed i p k c → Reaches c p x → get_or chunk_list k 0 ≡ x
  unfolding chunk_list
  chunk_offered b r = at_edge b (heights_count l.steady) (reached l (way r))

-- All chunks

-- a chunk's instructions are among all
chunk-counted : {m : Image} {cs : List Const} {place first : ℕ} {kind : Kind} {c : Code} → ChunkOf m cs place kind first c → first + length c ≤ counted m cs
chunk-counted ChunkOf.main = omega arith
chunk-counted ChunkOf.last = omega arith
chunk-counted (ChunkOf.before h) = let l = chunk-counted h in omega arith

-- a list for main and the constants of a pool
record Offering (m : Image) (cs : List Const) : Type 0 where
  list : List ℕ
  long : length list ≡ counted m cs
  offered : {place first : ℕ} {kind : Kind} {c : Code} {i : Instr} {p k x : ℕ} → ChunkOf m cs place kind first c → Placed i p k c → Reaches c p x → get_or list (first + k) 0 ≡ x

offering : {m : Image} → Level 0 0 m.code 0 → {cs : List Const} → All LevelConst cs → Offering m cs
offering {m} l All.none = record { list = chunk_list l; long = chunk_long l; offered = λ h b r. go h b r }
  where
    go : {place first : ℕ} {kind : Kind} {c : Code} {i : Instr} {p k x : ℕ} → ChunkOf m [] place kind first c → Placed i p k c → Reaches c p x → get_or (chunk_list l) (first + k) 0 ≡ x
    go {k = k} ChunkOf.main b r = let q : 0 + k ≡ k = omega arith in ap (λ j. get_or (chunk_list l) j 0) q ∙ chunk_offered l b r
offering {m} l (All.more {x = Const.integer b} f fs) = let o = offering {m = m} l fs in record { list = o.list; long = omega (arith, o.long); offered = λ h b r. go o h b r }
  where
    go : {d : List ℕ} {cs : List Const} (o : Offering m cs) {place first : ℕ} {kind : Kind} {c : Code} {i : Instr} {p k x : ℕ} → ChunkOf m (Const.integer d ∷ cs) place kind first c → Placed i p k c → Reaches c p x → get_or o.list (first + k) 0 ≡ x
    go o (ChunkOf.before h) b r = o.offered h b r
offering {m} l (All.more {x = Const.string b} f fs) = let o = offering {m = m} l fs in record { list = o.list; long = omega (arith, o.long); offered = λ h b r. go o h b r }
  where
    go : {d : List ℕ} {cs : List Const} (o : Offering m cs) {place first : ℕ} {kind : Kind} {c : Code} {i : Instr} {p k x : ℕ} → ChunkOf m (Const.string d ∷ cs) place kind first c → Placed i p k c → Reaches c p x → get_or o.list (first + k) 0 ≡ x
    go o (ChunkOf.before h) b r = o.offered h b r
offering {m} l (All.more {x = Const.function u v d} f fs) =
    let o = offering {m = m} l fs in
    record { list = o.list ++ chunk_list f.level; long = omega (arith, o.long, chunk_long f.level, length-append o.list (chunk_list f.level)); offered = λ h b r. go o h b r }
  where
    go : {cs : List Const} (o : Offering m cs) {place first : ℕ} {kind : Kind} {c : Code} {i : Instr} {p k x : ℕ} → ChunkOf m (Const.function u v d ∷ cs) place kind first c → Placed i p k c → Reaches c p x
        → get_or (o.list ++ chunk_list f.level) (first + k) 0 ≡ x
    go o {k = k} ChunkOf.last b r = ap (λ n. get_or (o.list ++ chunk_list f.level) (n + k) 0) (sym o.long) ∙ behind o.list (chunk_list f.level) k ∙ chunk_offered f.level b r
      where
        behind : (a b : List ℕ) (k : ℕ) → get_or (a ++ b) (length a + k) 0 ≡ get_or b k 0
        behind [] b k = let q : 0 + k ≡ k = omega arith in ap (λ j. get_or b j 0) q
        behind (x ∷ a) b k = let q : suc (length a) + k ≡ suc (length a + k) = omega arith in ap (λ j. get_or ((x ∷ a) ++ b) j 0) q ∙ behind a b k
    go o {first = first} {k = k} (ChunkOf.before h) b r =
        get_or-append o.list (chunk_list f.level) 0 (first + k) (let w = chunk-counted h in let v = placed_below b in omega (arith, o.long)) ∙ o.offered h b r

-- a level image has such a list
pub some_offers : {m : Image} {z : Session} → LevelImage m z → (hs : List ℕ) × Offers hs m
some_offers {m} l =
    let o = offering {m = m} l.main l.pool in
    (o.list, record { covered = λ h b. let w = chunk-counted h in let v = placed_below b in omega (arith, o.long); offered = λ h b r. o.offered h b r })
