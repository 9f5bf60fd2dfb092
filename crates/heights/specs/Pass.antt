-- The same by one forward pass over each chunk, with what arrives at each position; and what the call answers.
use Rattle.std.specs.Prelude.{ℕ, zero, suc, ◌+◌, ◌-◌, Bool, true, List, [], ◌∷◌, ◌++◌, length, get_or, leb, ltb, eqb, Err}
use Rattle.definition.specs.Basic.{pick, both}
use Rattle.definition.specs.Number.{refusal, bad_image, bad_heights}
use Rattle.definition.specs.Opcode.{Instr, size, width}
use Rattle.definition.specs.Bytecode.{Code, size_of, Const, Image}
use Rattle.definition.specs.Decode.{Decoded, decoded, malformed}
use Rattle.definition.specs.Effect.{takes, gives, flow_of, falls, leaps}
use Rattle.definition.specs.Output.{output_answer, output_after}
use Rattle.definition.specs.Answer.{Answer}
use Rattle.heights.specs.Judgement.{counted}
use Rattle.heights.specs.declared.chunk.Kind.{Kind}
use Rattle.heights.specs.declared.chunk.Kind.TheVariants.{Main, Function}

-- what arrives at each position: 0 nothing, 1 no way from the start, h + 2 the height h
abbrev pub Marks : Type 0
Marks = ℕ → ℕ

-- two arrivals do not bring two heights
abbrev pub agree : ℕ → ℕ → Bool
agree a b = pick (leb a 1) true (pick (leb b 1) true (eqb a b))

abbrev pub greater : ℕ → ℕ → ℕ
greater a b = pick (leb a b) b a

-- what arrives behind an instruction, by what arrives at it
abbrev pub behind : Instr → ℕ → ℕ
behind i l = pick (leb l 1) 1 (l + gives i - takes i)

-- x arrives at t
abbrev pub arrived : ℕ → ℕ → Marks → Marks
arrived t x f k = pick (eqb k t) (greater (f t) x) (f k)

-- nothing arrives at the operands behind p
abbrev pub free : Marks → ℕ → ℕ → Bool
free f p zero = true
free f p (suc w) = both (eqb (f (p + suc w)) 0) (free f p w)

-- what arrives has the height offered, and the instruction takes no more
abbrev pub fits : Instr → ℕ → ℕ → Bool
fits i l h = pick (leb l 1) true (both (eqb l (2 + h)) (leb (2 + takes i) l))

-- a jump at p of a chunk of n bytes goes forward, and x agrees with what arrived at its target
abbrev pub leaps_well : ℕ → Marks → ℕ → Instr → ℕ → Bool
leaps_well n f p i x = pick (leaps (flow_of i)) (both (leb (p + size i) i.a) (both (ltb i.a n) (agree (f i.a) x))) true

-- and with what arrived at the next instruction
abbrev pub falls_well : Marks → ℕ → Instr → ℕ → Bool
falls_well f p i x = pick (falls (flow_of i)) (agree (f (p + size i)) x) true

-- x arrives at the target
abbrev pub leapt : Marks → Instr → ℕ → Marks
leapt f i x = pick (leaps (flow_of i)) (arrived i.a x f) f

-- x arrives at the next instruction
abbrev pub fallen : Marks → ℕ → Instr → ℕ → Marks
fallen f p i x = pick (falls (flow_of i)) (arrived (p + size i) x f) f

-- a chunk up to some instruction: what arrives, and the greatest height so far
pub record Passing : Type 0 where
  pub marks : Marks
  pub top : ℕ

pub data Passed : Type 0 where
  passed : Passing → Passed
  failed : Passed

abbrev pub onwards : {A : Type 0} → Passed → A → (Passing → A) → A
onwards (Passed.passed s) a k = k s
onwards Passed.failed a k = a

-- the tests of an instruction at p that is offered h, where x arrives behind it
abbrev pub steps_well : ℕ → Marks → ℕ → ℕ → Instr → ℕ → Bool
steps_well n f p h i x = both (fits i (f p) h) (both (free f p (width i.op)) (both (leaps_well n f p i x) (falls_well (leapt f i x) p i x)))

abbrev pub stepped : ℕ → Instr → Passing → Passing
stepped p i s = record { marks = fallen (leapt s.marks i (behind i (s.marks p))) p i (behind i (s.marks p)); top = greater s.top (s.marks p - 2) }

-- at the start height 0 arrives
abbrev pub starting : Passing
starting = record { marks = λ k. pick (eqb k 0) 2 0; top = 0 }

-- code of a chunk of n bytes, with the heights from an index on
unfoldable pub pass : List ℕ → ℕ → ℕ → Code → Passed
pass hs first n [] = Passed.passed starting
pass hs first n (i ∷ c) =
    onwards (pass hs first n c) Passed.failed (λ s.
    pick (both (ltb (first + length c) (length hs)) (steps_well n s.marks (size_of c) (get_or hs (first + length c) 0) i (behind i (s.marks (size_of c))))) (Passed.passed (stepped (size_of c) i s)) Passed.failed)

-- the most that may arrive at the end
abbrev pub lastly : Kind → ℕ
lastly Main = 2
lastly Function = 1

-- the greatest height of a chunk that passes
pub data Top : Type 0 where
  top : ℕ → Top
  fails : Top

abbrev pub top_of : List ℕ → Kind → ℕ → Code → Top
top_of hs kind first c = onwards (pass hs first (size_of c) c) Top.fails (λ s. pick (leb (s.marks (size_of c)) (lastly kind)) (Top.top s.top) Top.fails)

-- the greatest heights of chunks, or the place of the first that fails
pub data Verdict : Type 0 where
  tops : List ℕ → Verdict
  fails : ℕ → Verdict

abbrev pub also : Top → ℕ → List ℕ → Verdict
also (Top.top n) place ns = Verdict.tops (ns ++ n ∷ [])
also Top.fails place ns = Verdict.fails place

-- a constant behind others
abbrev pub judged_const : List ℕ → Image → List Const → Const → List ℕ → Verdict
judged_const hs m cs (Const.integer b) ns = Verdict.tops ns
judged_const hs m cs (Const.string b) ns = Verdict.tops ns
judged_const hs m cs (Const.function l p c) ns = also (top_of hs Function (counted m cs) c) (suc (length cs)) ns

abbrev pub further : Verdict → (List ℕ → Verdict) → Verdict
further (Verdict.tops ns) k = k ns
further (Verdict.fails place) k = Verdict.fails place

-- main and the constants of a pool, its last first
unfoldable pub judged : List ℕ → Image → List Const → Verdict
judged hs m [] = also (top_of hs Main 0 m.code) 0 []
judged hs m (x ∷ cs) = further (judged hs m cs) (judged_const hs m cs x)

-- the chunk fails, or the list that is answered
abbrev pub verdict_answer : Verdict → ℕ → Answer
verdict_answer (Verdict.tops ns) room = output_answer ns room
verdict_answer (Verdict.fails place) room = Err (refusal bad_heights place)

abbrev pub verdict_into : Verdict → List ℕ → List ℕ
verdict_into (Verdict.tops ns) out = output_after ns out
verdict_into (Verdict.fails place) out = out

-- checking the heights of an image: 17 where it is wrong
abbrev pub heights_answer : Decoded Image → List ℕ → ℕ → Answer
heights_answer (decoded m n) hs room = verdict_answer (judged hs m m.pool) room
heights_answer (malformed p) hs room = Err (refusal bad_image p)

abbrev pub heights_into : Decoded Image → List ℕ → List ℕ → List ℕ
heights_into (decoded m n) hs out = verdict_into (judged hs m m.pool) out
heights_into (malformed p) hs out = out
