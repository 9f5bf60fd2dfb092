-- What checking and proposing heights answer is within bounds.
use Prim.Native.Nat.{ℕ, suc, ◌+◌, ◌≤◌}
use native.Mathlib.Omega.{arith}
use mathlib.Core.List.{List, [], ◌∷◌}
use mathlib.Core.Path.{◌≡◌, refl}
use lib.ListN.{length, length-append}
use lib.Dec.{leb}
use Rattle.definition.specs.Basic.{Bytes}
use Rattle.definition.specs.Limit.{code_size, pool_limit, constants_limit, image_limit}
use Rattle.definition.specs.Number.{refusal, bad_image, output_short, list_numbers, bad_heights, numbers_of}
use Rattle.definition.specs.Bytecode.{Const, Image, pool_size, size_of}
use Rattle.definition.specs.Decode.{Decoded, decoded, malformed, read_image}
use Rattle.definition.specs.Valid.{AreBytes, ValidImage}
use Rattle.definition.proofs.Basic.{chosen}
use Rattle.definition.proofs.Places.{Within, nowhere}
use Rattle.definition.proofs.ImagePlaces.{image-place}
use Rattle.definition.proofs.Images.{write-image}
use Rattle.definition.proofs.Instructions.{code-length, code-count}
use Rattle.heights.specs.Judgement.{counted, Tops}
use Rattle.heights.specs.Pass.{Verdict, verdict_answer, heights_answer}
use Rattle.heights.specs.Proposal.{proposal_answer}
use Rattle.heights.proofs.Verdicts.{Right, judged_right, within}

-- the numbers of the check
abbrev pub heights_numbers : List ℕ
heights_numbers = numbers_of (bad_image ∷ bad_heights ∷ output_short ∷ [])

-- at most one greatest height a constant, and main's
tops_count : {m : Image} {cs : List Const} {ns : List ℕ} → Tops m cs ns → length ns ≤ suc (length cs)
tops_count (Tops.main g) = omega arith
tops_count (Tops.integer t) = let h = tops_count t in omega arith
tops_count (Tops.string t) = let h = tops_count t in omega arith
tops_count (Tops.function {n = n} {ns = ns} t g) = let h = tops_count t in omega (arith, length-append ns (n ∷ []))

-- as many greatest heights as an image has chunks at most, or a refusal at a chunk's place or within the longest image
pub heights_within : (b : Bytes) → AreBytes b → (hs : List ℕ) (room : ℕ) → Within (suc constants_limit) heights_numbers image_limit (heights_answer (read_image b) hs room)
heights_within b a hs room = go (read_image b) refl
  where
    by : {m : Image} → ValidImage m → {v : Verdict} → Right hs m m.pool v → Within (suc constants_limit) heights_numbers image_limit (verdict_answer v room)
    by v (Right.tops {ns = ns} p t) =
        let h = tops_count t in
        chosen (Within (suc constants_limit) heights_numbers image_limit) (leb (length ns) room) (λ _. Within.wrote (omega (arith, v.pool.count))) (λ _. nowhere tt)
    by v (Right.fails {at} f) = let h = within f.chunk in Within.refused {r = refusal bad_heights at} (record { number = tt; place = omega (arith, v.pool.count) })

    go : (d : Decoded Image) → read_image b ≡ d → Within (suc constants_limit) heights_numbers image_limit (heights_answer d hs room)
    go (decoded m n) e = by (write-image b a e).sound (judged_right hs m m.pool)
    go (malformed p) e = Within.refused {r = refusal bad_image p} (record { number = tt; place = image-place b p e })

-- each instruction has a byte
counted-size : (m : Image) (cs : List Const) → counted m cs ≤ size_of m.code + pool_size cs
counted-size m [] = omega (arith, code-count m.code)
counted-size m (Const.integer b ∷ cs) = let h = counted-size m cs in omega arith
counted-size m (Const.string b ∷ cs) = let h = counted-size m cs in omega arith
counted-size m (Const.function l p c ∷ cs) = let h = counted-size m cs in omega (arith, code-count c, code-length c)

-- no more heights than code and pool have bytes at most, or a refusal
pub proposal_within : (b : Bytes) → AreBytes b → (room : ℕ) → Within (code_size + pool_limit) list_numbers image_limit (proposal_answer (read_image b) room)
proposal_within b a room = go (read_image b) refl
  where
    go : (d : Decoded Image) → read_image b ≡ d → Within (code_size + pool_limit) list_numbers image_limit (proposal_answer d room)
    go (decoded m n) e =
        let v = (write-image b a e).sound in
        let h = counted-size m m.pool in
        chosen (Within (code_size + pool_limit) list_numbers image_limit) (leb (counted m m.pool) room) (λ _. Within.wrote (omega (arith, v.size, v.pool.size))) (λ _. nowhere tt)
    go (malformed p) e = Within.refused {r = refusal bad_image p} (record { number = tt; place = image-place b p e })
