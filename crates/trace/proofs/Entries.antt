-- A record more in the log.
use Prim.Native.Nat.{ℕ, zero, suc, ◌+◌, ◌*◌, ◌/◌, ◌%◌, ◌≤◌, ◌<◌}
use native.Mathlib.Omega.{arith}
use mathlib.Core.List.{[], ◌∷◌}
use mathlib.Core.Path.{◌≡◌, refl, ◌∙◌}
use lib.ListN.{length, set, length-set}
use lib.Seq.{sets, get_or-set_same, get_or-set_other}
use Rattle.definition.specs.Basic.{Bytes, byte_at}
use Rattle.definition.specs.Limit.{tree_limit}
use Rattle.symbol_table.specs.Layout.{symbol_of}
use Rattle.records.specs.Records.{record_of}
use Rattle.trace.specs.Log.{packed_record, record_at, log_of}

-- records are those of their bytes
pub logs_same : (l l' : Bytes) (n : ℕ) → ((i : ℕ) → i < 4 * n → byte_at l' i ≡ byte_at l i) → log_of l' n ≡ log_of l n
unfolding log_of record_at
logs_same l l' zero h = refl
logs_same l l' (suc n) h =
    λ i. packed_record (h (4 * n) (omega arith) i) (h (4 * n + 1) (omega arith) i) (h (4 * n + 2) (omega arith) i) (h (4 * n + 3) (omega arith) i) ∷ logs_same l l' n (λ k b. h k (omega arith)) i

-- four bytes that are written
abbrev pub four : Bytes → ℕ → ℕ → ℕ → ℕ → ℕ → Bytes
four l at a b c d = set (set (set (set l at a) (at + 1) b) (at + 2) c) (at + 3) d

module _ (l : Bytes) (at a b c d : ℕ) (room : at + 4 ≤ length l) where
  pub four_below : (i : ℕ) → i < at → byte_at (four l at a b c d) i ≡ byte_at l i
  four_below i h =
      get_or-set_other (set (set (set l at a) (at + 1) b) (at + 2) c) (at + 3) i d 0 (omega arith)
      ∙ get_or-set_other (set (set l at a) (at + 1) b) (at + 2) i c 0 (omega arith)
      ∙ get_or-set_other (set l at a) (at + 1) i b 0 (omega arith)
      ∙ get_or-set_other l at i a 0 (omega arith)

  pub four_0 : byte_at (four l at a b c d) at ≡ a
  four_0 =
      get_or-set_other (set (set (set l at a) (at + 1) b) (at + 2) c) (at + 3) at d 0 (omega arith)
      ∙ get_or-set_other (set (set l at a) (at + 1) b) (at + 2) at c 0 (omega arith)
      ∙ get_or-set_other (set l at a) (at + 1) at b 0 (omega arith)
      ∙ get_or-set_same l at a 0 (omega arith)

  pub four_1 : byte_at (four l at a b c d) (at + 1) ≡ b
  four_1 =
      get_or-set_other (set (set (set l at a) (at + 1) b) (at + 2) c) (at + 3) (at + 1) d 0 (omega arith)
      ∙ get_or-set_other (set (set l at a) (at + 1) b) (at + 2) (at + 1) c 0 (omega arith)
      ∙ get_or-set_same (set l at a) (at + 1) b 0 (omega (arith, length-set l at a))

  pub four_2 : byte_at (four l at a b c d) (at + 2) ≡ c
  four_2 =
      get_or-set_other (set (set (set l at a) (at + 1) b) (at + 2) c) (at + 3) (at + 2) d 0 (omega arith)
      ∙ get_or-set_same (set (set l at a) (at + 1) b) (at + 2) c 0 (omega (arith, length-set (set l at a) (at + 1) b, length-set l at a))

  pub four_3 : byte_at (four l at a b c d) (at + 3) ≡ d
  four_3 = get_or-set_same (set (set (set l at a) (at + 1) b) (at + 2) c) (at + 3) d 0 (omega (arith, length-set (set (set l at a) (at + 1) b) (at + 2) c, length-set (set l at a) (at + 1) b, length-set l at a))

-- they are bytes stored in a row
pub four_stored : (l : Bytes) (i a b c d : ℕ) → sets l i (a ∷ b ∷ c ∷ d ∷ []) ≡ four l i a b c d
four_stored l i a b c d =
    let one : suc i ≡ i + 1 = omega arith in
    let two : suc (suc i) ≡ i + 2 = omega arith in
    let three : suc (suc (suc i)) ≡ i + 3 = omega arith in
    λ j. set (set (set (set l i a) (one j) b) (two j) c) (three j) d

-- a record more, written so
pub entry-logged : (l : Bytes) (n at code crossed : ℕ) → 4 * n + 4 ≤ length l → at < tree_limit → code < 2048 → crossed < 32
    → log_of (four l (4 * n) (at / 256) (at % 256) (crossed * 8 + code / 256) (code % 256)) (n + 1) ≡ record_of at crossed (symbol_of code) ∷ log_of l n
unfolding log_of record_at
entry-logged l n at code crossed room h k m =
    let l' = four l (4 * n) (at / 256) (at % 256) (crossed * 8 + code / 256) (code % 256) in
    let next : n + 1 ≡ suc n = omega arith in
    let offset : at / 256 * 256 + at % 256 ≡ at = omega arith in
    let far : (crossed * 8 + code / 256) / 8 ≡ crossed = omega arith in
    let symbol : (crossed * 8 + code / 256) % 8 * 256 + code % 256 ≡ code = omega arith in
    let here : record_at l' n ≡ record_of at crossed (symbol_of code) =
    (λ i. packed_record (four_0 l (4 * n) (at / 256) (at % 256) (crossed * 8 + code / 256) (code % 256) room i) (four_1 l (4 * n) (at / 256) (at % 256) (crossed * 8 + code / 256) (code % 256) room i) (four_2 l (4 * n) (at / 256) (at % 256) (crossed * 8 + code / 256) (code % 256) room i) (four_3 l (4 * n) (at / 256) (at % 256) (crossed * 8 + code / 256) (code % 256) room i))
    ∙ (λ i. record_of (offset i) (far i) (symbol_of (symbol i))) in
    rw next (λ i. here i ∷ logs_same l l' n (λ j b. four_below l (4 * n) (at / 256) (at % 256) (crossed * 8 + code / 256) (code % 256) room j b) i)
