-- Records as rows of numbers: those of a log have 32 bits, and filled one after the other they stand in walk order at the front.
use Prim.Native.Nat.{ℕ, zero, suc, ◌+◌, ◌*◌, ◌%◌, ◌≤◌, ◌<◌}
use native.Mathlib.Omega.{arith}
use mathlib.Core.Bool.{Bool, true, false}
use mathlib.Core.List.{List, [], ◌∷◌, ◌++◌, reverse, reverse-cons, append_assoc}
use mathlib.Core.Path.{◌≡◌, refl, sym, ap, subst, ◌∙◌}
use native.Mathlib.Nat.{not-suc-le-zero}
use lib.ListN.{length, set, drop, length-append, length-drop, length-reverse, length-set}
use lib.Dec.{ltb}
use Rattle.std.proofs.lemmas.List.{set_comm}
use lib.Seq.{sets, length-sets, drop-drop}
use Rattle.definition.specs.Basic.{Bytes, pick, byte_at}
use Rattle.definition.specs.Valid.{AreBytes}
use Rattle.definition.specs.SymbolTable.{Symbol}
use Rattle.symbol_table.specs.Layout.{symbol_of}
use Rattle.refinement.proofs.Stores.{sets_behind}
use Rattle.records.specs.Records.{index_of}
use Rattle.records.specs.Call.{over_records}
use Rattle.records.specs.declared.Record.{Record}
use Rattle.trace.specs.Log.{record_at, log_of}
use Rattle.trace.proofs.Ahead.{log_length}
use Rattle.names.specs.Rows.{row_of, rows_of, alone, filled_over, filled, filled_records, Small}

-- an index is within its symbol's code
picked_within : (c : ℕ) (t : Bool) (x y : Symbol) → index_of x ≤ c → index_of y ≤ c → index_of (pick t x y) ≤ c
picked_within c true x y p q = p
picked_within c false x y p q = q

index_within : (c : ℕ) → index_of (symbol_of c) ≤ c
unfolding symbol_of
index_within c =
    picked_within c (ltb c 256) Symbol.function _ (omega arith)
    (picked_within c (ltb c 512) (Symbol.local _) _ (omega arith)
    (picked_within c (ltb c 768) (Symbol.free _) _ (omega arith)
    (picked_within c (ltb c 1024) (Symbol.builtin _) (Symbol.global _) (omega arith) (omega arith))))

-- a log's records have 32 bits
pub record_small : (l : Bytes) (k : ℕ) → AreBytes l → Small (record_at l k)
unfolding record_at
record_small l k bytes =
    let a : byte_at l (4 * k) < 256 = bytes.below (4 * k) in
    let b : byte_at l (4 * k + 1) < 256 = bytes.below (4 * k + 1) in
    let c : byte_at l (4 * k + 2) < 256 = bytes.below (4 * k + 2) in
    let d : byte_at l (4 * k + 3) < 256 = bytes.below (4 * k + 3) in
    let code : ℕ = byte_at l (4 * k + 2) % 8 * 256 + byte_at l (4 * k + 3) in
    record { offset = omega arith; index = omega (arith, index_within (byte_at l (4 * k + 2) % 8 * 256 + byte_at l (4 * k + 3))); crossed = omega arith }

length-rows : (rs : List Record) → length (rows_of rs) ≡ 4 * length rs
unfolding rows_of
length-rows [] = refl
length-rows (r ∷ rs) = omega (arith, length-rows rs)

-- the rows of one more record
rows_append : (rs us : List Record) → rows_of (rs ++ us) ≡ rows_of rs ++ rows_of us
unfolding rows_of
rows_append [] us = refl
rows_append (r ∷ rs) us = ap (λ xs. row_of r ++ xs) (rows_append rs us)

one_more : (r : Record) (rs : List Record) → rows_of (reverse (r ∷ rs)) ≡ rows_of (reverse rs) ++ row_of r
unfolding rows_of
one_more r rs = ap rows_of (reverse-cons r rs) ∙ rows_append (reverse rs) (r ∷ [])

-- what is filled: the log's records in walk order, and the rest
pub filled-rows : (l : Bytes) (n : ℕ) (xs : List ℕ) → 4 * n ≤ length xs → filled l n xs ≡ rows_of (reverse (log_of l n)) ++ drop (4 * n) xs
unfolding filled_over log_of rows_of
filled-rows l zero xs h = refl
filled-rows l (suc n) xs h =
    let r : Record = record_at l n in
    let front : List ℕ = rows_of (reverse (log_of l n)) in
    let size : length (rows_of (reverse (log_of l n))) ≡ 4 * n = length-rows (reverse (log_of l n)) ∙ ap (λ k. 4 * k) (length-reverse (log_of l n) ∙ log_length l n) in
    let some : 4 ≤ length (drop (4 * n) xs) = omega (arith, length-drop (4 * n) xs) in
    let next : 4 * n + 4 ≡ 4 * suc n = omega arith in
    ap (λ ys. sets ys (4 * n) (row_of r)) (filled-rows l n xs (omega arith))
    ∙ sets_behind front (row_of r) (drop (4 * n) xs) (4 * n) size some
    ∙ ap (λ ys. front ++ (row_of r ++ ys)) (drop-drop 4 (4 * n) xs ∙ ap (λ k. drop k xs) next)
    ∙ sym (append_assoc front (row_of r) (drop (4 * suc n) xs))
    ∙ ap (λ ys. ys ++ drop (4 * suc n) xs) (sym (one_more r (log_of l n)))

-- a turn of the loop that fills: k records are done
pub record Turn {A : Type 0} (w : ℕ) (f : Record → List A) (xs₀ : List A) (l : Bytes) (n : ℕ) (xs : List A) (k : ℕ) : Type 0 where
  pub bytes : AreBytes l
  pub room : w * n ≤ length xs₀
  pub log : 4 * n ≤ length l
  pub most : k ≤ n
  pub done : xs ≡ filled_over w f l k xs₀
  pub long : length xs ≡ length xs₀

module _ {A : Type 0} (w : ℕ) (f : Record → List A) where
  pub turn_holds : {xs : List A} {l : Bytes} {n : ℕ} → AreBytes l → w * n ≤ length xs → 4 * n ≤ length l → Turn w f xs l n xs 0
  unfolding filled_over
  turn_holds b r g = record { bytes = b; room = r; log = g; most = omega arith; done = refl; long = refl }

  module _ {xs₀ : List A} {l : Bytes} {n : ℕ} {xs : List A} {k : ℕ} (t : Turn w f xs₀ l n xs k) where
    -- one more record
    pub turn_again : {r : Record} {ys : List A} {v : ℕ} → k < n → v ≡ w → r ≡ record_at l k → ys ≡ sets xs (v * k) (f r) → Turn w f xs₀ l n ys (k + 1)
    unfolding filled_over
    turn_again {r} {ys} {v} h q e s =
        let same : ys ≡ sets (filled_over w f l k xs₀) (w * k) (f (record_at l k)) = s ∙ (λ j. sets (t.done j) (q j * k) (f (e j))) in
        let next : suc k ≡ k + 1 = omega arith in
        record { bytes = t.bytes; room = t.room; log = t.log; most = omega arith; done = same ∙ ap (λ m. filled_over w f l m xs₀) next; long = ap length s ∙ length-sets xs (v * k) (f r) ∙ t.long }

    -- what a turn may write
    pub turn_small : {r : Record} → r ≡ record_at l k → Small r
    turn_small e = subst Small (sym e) (record_small l k t.bytes)

-- one more record to fill: the last one may be written last
filled_set : (l : Bytes) (k : ℕ) (rs : List Record) (j : ℕ) (r : Record) → k ≤ j → filled_records l k (set rs j r) ≡ set (filled_records l k rs) j r
unfolding filled_records
filled_set l zero rs j r h = refl
filled_set l (suc k) rs j r h = ap (filled_records l k) (set_comm rs j k r (record_at l k) (λ e. omega (arith, e))) ∙ filled_set l k (set rs k (record_at l k)) j r (omega arith)

pub filled_more : (l : Bytes) (k : ℕ) (r : Record) (rs us : List Record) → us ≡ filled_records l k rs → r ≡ record_at l k → set us k r ≡ filled_records l (k + 1) rs
unfolding filled_records
filled_more l k r rs us f e =
    let next : suc k ≡ k + 1 = omega arith in
    (λ i. set (f i) k (e i)) ∙ sym (filled_set l k rs k (record_at l k) (omega arith)) ∙ ap (λ m. filled_records l m rs) next

pub filled_none : (l : Bytes) (rs : List Record) → rs ≡ filled_records l 0 rs
unfolding filled_records
filled_none l rs = refl

-- over slots that are records, one record each
pub over_alone : (l : Bytes) (n : ℕ) (rs : List Record) → filled_over 1 alone l n rs ≡ filled_records l n rs
unfolding filled_over
over_alone l zero rs = filled_none l rs
over_alone l (suc k) rs =
    let one : 1 * k ≡ k = omega arith in
    let next : k + 1 ≡ suc k = omega arith in
    ap (λ i. set (filled_over 1 alone l k rs) i (record_at l k)) one ∙ filled_more l k (record_at l k) rs _ (over_alone l k rs) refl ∙ ap (λ m. filled_records l m rs) next

-- what is behind a place that was set
drop-set_here : (n : ℕ) (rs : List Record) (r : Record) → n < length rs → drop n (set rs n r) ≡ r ∷ drop (suc n) rs
drop-set_here n [] r h = absurd (not-suc-le-zero h)
drop-set_here zero (x ∷ rs) r h = refl
drop-set_here (suc n) (x ∷ rs) r h = drop-set_here n rs r (omega arith)

-- what is filled so: the log's records in walk order, and the rest
pub filled-records : (l : Bytes) (n : ℕ) (rs : List Record) → n ≤ length rs → filled_records l n rs ≡ over_records (reverse (log_of l n)) rs
unfolding filled_records log_of
filled-records l zero rs h = refl
filled-records l (suc n) rs h =
    let r : Record = record_at l n in
    let front : List Record = reverse (log_of l n) in
    let size : length (reverse (log_of l n)) ≡ n = length-reverse (log_of l n) ∙ log_length l n in
    let one : length (reverse (log_of l n) ++ (r ∷ [])) ≡ suc n = length-append front (r ∷ []) ∙ omega arith in
    let all : length (reverse (r ∷ log_of l n)) ≡ suc n = ap length (reverse-cons r (log_of l n)) ∙ one in
    filled-records l n (set rs n r) (omega (arith, length-set rs n r))
    ∙ ap (λ k. front ++ drop k (set rs n r)) size
    ∙ ap (λ ys. front ++ ys) (drop-set_here n rs r (omega arith))
    ∙ sym (append_assoc front (r ∷ []) (drop (suc n) rs))
    ∙ (λ i. sym (reverse-cons r (log_of l n)) i ++ drop (sym all i) rs)
