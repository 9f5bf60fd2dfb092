-- The first part of what is lent, and the rest of it.
use Prim.Native.Nat.{ℕ, zero, suc, ◌≤◌, ◌<◌}
use native.Mathlib.Omega.{arith}
use mathlib.Core.Bool.{Bool, true, false}
use mathlib.Core.List.{List, [], ◌∷◌, ◌++◌}
use mathlib.Core.Path.{◌≡◌, refl, sym, ap, ◌∙◌}
use lib.ListN.{length, take, drop, replicate}
use lib.Seq.{length-take-le, drop_at}
use lib.Dec.{leb}
use Rattle.std.proofs.lemmas.List.{take-append-drop}
use borrow.Author.Tests.{le-leb, lt-leb}
use Rattle.definition.specs.Basic.{Bytes, both, byte_at}
use Rattle.definition.specs.Limit.{session_size, code_size, table_size}
use Rattle.definition.specs.Number
use Rattle.definition.specs.Number.{refusal}
use Rattle.definition.specs.Compile.{enough}
use Rattle.definition.specs.Call.{Lent, Called, cleared, request}
use Rattle.definition.specs.Valid.{AreBytes}
use Rattle.definition.specs.Answer.{Answer}
use Rattle.std.specs.Prelude.{Err}
use Rattle.definition.proofs.Basic.{both_intro}
use Rattle.compiler.specs.Result.{call_result, whole_of}
use Rattle.compiler.specs.Promise.{Compiles}
use Rattle.compiler.specs.Stage.{lent_of}
use Rattle.compiler.proofs.Whole.{call-whole, call_short}

-- as many elements as were asked for
pub front_length : (n : ℕ) (l : List ℕ) → n ≤ length l → n ≡ length (take n l)
front_length n l h = sym (length-take-le n l h)

-- they come back zeroed
pub front_zeroed : (n : ℕ) (l : List ℕ) {x : List ℕ} → n ≤ length l → x ≡ replicate (length (take n l)) 0 → x ++ drop n l ≡ cleared n l
front_zeroed n l h e = ap (λ x. x ++ drop n l) (e ∙ ap (λ k. replicate k 0) (length-take-le n l h))

-- zeros over what has come back
pub cleared_again : (n : ℕ) (x l : List ℕ) → length x ≡ n → cleared n (x ++ drop n l) ≡ cleared n l
cleared_again n x l e = ap (λ r. replicate n 0 ++ r) (drop_at x (drop n l) n e)

-- what was done on the first parts is the whole result
pub lent-whole : (tree : Bytes) (l : Lent) {e₁ o₁ c₁ : Bytes} {t₁ : List ℕ} {r : Answer} → record { answer = r; session = e₁; output = o₁ } ≡ call_result tree (take session_size l.session) l.output
    → c₁ ≡ replicate code_size 0 → t₁ ≡ replicate table_size 0
    → record { answer = r; lent = lent_of (e₁ ++ drop session_size l.session) o₁ (c₁ ++ drop code_size l.code) (t₁ ++ drop table_size l.table) } ≡ whole_of l (call_result tree (take session_size l.session) l.output)
lent-whole tree l same code table =
    λ i. record { answer = (same i).answer; lent = lent_of ((same i).session ++ drop session_size l.session) (same i).output (code i ++ drop code_size l.code) (table i ++ drop table_size l.table) }

-- the first elements of bytes are bytes
pub front_bytes : (e : Bytes) (n : ℕ) → ((i : ℕ) → byte_at e i < 256) → AreBytes (take n e)
front_bytes e n h = record { below = go e n h }
  where
    go : (e : Bytes) (n : ℕ) → ((i : ℕ) → byte_at e i < 256) → (i : ℕ) → byte_at (take n e) i < 256
    go e zero h i = omega arith
    go [] (suc n) h i = omega arith
    go (x ∷ e) (suc n) h zero = h zero
    go (x ∷ e) (suc n) h (suc i) = go e n (λ j. h (suc j)) i

-- number 1's test: three buffers that are long enough pass it
pub passes_long : (e c : Bytes) (t : List ℕ) → session_size ≤ length e → code_size ≤ length c → table_size ≤ length t → both (leb code_size (length c)) (both (leb table_size (length t)) (leb session_size (length e))) ≡ true
passes_long e c t s k h = both_intro (le-leb code_size (length c) k) (both_intro (le-leb table_size (length t) h) (le-leb session_size (length e) s))

-- a second test that fails
both_no : (a b : Bool) → b ≡ false → both a b ≡ false
both_no true b h = h
both_no false b h = refl

-- and one that is short does not
pub short_session : (e c : Bytes) (t : List ℕ) → length e < session_size → both (leb code_size (length c)) (both (leb table_size (length t)) (leb session_size (length e))) ≡ false
short_session e c t h = both_no (leb code_size (length c)) _ (both_no (leb table_size (length t)) _ (lt-leb session_size (length e) h))

pub short_code : (e c : Bytes) (t : List ℕ) → length c < code_size → both (leb code_size (length c)) (both (leb table_size (length t)) (leb session_size (length e))) ≡ false
short_code e c t h = ap (λ b. both b (both (leb table_size (length t)) (leb session_size (length e)))) (lt-leb code_size (length c) h)

pub short_table : (e c : Bytes) (t : List ℕ) → length t < table_size → both (leb code_size (length c)) (both (leb table_size (length t)) (leb session_size (length e))) ≡ false
short_table e c t h = both_no (leb code_size (length c)) _ (ap (λ b. both b (leb session_size (length e))) (lt-leb table_size (length t) h))

-- past it the whole result keeps the promise
pub promise_kept : (tree : Bytes) (l : Lent) → enough (request l tree) ≡ true → AreBytes (take session_size l.session) → {r : Answer} {l' : Lent}
    → record { answer = r; lent = l' } ≡ whole_of l (call_result tree (take session_size l.session) l.output) → Compiles tree l r l'
promise_kept tree l big a e =
    let same = e ∙ sym (call-whole tree l big a) in
    record { answer = ap (λ (x : Called). x.answer) same; lent = ap (λ (x : Called). x.lent) same }

-- what was cut in two comes back as it was
pub back_whole : (n : ℕ) (l : List ℕ) {x : List ℕ} → x ≡ take n l → x ++ drop n l ≡ l
back_whole n l e = ap (λ x. x ++ drop n l) e ∙ take-append-drop n l

-- and before it the refusal does, with all that is lent as it was
pub promise_short : (tree : Bytes) (l : Lent) {l' : Lent} → enough (request l tree) ≡ false → l' ≡ l → Compiles tree l (Err (refusal Number.short_buffer 0)) l'
promise_short tree l h q =
    let same = sym (call_short tree l h) in
    record { answer = ap (λ (x : Called). x.answer) same; lent = q ∙ ap (λ (x : Called). x.lent) same }
