-- What the exported compile call with records promises.
use Rattle.std.specs.Prelude.{ℕ, ◌/◌, ◌%◌, ◌≡◌, List, eqb, Ok, Err}
use Rattle.definition.specs.Basic.{Bytes, pick}
use Rattle.definition.specs.Call.{Lent}
use Rattle.definition.specs.Answer.{Answer}
use Rattle.names.specs.Promise.{call_names}
use Rattle.exported.specs.Packed.{half_bound, of_halves, Packs}
use Rattle.exported.specs.Framed.{quarter_bound, paired, Pairs}

-- the records written and the image's length, as a length
abbrev pub names_answer : Answer → ℕ → Answer
names_answer (Ok n) count = Ok (paired count n)
names_answer (Err r) count = Err r

-- the answer of a number: the image's length where the high half is 0, or a refusal
abbrev pub names_unpacked : ℕ → Answer
names_unpacked r = of_halves (r / half_bound) (pick (eqb (r / half_bound) 0) (r % half_bound % quarter_bound) (r % half_bound))

-- and the count of its records, 0 of a refusal
abbrev pub count_unpacked : ℕ → ℕ
count_unpacked r = pick (eqb (r / half_bound) 0) (r % half_bound / quarter_bound) 0

-- answer, lent memory and numbers are the definition's, the low half of an accepted call's number is count and length, and answer and count are had from the number
pub record NamesPacked (tree : Bytes) (l : Lent) (xs : List ℕ) (r : ℕ) (l' : Lent) (xs' : List ℕ) : Type 0 where
  pub answer : Packs (names_answer (call_names tree l xs).called.answer (call_names tree l xs).count) r
  pub parts : (n : ℕ) → (call_names tree l xs).called.answer ≡ Ok n → Pairs (call_names tree l xs).count n (r % half_bound)
  pub back : names_unpacked r ≡ (call_names tree l xs).called.answer
  pub counted : count_unpacked r ≡ (call_names tree l xs).count
  pub lent : l' ≡ (call_names tree l xs).called.lent
  pub rows : xs' ≡ (call_names tree l xs).rows
