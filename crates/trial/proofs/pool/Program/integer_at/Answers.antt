-- `trial::pool::Program::integer_at` meets its contract: the constant of the index, by its tag.
use Rattle.std.specs.Int.{w64, cast_signed}
use Rattle.definition.specs.Basic.{byte_at}
use Rattle.definition.specs.Field.{bytes}
use Rattle.definition.specs.Text.{number}
use Rattle.std.specs.Prelude.{FitsSigned, Some as some}
use Rattle.std.proofs.lemmas.Int.{to_z-of_z}
use Rattle.std.proofs.Math.Option.{some as found}
use Rattle.std.proofs.Common.{ℕ, ◌<◌, ◌+◌, rules, sym, refl, ap, ◌∙◌, arith}
use lib.ListN.{length, take, drop, length-drop}
use Rattle.definition.proofs.Bytes.{bytes_slice}
use Rattle.listing.proofs.Constants.{rest}
use Rattle.trial.specs.Value.{integer}
use Rattle.trial.specs.Run.{integer_in}
use Rattle.trial.proofs.Words.{cast_law}
use Rattle.trial.proofs.CodeLoop.{sound, pools, pool_ends, whole_pool}
use Rattle.trial.proofs.Constants.{nth_stands, nth_none, there, here, is-integer, no_integer, integer_within}
use Rattle.trial.proofs.pool.Program.integer_at.Goals as goal

pub returns-in_err-bytes : goal.returns-in_err-bytes
returns-in_err-bytes c = λ cs p.
    let h = whole_pool c.args.self p in
    let b = c.args.self.parts.pool.bytes.now in
    let n = c.constants.ensures in
    c.from_residual.ensures ∙ sym (nth_none b c.nth.new.self n.image n.at (n.end ∙ pool_ends c.args.self) h c.in_err-bytes.ensures.ran)

pub bounds-bytes-start : goal.bounds-bytes-start
bounds-bytes-start c =
    let b = c.args.self.parts.pool.bytes.now in
    let n = c.constants.ensures in
    let h = whole_pool c.args.self (pools c.args.self (sound c.args.self).reads) in
    let s = nth_stands b n.image n.at (n.end ∙ pool_ends c.args.self) h c.in_ok-bytes.ensures.ran in
    rw s.bytes s.before

pub returns-then-bytes-start-ne-INTEGER_CONST : goal.returns-then-bytes-start-ne-INTEGER_CONST
returns-then-bytes-start-ne-INTEGER_CONST c = λ cs p.
    let h = whole_pool c.args.self p in
    let a = c.args in
    let b = a.self.parts.pool.bytes.now in
    let n = c.constants.ensures in
    let s = nth_stands b n.image n.at (n.end ∙ pool_ends c.args.self) h c.in_ok-bytes.ensures.ran in
    sym (ap integer_in (here b a.self.parts.pool.start a.k s.loop h s.before refl) ∙ no_integer b (there b a.self.parts.pool.start a.k s.loop h s.before refl).standing (rw s.bytes at c.if-bytes-start-ne-INTEGER_CONST.true))

pub slice_bounds-first_chunk-count : goal.slice_bounds-first_chunk-count
slice_bounds-first_chunk-count c =
    let b = c.args.self.parts.pool.bytes.now in
    let n = c.constants.ensures in
    let h = whole_pool c.args.self (pools c.args.self (sound c.args.self).reads) in
    let s = nth_stands b n.image n.at (n.end ∙ pool_ends c.args.self) h c.in_ok-bytes.ensures.ran in
    omega (arith, ap length s.bytes, integer_within b s h (rw s.bytes at c.if-bytes-start-ne-INTEGER_CONST.false))

pub slice_bounds-first_chunk-start : goal.slice_bounds-first_chunk-start
slice_bounds-first_chunk-start c =
    let b = c.args.self.parts.pool.bytes.now in
    let n = c.constants.ensures in
    let h = whole_pool c.args.self (pools c.args.self (sound c.args.self).reads) in
    let s = nth_stands b n.image n.at (n.end ∙ pool_ends c.args.self) h c.in_ok-bytes.ensures.ran in
    omega (arith, ap length s.bytes, integer_within b s h (rw s.bytes at c.if-bytes-start-ne-INTEGER_CONST.false))

pub unwrap-content-requires : goal.unwrap-content-requires
unwrap-content-requires c =
    let b = c.args.self.parts.pool.bytes.now in
    let n = c.constants.ensures in
    let h = whole_pool c.args.self (pools c.args.self (sound c.args.self).reads) in
    let s = nth_stands b n.image n.at (n.end ∙ pool_ends c.args.self) h c.in_ok-bytes.ensures.ran in
    c.first_chunk.ensures.variant.1 (omega (arith, ap length s.bytes, integer_within b s h (rw s.bytes at c.if-bytes-start-ne-INTEGER_CONST.false), length-drop (c.in_ok-bytes.start + 3) c.in_ok-bytes.bytes.now))

pub returns : goal.returns
returns c = λ cs p.
    let h = whole_pool c.args.self p in
    let a = c.args in
    let b = a.self.parts.pool.bytes.now in
    let n = c.constants.ensures in
    let s = nth_stands b n.image n.at (n.end ∙ pool_ends c.args.self) h c.in_ok-bytes.ensures.ran in
    let i = rw s.bytes at c.if-bytes-start-ne-INTEGER_CONST.false in
    let m = is-integer b (there b a.self.parts.pool.start a.k s.loop h s.before refl).standing i in
    let k = c.in_ok-bytes.field-0.start + 3 in
    let e = (rw c.unwrap-content.ensures at c.first_chunk.ensures.cases).same ∙ ap (take 8) (rest c.in_ok-bytes.field-0.bytes.now k) ∙ ap (λ b. take 8 (drop k b)) s.bytes ∙ sym (bytes_slice b k 8 (omega (arith, integer_within b s h i))) in
    let w : (i : ℕ) → byte_at b i < 256 = search rules in
    let l = cast_law (number 0 (bytes (byte_at b) k 8)) (omega (arith, w k, w (k + 1), w (k + 1 + 1), w (k + 1 + 1 + 1), w (k + 1 + 1 + 1 + 1), w (k + 1 + 1 + 1 + 1 + 1), w (k + 1 + 1 + 1 + 1 + 1 + 1), w (k + 1 + 1 + 1 + 1 + 1 + 1 + 1))) in
    let f : FitsSigned w64 c.integer.result = search rules in
    ap (λ z. some (integer z)) (to_z-of_z w64 c.integer.result f ∙ c.integer.ensures ∙ ap (λ b. cast_signed w64 (number 0 b)) e ∙ l) ∙ sym (ap integer_in (here b a.self.parts.pool.start a.k s.loop h s.before refl ∙ ap found m.1))
