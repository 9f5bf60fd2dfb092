-- `listing::text::Writer::put_constant` meets its contract: by its tag.
use mathlib.Core.Path.{ap, ◌∙◌}
use Prim.Native.Nat.{◌+◌}
use lib.ListN.{take, length-drop}
use Rattle.definition.specs.Bytecode.{Const}
use native.Mathlib.Omega.{arith}
use Rattle.std.proofs.Common.{rules}
use Rattle.definition.specs.Listing.{constant_fields}
use Rattle.listing.proofs.Puts.{reworded}
use Rattle.listing.proofs.Constants.{rest, constant_within, integer-length, integer_is, string_is, function_is}
use Rattle.listing.proofs.text.Writer.put_constant.Goals as goal

pub unwrap-requires : goal.unwrap-requires
unwrap-requires c =
    let b = c.args.part.bytes.now in
    let at = c.args.part.start in
    let end = c.args.part.end in
    let i = c.requires.is in
    c.first_chunk.ensures.variant.1 (omega (arith, integer-length b at end i c.in-96.is, constant_within b at end i, i.within, length-drop (at + 3) b))

pub returns-in-96 : goal.returns-in-96
returns-in-96 c = λ x h.
    let p = c.args.part in
    let e = (rw c.unwrap.ensures at c.first_chunk.ensures.cases).same ∙ ap (take 8) (rest p.bytes.now (p.start + 3)) in
    reworded c.put_integer.ensures (ap (λ b. constant_fields (Const.integer b)) e ∙ integer_is p.bytes.now p.start p.end h c.in-96.is h.within)

pub returns-in-97 : goal.returns-in-97
returns-in-97 c = λ x h.
    let p = c.args.part in
    reworded c.put_string.ensures (string_is p.bytes.now p.start p.end h (search rules) c.length_at.ensures.is h.within c.in-97.is)

pub put_function-requires : goal.put_function-requires
put_function-requires c =
    let p = c.args.part in
    let g = function_is p.bytes.now p.start p.end c.requires.is (search rules) c.length_at.ensures.is (search rules) c.requires.is.within in
    record { code = g.code; is = g.stands }

pub returns-in_default : goal.returns-in_default
returns-in_default c = λ x h.
    let p = c.args.part in
    let g = function_is p.bytes.now p.start p.end h (search rules) c.length_at.ensures.is (search rules) h.within in
    reworded (c.put_function.ensures g.code g.stands) (ap constant_fields g.is)
