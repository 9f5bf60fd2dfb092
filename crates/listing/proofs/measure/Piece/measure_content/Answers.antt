-- `listing::measure::Piece::measure_content` meets its contract: by its tag.
use Rattle.std.proofs.Common.{rules}
use mathlib.Core.Path.{ap, ◌∙◌}
use native.Mathlib.Omega.{arith}
use lib.ListN.{length, take, length-drop}
use Rattle.definition.specs.Bytecode.{Const}
use Rattle.definition.specs.Listing.{constant_fields}
use Rattle.definition.specs.Basic.{byte_at}
use Rattle.definition.specs.Field.{bytes}
use Rattle.definition.proofs.Bytes.{length-bytes}
use Rattle.listing.proofs.Constants.{rest}
use Rattle.listing.proofs.Measures.{good, integer_long, integer_good, string_good}
use Rattle.listing.proofs.measure.Piece.measure_content.Goals as goal

pub unwrap-requires : goal.unwrap-requires
unwrap-requires c =
    let a = c.args.self in
    c.first_chunk.ensures.variant.1 (omega (arith, integer_long a.part.span.bytes.now a.part.span.start c.args.head c.requires.1 c.in-96.is, c.requires.0, a.part.within.within, length-drop a.part.span.start a.part.span.bytes.now))

pub returns-in-96-clause-is : goal.returns-in-96-clause-is
returns-in-96-clause-is c =
    let a = c.args.self in
    let e = (rw c.unwrap.ensures at c.first_chunk.ensures.cases).same ∙ ap (take 8) (rest a.part.span.bytes.now a.part.span.start) in
    let t = c.integer_length-text.ensures.is ∙ ap (λ b. length (constant_fields (Const.integer b))) e in
    ap (good _) c.requires.0 ∙ integer_good a.part.span.bytes.now a.part.span.start c.args.head c.requires.1 c.in-96.is (omega (arith, c.requires.0, a.part.within.within)) t

pub returns-in-97-clause-is : goal.returns-in-97-clause-is
returns-in-97-clause-is c =
    let a = c.args.self in
    let b = a.part.span.bytes.now in
    let h = c.args.head in
    let text = c.string_length-text.ensures.is (bytes (byte_at b) a.part.span.start h.len) (length-bytes (byte_at b) a.part.span.start h.len) in
    ap (good _) c.requires.0 ∙ string_good b a.part.span.start h c.requires.1 (search rules) c.in-97.is text
