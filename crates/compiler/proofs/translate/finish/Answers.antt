-- `finish` is the definition's end of the walk: the image fits the output, or the session is restored. Assumes nothing.
use Prim.Native.Nat.{◌+◌, ◌-◌}
use mathlib.Core.Path.{refl}
use native.Mathlib.Omega.{arith}
use lib.ListN.{length, take, drop, length-take}
use Rattle.compiler.specs.Translated.{image_length}
use Rattle.compiler.proofs.Defined.{later-names}
use Rattle.compiler.proofs.Accepted.{bounds, words-end, names_room, session_room, accepted, short}
use Rattle.compiler.proofs.translate.finish.Goals as goal

pub returns-then-output-total : goal.returns-then-output-total
returns-then-output-total c p = rw c.refused.ensures (short p c.if-output-total.true c.clear.ensures)

pub append_names-end-requires : goal.append_names-end-requires
append_names-end-requires c =
    let p = c.requires in
    record {
      later_names = later-names p;
      table_in_bounds = omega (arith, names_room p, (bounds p).session);
    }

pub write_back-requires : goal.write_back-requires
write_back-requires c =
    let s = c.args.scope.now.state in
    let used = 6 + s.chunk.len in
    let k = image_length c.args.layout s - used in
    let x = drop used c.write_image.new.output in
    session_room c.requires c.append_names-end.ensures c.append_names-end.auto.session (length (take k x)) (omega (arith, length-take k x))

pub returns : goal.returns
returns c p =
    accepted p c.args.output.now refl c.if-output-total.false c.write_image.ensures c.append_names-end.ensures (c.write_back.ensures p.session.words (words-end p))
