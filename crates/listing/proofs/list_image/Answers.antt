-- `listing::list_image` meets its contract: first the reading that checks and counts, then the text.
use Rattle.std.proofs.Common.{rules, sym}
use Rattle.listing.proofs.Images.{is_sound, sound_image, listing-written}
use Rattle.listing.proofs.list_image.Goals as goal

pub invariant_of-put_listing : goal.invariant_of-put_listing
invariant_of-put_listing c = record { sound = is_sound c.args.image.now (sound_image c.args.image.now c.measure_image.ensures c.in_ok-sound.was).0.is }

pub returns : goal.returns
returns c =
    let h = sound_image c.args.image.now c.measure_image.ensures c.in_ok-sound.was in
    let p = c.put_listing.ensures h.0.image h.0.is h.1 in
    let facts = listing-written c.args.image.now c.args.output.now h.0.is h.2 c.if-output-sound.false p.stored in
    let same = sym p.same in
    record { answers = facts.0; writes = search (rules, facts.1, same) }
