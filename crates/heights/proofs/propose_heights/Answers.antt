-- `heights::propose_heights` meets its contract: the check, how many there are, then the list.
use native.Mathlib.Omega.{arith}
use mathlib.Core.Path.{◌∙◌, ap, sym}
use lib.ListN.{length, drop}
use Rattle.definition.specs.Decode.{read_image}
use Rattle.listing.proofs.Images.{is_sound}
use Rattle.heights.specs.Proposal.{proposal_size}
use Rattle.heights.proofs.Answers.{empty-part, sound}
use Rattle.heights.proofs.Flows.{proposal_long, proposal_fits}
use Rattle.heights.proofs.propose_heights.Goals as goal

pub invariant_of-image : goal.invariant_of-image
invariant_of-image c = record { sound = is_sound c.args.image.now (sound c.args.image.now c.check_image.ensures c.in_ok-check_image.was).is }

pub returns-then-heights-count : goal.returns-then-heights-count
returns-then-heights-count c =
    let a = c.args in
    let h = sound c.args.image.now c.check_image.ensures c.in_ok-check_image.was in
    let j = c.propose-count in
    let e = (empty-part c.propose-count.new.heights c.args.heights.now c.propose-count.auto.heights) in
    let k = proposal_long a.image.now h.is (j.ensures h.image h.is).many (length a.heights.now) (omega (arith, c.if-heights-count.true, ap length e)) in
    record {
      answer = c.refused.ensures ∙ k.0;
      stays = ap (drop (proposal_size (read_image a.image.now) (length a.heights.now))) e;
    }

pub returns : goal.returns
returns c =
    let a = c.args in
    let h = sound c.args.image.now c.check_image.ensures c.in_ok-check_image.was in
    let j = c.propose-count in
    let g = c.propose in
    let e = (empty-part c.propose-count.new.heights c.args.heights.now c.propose-count.auto.heights) in
    let p = g.ensures h.image h.is in
    let q = j.ensures h.image h.is in
    let k = proposal_fits a.image.now h.is q.many (length a.heights.now) (omega (arith, c.if-heights-count.false, ap length e)) in
    let z = k.1 ∙ q.many ∙ sym p.many in
    record {
      answer = k.0;
      stays = ap (λ n. drop n g.new.heights) z ∙ p.rest ∙ ap (drop g.result) e ∙ sym (ap (λ n. drop n a.heights.now) z);
    }
