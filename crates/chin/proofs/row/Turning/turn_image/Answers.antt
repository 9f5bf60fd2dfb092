-- `chin::row::Turning::turn_image` meets its contract: the main tag, main code, then the constants.
use native.Mathlib.Omega.{arith}
use mathlib.Core.Path.{◌∙◌, ap, refl}
use lib.ListN.{set}
use Rattle.definition.proofs.Basic.{passed_on}
use Rattle.bytecode.specs.Form.{tag_main_in}
use Rattle.chin.proofs.Whole.{image_long, main_at, pool_at, main_bad, image-turned}
use Rattle.chin.proofs.row.Turning.turn_image.Goals as goal

pub of-requires : goal.of-requires
of-requires c = let s = c.args.self.now in omega (arith, image_long s.from s.image.now c.requires.is)

pub turn_code-requires : goal.turn_code-requires
turn_code-requires c =
    let s = c.args.self.now in
    let d = c.of.ensures in
    record { code = c.requires.image.code; is = rw (d.first, d.behind) (main_at s.from s.image.now c.requires.is refl) }

pub turn_constants-requires : goal.turn_constants-requires
turn_constants-requires c =
    let s = c.args.self.now in
    let d = c.of.ensures in
    let k = c.turn_code.ensures.lent in
    record { pool = c.requires.image.pool; is = rw (k.from, k.image, d.next, d.last) (pool_at s.from s.image.now c.requires.is refl) }

pub returns-in_err-turn_code : goal.returns-in_err-turn_code
returns-in_err-turn_code c =
    let s = c.args.self.now in
    let b = s.image.now in
    let d = c.of.ensures in
    let turn = c.turn_code.ensures in
    record {
      turns =
          rw (passed_on c.from_residual.ensures.1)
          (λ m is.
          let t = turn.turns m.code (rw (d.first, d.behind) (main_at s.from b is refl)) in
          main_bad s.from b is refl (rw (d.first, d.behind, c.in_err-turn_code.was) at t));
      lent = record { output = turn.lent.output ∙ c.store.auto.output; image = turn.lent.image; from = turn.lent.from; same = turn.lent.same };
    }

pub returns : goal.returns
returns c =
    let s = c.args.self.now in
    let b = s.image.now in
    let o = s.output.now in
    let turn = c.turn_code.ensures in
    let k = turn.lent in
    let constants = c.turn_constants.ensures in
    let put = c.store in
    let d = c.of.ensures in
    record {
      turns =
          λ m is.
          let t = turn.turns m.code (rw (d.first, d.behind) (main_at s.from b is refl)) in
          let u = constants.turns m.pool (rw (k.from, k.image, d.next, d.last) (pool_at s.from b is refl)) in
          image-turned s.from b is refl o (put.ensures ∙ ap (set o 0) (c.tags-tag.ensures.main ∙ ap tag_main_in c.other_form.ensures)) (k.output ∙ put.auto.output)
          (rw (d.first, d.behind, c.in_ok-turn_code.was) at t) (rw (k.from, k.image, d.next, d.last) at u);
      lent =
          record {
            output = constants.lent.output ∙ k.output ∙ put.auto.output;
            image = constants.lent.image ∙ k.image;
            from = constants.lent.from ∙ k.from;
            same = constants.lent.same ∙ k.same;
          };
    }
