-- `put_names` meets its contract: name by name.
use Rattle.text.proofs.Contents.{sees_on}
use Rattle.text.proofs.Larger.{larger_is}
use Rattle.text.proofs.Looping.{names_name, names-comma, names-end}
use Rattle.text.proofs.OverTokens.{given_seen, end_seen}
use Rattle.text.proofs.RowAt.{sees_ahead}
use mathlib.Core.Path.{ap, ◌∙◌}
use Rattle.text.specs.Kind.{number_of}
use Rattle.text.specs.declared.kind.Kind.TheVariants.{Name, Comma}
use Rattle.text.proofs.Numbers.{apart}
use native.Mathlib.Omega.{arith}
use Rattle.text.proofs.part.put_names.Goals as goal

pub put_field-requires : goal.put_field-requires
put_field-requires c =
    let i = c.loop-token.invariant in
    let b = (i.so_far 0).bounds in
    let s = given_seen i.text i.at b.within c.in-Some.ensures.steps in
    (record { order = s.order; within = s.within; string = s.string; integer = s.integer }, omega (arith, b.room, b.within, b.onward, c.requires.room))

pub loop-token-preserved-in-Name : goal.loop-token-preserved-in-Name
loop-token-preserved-in-Name c =
    let i = c.loop-token.invariant in
    let n = c.in-Some.ensures.steps in
    let w = (i.so_far 0).bounds.within in
    let s = given_seen i.text i.at w n in
    let k = ap number_of c.in-Name.is in
    let j = c.joined-names.ensures in
    let p = c.put_field.ensures.part in
    let l = ap (λ p. p.levels) p in
    record {
      text = n.text ∙ i.text;
      at = omega (arith, n.at, ap (λ p. p.at) j, ap (λ p. p.at) p);
      so_far = λ left. names_name (i.so_far left) s k (sees_ahead s w (λ z. omega arith)) c.put_field.ensures j;
      flat = omega (arith, ap (λ p. p.levels) j, (larger_is c.loop-token.names.levels c.put_field.result.levels).least 1 i.flat (omega arith));
    }

pub loop-token-preserved : goal.loop-token-preserved
loop-token-preserved c =
    let i = c.loop-token.invariant in
    let n = c.in-Some.ensures.steps in
    let s = given_seen i.text i.at (i.so_far 0).bounds.within n in
    let m = c.moved_on-names.ensures in
    record {
      text = n.text ∙ i.text;
      at = omega (arith, n.at, ap (λ p. p.at) m);
      so_far = λ left. names-comma (i.so_far left) s (ap number_of c.in-Comma.is) (sees_on s) m;
      flat = omega (arith, ap (λ p. p.levels) m, i.flat);
    }

pub returns-in_default : goal.returns-in_default
returns-in_default c =
    let i = c.loop-token.invariant in
    let s = given_seen i.text i.at (i.so_far 0).bounds.within c.in-Some.ensures.steps in
    record {
      writes = λ left. names-end (i.so_far left) s (apart _ Name c.in_default.not-Name) (apart _ Comma c.in_default.not-Comma) (sees_on s) c.moved_on.ensures;
      flat = omega (arith, ap (λ p. p.levels) c.moved_on.ensures, i.flat);
    }

pub returns-clause-writes : goal.returns-clause-writes
returns-clause-writes c =
    let i = c.loop-token.invariant in
    let s = end_seen i.text i.at (i.so_far 0).bounds.within c.in-None.ensures.steps in
    λ left. names-end (i.so_far left) s (λ e. omega arith) (λ e. omega arith) (sees_on s) (c.moved_on-2.ensures ∙ ap (λ e. record { at = e; to = c.loop-token.names.to; levels = c.loop-token.names.levels; tag = c.loop-token.names.tag }) c.text_end.ensures)
