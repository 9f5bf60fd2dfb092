-- `begin_session` writes the session of a list of words. Assumes nothing.
use Prim.Native.Nat.{◌+◌, ◌-◌}
use native.Mathlib.Omega.{arith}
use mathlib.Core.Path.{◌≡◌, refl, ap}
use lib.ListN.{length}
use lib.Seq.{sets}
use Rattle.definition.specs.Tag.{tag_names}
use Rattle.session.specs.Write.{heading}
use Rattle.session.proofs.Fresh.{begun_session}
use Rattle.session.proofs.words.begin_session.Goals as goal

pub returns : goal.returns
returns c =
    let n = 3 + length c.args.words.now in
    let none : (n + 3) - (n + 3) ≡ 0 = omega arith in
    begun_session c.args.session.now c.args.words.now c.requires.0 c.requires.1 refl c.clear.ensures c.put_field.ensures (ap (λ k. sets c.put_field.new.out n (heading tag_names k)) none) c.finish_session.ensures
