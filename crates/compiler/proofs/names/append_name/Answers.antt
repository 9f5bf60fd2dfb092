-- `append_name` appends a name's field, whether the name is among the session's own or in the tree. Assumes nothing.
use Prim.Native.Nat.{◌+◌, ◌-◌, ◌<◌}
use native.Mathlib.Omega.{arith}
use mathlib.Core.Path.{◌≡◌, sym, ◌∙◌}
use Rattle.compiler.proofs.Appending.{has_old, old_appended, new_appended, copied_within}
use Rattle.compiler.proofs.names.append_name.Goals as goal

pub returns-in-Session : goal.returns-in-Session
returns-in-Session c h =
    let p = rw c.in-Session.is at c.from.ensures in
    let l : c.args.v < 65536 = omega (arith, p.0, p.1) in
    let n = rw (sym p.0) at c.length_at-n.ensures.is in
    let o = has_old c.requires l in
    let same = c.put_head.auto.out in
    old_appended h l n c.put_head.ensures
    (rw (sym p.0) at (c.copy_within.ensures.after ∙ copied_within _ (c.in-Session.own + 3) c.length_at-n.result (c.args.at + 3) (omega (arith, o.before, o.room, n, p.0, same)) (omega (arith, o.room, n, same))))

pub returns-in-Tree : goal.returns-in-Tree
returns-in-Tree c h =
    let p = rw c.in-Tree.is at c.from.ensures in
    let e : c.in-Tree.offset ≡ c.args.v - 65536 = omega (arith, p) in
    new_appended h (omega (arith, p)) (rw e at c.content_at-name.ensures) c.put_field.ensures
