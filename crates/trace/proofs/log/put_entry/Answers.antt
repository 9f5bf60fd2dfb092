-- `put_entry` meets its contract: four bytes are stored.
use Prim.Native.Nat.{◌+◌, ◌*◌, ◌-◌, ◌/◌, ◌%◌}
use native.Mathlib.Omega.{arith}
use mathlib.Core.List.{[], ◌∷◌}
use mathlib.Core.Path.{◌≡◌, ap, ◌∙◌}
use Rattle.session.proofs.Parts.{part_copied}
use Rattle.trace.specs.Log.{log_of}
use Rattle.trace.proofs.Entries.{four_stored, entry-logged}
use Rattle.trace.proofs.log.put_entry.Goals as goal

pub returns : goal.returns
returns c =
    let a = c.args in
    let r = c.requires in
    let e = a.at * 65536 + a.found.crossed * 2048 + a.found.code in
    let first : e / 16777216 % 256 ≡ a.at / 256 = omega (arith, r.at_lt_tree_limit, r.code_bound, r.crossed_bound) in
    let second : e / 65536 % 256 ≡ a.at % 256 = omega (arith, r.at_lt_tree_limit, r.code_bound, r.crossed_bound) in
    let third : e / 256 % 256 ≡ a.found.crossed * 8 + a.found.code / 256 = omega (arith, r.at_lt_tree_limit, r.code_bound, r.crossed_bound) in
    let fourth : e % 256 ≡ a.found.code % 256 = omega (arith, r.at_lt_tree_limit, r.code_bound, r.crossed_bound) in
    let i = 4 * a.n in
    let stored =
    part_copied a.log.now i (i + 4 - i) (omega (arith, r.n_in_bounds)) (a.at / 256 ∷ a.at % 256 ∷ (a.found.crossed * 8 + a.found.code / 256) ∷ a.found.code % 256 ∷ []) (omega arith)
    (c.copy_from_slice.ensures.after ∙ c.to_be_bytes.ensures ∙ (λ j. first j ∷ second j ∷ third j ∷ fourth j ∷ []))
    ∙ four_stored a.log.now i (a.at / 256) (a.at % 256) (a.found.crossed * 8 + a.found.code / 256) (a.found.code % 256) in
    ap (λ m. log_of m (a.n + 1)) stored ∙ entry-logged a.log.now a.n a.at a.found.code a.found.crossed r.n_in_bounds r.at_lt_tree_limit r.code_bound r.crossed_bound
