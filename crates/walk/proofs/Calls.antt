-- Arrays, hashes and calls: expressions in a row, and their number.
use Prim.Native.Nat.{ℕ, ◌+◌, ◌≤◌, ◌<◌}
use mathlib.Core.Bool.{true, false}
use mathlib.Core.Path.{◌≡◌, sym, ap, fun_ext, ◌∙◌}
use lib.Dec.{ltb}
use borrow.Author.Tests.{lt-ltb, le-ltb}
use Rattle.definition.specs.Basic.{Bytes, pick}
use Rattle.definition.specs.Limit.{arguments_limit}
use Rattle.definition.specs.Number
use Rattle.definition.specs.Opcode.{instr, op_array, op_hash, op_call}
use Rattle.definition.specs.Tag.{tag_array, tag_hash}
use Rattle.definition.specs.Syntax.{Exprs, count}
use Rattle.definition.specs.Walk.{refuse, Go, walk_expr, walk_exprs}
use Rattle.field.specs.Layout.{tag, after}
use Rattle.scope.specs.View.{View, then, Done}
use Rattle.scope.specs.Machine.{machine, emit}
use Rattle.scope.specs.Walked.{Walked}
use Rattle.step.specs.Memory.{Rest, Fine, Walks}
use Rattle.step.proofs.Memory.{done_steps}
use Rattle.tree.specs.At.{CallAt}
use Rattle.tree.specs.Reads.{ReadsExpr, ReadsExprs, Counted}
use Rattle.walk.specs.Parts.{walk_list}
use Rattle.walk.proofs.Sequence.{walks_as, walk_walk, walk_done}
use Rattle.walk.proofs.Expressions.{expr_walks}

-- items, then their number
pub list_walks : {tree : Bytes} (at op : ℕ) {end n : ℕ} {c c₁ c₂ : Bytes} {m m₁ : Rest} {w v r : Walked} → end ≡ after tree at → Counted tree (at + 3) end n
    → Walks tree (ReadsExprs tree (at + 3) end) (walk_exprs machine) c c₁ m m₁ w v → Done c₁ c₂ v r (emit at (instr op n 0))
    → Walks tree (ReadsExprs tree (at + 3) (after tree at)) (walk_list at op) c c₂ m m₁ w r
list_walks {tree} at op {end} q n d e =
    walks_as (λ es i. let j : ReadsExprs tree (at + 3) end es = rw q i in (es, j, ap (λ k s. then (walk_exprs machine es s) (emit at (instr op k 0))) (sym (n.exprs es j)))) (walk_done d e)

module _ {tree : Bytes} {at : ℕ} {c c₁ : Bytes} {m m₁ : Rest} {w r : Walked} where
  -- an array
  pub array_walks : tag tree at ≡ tag_array → Walks tree (ReadsExprs tree (at + 3) (after tree at)) (walk_list at op_array) c c₁ m m₁ w r → Walks tree (ReadsExpr tree at) (walk_expr machine) c c₁ m m₁ w r
  unfolding walk_expr
  array_walks h d = expr_walks tag_array h (walks_as (λ e i. (i.items, record { row = i.on-items }, ap (walk_expr machine) i.is)) d)

  -- a hash
  pub hash_walks : tag tree at ≡ tag_hash → Walks tree (ReadsExprs tree (at + 3) (after tree at)) (walk_list at op_hash) c c₁ m m₁ w r → Walks tree (ReadsExpr tree at) (walk_expr machine) c c₁ m m₁ w r
  unfolding walk_expr
  hash_walks h d = expr_walks tag_hash h (walks_as (λ e i. (i.items, record { row = i.on-items }, ap (walk_expr machine) i.is)) d)

-- what comes after the callee of a call: its arguments and Call, unless there are too many
abbrev pub walk_arguments : ℕ → Exprs → Go View
walk_arguments p es s = pick (ltb arguments_limit (count es)) (refuse Number.too_many p s) (then (walk_exprs machine es s) (emit p (instr op_call (count es) 0)))

-- a call: its callee, and that
pub call_walks : {tree : Bytes} {at args end : ℕ} {c c₁ c₂ : Bytes} {m m₁ m₂ : Rest} {w v r : Walked} → args ≡ after tree (at + 3) → end ≡ after tree at
    → Walks tree (ReadsExpr tree (at + 3)) (walk_expr machine) c c₁ m m₁ w v → Walks tree (ReadsExprs tree args end) (walk_arguments at) c₁ c₂ m₁ m₂ v r
    → Walks tree (CallAt tree (ReadsExpr tree) at) (walk_expr machine) c c₂ m m₂ w r
unfolding walk_expr
call_walks {tree} {args = args} {end = end} q z d e =
    walks_as (λ x i. let j : ReadsExprs tree args end i.args = rw (q, z) (record { row = i.on_args }) in ((i.callee, i.args), (i.on_callee, j), ap (walk_expr machine) i.is)) (walk_walk d e)

module _ {tree : Bytes} (at : ℕ) {args end n : ℕ} (k : Counted tree args end n) where
  -- too many arguments
  pub many_walks : {c c₁ : Bytes} {m : Rest} {w r : Walked} → arguments_limit < n → Fine tree m w → Done c c₁ w r (refuse Number.too_many at) → Walks tree (ReadsExprs tree args end) (walk_arguments at) c c₁ m m w r
  many_walks h f d =
      walks_as (λ es i.
      let t : ltb arguments_limit (count es) ≡ true = rw (← k.exprs es i) (lt-ltb arguments_limit n h) in
      let l : walk_arguments at es ≡ refuse Number.too_many at = fun_ext (λ s. simp t) in
      (tt, tt, l)) (done_steps f d)

  -- not too many
  pub few_walks : {c c₁ c₂ : Bytes} {m m₁ : Rest} {w v r : Walked} → n ≤ arguments_limit → Walks tree (ReadsExprs tree args end) (walk_exprs machine) c c₁ m m₁ w v → Done c₁ c₂ v r (emit at (instr op_call n 0))
      → Walks tree (ReadsExprs tree args end) (walk_arguments at) c c₂ m m₁ w r
  few_walks h d e =
      walks_as (λ es i.
      let t : ltb arguments_limit (count es) ≡ false = rw (← k.exprs es i) (le-ltb arguments_limit n h) in
      let l : walk_arguments at es ≡ (λ s. then (walk_exprs machine es s) (emit at (instr op_call (count es) 0))) = fun_ext (λ s. simp t) in
      (es, i, l ∙ ap (λ l s. then (walk_exprs machine es s) (emit at (instr op_call l 0))) (sym (k.exprs es i)))) (walk_done d e)
