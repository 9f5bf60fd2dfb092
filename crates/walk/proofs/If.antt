-- An if: its branches, their jumps, and the whole.
use Prim.Native.Nat.{ℕ, ◌+◌, ◌≤◌, ◌<◌}
use mathlib.Core.Path.{◌≡◌, refl, ap, fun_ext}
use Rattle.definition.specs.Basic.{Bytes}
use Rattle.definition.specs.Opcode.{plain, op_null, op_jump, op_jump_not_truthy}
use Rattle.definition.specs.Syntax.{Else}
use Rattle.definition.specs.Walk.{Res, on, stop, bind, Go, walk_stmts, walk_expr}
use Rattle.definition.specs.declared.reason.Refusal.{Refusal}
use Rattle.field.specs.Layout.{after}
use Rattle.scope.specs.View.{View, then, Done, Jumped}
use Rattle.scope.specs.Machine.{machine, emit, jump, patch}
use Rattle.scope.specs.Code.{jump_and_patch}
use Rattle.scope.specs.Walked.{Walked, stopped}
use Rattle.scope.specs.declared.State.{State}
use Rattle.std.specs.Prelude.{Ok, Err}
use Rattle.step.specs.Memory.{Rest, Fine, Walks}
use Rattle.tree.specs.At.{IfAt}
use Rattle.tree.specs.Reads.{Branches, ReadsStmts, ReadsExpr, ReadsBlock, ReadsOther, ReadsBranches}
use Rattle.step.proofs.Memory.{done_steps}
use Rattle.tree.proofs.Children.{has_else, no-else}
use Rattle.walk.specs.Parts.{walk_branch, walk_other, walk_branches}
use Rattle.walk.proofs.Sequence.{walks_as, walk_walk, walk_done, jump_walk, jump_refused}

-- a branch: a block, whose last Pop is dropped
pub branch_walks : {tree : Bytes} {at end : ℕ} (place : ℕ) {c c₁ c₂ : Bytes} {m m₁ : Rest} {w v r : Walked} → end ≡ after tree at
    → Walks tree (ReadsStmts tree (at + 3) end) (walk_stmts machine) c c₁ m m₁ w v → Done c₁ c₂ v r (machine.drop_pop place)
    → Walks tree (ReadsBlock tree at) (walk_branch place) c c₂ m m₁ w r
branch_walks place q d e = walks_as (λ b i. (b, rw q i.body, refl)) (walk_done d e)

module _ {tree : Bytes} {place branch at end : ℕ} where
  pub else_walks : {c c₁ : Bytes} {m m₁ : Rest} {w r : Walked} → branch ≡ after tree (place + 3) → at ≡ after tree branch → end ≡ after tree place → at < end
      → Walks tree (ReadsBlock tree at) (walk_branch place) c c₁ m m₁ w r → Walks tree (ReadsOther tree place) (walk_other place) c c₁ m m₁ w r
  unfolding walk_expr
  else_walks q p z h d = walks_as (λ o i. let j = has_else o (rw (p, q, z) at h) i in (j.0, rw (p, q) j.2, ap (walk_other place) j.1)) d

  -- there is none: Null
  pub null_walks : {c c₁ : Bytes} {m : Rest} {w r : Walked} → branch ≡ after tree (place + 3) → at ≡ after tree branch → end ≡ after tree place → end ≤ at → Fine tree m w
      → Done c c₁ w r (emit place (plain op_null)) → Walks tree (ReadsOther tree place) (walk_other place) c c₁ m m w r
  unfolding walk_expr
  null_walks q p z h f d = walks_as (λ o i. (tt, tt, ap (walk_other place) (no-else o (rw (p, q, z) at h) i))) (done_steps f d)

-- what comes behind the first branch of the if at a place, whose first jump stands at a position
abbrev pub behind_first : ℕ → ℕ → Else → Go View
behind_first at skip o v = bind (jump_and_patch at skip v) (λ k v₁. then (walk_other at o v₁) (λ v₂. on tt (patch k v₂)))

-- what comes after the test and its jump
pub branches_walks : {tree : Bytes} {at branch : ℕ} (skip : ℕ) {c c₁ c₂ : Bytes} {m m₁ m₂ : Rest} {w v r : Walked} → branch ≡ after tree (at + 3)
    → Walks tree (ReadsBlock tree branch) (walk_branch at) c c₁ m m₁ w v
    → Walks tree (ReadsOther tree at) (behind_first at skip) c₁ c₂ m₁ m₂ v r
    → Walks tree (ReadsBranches tree at) (walk_branches at skip) c c₂ m m₂ w r
branches_walks {at = at} skip q d e =
    walks_as (λ b i. ((b.first, b.other), (rw q i.on_first, i.on_other), fun_ext (λ s. flat (walk_stmts machine b.first s) b.other))) (walk_walk d e)
  where
    -- the walk's own grouping of these steps
    patched : (x : Res View ℕ) (o : Else)
        → bind x (λ k s. bind (walk_other at o (patch skip s)) (λ _ s₁. on tt (patch k s₁))) ≡ bind (bind x (λ k s. on k (patch skip s))) (λ k s. then (walk_other at o s) (λ s₁. on tt (patch k s₁)))
    patched (on a s) o = refl
    patched (stop y s) o = refl

    dropped : (x : Res View (Unit {0})) (o : Else)
        → bind x (λ _ s. bind (jump at op_jump s) (λ k s₁. bind (walk_other at o (patch skip s₁)) (λ _ s₂. on tt (patch k s₂)))) ≡ then x (behind_first at skip o)
    dropped (on a s) o = patched (jump at op_jump s) o
    dropped (stop y s) o = refl

    flat : (x : Res View (Unit {0})) (o : Else)
        → bind x (λ _ s. bind (machine.drop_pop at s) (λ _ s₁. bind (jump at op_jump s₁) (λ k s₂. bind (walk_other at o (patch skip s₂)) (λ _ s₃. on tt (patch k s₃)))))
        ≡ then (then x (machine.drop_pop at)) (behind_first at skip o)
    flat (on a s) o = dropped (machine.drop_pop at s) o
    flat (stop y s) o = refl

module _ {tree : Bytes} {at : ℕ} (skip : ℕ) {c c₁ : Bytes} {m : Rest} {s t : State} (h : Fine tree m (Ok s)) where
  -- the jump behind the first branch, the other branch, and the jump's target
  pub behind_walks : {n : ℕ} {c₂ c₃ : Bytes} {m₁ : Rest} {u r : Walked} → Jumped c c₁ (Ok s) (Ok n) t (jump_and_patch at skip)
      → Walks tree (ReadsOther tree at) (walk_other at) c₁ c₂ m m₁ (Ok t) u → Done c₂ c₃ u r (λ v. on tt (patch n v))
      → Walks tree (ReadsOther tree at) (behind_first at skip) c c₃ m m₁ (Ok s) r
  behind_walks j d e = jump_walk (λ k o v. then (walk_other at o v) (λ v₁. on tt (patch k v₁))) h j (walk_done d e)

  -- the jump is refused
  pub behind_refused : {z : Refusal} → Jumped c c₁ (Ok s) (Err z) t (jump_and_patch at skip) → Walks tree (ReadsOther tree at) (behind_first at skip) c c₁ m m (Ok s) (Err (stopped z t))
  behind_refused j = jump_refused (λ k o v. then (walk_other at o v) (λ v₁. on tt (patch k v₁))) h j

-- what comes after the test of an if: the jump over its first branch, its branches
abbrev pub behind_test : ℕ → Branches → Go View
behind_test at b v = bind (jump at op_jump_not_truthy v) (λ k. walk_branches at k b)

-- the whole: its test, and that
pub if_walks : {tree : Bytes} {at : ℕ} {c c₁ c₂ : Bytes} {m m₁ m₂ : Rest} {w v r : Walked}
    → Walks tree (ReadsExpr tree (at + 3)) (walk_expr machine) c c₁ m m₁ w v
    → Walks tree (ReadsBranches tree at) (behind_test at) c₁ c₂ m₁ m₂ v r
    → Walks tree (IfAt tree (ReadsBlock tree) (ReadsExpr tree) at) (walk_expr machine) c c₂ m m₂ w r
unfolding walk_expr
if_walks {at = at} d e =
    walks_as (λ x i. ((i.test, record { first = i.branch; other = i.other }), (i.on_test, record { on_first = i.on_branch; on_other = record { reads = i.on_other } }), ap (walk_expr machine) i.is)) (walk_walk d e)

-- the whole where its first branch went through
pub other_walks : {tree : Bytes} {at skip : ℕ} {c c₁ c₂ c₃ c₄ : Bytes} {m m₁ m₂ m₃ : Rest} {s t : State} {w v r : Walked}
    → Walks tree (ReadsExpr tree (at + 3)) (walk_expr machine) c c₁ m m₁ w (Ok s) → Jumped c₁ c₂ (Ok s) (Ok skip) t (jump at op_jump_not_truthy)
    → Walks tree (ReadsBlock tree (after tree (at + 3))) (walk_branch at) c₂ c₃ m₁ m₂ (Ok t) v
    → Walks tree (ReadsOther tree at) (behind_first at skip) c₃ c₄ m₂ m₃ v r
    → Walks tree (IfAt tree (ReadsBlock tree) (ReadsExpr tree) at) (walk_expr machine) c c₄ m m₃ w r
other_walks {at = at} {skip = skip} d j b e = if_walks d (jump_walk (walk_branches at) d.fine j (branches_walks skip refl b e))
