-- The tree check as the code does it: by the grammar, up to the first refusal, with nothing built.
use Rattle.std.specs.Prelude.{ℕ, zero, suc, ◌+◌, ◌-◌, ◌/◌, ◌%◌, Bool, eqb, Result, Ok, Err}
use Rattle.definition.specs.Basic.{pick, both}
use Rattle.definition.specs.Number
use Rattle.definition.specs.Number.{refusal}
use Rattle.definition.specs.Field.{fits, head}
use Rattle.definition.specs.Tree.{Parsed}
use Rattle.tree.specs.Grammar.{Kind, good_head, good_own, is_leaf, child_kind, enough_of}
use Rattle.tree.specs.Kinds.{good_tag, good_content}
use Rattle.tree.specs.declared.grammar.Wanted.{Wanted}
use Rattle.definition.specs.declared.reason.Refusal.{Refusal}

-- what the check of a tree, of a field or of its children comes to
abbrev pub Checked : Type 0
Checked = Result (Unit {0}) Refusal

-- nothing is refused
abbrev pub Good : Checked
Good = Ok tt

-- what reading comes to, without what was read
abbrev pub verdict : {A : Type 0} → Parsed A → Checked
verdict (Parsed.parsed a n) = Good
verdict (Parsed.refused r) = Err r

-- a check, and then another
abbrev pub and_then : Checked → Checked → Checked
and_then (Ok _) c = c
and_then (Err r) c = Err r

-- a check that refuses 3 at a place
abbrev pub bad_tree : ℕ → Checked
bad_tree p = Err (refusal Number.bad_tree p)

-- a check that refuses 4 at a place
abbrev pub too_deep : ℕ → Checked
too_deep p = Err (refusal Number.too_deep p)

-- what a number says of a check: 0 that it is good, else twice the place, and 1 more or 2 more
abbrev pub outcome_of : ℕ → Checked
outcome_of n = pick (eqb n 0) Good (pick (eqb (n % 2) 1) (bad_tree (n / 2)) (too_deep (n / 2 - 1)))

-- the content of a field of a tag at `parent` has ended after k children
abbrev pub ended : ℕ → ℕ → ℕ → Checked
ended t parent k = pick (enough_of t k) Good (bad_tree parent)

module _ (byte : ℕ → ℕ) where
  -- the offset after the field at an offset
  abbrev pub next : ℕ → ℕ
  next at = at + 3 + (head byte at).len

  -- a whole field of a kind, before `end`: its tag, its length and its own bytes
  abbrev pub good_field : Kind → ℕ → ℕ → Bool
  good_field kind at end = both (fits at end (head byte at)) (both (good_head kind (head byte at)) (good_own (byte at) (byte (at + 3))))

  -- the same of a field that is wanted
  abbrev pub good_wanted : Wanted → ℕ → ℕ → Bool
  good_wanted w at end = both (fits at end (head byte at)) (both (good_tag w (byte at)) (good_content w (byte at) (head byte at).len (byte (at + 3))))

  module _ (check : Kind → ℕ → ℕ → Checked) where
    -- the children of the field of a tag at `parent`, from child k on, which stands at `at`; there are no more than `fuel`
    unfoldable pub check_children : ℕ → ℕ → ℕ → ℕ → ℕ → ℕ → Checked
    check_children t parent zero k at end = ended t parent k
    check_children t parent (suc fuel) k at end =
        let more = and_then (check (child_kind t k) at end) (check_children t parent fuel (k + 1) (next at) end) in
        pick (eqb at end) (ended t parent k) more

    -- what is inside the field of a tag at an offset
    abbrev pub check_content : ℕ → ℕ → Checked
    check_content t at =
        let children = check_children t at (head byte at).len 0 (at + 3) (next at) in
        pick (is_leaf t) Good children

  -- a field of a kind, with the check of what is inside
  abbrev pub check_by : (ℕ → Checked) → Kind → ℕ → ℕ → Checked
  check_by inside kind at end =
      let c = inside at in
      pick (good_field kind at end) c (bad_tree at)

  -- what is inside a good field, with so many levels left for it and below: its level first
  unfoldable pub check_inside : ℕ → ℕ → Checked
  check_inside zero at = too_deep at
  check_inside (suc levels) at = check_content (λ kind at₁ end. check_by (λ i. check_inside levels i) kind at₁ end) (byte at) at

  -- a field of a kind
  unfoldable pub check_field : ℕ → Kind → ℕ → ℕ → Checked
  check_field levels kind at end = check_by (λ i. check_inside levels i) kind at end

  -- all children of the field at `parent`, whose content goes up to `end`
  abbrev pub check_all : ℕ → ℕ → ℕ → Checked
  check_all levels parent end = check_children (λ kind at₁ end₁. check_field levels kind at₁ end₁) (byte parent) parent (end - (parent + 3)) 0 (parent + 3) end
