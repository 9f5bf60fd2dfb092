-- All entries of the function at a level are marked, one after the other.
use Prim.Native.Nat.{ℕ, ◌+◌, ◌≤◌, ◌<◌}
use mathlib.Core.Path.{◌≡◌, ◌∙◌}
use mathlib.Core.Bool.{Bool, false, not}
use mathlib.Core.List.{List}
use native.Mathlib.Omega.{arith}
use lib.ListN.{length, get_or, take}
use Rattle.std.proofs.lemmas.Bool.{not-true}
use Rattle.definition.specs.Basic.{Bytes}
use Rattle.field.specs.Layout.{content}
use Rattle.symbol_table.specs.Layout.{globals_size, part_size, entries_at, marked_at, base, part, name_in, entries, table_of, GoodTable, IsMarked, GoodPart}
use Rattle.symbol_table.specs.Contract.{Inside, MarksNext, Remarked, Outermost, MarksAll, Absent}
use Rattle.symbol_table.proofs.Slices.{take-agree}
use Rattle.symbol_table.proofs.Marking.{marked_next, table_same, entries_same, good_same, none_marked}
use Rattle.symbol_table.proofs.Levels.{part_length}

-- one change of a part after another
inside_then : {P Q R : List ℕ → List ℕ → Type 0} {l : ℕ} {a a₁ a₂ : List ℕ} → (P (part l a) (part l a₁) → Q (part l a₁) (part l a₂) → R (part l a) (part l a₂)) → Inside P l a a₁ → Inside Q l a₁ a₂ → Inside R l a a₂
inside_then f x y = record { here = f x.here y.here; below = y.below ∙ x.below; above = y.above ∙ x.above }

-- the first i entries are marked
pub record Marks (ws gs : List Bytes) (tree : Bytes) (l i : ℕ) (a₀ a : List ℕ) : Type 0 where
  pub remarked : Inside (Remarked ws gs tree) l a₀ a
  pub count : get_or (part l a) marked_at 0 ≡ i
  pub order : i ≤ entries (part l a₀)
  pub size : length a ≡ length a₀

module _ (ws gs : List Bytes) (tree : Bytes) (l : ℕ) (a₀ : List ℕ) (g : GoodPart ws gs tree (part l a₀)) where
  -- what other marks leave as it was
  module _ (a : List ℕ) (x : Inside (Remarked ws gs tree) l a₀ a) where
    pub entries_then : entries (part l a) ≡ entries (part l a₀)
    entries_then = entries_same ws gs tree (part l a₀) (part l a) x.here.same g.table.sized

    pub table_then : table_of tree (part l a) ≡ table_of tree (part l a₀)
    table_then = table_same ws gs tree (part l a₀) (part l a) x.here.same g.table.sized

    pub good_then : GoodTable tree (part l a)
    good_then = good_same ws gs tree (part l a₀) (part l a) x.here.same g.table.sized x.here.size g.table

    pub globals_then : take globals_size a ≡ take globals_size a₀
    globals_then = take-agree globals_size (base l) a a₀ (omega arith) x.below

  module _ (i : ℕ) (a : List ℕ) (x : Marks ws gs tree l i a₀ a) where
    same_entries : entries (part l a) ≡ entries (part l a₀)
    same_entries = entries_then a x.remarked

    module _ (h : i < entries (part l a₀)) where
      pub marks_next : (code : ℕ) (a' : List ℕ) → base l + part_size ≤ length a₀ → Outermost ws gs (content tree (name_in (get_or (part l a) (entries_at + i) 0))) code → length a' ≡ length a → Inside (MarksNext code) l a a' → Marks ws gs tree l (i + 1) a₀ a'
      marks_next code a' fits o size y =
          record {
            remarked =
                inside_then
                (λ p q.
                record {
                  size = part_length l a' (omega (arith, x.size));
                  same = λ j k. q.same j k ∙ p.same j k;
                  marks = marked_next ws gs tree (part l a) (part l a') q.same (good_then a x.remarked).sized code q (omega (arith, x.count, same_entries)) (rw x.count o) p.marks;
                })
                x.remarked y;
            count = y.here.count ∙ rw x.count;
            order = omega arith;
            size = size ∙ x.size;
          }

  module _ (code : ℕ) (a : List ℕ) (x : MarksAll ws gs tree l a₀ a) where
    pub absent_clear : 768 ≤ code → (b : Bool) → (b ≡ false → IsMarked (part l a) code → ⊥) → Absent ws gs tree l code (not b) a₀ a
    absent_clear far b clear =
        record {
          absent = λ e n known.
              rw (← table_then a x.remarked)
              (none_marked ws gs tree (part l a) n code x.remarked.here.marks x.all far known (clear (not-true b e)));
          remarked = x.remarked;
        }
