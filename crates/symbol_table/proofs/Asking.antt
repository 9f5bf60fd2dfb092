-- What a lookup needs of the table area, from the parts of all open functions to one, and after marks have changed.
use Rattle.std.proofs.Common.{◌≡◌, ℕ, suc, List, length, arith}
use lib.ListN.{take}
use Rattle.symbol_table.specs.Layout.{globals_size}
use Rattle.symbol_table.specs.Lookups.{words_of, globals_of_area, Outside, Opened, Standing, Remarks}
use Rattle.symbol_table.specs.declared.query.Query.{Query}
use Rattle.symbol_table.proofs.Remarking.{good_then, globals_then}
use Rattle.symbol_table.proofs.Resolving.{good-globals, good_here}

module _ (q : Query) where
  pub outside_standing : {level : ℕ} {a : List ℕ} → Standing q level a → Outside q a
  outside_standing {level} {a} s = record { words = s.words; size = omega (arith, s.size); globals = good-globals q.key.tree.now q.names.now a level s.good }

  pub opened_standing : {level l : ℕ} {a : List ℕ} → Standing q level a → level ≡ suc l → Opened q l a
  opened_standing {level} {l} {a} s e = record {
    outside = outside_standing s;
    size = omega (arith, s.size, e);
    good = good_here q.key.tree.now q.names.now a level s.good l e;
  }

  module _ {l : ℕ} {a a' : List ℕ} (o : Opened q l a) (x : Remarks q l a a') (same : length a' ≡ length a) where
    outside_as : take globals_size a' ≡ take globals_size a
    outside_as = globals_then (words_of q) (globals_of_area q a) q.key.tree.now l a o.good a' x

    pub outside_then : Outside q a'
    outside_then = record { words = o.outside.words; size = omega (arith, o.outside.size, same); globals = rw outside_as o.outside.globals }

    pub opened_then : Opened q l a'
    opened_then = record {
      outside = outside_then;
      size = omega (arith, o.size, same);
      good = rw outside_as (record { table = good_then (words_of q) (globals_of_area q a) q.key.tree.now l a o.good a' x; marks = x.here.marks });
    }
