-- The names that a tree defined, once the walk went through.
use Prim.Native.Nat.{ℕ, ◌+◌, ◌-◌, ◌≤◌, ◌<◌}
use native.Mathlib.Omega.{arith}
use mathlib.Core.List.{List, ◌++◌}
use mathlib.Core.Path.{◌≡◌, sym, ap, subst, ◌∙◌}
use lib.ListN.{length, take, get_or, length-append}
use lib.Seq.{take_at, get_or-take}
use Rattle.definition.specs.Basic.{Bytes}
use Rattle.scope.specs.View.{Symbols}
use Rattle.scope.specs.declared.State as Memory
use Rattle.bytecode.specs.declared.SessionLayout.{SessionLayout}
use Rattle.symbol_table.specs.Layout.{globals_size, back, global_name, globals_of, GoodGlobals, Good}
use Rattle.symbol_table.proofs.Back.{length_back}
use Rattle.compiler.specs.Names.{later_names, LaterNames}
use Rattle.compiler.specs.Translated.{Translated}
use Rattle.compiler.proofs.Appending.{back_agree, back_split}

-- the globals' part, with no open function
good-globals : (tree names : Bytes) {n : ℕ} (t : List ℕ) → n ≡ 0 → Good tree names n t → GoodGlobals tree names (take globals_size t)
unfolding Good
good-globals tree names t e g = subst (λ n. Good tree names n t) e g

module _ {tree c b : Bytes} {t : List ℕ} {l : SessionLayout} {s : Memory.State} (p : Translated tree c b t l s) where
  -- the session's own names
  abbrev own : Bytes
  own = take l.names_end b

  own_end : s.names_end ≡ l.names_end
  own_end = p.compiled.pool.appended.names ∙ sym (ap (λ (l : SessionLayout). l.names_end) p.layout)

  good : GoodGlobals tree own (take globals_size t)
  good = subst (λ n. GoodGlobals tree (take n b) (take globals_size t)) own_end (good-globals tree (take s.names_end b) t p.level p.fine.symbols)

  -- a number of the globals' part
  in_part : (i : ℕ) → i < globals_size → get_or (take globals_size t) i 0 ≡ get_or t i 0
  in_part i h = get_or-take globals_size t i 0 h

  few : get_or t 0 0 ≤ 1024
  few = omega (arith, good.count, in_part 0 (omega arith))

  -- the globals are the definition's
  globals_are : back (global_name tree own) t 1 (get_or t 0 0) ≡ p.state.globals
  unfolding globals_of
  globals_are =
      let n = few in
      sym (back_agree (global_name tree own) (take globals_size t) t 1 (get_or t 0 0) (λ j h. in_part (1 + j) (omega arith)))
      ∙ (λ i. back (global_name tree (take (sym own_end i) b)) (take globals_size t) 1 (sym (in_part 0 (omega arith)) i))
      ∙ ap (λ (y : Symbols). y.globals) p.compiled.symbols

  -- the session's come first, and are as many as the layout says
  globals-count : get_or t 0 0 ≡ length p.compiled.globals.more + length p.session.globals
  globals-count =
      sym (length_back (global_name tree own) t 1 (get_or t 0 0))
      ∙ ap length (globals_are ∙ p.compiled.globals.same)
      ∙ length-append p.compiled.globals.more p.session.globals

  own_count : l.names ≡ length p.session.globals
  own_count = ap (λ (l : SessionLayout). l.names) p.layout

  -- the others have whole names
  pub later-names : LaterNames tree own t l.names (get_or t 0 0)
  later-names =
      let n = few in
      record {
        order = omega (arith, own_count, globals-count);
        within = omega (arith, p.fine.area);
        each = λ k low high. rw (in_part (1 + k) (omega arith)) at (good.stands k (omega (arith, in_part 0 (omega arith))));
      }

  -- they are those that the definition has in front
  pub later_are : later_names tree own t l.names (get_or t 0 0 - l.names) ≡ p.compiled.globals.more
  later_are =
      let f = global_name tree own in
      let n = get_or t 0 0 - l.names in
      let more = p.compiled.globals.more in
      let old = p.session.globals in
      let k = globals-count in
      let m = own_count in
      let count : l.names + n ≡ get_or t 0 0 = omega arith in
      let later = back f t (1 + l.names) n in
      let split : later ++ back f t 1 l.names ≡ more ++ old = sym (back_split f t 1 l.names n) ∙ ap (back f t 1) count ∙ globals_are ∙ p.compiled.globals.same in
      sym (take_at later (back f t 1 l.names) n (length_back f t (1 + l.names) n)) ∙ ap (take n) split ∙ take_at more old n (omega arith)
