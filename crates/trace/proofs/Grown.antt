-- The names' walk keeps the words, and puts global names before those that there were.
use Prim.Native.Nat.{ℕ}
use native.Mathlib.Omega.{arith}
use mathlib.Core.Bool.{Bool, true, false}
use mathlib.Core.List.{List, [], ◌∷◌, ◌++◌}
use mathlib.Core.Path.{◌≡◌, refl, ap, subst}
use lib.ListN.{length}
use lib.Dec.{leb, ltb}
use Rattle.definition.specs.Basic.{Bytes, pick}
use Rattle.definition.specs.Limit.{globals_limit, locals_limit, nesting_limit, arguments_limit}
use Rattle.definition.specs.Number
use Rattle.definition.specs.Syntax.{Stmts}
use Rattle.definition.specs.Opcode.{instr, op_set_global, op_set_local}
use Rattle.definition.specs.SymbolTable.{Table, Resolved, Defined, resolve, crossed, place, with_local, named, with_params}
use Rattle.definition.specs.Walk.{Res, refuse, walk_stmts}
use Rattle.records.specs.Naming.{Names, names, looked_up, look_up, placed_name, define_name, enter_name, closed, naming}
use Rattle.records.specs.declared.Record.{Record}
use Rattle.records.proofs.Track.{Tracked, Jumped, Tracking, track_stmts}

-- the words are these, and the global names end with those
pub record Grew (ws gs : List Bytes) (s : Names) : Type 0 where
  pub words : s.words ≡ ws
  pub new : List Bytes
  pub globals : s.globals ≡ new ++ gs

-- a state beside itself
data Beside (ws gs : List Bytes) (l : List ℕ) : Names → Names → Type 0 where
  beside : {s : Names} → Grew ws gs s → Beside ws gs l s s

module _ {ws gs : List Bytes} where
  -- other tables and records
  kept : {s : Names} (ts : List Table) (rs : List Record) → Grew ws gs s → Grew ws gs (names s.words ts s.globals rs)
  kept ts rs g = record { words = g.words; new = g.new; globals = g.globals }

  load_grew : {l : List ℕ} {s t : Names} → Beside ws gs l s t → (p : ℕ) (x : Bytes) → Tracked false (Beside ws gs (p ∷ l)) (look_up p x s) (look_up p x t)
  unfolding look_up
  load_grew {l} (Beside.beside {s} g) p x = go (resolve s.words s.globals x s.tables)
    where
      go : (f : Resolved) → Tracked false (Beside ws gs (p ∷ l)) (looked_up p (crossed x s.tables) s f) (looked_up p (crossed x s.tables) s f)
      go (Resolved.found y ts) = Tracked.on tt (Beside.beside (kept ts _ g))
      go Resolved.undefined = Tracked.stop _
      go Resolved.full = Tracked.stop _

  define_grew : {l : List ℕ} {s t : Names} → Beside ws gs l s t → (p : ℕ) (x : Bytes) → Tracked false (Beside ws gs l) (define_name p x s) (define_name p x t)
  unfolding define_name
  define_grew {l} (Beside.beside {s} g) p x = go s.tables
    where
      go : (ts : List Table) → Tracked false (Beside ws gs l) (placed_name p s (place x s.globals ts)) (placed_name p s (place x s.globals ts))
      go [] = full (leb globals_limit (length s.globals))
        where
          full : (b : Bool) → Tracked false (Beside ws gs l) (placed_name p s (pick b (Defined.no_room Number.globals) (Defined.defined (instr op_set_global (length s.globals) 0) (x ∷ s.globals) [])))
              (placed_name p s (pick b (Defined.no_room Number.globals) (Defined.defined (instr op_set_global (length s.globals) 0) (x ∷ s.globals) [])))
          full true = Tracked.stop _
          full false = Tracked.on _ (Beside.beside (record { words = g.words; new = x ∷ g.new; globals = ap (λ n. x ∷ n) g.globals }))
      go (t ∷ ts) = full (leb locals_limit t.definitions)
        where
          full : (b : Bool) → Tracked false (Beside ws gs l) (placed_name p s (pick b (Defined.no_room Number.locals) (Defined.defined (instr op_set_local t.definitions 0) s.globals (with_local x t ∷ ts))))
              (placed_name p s (pick b (Defined.no_room Number.locals) (Defined.defined (instr op_set_local t.definitions 0) s.globals (with_local x t ∷ ts))))
          full true = Tracked.stop _
          full false = Tracked.on _ (Beside.beside (kept _ _ g))

  enter_grew : {l : List ℕ} {s t : Names} → Beside ws gs l s t → (p : ℕ) (x : Bytes) (xs : List Bytes) → Tracked false (Beside ws gs l) (enter_name p x xs s) (enter_name p x xs t)
  unfolding enter_name
  enter_grew {l} (Beside.beside {s} g) p x xs = go (leb nesting_limit (length s.tables)) (ltb arguments_limit (length xs))
    where
      inside : Names
      inside = names s.words (with_params xs (named x) ∷ s.tables) s.globals s.records

      go : (b c : Bool) → Tracked {A = Unit {0}} false (Beside ws gs l) (pick b (refuse Number.nesting p s) (pick c (refuse Number.too_many p s) (Res.on tt inside))) (pick b (refuse Number.nesting p s) (pick c (refuse Number.too_many p s) (Res.on tt inside)))
      go true c = Tracked.stop _
      go false true = Tracked.stop _
      go false false = Tracked.on tt (Beside.beside (kept _ _ g))

  leave_grew : {l l' : List ℕ} {s s' t t' : Names} → Beside ws gs l s t → Beside ws gs l' s' t' → (p k : ℕ) → Tracked false (Beside ws gs l') (naming.leave p k s s') (naming.leave p k t t')
  leave_grew {l' = l'} (Beside.beside {s = s} g) (Beside.beside {s = s'} g') p k = go s'.tables
    where
      go : (ts : List Table) → Tracked {A = Unit {0}} false (Beside ws gs l') (Res.on tt (closed s s' ts)) (Res.on tt (closed s s' ts))
      go [] = Tracked.on tt (Beside.beside (kept _ _ g))
      go (t ∷ ts) = Tracked.on tt (Beside.beside (kept _ _ g'))

  growing : Tracking naming naming false ◌≡◌ (Beside ws gs)
  growing =
      record {
        emit = λ r p i. Tracked.on tt r;
        boolean = λ r p b. Tracked.on tt r;
        integer = λ r p b. Tracked.on tt r;
        string = λ r p b. Tracked.on tt r;
        load = load_grew;
        define = define_grew;
        jump = λ r p o. Jumped.on refl r;
        patch = λ r j k e. r;
        drop_pop = λ r p. Tracked.on tt r;
        enter = enter_grew;
        leave = leave_grew;
      }

grew_of : {ws gs : List Bytes} {l : List ℕ} {s t : Names} → Beside ws gs l s t → Grew ws gs s
grew_of (Beside.beside g) = g

-- a whole tree
pub walk_grew : (b : Stmts) (ws gs : List Bytes) (s : Names) → walk_stmts naming b (names ws [] gs []) ≡ Res.on tt s → Grew ws gs s
walk_grew b ws gs s e = go (track_stmts growing b {l = []} (Beside.beside {s = names ws [] gs []} (record { words = refl; new = []; globals = refl }))) e
  where
    go : {l : List ℕ} {x y : Res Names (Unit {0})} → Tracked false (Beside ws gs l) x y → x ≡ Res.on tt s → Grew ws gs s
    go (Tracked.on a {s = s₁} r) e = let q : s₁ ≡ s = cc in subst (Grew ws gs) q (grew_of r)
    go (Tracked.stop r) e = let z : ◌≡◌ {A = ℕ} 0 1 = cc in absurd (omega arith)
    go (Tracked.first h) e = absurd h
