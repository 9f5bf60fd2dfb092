-- A function is closed over the code outside it.
use Prim.Native.Nat.{ℕ, suc, ◌+◌, ◌≤◌, ◌<◌}
use native.Mathlib.Omega.{arith}
use native.Mathlib.Numerals.{add-one}
use mathlib.Core.Bool.{Bool, true}
use mathlib.Core.List.{List, [], ◌∷◌}
use mathlib.Core.Path.{◌≡◌, refl, sym, ap, ◌∙◌}
use lib.Dec.{leb}
use lib.ListN.{length, get_or, take, drop}
use borrow.Author.Tests.{le-leb, lt-leb}
use Rattle.definition.specs.Basic.{Bytes, pick}
use Rattle.definition.specs.Limit.{code_size, free_limit}
use Rattle.definition.specs.Number
use Rattle.definition.specs.Tag.{tag_function_const}
use Rattle.definition.specs.Opcode.{instr, op_closure}
use Rattle.definition.specs.Walk.{Res, bind, refuse, Go}
use Rattle.definition.specs.SymbolTable.{Symbol}
use Rattle.symbol_table.specs.Layout.{part, originals_of, symbols_in, table_of, tables_of, GoodTable, Good, symbol_of, originals_at}
use Rattle.symbol_table.proofs.Back.{length_back, part_symbols}
use Rattle.std.proofs.lemmas.List.{take-take}
use Rattle.definition.specs.Number.{refusal}
use Rattle.definition.specs.declared.reason.Refusal.{Refusal}
use Rattle.scope.specs.declared.State.{State}
use Rattle.scope.specs.Walked.{Walked, Stopped, stopped}
use Rattle.std.specs.Prelude.{Ok, Err}
use Rattle.scope.specs.View.{View, view, then, Fits, Ready, Done}
use Rattle.scope.specs.Machine.{here, emit, returned, add_constant, outside, function_content, loads_size, loads, close_over, leave}
use Rattle.step.specs.Memory.{Rest, rest, names_of, symbols_of, settled, memory, FineState}
use Rattle.step.specs.Contract.{Adds, Leaves, FineFor, Inside, Closable, Closed}
use Rattle.step.proofs.Loads.{captured}
use Rattle.step.proofs.Memory.{follow, chain, stop_deeper, on_deeper, deeper_keeps, done_step, done_fine, done_keeps}

-- The innermost table, as closing reads it
module _ (tree : Bytes) (t : List ℕ) (o s : State) (l : s.level ≡ o.level + 1) where
  abbrev r : List ℕ
  r = part o.level t

  inner_tables : tables_of tree s.level t ≡ record { entries = (table_of tree r).entries; definitions = get_or r 1 0; originals = originals_of r (get_or r 2 0) } ∷ tables_of tree o.level t
  unfolding tables_of table_of
  inner_tables = rw (l, add-one o.level)

  inner_good : (names : Bytes) → Good tree names s.level t → GoodTable tree r
  unfolding Good
  inner_good names g = let h : Good tree names (suc o.level) t = rw (l, add-one o.level) at g in h.0.table

  outer_good : (names : Bytes) → Good tree names s.level t → Good tree names o.level t
  unfolding Good
  outer_good names g = let h : Good tree names (suc o.level) t = rw (l, add-one o.level) at g in h.1

-- The state outside again
module _ (o : State) where
  outside_fine : (tree : Bytes) (m : Rest) {s : State} → s.level ≡ o.level + 1 → FineState tree m s → FineState tree m (outside o s)
  outside_fine tree m {s} h f =
      record {
        words = f.words;
        symbols = outer_good tree m.table o s h (names_of m.session s) f.symbols;
        level = omega (arith, f.level);
        area = f.area;
        pool = record { area = f.pool.area; room = f.pool.room; start = f.pool.start; end = f.pool.end };
      }

-- Closing
module _ (p params : ℕ) (c e : Bytes) (t : List ℕ) (o s : State) (l : s.level ≡ o.level + 1) where
  -- after the constant: the loads, and Closure
  abbrev after : ℕ → ℕ → Go View
  after n k v = then (loads p (captured t o.level) v) (emit p (instr op_closure k n))

  -- the machine's step, where there is room or none, with n captures
  abbrev closed : Bytes → Bool → ℕ → Res View (Unit {0})
  closed tree b n =
      pick b
      (bind (add_constant p tag_function_const (function_content (get_or (part o.level t) 1 0) params (take s.chunk.len (drop s.chunk.start c))) (view c e (symbols_of tree (rest e t) s) s)) (λ k v.
      after n k (view v.code v.session (record { globals = v.symbols.globals; tables = tables_of tree o.level t }) (outside o v.state))))
      (refuse Number.code p (view c e (symbols_of tree (rest e t) s) s))

  module _ {z : ℕ} (h : z ≡ loads_size (captured t o.level)) where
    close_numbers : (tree : Bytes) → close_over p params o (view c e (symbols_of tree (rest e t) s) s) (tables_of tree s.level t) ≡ closed tree (leb (here o + s.chunk.len + z) code_size) (get_or (part o.level t) 2 0)
    close_numbers tree =
        ap (close_over p params o (view c e (symbols_of tree (rest e t) s) s)) (inner_tables tree t o s l)
        ∙ (λ u. closed tree (leb (here o + s.chunk.len + sym h u) code_size) (length_back symbol_of (part o.level t) originals_at (get_or (part o.level t) 2 0) u))

    pub close_full : code_size < here o + s.chunk.len + z → Closed p params c c e e t o s (Err (stopped (refusal Number.code p) s))
    close_full f =
        record {
          step = λ tree. ap settled (sym (close_numbers tree ∙ ap (λ b. closed tree b (get_or (part o.level t) 2 0)) (lt-leb (here o + s.chunk.len + z) code_size f)));
          fine = λ tree f. tt;
          keeps = stop_deeper;
        }

    module _ (f : here o + s.chunk.len + z ≤ code_size) where
      -- the machine's step, where there is room
      close_room : (tree : Bytes) → settled (close_over p params o (view c e (symbols_of tree (rest e t) s) s) (tables_of tree s.level t)) ≡ settled (closed tree true (get_or (part o.level t) 2 0))
      close_room tree = ap settled (close_numbers tree ∙ ap (λ b. closed tree b (get_or (part o.level t) 2 0)) (le-leb (here o + s.chunk.len + z) code_size f))

      -- the pool has no room for the constant
      pub close_stops : {e₁ : Bytes} {s₁ : State} {y : Refusal} → Adds (add_constant p tag_function_const (function_content (get_or (part o.level t) 1 0) params (take s.chunk.len (drop s.chunk.start c)))) e e₁ s s₁ (Err y)
          → Closed p params c c e e₁ t o s (Err (stopped y s₁))
      close_stops {e₁} {s₁} x =
          record {
            step = λ tree.
                follow (memory tree c (rest e t) (Ok s)) (λ _. add_constant p tag_function_const (function_content (get_or (part o.level t) 1 0) params (take s.chunk.len (drop s.chunk.start c))))
                (λ k v. after (get_or (part o.level t) 2 0) k (view v.code v.session (record { globals = v.symbols.globals; tables = tables_of tree o.level t }) (outside o v.state))) (x.step tree c t) refl
                ∙ sym (close_room tree);
            fine = λ tree g. tt;
            keeps = stop_deeper;
          }

      pub close_on : {e₁ : Bytes} {s₁ : State} {k : ℕ} {c₂ : Bytes} {r : Walked} → s.names_end ≡ o.names_end
          → Adds (add_constant p tag_function_const (function_content (get_or (part o.level t) 1 0) params (take s.chunk.len (drop s.chunk.start c)))) e e₁ s s₁ (Ok k)
          → Done c c₂ (Ok (outside o s₁)) r (after (get_or (part o.level t) 2 0) k) → Closed p params c c₂ e e₁ t o s r
      close_on {e₁} {s₁} {k} {c₂} {r} n x d =
          let i = x.keeps.origin s₁ refl in
          let q : i.from ≡ s = cc in
          let j : s₁.level ≡ o.level + 1 = omega (arith, i.level, ap (λ x. x.level) q) in
          record {
            step = λ tree.
                follow (memory tree c (rest e t) (Ok s)) (λ _. add_constant p tag_function_const (function_content (get_or (part o.level t) 1 0) params (take s.chunk.len (drop s.chunk.start c))))
                (λ k v. after (get_or (part o.level t) 2 0) k (view v.code v.session (record { globals = v.symbols.globals; tables = tables_of tree o.level t }) (outside o v.state))) (x.step tree c t)
                (done_step tree (rest e₁ t) (Ok (outside o s₁)) r d)
                ∙ sym (close_room tree);
            fine = λ tree g. done_fine tree (rest e₁ t) (Ok (outside o s₁)) r d (outside_fine o tree (rest e₁ t) j (x.fine tree t g));
            keeps = deeper_keeps (on_deeper (omega arith) (i.names ∙ ap (λ x. x.names_end) q ∙ n)) (done_keeps [] (rest [] []) (Ok (outside o s₁)) r d);
          }

-- Closing, as the code takes it: what it reads of the table
module _ {e : Bytes} {t : List ℕ} {o s : State} (h : Closable e t o s) where
  pub few_captures : get_or (part o.level t) 2 0 ≤ free_limit
  few_captures = h.sized.free

  -- what it has captured stands in front of what it could
  pub captured_front : {k : ℕ} {l os : List ℕ} → k ≡ get_or (part o.level t) 2 0 → l ≡ take free_limit (drop originals_at (part o.level t)) → os ≡ take k l → (length os ≡ get_or (part o.level t) 2 0) × (symbols_in os ≡ captured t o.level)
  captured_front {k} i e q =
      let r = part o.level t in
      rw (q ∙ ap (take k) e ∙ take-take k free_limit (drop originals_at r) (omega (arith, i, few_captures))) (part_symbols r i (omega (arith, h.sized.size, few_captures)))

module _ (p params : ℕ) {c e : Bytes} {t : List ℕ} {o s : State} (h : Closable e t o s) {n z : ℕ} {os : List Symbol} (k : n ≡ get_or (part o.level t) 2 0) (y : os ≡ captured t o.level) (q : z ≡ loads_size os) where
  pub closes_full : code_size < here o + s.chunk.len + z → Closed p params c c e e t o s (Err (stopped (refusal Number.code p) s))
  closes_full f = close_full p params c e t o s h.inside.level (rw y at q) f

  module _ (f : here o + s.chunk.len + z ≤ code_size) {d : ℕ} (m : d ≡ get_or (part o.level t) 1 0) {e₁ : Bytes} {s₁ : State} where
    pub closes_stops : {y : Refusal} → Adds (add_constant p tag_function_const (function_content d params (take s.chunk.len (drop s.chunk.start c)))) e e₁ s s₁ (Err y) → Closed p params c c e e₁ t o s (Err (stopped y s₁))
    closes_stops x = close_stops p params c e t o s h.inside.level (rw y at q) f (rw m at x)

    pub closes_on : {i : ℕ} {c₂ : Bytes} {r : Walked} → Adds (add_constant p tag_function_const (function_content d params (take s.chunk.len (drop s.chunk.start c)))) e e₁ s s₁ (Ok i)
        → Done c c₂ (Ok (outside o s₁)) r (λ v. then (loads p os v) (emit p (instr op_closure i n))) → Closed p params c c₂ e e₁ t o s r
    closes_on x j = close_on p params c e t o s h.inside.level (rw y at q) f h.inside.names (rw m at x) (rw (y, k) at j)

-- Leaving
module _ (p : ℕ) {c c₁ e : Bytes} {t : List ℕ} {o s : State} where
  pub leave_closable : {s₁ : State} → Done c c₁ (Ok s) (Ok s₁) (returned p) → Fits o → Inside o s → FineFor (rest e t) s → Closable e t o s₁
  leave_closable {s₁} d a k g =
      let f = done_fine g.tree (rest e t) (Ok s) (Ok s₁) d g.fine in
      let l : s₁.level ≡ o.level + 1 = ap (λ x. x.level) d.same ∙ k.level in
      record {
        outer = a;
        inside = record { level = l; names = ap (λ x. x.names_end) d.same ∙ k.names };
        roomy = f.pool;
        table = omega (arith, f.level, f.area);
        sized = (inner_good g.tree t o s₁ l (names_of e s₁) f.symbols).sized;
      }

  module _ (n : ℕ) where
    pub leave-on : {s₁ : State} {c₂ e' : Bytes} {r : Walked} → Done c c₁ (Ok s) (Ok s₁) (returned p) → Closed p n c₁ c₂ e e' t o s₁ r → Ready c₂ r → (tree : Bytes) → FineState tree (rest e t) s
        → Leaves tree p n c c₂ (rest e t) (rest e' t) o (Ok s) r
    unfolding leave
    leave-on {s₁} d x a tree f =
        record {
          step = λ u k.
              chain (memory tree c (rest e t) (Ok s)) (returned p) (λ v. close_over p n o v v.symbols.tables) (done_step tree (rest e t) (Ok s) (Ok s₁) d) (x.step tree)
              ∙ ap (λ q. settled (then (memory tree c (rest e t) (Ok s)) (λ v. then (returned p v) (λ v. close_over p n q v v.symbols.tables)))) (sym k);
          ready = a;
          fine = x.fine tree (done_fine tree (rest e t) (Ok s) (Ok s₁) d f);
          keeps = x.keeps;
        }

    -- a function that is stopped inside
    pub leave_stop : {z : Stopped} → Done c c₁ (Ok s) (Err z) (returned p) → (tree : Bytes) → FineState tree (rest e t) s → Leaves tree p n c c₁ (rest e t) (rest e t) o (Ok s) (Err z)
    unfolding leave
    leave_stop {z} d tree f =
        record {
          step = λ u k. chain (memory tree c (rest e t) (Ok s)) (returned p) (λ v. close_over p n u.state v v.symbols.tables) (done_step tree (rest e t) (Ok s) (Err z) d) refl;
          ready = d.ready;
          fine = tt;
          keeps = stop_deeper;
        }
