-- Definitions and lookups in the table area.
use Prim.Native.Nat.{ℕ, ◌+◌, ◌≤◌}
use mathlib.Core.List.{List}
use mathlib.Core.Path.{◌≡◌, refl, sym, ap, ◌∙◌}
use lib.ListN.{length}
use Rattle.definition.specs.Basic.{Bytes}
use Rattle.definition.specs.Limit.{code_size}
use Rattle.definition.specs.Opcode.{instr}
use Rattle.definition.specs.SymbolTable.{Table, load_of}
use Rattle.definition.specs.Decode.{words_in}
use Rattle.definition.specs.Walk.{refuse}
use Rattle.symbol_table.specs.Layout.{symbol_of, globals_of, tables_of, Good}
use Rattle.symbol_table.specs.Contract as Symbol
use Rattle.symbol_table.specs.Contract.{lookup_reason, define_reason, Lookup, Definition, defined_of, resolved_of, Resolves}
use Rattle.symbol_table.specs.declared.Found.{Found}
use Rattle.symbol_table.specs.declared.Slot.TheVariants.{Global, Local}
use Rattle.symbol_table.specs.declared.LookupError.{LookupError}
use Rattle.symbol_table.specs.declared.LookupError.TheVariants.{Undefined, Full}
use Rattle.std.specs.Prelude.{Ok, Err, Result}
use Rattle.field.specs.Layout.{content}
use Rattle.scope.specs.declared.State.{State}
use Rattle.definition.specs.Number.{refusal}
use Rattle.definition.specs.declared.reason.Refusal.{Refusal}
use Rattle.scope.specs.Walked.{Walked, walked, stopped}
use Rattle.scope.specs.View.{Symbols, View, view, Done}
use Rattle.scope.specs.Machine.{define, placed, with_tables, load, loaded, emit}
use Rattle.symbol_table.specs.declared.Access.{Access}
use Rattle.step.specs.Memory.{rest, names_of, symbols_of, settled, answered, FineState, Fine}
use Rattle.step.specs.Contract.{Steps, instr_of, placed_at, FineBeside, DefinesBeside}
use Rattle.step.proofs.Memory.{stop_deeper, done_steps}
use Rattle.definition.specs.declared.reason.Reason.{Reason}

-- the table area after a step on it, with as many open functions
table_fine : {tree e : Bytes} {t t' : List ℕ} {s : State} → length t' ≡ length t → Good tree (names_of e s) s.level t' → FineState tree (rest e t) s → FineState tree (rest e t') s
table_fine n g f = record { words = f.words; symbols = g; level = f.level; area = rw n f.area; pool = f.pool }

-- what a definition needs of the table area
pub beside_good : {tree : Bytes} {t : List ℕ} {s : State} → FineBeside tree t s → (names : Bytes) × Good tree names s.level t
beside_good {s = s} h = (names_of h.session s, h.fine.symbols)

-- A definition's answer, as the machine takes it
module _ (tree c e : Bytes) (t : List ℕ) (p : ℕ) (s : State) where
  place-step : (y : Symbols) (a : Definition)
      → answered tree c (rest e t) (instr_of (placed_at p a)) s ≡ settled (placed p (view c e y s) (defined_of a (symbols_of tree (rest e t) s).globals (symbols_of tree (rest e t) s).tables))
  place-step y (Ok (Global k)) = refl
  place-step y (Ok (Local k)) = refl
  place-step y (Err e) = refl

  place_fine : (a : Definition) → FineState tree (rest e t) s → Fine tree (rest e t) (walked (placed_at p a) s)
  place_fine (Ok (Global k)) f = f
  place_fine (Ok (Local k)) f = f
  place_fine (Err e) f = tt

pub define-on : (p : ℕ) {tree : Bytes} {t t' : List ℕ} {s : State} {a : Definition} {r : Result Access Refusal} → length t' ≡ length t → Symbol.Defines tree s.level (p + 3) a t t' → r ≡ placed_at p a → DefinesBeside tree p t t' s r
unfolding define
define-on p {tree} {t} {t'} {s} {a} n x i =
    rw i
    (record {
      defines = λ c e f.
          record {
            step = place-step tree c e t' p s (symbols_of tree (rest e t) s) a ∙ ap (λ z. settled (placed p (view c e (symbols_of tree (rest e t) s) s) z)) (x.defined (names_of e s));
            fine = place_fine tree c e t' p s a (table_fine n (x.good (names_of e s) f.symbols) f);
          };
    })

-- Lookups
module _ (p : ℕ) (tree e : Bytes) (t t' : List ℕ) (s : State) {a : Lookup} (x : Resolves (words_in (names_of e s)) tree (names_of e s) s.level p a t t') (c : Bytes) where
  -- what the machine does by the answer
  answer_step : load p (content tree p) (view c e (symbols_of tree (rest e t) s) s) ≡ loaded p (view c e (symbols_of tree (rest e t) s) s) (resolved_of a (tables_of tree s.level t'))
  unfolding load
  answer_step = ap (λ z. loaded p (view c e (symbols_of tree (rest e t) s) s) z) (sym x.resolved)

  -- only tables have changed
  answer_view : view c e (symbols_of tree (rest e t') s) s ≡ with_tables (tables_of tree s.level t') (view c e (symbols_of tree (rest e t) s) s)
  answer_view = ap (λ g. view c e (record { globals = globals_of tree (names_of e s) g; tables = tables_of tree s.level t' }) s) x.globals

-- a lookup that is refused tells the machine's reason
loaded_refused : (p : ℕ) (v : View) (ts : List Table) (u : LookupError) → loaded p v (resolved_of (Err u) ts) ≡ refuse (lookup_reason u) p v
loaded_refused p v ts Undefined = refl
loaded_refused p v ts Full = refl

module _ (p : ℕ) {tree e : Bytes} {t t' : List ℕ} {s : State} where
  pub load_found : {c c' : Bytes} {b : Lookup} {k : Found} {o i : ℕ} {r : Walked} → length t' ≡ length t → FineState tree (rest e t) s → Resolves (words_in (names_of e s)) tree (names_of e s) s.level p b t t' → b ≡ Ok k → instr o i 0 ≡ load_of (symbol_of k.code)
      → Done c c' (Ok s) r (emit p (instr o i 0)) → Steps tree (load p (content tree p)) c c' (rest e t) (rest e t') (Ok s) r
  load_found {c} n f z g j d =
      let x = rw g at z in
      let y = done_steps {tree = tree} {m = rest e t'} (table_fine n x.good f) d in
      record {
        step = λ _ _. y.step tt tt ∙ (λ u. settled (emit p (j u) (answer_view p tree e t t' s x c u))) ∙ ap settled (sym (answer_step p tree e t t' s x c));
        ready = y.ready;
        fine = y.fine;
        keeps = y.keeps;
      }

  -- a lookup that is refused
  pub load-refused : {k : Reason} {c : Bytes} {b : Lookup} {u : LookupError} → k ≡ lookup_reason u → code_size ≤ length c → Resolves (words_in (names_of e s)) tree (names_of e s) s.level p b t t' → b ≡ Err u
      → Steps tree (load p (content tree p)) c c (rest e t) (rest e t') (Ok s) (Err (stopped (refusal k p) s))
  load-refused {c = c} {u = u} i a z g =
      let x = rw g at z in
      rw i
      (record {
        step = λ _ _. ap settled (sym (answer_step p tree e t t' s x c ∙ loaded_refused p (view c e (symbols_of tree (rest e t) s) s) (tables_of tree s.level t') u));
        ready = record { area = a; sound = tt };
        fine = tt;
        keeps = stop_deeper;
      })
