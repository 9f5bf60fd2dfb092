-- Records do not see literals: a tree and its shape have the same ones.
use Prim.Native.Nat.{ℕ}
use mathlib.Core.List.{List, reverse}
use mathlib.Core.Path.{◌≡◌, refl, ap, subst}
use lib.ListN.{length}
use lib.Dec.{leb}
use Rattle.definition.specs.Basic.{Bytes}
use Rattle.definition.specs.Syntax.{Stmts}
use Rattle.definition.specs.Walk.{Res, walk_stmts}
use Rattle.definition.specs.SymbolTable.{resolve, crossed}
use Rattle.definition.specs.Compiler.{State, machine}
use Rattle.definition.specs.Tree.{read_tree}
use Rattle.definition.specs.Session.{Session}
use Rattle.definition.specs.Compile.{Outcome, Step, Request, enough}
use Rattle.records.specs.Records.{noted, Logged, logged, beside, load_noted, logging, Traced, untraced, traced, handed, finish_records, translate_records, compile_records}
use Rattle.records.specs.declared.Record.{Record}
use Rattle.definition.proofs.Basic.{picked}
use Rattle.definition.proofs.WellFormed.{WfStmts}
use Rattle.definition.proofs.Blank.{blank, map_stmts}
use Rattle.definition.proofs.ReadShape.{map_parsed, read-shape}
use Rattle.definition.proofs.Simulation.{Both, Simulation, both_stmts}
use Rattle.definition.proofs.Erase.{erase, Alike, alike}
use Rattle.definition.proofs.Steps.{by_reading, OutcomeLike, SessionLike, StepLike, with_shape, turned_down_like, finish_like}

-- states that differ in literals alone, with the same records
pub record AlikeLogged (s t : Logged) : Type 0 where
  pub state : Alike erase s.state t.state
  pub records : s.records ≡ t.records

abbrev Same : {A : Type 0} → Res Logged A → Res Logged A → Type 0
Same {A} = Both AlikeLogged (λ (_ : A). AlikeLogged)

module _ {l l' : List Record} (e : l ≡ l') where
  -- two steps of the machine, beside the same records
  both_beside : {A : Type 0} {P : A → State → State → Type 0} {P' : A → Logged → Logged → Type 0} {x y : Res State A}
      → Both (Alike erase) P x y → ((a : A) (s t : State) → P a s t → P' a (logged l s) (logged l' t)) → Both AlikeLogged P' (beside l x) (beside l' y)
  both_beside (Both.on a {s} {t} h) f = Both.on a (f a s t h)
  both_beside (Both.stop r n h) f = Both.stop r n (record { state = h; records = e })

  same_beside : {A : Type 0} {x y : Res State A} → Both (Alike erase) (λ (_ : A). Alike erase) x y → Same (beside l x) (beside l' y)
  same_beside h = both_beside h (λ _ _ _ r. record { state = r; records = e })

load_same : {s t : Logged} → AlikeLogged s t → (p : ℕ) (x : Bytes) → Both (Alike erase) (λ (_ : Unit {0}). Alike erase) (machine.load p x s.state) (machine.load p x t.state) → Same (load_noted p x s) (load_noted p x t)
unfolding load_noted
load_same r p x h = same_beside (λ k. noted p (crossed x (r.state.erased k).tables) (resolve (r.state.erased k).words (r.state.erased k).globals x (r.state.erased k).tables) (r.records k)) h

alike-logging : Simulation logging logging blank (λ (_ : Unit {0}). AlikeLogged) (λ _. AlikeLogged) AlikeLogged
alike-logging =
    record {
      jumped = λ _ _. tt;
      inside = λ _ _ _. tt;
      halt = λ r. r;
      rest = λ r. r;
      emit = λ r p i v. same_beside r.records (alike.emit r.state p i v);
      boolean = λ r p b. same_beside r.records (alike.boolean r.state p b);
      integer = λ r p b h. same_beside r.records (alike.integer r.state p b h);
      string = λ r p b. same_beside r.records (alike.string r.state p b);
      load = λ r p x n. load_same r p x (alike.load r.state p x n);
      define = λ r p x n. both_beside r.records (alike.define r.state p x n) (λ _ _ _ q. (q.0, record { state = q.1; records = r.records }));
      jump = λ r p b. same_beside r.records (alike.jump r.state p b);
      patch = λ j r. record { state = alike.patch j r.state; records = r.records };
      patch-under = λ j k r. record { state = alike.patch-under j k r.state; records = r.records };
      drop_pop = λ r p. same_beside r.records (alike.drop_pop r.state p);
      enter = λ r p x xs n ns. both_beside r.records (alike.enter r.state p x xs n ns) (λ _ _ _ q. (q.0, record { state = q.1; records = r.records }));
      leave = λ r r' p k h. same_beside r'.records (alike.leave r.state r'.state p k h);
    }

-- a tree and its shape, from states that are alike
pub records_shape : (b : Stmts) → WfStmts b → {s t : Logged} → AlikeLogged s t → Same (walk_stmts logging b s) (walk_stmts logging (map_stmts blank b) t)
records_shape b h r = both_stmts alike-logging b {w = tt} h r

-- A call and that with the tree's shape, from sessions that differ in literals alone

pub record TracedLike (compared : Type 0) (x y : Traced) : Type 0 where
  pub step : StepLike compared x.step y.step
  pub records : x.records ≡ y.records

untraced_like : {compared : Type 0} {x y : Step} → StepLike compared x y → TracedLike compared (untraced x) (untraced y)
untraced_like h = record { step = h; records = refl }

handed_same : {l l' : List Record} → l ≡ l' → {o p : Outcome} → OutcomeLike o p → handed l o ≡ handed l' p
handed_same e (OutcomeLike.accepted _) = ap reverse e
handed_same e (OutcomeLike.refused r) = refl

traced_like : {compared : Type 0} {l l' : List Record} {x y : Step} → l ≡ l' → StepLike compared x y → TracedLike compared (traced l x) (traced l' y)
traced_like e h = record { step = h; records = handed_same e h.outcome }

module _ {compared : Type 0} {z w : Session} (e : SessionLike compared z w) where
  finish_records_like : (room n : ℕ) {x y : Res Logged (Unit {0})} → Same x y → TracedLike compared (finish_records room n z x) (finish_records room n w y)
  finish_records_like room n (Both.on a r) =
      picked (TracedLike compared) (λ k. leb (length (r.records k)) room) (traced_like r.records (finish_like e n (Both.on a r.state))) (untraced_like (turned_down_like e _))
  finish_records_like room n (Both.stop r _ h) = untraced_like (turned_down_like e r)

  pub compile_records_like : (room : ℕ) (c : Request) → TracedLike compared (compile_records room z c) (compile_records room w (with_shape c))
  unfolding compile_records
  compile_records_like room c =
      picked (TracedLike compared) {b = enough c} refl
      (subst (λ p. TracedLike compared (translate_records room c.output z (read_tree c.tree)) (translate_records room c.output w p)) (read-shape c.tree)
      (by_reading (λ p x. TracedLike compared x (translate_records room c.output w (map_parsed (map_stmts blank) p))) (λ p. translate_records room c.output z p)
      (λ b _ h. finish_records_like room c.output (records_shape b h (record { state = e.starts; records = refl }))) (λ r _. untraced_like (turned_down_like e r)) c.tree))
      (untraced_like (turned_down_like e _))
