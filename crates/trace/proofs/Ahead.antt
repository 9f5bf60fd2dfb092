-- The pass before a tree is compiled: the session's names and words, and the number of records.
use Prim.Native.Nat.{ℕ, zero, suc, ◌+◌, ◌-◌, ◌≤◌}
use native.Mathlib.Omega.{arith}
use mathlib.Core.List.{[]}
use mathlib.Core.Path.{◌≡◌, refl, sym, ap, ◌∙◌}
use lib.ListN.{length, take}
use Rattle.definition.specs.Basic.{Bytes}
use Rattle.definition.specs.Limit.{globals_limit}
use Rattle.definition.specs.Tag.{tag_names}
use Rattle.definition.specs.Syntax.{Stmts}
use Rattle.definition.specs.Tree.{Parsed, read_tree}
use Rattle.definition.specs.Walk.{Res, walk_stmts}
use Rattle.definition.specs.Session.{six, Session, word_list}
use Rattle.definition.specs.Decode.{Decoded, decoded, malformed, list_in, words_in, read_session}
use Rattle.field.proofs.Reading.{names-read}
use Rattle.bytecode.specs.Checked.{layout_answer, session_answer}
use Rattle.bytecode.specs.declared.SessionLayout.{SessionLayout}
use Rattle.std.specs.Prelude.{None, Err}
use Rattle.session.proofs.Sessions.{front_length}
use Rattle.tree.specs.Check.{verdict}
use Rattle.definition.specs.declared.reason.Refusal.{Refusal}
use Rattle.symbol_table.specs.Contract.{HasItems}
use Rattle.compiler.specs.Stage.{words_end, Opened}
use Rattle.compiler.proofs.Started.{opened_names, opened_after}
use Rattle.compiler.proofs.Opened.{words_before}
use Rattle.records.specs.Naming.{Names, names, naming}
use Rattle.trace.specs.Log.{log_of}
use Rattle.trace.specs.Pass.{Logs, PassesTree}
use Rattle.trace.specs.Promise.{Counts, LooksAhead}
use Rattle.trace.specs.declared.Outlook.{Outlook}

-- a log has as many records as it says
pub log_length : (l : Bytes) (n : ℕ) → length (log_of l n) ≡ n
unfolding log_of
log_length l zero = refl
log_length l (suc n) = ap suc (log_length l n)

pub logs_count : (l : Bytes) (n : ℕ) (y : Res Names (Unit {0})) → Logs y l n → Counts y n
logs_count l n (Res.on a s) e = sym (log_length l n) ∙ ap length e
logs_count l n (Res.stop r s) e = tt

-- what is read is one session
pub same_session : {d : Decoded Session} {y z : Session} {m n : ℕ} → d ≡ decoded y m → d ≡ decoded z n → y ≡ z
same_session e f = ap (λ d. session_in d) (sym e ∙ f)
  where
    session_in : Decoded Session → Session
    session_in (decoded z n) = z
    session_in (malformed p) = record { words = six; globals = []; pool = [] }

module _ {e : Bytes} {l : SessionLayout} (x : Opened e l) where
  -- the names' fields, up to the end of the names
  pub opened_items : HasItems e (l.words_end + 3) l.names_end
  opened_items =
      let h = opened_names x in
      let r = names-read e tag_names globals_limit l.words_end h.names h.end h.reads in
      record { names = h.names; stop = h.end; reads = rw (sym (opened_after x)) r.items; order = omega (arith, opened_after x); within = omega (arith, r.fits, opened_after x) }

  opened_list : words_in (take l.names_end e) ≡ word_list x.session.words
  unfolding words_in
  opened_list = ap list_in (words_before x.session x.valid (λ i. take (x.layout i).names_end (x.bytes i)))

  -- the names begin behind the words
  pub opened_order : l.words_end + 3 ≤ l.names_end
  opened_order = opened_items.order

  pub opened_ahead : {tree l' : Bytes} {n : ℕ} → PassesTree tree e (l.words_end + 3) l.names_end l' n → LooksAhead tree e (record { count = n; names = l.names_end - (l.words_end + 3) })
  unfolding opened_items
  opened_ahead {tree} {l'} {n} p =
      record {
        older = λ z m b k h _.
            let q : x.session ≡ z = same_session x.reads h in
            let f : l.words_end ≡ words_end x.session = ap (λ (l : SessionLayout). l.words_end) x.layout in
            let g = ap (λ (l : SessionLayout). l.names_end) x.layout in
            rw (sym q) (omega (arith, f, g, front_length x.session.words x.session.globals));
        count = λ z m b k h t.
            let q : x.session ≡ z = same_session x.reads h in
            rw (sym q) (logs_count l' n (walk_stmts naming b (names (word_list x.session.words) [] x.session.globals [])) (rw opened_list at (p.logs b k t opened_items)));
      }

-- where the tree does not read, or the session, nothing is asked
pub tree_refused : {tree e : Bytes} {o : Outlook} {r : Refusal} → verdict (read_tree tree) ≡ Err r → LooksAhead tree e o
tree_refused {tree} h = record { older = λ z m b k _ t. absurd (no b k t); count = λ z m b k _ t. absurd (no b k t) }
  where
    no : (b : Stmts) (k : ℕ) → read_tree tree ≡ Parsed.parsed b k → ⊥
    no b k t = let c = sym (ap verdict t) ∙ h in let z : ◌≡◌ {A = ℕ} 0 1 = cc in omega arith

pub no-session : {tree e : Bytes} {o : Outlook} → layout_answer None ≡ session_answer (read_session e) → LooksAhead tree e o
no-session {tree} {e} h = record { older = λ z m b k s _. absurd (no z m s); count = λ z m b k s _. absurd (no z m s) }
  where
    no : (z : Session) (m : ℕ) → read_session e ≡ decoded z m → ⊥
    no z m s = let c = h ∙ ap session_answer s in let y : ◌≡◌ {A = ℕ} 0 1 = cc in omega arith
