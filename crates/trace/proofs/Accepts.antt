-- What a call with records promises, from the plain call: with few records, with enough, refused or accepted.
use Prim.Native.Nat.{ℕ, ◌+◌, ◌≤◌, ◌<◌}
use native.Mathlib.Omega.{arith}
use mathlib.Core.Bool.{Bool, true, false}
use mathlib.Core.List.{List, [], reverse}
use mathlib.Core.Path.{◌≡◌, refl, sym, ap, subst, ◌∙◌}
use lib.ListN.{length, take, drop, replicate, length-append, length-replicate}
use lib.Dec.{leb}
use lib.Seq.{take_at}
use borrow.Author.Tests.{le-leb, lt-leb, ne_eqb}
use Rattle.definition.specs.Basic.{Bytes, pick}
use Rattle.definition.specs.Limit.{session_size}
use Rattle.definition.specs.Number
use Rattle.definition.specs.Number.{refusal, number_of}
use Rattle.definition.specs.Tag.{tag_main, tag_pool}
use Rattle.definition.specs.Field.{field}
use Rattle.definition.specs.Bytecode.{Image, encode, pool_bytes, image_bytes}
use Rattle.definition.specs.Syntax.{Stmts}
use Rattle.definition.specs.Tree.{Parsed, read_tree}
use Rattle.definition.specs.Walk.{Res, walk_stmts}
use Rattle.definition.specs.Session.{Session, word_list, names_bytes, session_bytes}
use Rattle.definition.specs.Decode.{decoded, read_session}
use Rattle.definition.specs.Compile.{Outcome, Step, image_of, session_of, turned_down, finish, translate, enough, compile}
use Rattle.definition.specs.Call.{Lent, Called, cleared, refused_call, answered, request, call}
use Rattle.definition.specs.declared.reason.Refusal.{Refusal}
use Rattle.std.specs.Prelude.{Ok, Err}
use Rattle.definition.specs.Valid.{AreBytes, ValidSession}
use Rattle.definition.proofs.Sessions.{write_session, session_length}
use Rattle.definition.proofs.Steps.{compile-valid}
use Rattle.compiler.proofs.Whole.{compile_is}
use Rattle.compiler.proofs.Lent.{cleared_again}
use Rattle.field.specs.Layout.{after}
use Rattle.records.specs.Records.{Logged, traced, untraced}
use Rattle.records.specs.Naming.{names, names_of, naming}
use Rattle.records.specs.Call.{Recorded, unrecorded, over_records, recorded, call_records}
use Rattle.records.specs.declared.Record.{Record}
use Rattle.trace.specs.Log.{log_of}
use Rattle.trace.specs.Promise.{few_of, Counts, LooksAhead, HasOlder, Traces}
use Rattle.trace.specs.Pass.{Logs, PassesTree}
use Rattle.trace.specs.declared.Outlook.{Outlook}
use Rattle.trace.proofs.Calls.{with_output, Seen}
use Rattle.trace.proofs.Grown.{Grew, walk_grew}
use Rattle.trace.proofs.Older.{Older, older}

-- a call that wrote no records: all is as the call with records leaves it
pub untraced-call : {tree : Bytes} {l : Lent} {room : ℕ} {q : Refusal} {l' : Lent} → ((rs : List Record) → length rs ≡ room → call_records tree l rs ≡ unrecorded rs (record { answer = Err q; lent = l' })) → Traces tree l room (Err q) l'
unfolding log_of
untraced-call h =
    record {
      answer = λ rs e. sym (ap (λ (x : Recorded). x.called.answer) (h rs e));
      count = λ rs e. sym (ap (λ (x : Recorded). x.count) (h rs e));
      session = λ rs e. sym (ap (λ (x : Recorded). x.called.lent.session) (h rs e));
      output = λ rs e. sym (ap (λ (x : Recorded). x.called.lent.output) (h rs e));
      code = λ rs e. sym (ap (λ (x : Recorded). x.called.lent.code) (h rs e));
      table = λ rs e. sym (ap (λ (x : Recorded). x.called.lent.table) (h rs e));
      records = λ rs e. sym (ap (λ (x : Recorded). x.records) (h rs e));
      within = omega arith;
      long = tt;
      fits = omega arith;
      few = omega arith;
    }

-- an image has bytes
image_some : (m : Image) → 0 < length (image_bytes m)
image_some m = omega (arith, length-append (field tag_main (encode m.code)) (field tag_pool (pool_bytes m.pool)))

-- the count that was looked ahead
pub counted : (s : Logged) (z : Session) (b : Stmts) {n : ℕ} → walk_stmts naming b (names (word_list z.words) [] z.globals []) ≡ Res.on tt (names_of s) → Counts (walk_stmts naming b (names (word_list z.words) [] z.globals [])) n → n ≡ length s.records
counted s z b w c = rw w at c

module _ (tree : Bytes) (l : Lent) {o : Outlook} (look : LooksAhead tree (take session_size l.session) o) where
  -- few records: the plain call without an output
  pub few_call : Seen tree l → (room : ℕ) → room < o.count → (rs : List Record) → length rs ≡ room
      → call_records tree l rs ≡ unrecorded rs (record { answer = few_of (call tree (with_output [] l)).answer; lent = with_output l.output (call tree (with_output [] l)).lent })
  few_call (Seen.refused r n c p) room h rs e =
      p rs ∙ sym (ap (λ (x : Called). unrecorded rs (record { answer = few_of x.answer; lent = with_output l.output x.lent })) (c []) ∙ ap (λ a. unrecorded rs (record { answer = a; lent = (refused_call r l).lent })) (same r n))
    where
      same : (r : Refusal) → (number_of r.reason ≡ number_of Number.output_short → ⊥) → few_of (Err r) ≡ Err r
      same r n = rw (ne_eqb (number_of r.reason) (number_of Number.output_short) n)
  few_call (Seen.walked z m b k s a t w y c p) room h rs e =
      let n : length rs < length s.records = omega (arith, counted s z b w (look.count z m b k a t)) in
      p rs ∙ ap (λ x. recorded l rs (pick x (traced s.records (finish (length l.output) z (Res.on tt s.state))) (untraced (turned_down z (refusal Number.few_records 0))))) (lt-leb (length s.records) (length rs) n)
      ∙ sym (ap (λ (x : Called). unrecorded rs (record { answer = few_of x.answer; lent = with_output l.output x.lent })) (c [] ∙ ap (λ x. let f = pick x (record { outcome = Outcome.accepted (image_of s.state); session = session_of s.state }) (turned_down z (refusal Number.output_short 0)) in answered (with_output [] l) f.session f.outcome) (lt-leb (length (image_bytes (image_of s.state))) 0 (image_some (image_of s.state)))))

  -- enough records: the plain call
  module _ (room : ℕ) (h : o.count ≤ room) where
    enough_records : (z : Session) (m : ℕ) (b : Stmts) (k : ℕ) (s : Logged) → read_session (take session_size l.session) ≡ decoded z m → read_tree tree ≡ Parsed.parsed b k → walk_stmts naming b (names (word_list z.words) [] z.globals []) ≡ Res.on tt (names_of s) → length s.records ≤ room
    enough_records z m b k s a t w = omega (arith, counted s z b w (look.count z m b k a t))

    -- refused
    pub enough-refused : Seen tree l → (q : Refusal) → (call tree l).answer ≡ Err q → (rs : List Record) → length rs ≡ room → call_records tree l rs ≡ unrecorded rs (call tree l)
    enough-refused (Seen.refused r n c p) q f rs e = p rs ∙ sym (ap (unrecorded rs) (c l.output))
    enough-refused (Seen.walked z m b k s a t w y c p) q f rs e =
        p rs ∙ ap (λ x. recorded l rs (pick x (traced s.records (finish (length l.output) z (Res.on tt s.state))) (untraced (turned_down z (refusal Number.few_records 0))))) (le-leb (length s.records) (length rs) (omega (arith, enough_records z m b k s a t w)))
        ∙ last (finish (length l.output) z (Res.on tt s.state)) (c l.output)
      where
        last : (x : Step) → call tree l ≡ answered l x.session x.outcome → recorded l rs (traced s.records x) ≡ unrecorded rs (call tree l)
        last x g = go x.session x.outcome g
          where
            go : (z : Session) (u : Outcome) → call tree l ≡ answered l z u → recorded l rs (traced s.records (record { outcome = u; session = z })) ≡ unrecorded rs (call tree l)
            go z (Outcome.accepted i) g = let v = sym f ∙ ap (λ (x : Called). x.answer) g in let no : ◌≡◌ {A = ℕ} 0 1 = cc in absurd (omega arith)
            go z (Outcome.refused r) g = ap (unrecorded rs) (sym g)

-- a tree that was accepted
pub record AcceptedBy (tree : Bytes) (l : Lent) : Type 0 where
  pub session : Session
  pub end : ℕ
  pub body : Stmts
  pub last : ℕ
  pub state : Logged
  pub session_reads : read_session (take session_size l.session) ≡ decoded session end
  pub tree_reads : read_tree tree ≡ Parsed.parsed body last
  pub walks : walk_stmts naming body (names (word_list session.words) [] session.globals []) ≡ Res.on tt (names_of state)
  pub step : compile session (request l tree) ≡ record { outcome = Outcome.accepted (image_of state.state); session = session_of state.state }
  pub called : call tree l ≡ answered l (session_of state.state) (Outcome.accepted (image_of state.state))
  pub recorded : (rs : List Record) → length state.records ≤ length rs → call_records tree l rs ≡ record { called = call tree l; count = length (reverse state.records); records = over_records (reverse state.records) rs }

pub accepted_by : (tree : Bytes) (l : Lent) → enough (request l tree) ≡ true → Seen tree l → (n : ℕ) → (call tree l).answer ≡ Ok n → AcceptedBy tree l
accepted_by tree l big (Seen.refused r x c p) n f = let v = sym f ∙ ap (λ (y : Called). y.answer) (c l.output) in let no : ◌≡◌ {A = ℕ} 0 1 = cc in absurd (omega arith)
accepted_by tree l big (Seen.walked z m b k s a t w y c p) n f = go (leb (length (image_bytes (image_of s.state))) (length l.output)) refl
  where
    ended : Bool → Step
    ended x = pick x (record { outcome = Outcome.accepted (image_of s.state); session = session_of s.state }) (turned_down z (refusal Number.output_short 0))

    compiled : compile z (request l tree) ≡ finish (length l.output) z (Res.on tt s.state)
    compiled = compile_is tree l big z ∙ ap (translate (length l.output) z) t ∙ ap (finish (length l.output) z) y

    go : (x : Bool) → leb (length (image_bytes (image_of s.state))) (length l.output) ≡ x → AcceptedBy tree l
    go true q =
        let called : call tree l ≡ answered l (session_of s.state) (Outcome.accepted (image_of s.state)) = c l.output ∙ ap (λ x. answered l (ended x).session (ended x).outcome) q in
        record {
          session = z;
          end = m;
          body = b;
          last = k;
          state = s;
          session_reads = a;
          tree_reads = t;
          walks = w;
          step = compiled ∙ ap ended q;
          called = called;
          recorded = λ rs h.
              p rs ∙ ap (λ x. recorded l rs (pick x (traced s.records (finish (length l.output) z (Res.on tt s.state))) (untraced (turned_down z (refusal Number.few_records 0))))) (le-leb (length s.records) (length rs) h)
              ∙ ap (λ x. recorded l rs (traced s.records (ended x))) q
              ∙ (λ i. record { called = sym called i; count = length (reverse s.records); records = over_records (reverse s.records) rs });
        }
    go false q = let v = sym f ∙ ap (λ (y : Called). y.answer) (c l.output ∙ ap (λ x. answered l (ended x).session (ended x).outcome) q) in let no : ◌≡◌ {A = ℕ} 0 1 = cc in absurd (omega arith)

-- zeros twice are zeros once
pub cleared_twice : (n : ℕ) (a : List ℕ) → cleared n (cleared n a) ≡ cleared n a
cleared_twice n a = cleared_again n (replicate n 0) a (length-replicate n 0)

module _ {tree : Bytes} {l : Lent} (x : AcceptedBy tree l) (bytes : AreBytes (take session_size l.session)) (long : length (take session_size l.session) ≡ session_size) where
  before_valid : ValidSession x.session
  before_valid = (write_session (take session_size l.session) bytes long x.session_reads).sound

  after_valid : ValidSession (session_of x.state.state)
  after_valid = subst (λ (y : Step). ValidSession y.session) x.step (compile-valid x.session before_valid (request l tree)).session

  grew : Grew (word_list x.session.words) x.session.globals (names_of x.state)
  grew = walk_grew x.body (word_list x.session.words) x.session.globals (names_of x.state) x.walks

  -- the session afterwards
  pub session_front : {e : Bytes} → e ≡ (call tree l).lent.session → take session_size e ≡ session_bytes (session_of x.state.state)
  session_front q =
      ap (take session_size) (q ∙ ap (λ (c : Called). c.lent.session) x.called)
      ∙ take_at (session_bytes (session_of x.state.state)) (drop (length (session_bytes (session_of x.state.state))) l.session) session_size (session_length (session_of x.state.state) after_valid)

  pub accepted_older : Older (session_bytes (session_of x.state.state)) x.state.state.words x.session.globals
  accepted_older = older x.state.state.words x.state.state.globals x.state.state.pool after_valid x.session.globals grew.new grew.globals before_valid.names

  module _ {e : Bytes} (q : e ≡ (call tree l).lent.session) {o : Outlook} (look : LooksAhead tree (take session_size l.session) o) where
    names_are : o.names ≡ length (names_bytes x.session.globals)
    names_are = look.older x.session x.end x.body x.last x.session_reads x.tree_reads

    pub has-older : HasOlder (take session_size e) o.names
    has-older = rw (session_front q, names_are) accepted_older.has

    -- the second pass logs the call's records
    pub second_logs : {c : Bytes} {n : ℕ} → PassesTree tree (take session_size e) (after (take session_size e) 0 + 3) (after (take session_size e) 0 + 3 + o.names) c n → log_of c n ≡ x.state.records
    second_logs {c} {n} p =
        let p₁ : PassesTree tree (session_bytes (session_of x.state.state)) (after (session_bytes (session_of x.state.state)) 0 + 3) (after (session_bytes (session_of x.state.state)) 0 + 3 + length (names_bytes x.session.globals)) c n = rw (session_front q, names_are) at p in
        let u = p₁.logs x.body x.last x.tree_reads accepted_older.has.items in
        let v : Logs (walk_stmts naming x.body (names (word_list x.session.words) [] x.session.globals [])) c n = rw (accepted_older.names, accepted_older.words, grew.words) at u in
        rw x.walks at v
