-- Series in which each call is a plain one or one with records: sessions read back, condition 3 with the records, and P2.
use Prim.Native.Nat.{ℕ, ◌≤◌}
use native.Mathlib.Omega.{arith}
use mathlib.Core.Bool.{false}
use mathlib.Core.List.{List, [], ◌∷◌}
use mathlib.Core.Path.{◌≡◌, refl, sym, ap, subst, ◌∙◌}
use lib.ListN.{length, take}
use lib.Seq.{take-append_seam}
use Rattle.definition.specs.Basic.{Bytes}
use Rattle.definition.specs.Limit.{session_size}
use Rattle.definition.specs.Number
use Rattle.definition.specs.Number.{refusal, number_of}
use Rattle.definition.specs.Shape.{shape}
use Rattle.definition.specs.Tree.{read_tree}
use Rattle.definition.specs.Session.{Words, word_list, field_count, Session, begun, session_fields}
use Rattle.definition.specs.Decode.{read_session}
use Rattle.definition.specs.Compile.{Step, Request, turned_down, enough, compile}
use Rattle.definition.specs.Call.{Called, request}
use Rattle.definition.specs.Valid.{All, ValidSession}
use Rattle.definition.specs.Series.{Call, Start, lent, Alike as AlikeCalls, shaped, ReadsBack, session_after}
use Rattle.definition.specs.Trusted.{TrustedCall, TrustedStep}
use Rattle.definition.specs.declared.reason.Refusal.{Refusal}
use Rattle.std.specs.Prelude.{Err}
use Rattle.records.specs.Records.{identifiers, Traced, untraced, translate_records, compile_records}
use Rattle.records.specs.Call.{Recorded, unrecorded, recorded, in_session_records, call_records, Turn, turn, turns, AlikeTurn, AllAlikeTurns, shaped_turn, shaped_turns_from, shaped_turns, SameTurn, IndistinguishableTurns}
use Rattle.records.specs.declared.Record.{Record}
use Rattle.definition.proofs.Basic.{chosen, pick_false}
use Rattle.definition.proofs.Steps.{not_two, ValidStep, CompileNumber, compile-valid, turned_down-valid, SessionLike, like_itself, StepLike, with_shape, compile_like}
use Rattle.definition.proofs.Sessions.{read-session, session_length}
use Rattle.definition.proofs.Series.{Holds, CallIs, front, before_length, kept, written, lent_room, lent_reads, call_does, answer_sound, start_holds, same_step, begun_like}
use Rattle.definition.proofs.Invariant.{keeps_compile}
use Rattle.definition.proofs.Trusted.{FitSession, fitting, begun-fits, trusted_step, wrote}
use Rattle.records.proofs.Logged.{Agrees, compile_agrees}
use Rattle.records.proofs.LoggedAlike.{TracedLike, compile_records_like}

-- a turn's call, and what the definition gives for it in a session
abbrev pub call_of : Turn → Call
call_of (Turn.plain c) = c
call_of (Turn.with_records c rs) = c

abbrev pub asked : Bytes → Turn → Request
asked s t = request (lent s (call_of t)) (call_of t).tree

abbrev pub traced_turn : Bytes → Session → Turn → Traced
traced_turn s z (Turn.plain c) = untraced (compile z (asked s (Turn.plain c)))
traced_turn s z (Turn.with_records c rs) = compile_records (length rs) z (asked s (Turn.with_records c rs))

-- a turn of a series whose session was s, on a buffer of n bytes, gave a step and left its session, and wrote its records at the front
pub record TurnIs (x : Recorded) (s : Bytes) (n : ℕ) (p : Traced) : Type 0 where
  pub call : CallIs x.called s n p.step.outcome p.step.session
  pub count : x.count ≡ length p.records
  pub records : take x.count x.records ≡ p.records

module _ (s : Bytes) (z : Session) (h : Holds s z) (c : Call) (rs : List Record) where
  abbrev q : Request
  q = request (lent s c) c.tree

  abbrev next : Traced
  next = compile_records (length rs) z q

  abbrev Does : Recorded → Traced → Type 0
  Does x p = TurnIs x s (length c.session) p

  -- a refusal
  stays : (r : Refusal) {x : Called} → x.answer ≡ Err r → x.lent.session ≡ (lent s c).session → Does (unrecorded rs x) (untraced (turned_down z r))
  stays r a e = record { call = kept s z h c a e; count = refl; records = refl }

  after : session_size ≤ length (lent s c).session → {t : Traced} {x : Step} → Agrees (length rs) z (identifiers c.tree) t x → ValidSession x.session → Does (recorded (lent s c) rs t) t
  after room (Agrees.refused r) v = stays r refl refl
  after room (Agrees.accepted {m} {w} {l = new} _ _) v = record { call = written s z h c room m w v; count = refl; records = take-append_seam new _ }
  after room (Agrees.few _ _) v = stays _ refl refl

  when_short : enough q ≡ false → next ≡ untraced (turned_down z (refusal Number.short_buffer 0))
  unfolding compile_records
  when_short e = pick_false (translate_records (length rs) q.output z (read_tree q.tree)) (untraced (turned_down z (refusal Number.short_buffer 0))) e

  records_call_does : Does (call_records c.tree (lent s c) rs) next
  unfolding call_records
  records_call_does =
      chosen (λ x. Does x next) (enough q)
      (λ e. subst (λ d. Does (in_session_records (lent s c) rs c.tree d) next) (sym (lent_reads s z h c e)) (after (lent_room s z h c e) (compile_agrees (length rs) z q) (compile-valid z h.valid q).session))
      (λ e. subst (Does (unrecorded rs (record { answer = Err (refusal Number.short_buffer 0); lent = lent s c }))) (sym (when_short e)) (stays _ refl refl))

pub turn_does : (s : Bytes) (z : Session) → Holds s z → (t : Turn) → TurnIs (turn s t) s (length (call_of t).session) (traced_turn s z t)
turn_does s z h (Turn.plain c) = record { call = call_does s z h c; count = refl; records = refl }
turn_does s z h (Turn.with_records c rs) = records_call_does s z h c rs

-- A turn's step is the plain call's, or a refusal of the session as it was: so what plain calls keep, turns keep

pub data StepOf (z : Session) : Step → Step → Type 0 where
  plain : {x : Step} → StepOf z x x
  few : {x : Step} → StepOf z (turned_down z (refusal Number.few_records 0)) x

step_of : {room : ℕ} {z : Session} {ids : List ℕ} {t : Traced} {x : Step} → Agrees room z ids t x → StepOf z t.step x
step_of (Agrees.refused r) = StepOf.plain
step_of (Agrees.accepted _ _) = StepOf.plain
step_of (Agrees.few _ _) = StepOf.few

pub turn_step : (s : Bytes) (z : Session) (t : Turn) → StepOf z (traced_turn s z t).step (compile z (asked s t))
turn_step s z (Turn.plain c) = StepOf.plain
turn_step s z (Turn.with_records c rs) = step_of (compile_agrees (length rs) z (request (lent s c) c.tree))

-- the numbers of a turn
data TurnNumber (n : ℕ) : Type 0 where
  plain : CompileNumber n → TurnNumber n
  few : n ≡ number_of Number.few_records → TurnNumber n

not_session : {n : ℕ} → TurnNumber n → n ≡ number_of Number.no_session → ⊥
not_session (TurnNumber.plain h) e = not_two h e
not_session (TurnNumber.few f) e = omega arith

step-valid : {z : Session} {x y : Step} → ValidSession z → StepOf z x y → ValidStep CompileNumber z y → ValidStep TurnNumber z x
step-valid v StepOf.plain h = record { session = h.session; image = h.image; kept = h.kept; number = λ r e. TurnNumber.plain (h.number r e) }
step-valid {z} v StepOf.few h = turned_down-valid z v (refusal Number.few_records 0) (TurnNumber.few refl)

reads_back : (s : Bytes) (z : Session) → Holds s z → (ts : List Turn) → All (λ (x : Recorded). ReadsBack x.called) (turns s ts)
reads_back s z h [] = All.none
reads_back s z h (t ∷ ts) =
    let d = (turn_does s z h t).call in
    let v = step-valid h.valid (turn_step s z t) (compile-valid z h.valid (asked s t)) in
    let n = (traced_turn s z t).step.session in
    All.more
    (record { session = n; end = length (session_fields n); reads = λ room. ap read_session (front d room) ∙ read-session n v.session; valid = v.session; sound = answer_sound d.gave (λ r e. not_session (v.number r e)) })
    (reads_back (session_after s (turn s t).called.lent.session) n d.holds ts)

-- A session that calls of either kind alone have written always reads back
pub turns-read_back : {s : Bytes} {w : Words} → Start s w → (ts : List Turn) → All (λ (x : Recorded). ReadsBack x.called) (turns s ts)
turns-read_back {s} {w} x ts = reads_back s (begun w) (start_holds x) ts

-- P2

step_fits : {z : Session} {x y : Step} → FitSession z → StepOf z x y → FitSession y.session → FitSession x.session
step_fits f StepOf.plain h = h
step_fits f StepOf.few h = f

step_trusted : {z : Session} {x y : Step} → StepOf z x y → TrustedStep y → TrustedStep x
step_trusted StepOf.plain h = h
step_trusted StepOf.few h = record { image = λ m e. let z : ◌≡◌ {A = ℕ} 0 1 = cc in absurd (omega arith) }

turns_trusted : (s : Bytes) (z : Session) → Holds s z → FitSession z → (ts : List Turn) → All (λ (x : Recorded). TrustedCall x.called) (turns s ts)
turns_trusted s z h f [] = All.none
turns_trusted s z h f (t ∷ ts) =
    let d = (turn_does s z h t).call in
    let q = asked s t in
    All.more (wrote d (step_trusted (turn_step s z t) (trusted_step z h.valid f q)).image)
    (turns_trusted (session_after s (turn s t).called.lent.session) (traced_turn s z t).step.session d.holds (step_fits f (turn_step s z t) (keeps_compile fitting z f q).session) ts)

-- P2 on lent memory, where each call is of either kind
pub trusted_turns : {s : Bytes} {w : Words} → Start s w → (ts : List Turn) → All (λ (x : Recorded). TrustedCall x.called) (turns s ts)
trusted_turns {s} {w} x ts = turns_trusted s (begun w) (start_holds x) (begun-fits w) ts

-- Condition 3

-- a turn beside the shapes' turn
pub turn_like : {compared : Type 0} (s : Bytes) {z p : Session} → length s ≡ session_size → (t : Turn) → SessionLike compared z p → TracedLike compared (traced_turn s z t) (shaped_turn p t)
turn_like {compared} s {z} {p} e t l = go t
  where
    -- as long with the session in it
    shaped_is : (c : Call) → with_shape (request (lent s c) c.tree) ≡ shaped c
    shaped_is c = λ i. record { code = length c.code; table = length c.table; session = before_length s e c.session i; output = length c.output; tree = shape c.tree }

    go : (t : Turn) → TracedLike compared (traced_turn s z t) (shaped_turn p t)
    go (Turn.plain c) = record { step = subst (λ r. StepLike compared (compile z (request (lent s c) c.tree)) (compile p r)) (shaped_is c) (compile_like l (request (lent s c) c.tree)); records = refl }
    go (Turn.with_records c rs) =
        subst (λ r. TracedLike compared (compile_records (length rs) z (request (lent s c) c.tree)) (compile_records (length rs) p r)) (shaped_is c) (compile_records_like l (length rs) (request (lent s c) c.tree))

-- the shapes' turn of two that are alike is one
shaped_same : {c d : Call} → AlikeCalls c d → shaped d ≡ shaped c
shaped_same a = λ i. record { code = sym a.code i; table = sym a.table i; session = sym a.session i; output = sym a.output i; tree = sym a.tree i }

pub turns_same : {t u : Turn} → AlikeTurn t u → (p : Session) → shaped_turn p u ≡ shaped_turn p t
turns_same (AlikeTurn.plain a) p = λ i. untraced (compile p (shaped_same a i))
turns_same (AlikeTurn.with_records a e) p = λ i. compile_records (sym e i) p (shaped_same a i)

-- their buffers are equally long
pub turn_long : {t u : Turn} → AlikeTurn t u → length (call_of t).session ≡ length (call_of u).session
turn_long (AlikeTurn.plain a) = a.session
turn_long (AlikeTurn.with_records a e) = a.session

same_turn : {compared : Type 0} {x y : Recorded} {s t : Bytes} {n : ℕ} {u v p : Traced} → TurnIs x s n u → TurnIs y t n v → TracedLike compared u p → TracedLike compared v p → SameTurn compared p x y
same_turn d e l k =
    record {
      called = same_step d.call e.call l.step k.step;
      counts = (d.count ∙ ap length l.records, e.count ∙ ap length k.records);
      records = (d.records ∙ l.records, e.records ∙ k.records);
    }

pub held_size : {s : Bytes} {z : Session} → Holds s z → length s ≡ session_size
held_size {z = z} h = ap length h.bytes ∙ session_length z h.valid

series_same : {compared : Type 0} {ts us : List Turn} → AllAlikeTurns ts us → (s t : Bytes) (x y p : Session) → Holds s x → Holds t y → SessionLike compared x p → SessionLike compared y p
    → IndistinguishableTurns compared (shaped_turns_from p ts) (turns s ts) (turns t us)
series_same AllAlikeTurns.none s t x y p h k e f = IndistinguishableTurns.done
series_same {compared} (AllAlikeTurns.more {t = c} {u = d} a rest) s t x y p h k e f =
    IndistinguishableTurns.step (same_turn dc dd lc ld) (series_same rest _ _ _ _ _ dc.call.holds dd.call.holds lc.step.session ld.step.session)
  where
    dc : TurnIs (turn s c) s (length (call_of c).session) (traced_turn s x c)
    dc = turn_does s x h c

    dd : TurnIs (turn t d) t (length (call_of c).session) (traced_turn t y d)
    dd = subst (λ n. TurnIs (turn t d) t n (traced_turn t y d)) (sym (turn_long a)) (turn_does t y k d)

    lc : TracedLike compared (traced_turn s x c) (shaped_turn p c)
    lc = turn_like s (held_size h) c e

    ld : TracedLike compared (traced_turn t y d) (shaped_turn p c)
    ld = subst (TracedLike compared (traced_turn t y d)) (turns_same a p) (turn_like t (held_size k) d f)

-- Condition 3, whole, with records: two series of calls, plain or with records, each from a session that was made with equal words, whose lent lengths are
-- equal, which lend equally many records, and whose trees have equal shapes, call by call, give the same answers, counts and records, and images and
-- sessions that are equal at all but the literal bytes
pub condition_3_records : {s t : Bytes} {u v : Words} → Start s u → Start t v → word_list u ≡ word_list v → (ts us : List Turn) → AllAlikeTurns ts us
    → IndistinguishableTurns (field_count u ≡ field_count v) (shaped_turns u ts) (turns s ts) (turns t us)
condition_3_records {s} {t} {u} {v} x y e ts us alike = series_same alike s t (begun u) (begun v) (begun u) (start_holds x) (start_holds y) (like_itself (begun u)) (begun_like u v e)
