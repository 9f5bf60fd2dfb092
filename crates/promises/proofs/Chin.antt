-- In condition 3's two series, of plain calls and calls with records, `to_chin` answers alike on both images of every step, and what it
-- writes agrees at all but the literals' places.
use Prim.Native.Nat.{ℕ}
use native.Mathlib.Omega.{arith}
use mathlib.Core.Bool.{Bool, true, false}
use mathlib.Core.List.{List, map}
use mathlib.Core.Path.{◌≡◌, refl, sym, ap, subst, subst₂, ◌∙◌}
use lib.Dec.{leb}
use lib.ListN.{length, take}
use lib.Seq.{take-append_seam}
use Rattle.std.specs.Prelude.{Ok, Err}
use Rattle.definition.specs.Basic.{Bytes, pick}
use Rattle.definition.specs.Number.{refusal, output_short}
use Rattle.definition.specs.Bytecode.{image_bytes}
use Rattle.definition.specs.Session.{Words, word_list, field_count, Session, begun}
use Rattle.definition.specs.Compile.{Outcome, Step, Request, compile}
use Rattle.definition.specs.Call.{Called}
use Rattle.definition.specs.Literal.{Mask, image_mask}
use Rattle.definition.specs.Output.{over}
use Rattle.definition.specs.Series.{Call, Start, calls, AllAlike, shaped, shapes, Agree}
use Rattle.definition.specs.Valid.{ValidSession}
use Rattle.definition.proofs.Series.{Holds, Gave, begun_like, start_holds}
use Rattle.definition.proofs.Basic.{pick_true}
use Rattle.definition.proofs.Agreement.{agree-length, image-length}
use Rattle.definition.proofs.Steps.{compile-valid, OutcomeLike, SessionLike, like_itself}
use Rattle.records.specs.Records.{Traced}
use Rattle.records.specs.Call.{Turn, turn, turns, AllAlikeTurns, shaped_turn, shaped_turns_from, shaped_turns}
use Rattle.records.proofs.Logged.{Agrees, compile_agrees}
use Rattle.records.proofs.LoggedAlike.{TracedLike}
use Rattle.records.proofs.Turns.{call_of, asked, traced_turn, TurnIs, turn_does, StepOf, turn_step, turn_like, turns_same, turn_long, held_size}
use Rattle.chin.specs.Chin.{Given, to_chin, answer_of, output_of}
use Rattle.chin.proofs.Agreement.{SameGiven, ChinAnswers, Valid, outcomes-alike}
use Rattle.promises.specs.Alike.{ChinAgree, ChinAlike, ChinStepwise}
use Rattle.promises.proofs.Plain.{called_in, steps_in, plain-turns, plain-shapes, plain-alike}

-- a turn's step has a valid image and session
record Sound (x : Step) : Type 0 where
  session : ValidSession x.session
  image : Valid x.outcome

-- a refusal for too few records keeps the session and has no image
step_sound : {z : Session} {x y : Step} → ValidSession z → StepOf z x y → Sound y → Sound x
step_sound v StepOf.plain h = h
step_sound v StepOf.few h = record { session = v; image = λ m e. let w : ◌≡◌ {A = ℕ} 0 1 = cc in absurd (omega arith) }

-- the plain call
compile_sound : (z : Session) → ValidSession z → (c : Request) → Sound (compile z c)
compile_sound z v c = let w = compile-valid z v c in record { session = w.session; image = w.image }

-- a turn
turn_sound : (s : Bytes) (z : Session) → ValidSession z → (t : Turn) → Sound (traced_turn s z t).step
turn_sound s z v t = step_sound v (turn_step s z t) (compile_sound z v (asked s t))

-- the shapes' step, too
agreed : {room : ℕ} {z : Session} {ids : List ℕ} {t : Traced} {x : Step} → ValidSession z → Agrees room z ids t x → Sound x → Sound t.step
agreed v (Agrees.refused r) h = h
agreed v (Agrees.accepted _ _) h = h
agreed v (Agrees.few _ _) h = record { session = v; image = λ m e. let w : ◌≡◌ {A = ℕ} 0 1 = cc in absurd (omega arith) }

-- of either kind
shaped_sound : (z : Session) → ValidSession z → (t : Turn) → Sound (shaped_turn z t).step
shaped_sound z v (Turn.plain c) = compile_sound z v (shaped c)
shaped_sound z v (Turn.with_records c rs) = agreed v (compile_agrees (length rs) z (shaped c)) (compile_sound z v (shaped c))

-- two answers with equally much room are one
same_answers : {m : Mask} {g h : Given} → SameGiven m g h → {n k : ℕ} → n ≡ k → answer_of g n ≡ answer_of h k
same_answers (SameGiven.agreeing k) e = let l = agree-length k in λ i. pick (leb (l i) (e i)) (Ok (l i)) (Err (refusal output_short 0))
same_answers (SameGiven.refusing r) e = refl

-- and what is written agrees
front : {m : Mask} {g h : Given} → SameGiven m g h → (o p : Bytes) {o' p' : Bytes} {n : ℕ} → length o ≡ length p → answer_of g (length o) ≡ Ok n
    → o' ≡ output_of g o → p' ≡ output_of h p → Agree m (take n o') (take n p')
front {m} (SameGiven.agreeing {b} {c} k) o p {o'} {p'} {n} e t f g = go (leb (length b) (length o)) refl
  where
    len : length b ≡ length c
    len = agree-length k

    go : (x : Bool) → leb (length b) (length o) ≡ x → Agree m (take n o') (take n p')
    go true l =
        let z : Ok (length b) ≡ Ok n = sym (ap (λ x. pick x (Ok (length b)) (Err (refusal output_short 0))) l) ∙ t in
        let v : n ≡ length b = cc in
        let l' : leb (length c) (length p) ≡ true = (λ i. leb (sym len i) (sym e i)) ∙ l in
        let left : take n o' ≡ b = (λ i. take (v i) (f i)) ∙ ap (take (length b)) (pick_true (over b o) o l) ∙ take-append_seam b _ in
        let right : take n p' ≡ c = (λ i. take ((v ∙ len) i) (g i)) ∙ ap (take (length c)) (pick_true (over c p) p l') ∙ take-append_seam c _ in
        subst₂ (Agree m) (sym left) (sym right) k
    go false l =
        let q : Err (refusal output_short 0) ≡ Ok n = sym (ap (λ x. pick x (Ok (length b)) (Err (refusal output_short 0))) l) ∙ t in
        let z : ◌≡◌ {A = ℕ} 0 1 = cc in absurd (omega arith)
front (SameGiven.refusing r) o p e t f g = let z : ◌≡◌ {A = ℕ} 0 1 = cc in absurd (omega arith)

-- calls that keep the promise of `to_chin` answer alike
chin_agree : {m : Mask} {a b : Bytes} → SameGiven m (to_chin a) (to_chin b) → ChinAgree m a b
chin_agree s =
    record {
      answers = λ t u e. t.answer ∙ same_answers s e ∙ sym u.answer;
      bytes = λ {o} {p} t u e r. front s o p e (sym t.answer ∙ r) t.output u.output;
    }

-- what two outcomes give in the chin form is what their calls left
alike : {o q p : Outcome} {x y : Called} → OutcomeLike o p → OutcomeLike q p → Gave o x → Gave q y → ChinAnswers p o q → ChinAlike p x y
alike (OutcomeLike.accepted {x = a} {y = m} r) (OutcomeLike.accepted {x = b} k) (Gave.accepted {x = x} e t _) (Gave.accepted {x = y} f u _) (ChinAnswers.images h) =
    let l : length (image_bytes b) ≡ length (image_bytes a) = image-length k ∙ sym (image-length r) in
    ChinAlike.accepted {n = length (image_bytes a)} e (subst (λ n. y.answer ≡ n) (λ i. Ok (l i)) f)
    (chin_agree (subst₂ (λ c d. SameGiven (image_mask m) (to_chin c) (to_chin d)) (sym t) (sym u ∙ ap (λ n. take n y.lent.output) l) h))
alike (OutcomeLike.refused r) (OutcomeLike.refused _) (Gave.refused e) (Gave.refused f) h = ChinAlike.refused e f

-- from sessions that differ in literals alone
chin_from : {compared : Type 0} {ts us : List Turn} → AllAlikeTurns ts us → (s t : Bytes) (x y p : Session) → Holds s x → Holds t y
    → ValidSession p → SessionLike compared x p → SessionLike compared y p
    → ChinStepwise (steps_in (shaped_turns_from p ts)) (called_in (turns s ts)) (called_in (turns t us))
chin_from AllAlikeTurns.none s t x y p h k v e f = ChinStepwise.done
chin_from {compared} (AllAlikeTurns.more {t = c} {u = d} a rest) s t x y p h k v e f =
    ChinStepwise.step (alike lc.step.outcome ld.step.outcome dc.call.gave dd.call.gave (outcomes-alike (turn_sound s x h.valid c).image (turn_sound t y k.valid d).image (shaped_sound p v c).image lc.step.outcome ld.step.outcome))
    (chin_from rest _ _ _ _ _ dc.call.holds dd.call.holds (shaped_sound p v c).session lc.step.session ld.step.session)
  where
    dc : TurnIs (turn s c) s (length (call_of c).session) (traced_turn s x c)
    dc = turn_does s x h c

    dd : TurnIs (turn t d) t (length (call_of c).session) (traced_turn t y d)
    dd = subst (λ n. TurnIs (turn t d) t n (traced_turn t y d)) (sym (turn_long a)) (turn_does t y k d)

    lc : TracedLike compared (traced_turn s x c) (shaped_turn p c)
    lc = turn_like s (held_size h) c e

    ld : TracedLike compared (traced_turn t y d) (shaped_turn p c)
    ld = subst (TracedLike compared (traced_turn t y d)) (turns_same a p) (turn_like t (held_size k) d f)

-- two series of turns from sessions of equal words
pub turns_chin : {s t : Bytes} {u v : Words} → Start s u → Start t v → word_list u ≡ word_list v → (ts us : List Turn) → AllAlikeTurns ts us
    → ChinStepwise (steps_in (shaped_turns u ts)) (called_in (turns s ts)) (called_in (turns t us))
turns_chin {s} {t} {u} {v} x y e ts us a =
    let h = start_holds x in
    chin_from {compared = field_count u ≡ field_count v} a s t (begun u) (begun v) (begun u) h (start_holds y) h.valid (like_itself (begun u)) (begun_like u v e)

-- and of plain calls
pub calls_chin : {s t : Bytes} {u v : Words} → Start s u → Start t v → word_list u ≡ word_list v → (cs ds : List Call) → AllAlike cs ds
    → ChinStepwise (shapes u cs) (calls s cs) (calls t ds)
calls_chin {s} {t} {u} x y e cs ds a =
    subst (λ ps. ChinStepwise ps (calls s cs) (calls t ds)) (plain-shapes u cs)
    (subst₂ (ChinStepwise (steps_in (shaped_turns u (map Turn.plain cs)))) (plain-turns s cs) (plain-turns t ds) (turns_chin x y e (map Turn.plain cs) (map Turn.plain ds) (plain-alike a)))
