-- From what happens on the session's 65,536 bytes to the whole call on lent memory.
use Prim.Native.Nat.{ℕ}
use mathlib.Core.Bool.{true, false}
use mathlib.Core.List.{◌++◌}
use mathlib.Core.Path.{◌≡◌, refl, sym, ap, ◌∙◌}
use lib.ListN.{length, take, drop, take-append-drop}
use lib.Dec.{leb}
use lib.Seq.{length-take-le}
use borrow.Author.Tests.{leb-true}
use Rattle.definition.specs.Basic.{Bytes}
use Rattle.definition.specs.Limit.{session_size, code_size, table_size}
use Rattle.definition.specs.Number
use Rattle.definition.specs.Number.{refusal}
use Rattle.definition.specs.Bytecode.{image_bytes}
use Rattle.definition.specs.Tree.{read_tree}
use Rattle.definition.specs.Session.{Session, session_bytes}
use Rattle.definition.specs.Decode.{Decoded, decoded, malformed, read_session}
use Rattle.definition.specs.Compile.{Outcome, Step, turned_down, translate, enough, compile}
use Rattle.definition.specs.Call.{Lent, ended, answered, in_session, request, call}
use Rattle.definition.specs.Output.{over}
use Rattle.definition.specs.Valid.{AreBytes, ValidSession}
use Rattle.std.specs.Prelude.{Err}
use Rattle.definition.proofs.Basic.{both_right, pick_true, pick_false}
use Rattle.definition.proofs.Sessions.{write_session, session_length}
use Rattle.definition.proofs.Steps.{compile-valid}
use Rattle.compiler.specs.Result.{result_of, step_result, session_result, call_result, whole_of}

-- the call by number 1's test
pub call-enough : (tree : Bytes) (l : Lent) → enough (request l tree) ≡ true → call tree l ≡ in_session l tree (read_session (take session_size l.session))
unfolding call
call-enough tree l e = pick_true (in_session l tree (read_session (take session_size l.session))) (record { answer = Err (refusal Number.short_buffer 0); lent = l }) e

pub call_short : (tree : Bytes) (l : Lent) → enough (request l tree) ≡ false → call tree l ≡ record { answer = Err (refusal Number.short_buffer 0); lent = l }
unfolding call
call_short tree l e = pick_false (in_session l tree (read_session (take session_size l.session))) (record { answer = Err (refusal Number.short_buffer 0); lent = l }) e

-- the session is long enough
pub long_front : (tree : Bytes) (l : Lent) → enough (request l tree) ≡ true → length (take session_size l.session) ≡ session_size
long_front tree l e =
    let s = both_right (leb code_size (length l.code)) _ e in
    let t = both_right (leb table_size (length l.table)) _ s in
    length-take-le session_size l.session (leb-true session_size (length l.session) t)

module _ (tree : Bytes) (l : Lent) (big : enough (request l tree) ≡ true) where
  -- the session's bytes
  abbrev front : Bytes
  front = take session_size l.session

  pub compile_is : (z : Session) → compile z (request l tree) ≡ translate (length l.output) z (read_tree tree)
  unfolding compile
  compile_is z = pick_true (translate (length l.output) z (read_tree tree)) (turned_down z (refusal Number.short_buffer 0)) big

  same_front : front ++ drop session_size l.session ≡ l.session
  same_front = take-append-drop session_size l.session

  outcome_whole : (z : Session) → length (session_bytes z) ≡ session_size → (o : Outcome) → answered l z o ≡ whole_of l (result_of front l.output z o)
  outcome_whole z e (Outcome.accepted m) = λ i. record { answer = (result_of front l.output z (Outcome.accepted m)).answer; lent = ended (session_bytes z ++ drop (e i) l.session) (over (image_bytes m) l.output) l }
  outcome_whole z e (Outcome.refused r) = λ i. record { answer = Err r; lent = ended (sym same_front i) l.output l }

  step-whole : (x : Step) → ValidSession x.session → answered l x.session x.outcome ≡ whole_of l (step_result front l.output x)
  step-whole x v = outcome_whole x.session (session_length x.session v) x.outcome

  session_whole : (d : Decoded Session) → ((z : Session) (n : ℕ) → d ≡ decoded z n → ValidSession z) → in_session l tree d ≡ whole_of l (session_result tree front l.output d)
  session_whole (decoded z n) v =
      step-whole (compile z (request l tree)) (compile-valid z (v z n refl) (request l tree)).session ∙ ap (λ x. whole_of l (step_result front l.output x)) (compile_is z)
  session_whole (malformed p) v = λ i. record { answer = Err (refusal Number.no_session 0); lent = ended (sym same_front i) l.output l }

  -- the whole call, where the buffers are large enough
  pub call-whole : AreBytes front → call tree l ≡ whole_of l (call_result tree front l.output)
  unfolding call_result
  call-whole a = call-enough tree l big ∙ session_whole (read_session front) (λ z n e. (write_session front a (long_front tree l big) e).sound)
