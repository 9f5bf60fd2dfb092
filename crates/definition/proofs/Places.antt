-- What a call answers is within bounds: a length within the longest image's, or one of its numbers at a place within the tree.
use Prim.Native.Nat.{ℕ, ◌≤◌}
use native.Mathlib.Omega.{arith}
use mathlib.Core.Bool.{true}
use mathlib.Core.List.{List}
use mathlib.Core.Path.{◌≡◌, refl}
use lib.ListN.{length, take, length-append}
use lib.Seq.{length-take-le}
use lib.Dec.{T, leb}
use borrow.Author.Tests.{leb-true}
use Rattle.definition.specs.Basic.{Bytes}
use Rattle.definition.specs.Limit.{session_size, code_size, table_size, tree_limit, image_limit}
use Rattle.definition.specs.Number.{refusal, is_one_of, tree_numbers, walk_numbers, call_numbers, make_numbers, word_numbers, number_of}
use Rattle.definition.specs.Tag.{tag_main, tag_pool}
use Rattle.definition.specs.Syntax.{Stmts}
use Rattle.definition.specs.Field.{field}
use Rattle.definition.specs.Bytecode.{Image, encode, pool_bytes, image_bytes}
use Rattle.definition.specs.Walk.{Res}
use Rattle.definition.specs.Compiler.{State}
use Rattle.definition.specs.Tree.{Parsed, read_tree}
use Rattle.definition.specs.Session.{Words, Session}
use Rattle.definition.specs.Decode.{Decoded, decoded, malformed, read_handed, read_session}
use Rattle.definition.specs.Compile.{Outcome, Step, Request, image_of, start, finish, translate, enough, compile}
use Rattle.definition.specs.Call.{Lent, Called, answered, in_session, request, call, Made, made, begins_with, made_words}
use Rattle.definition.specs.Valid.{AreBytes, ValidImage}
use Rattle.definition.specs.declared.reason.Refusal.{Refusal}
use Rattle.definition.specs.Answer.{Answer}
use Rattle.std.specs.Prelude.{Ok, Err}
use Rattle.definition.proofs.Basic.{chosen, both_right}
use Rattle.definition.proofs.Numbers.{among}
use Rattle.definition.proofs.Instructions.{code-length}
use Rattle.definition.proofs.Pools.{pool-length}
use Rattle.definition.proofs.Sessions.{write_session}
use Rattle.definition.proofs.Steps.{compile-valid}
use Rattle.definition.proofs.ReadPlaces.{PlacedParsed, read-places}
use Rattle.definition.proofs.WalkPlaces.{Bounded, Refuses, refuses_stmts, machine_local}
use Rattle.definition.specs.declared.reason.Reason.{Reason}

-- an answer within bounds
pub data Within (lengths : ℕ) (numbers : List ℕ) (places : ℕ) : Answer → Type 0 where
  wrote : {n : ℕ} → n ≤ lengths → Within lengths numbers places (Ok n)
  refused : {r : Refusal} → Bounded numbers places r → Within lengths numbers places (Err r)

-- a refusal at no place
pub nowhere : {lengths : ℕ} {numbers : List ℕ} {places : ℕ} {n : Reason} → T (is_one_of numbers (number_of n)) → Within lengths numbers places (Err (refusal n 0))
nowhere {n = n} h = Within.refused {r = refusal n 0} (record { number = h; place = omega arith })

-- making a session: its length, or number 1
pub made_within : (s : Bytes) → Within session_size make_numbers 0 (made s).answer
unfolding made
made_within s = chosen (λ (m : Made). Within session_size make_numbers 0 m.answer) (leb session_size (length s)) (λ _. Within.wrote (omega arith)) (λ _. nowhere tt)

-- making one with words: its length, number 1 or 19
pub made-words_within : (s names : Bytes) → Within session_size word_numbers 0 (made_words s names).answer
unfolding made_words
made-words_within s names = chosen (λ (m : Made). Within session_size word_numbers 0 m.answer) (leb session_size (length s)) (λ _. go (read_handed names)) (λ _. nowhere tt)
  where
    go : (d : Decoded Words) → Within session_size word_numbers 0 (begins_with d s).answer
    go (decoded w n) = Within.wrote {n = session_size} (omega arith)
    go (malformed p) = nowhere tt

-- a valid image is no longer than its parts' limits
pub image_within : (m : Image) → ValidImage m → length (image_bytes m) ≤ image_limit
image_within m v =
    omega (arith, v.size, v.pool.size, code-length m.code, pool-length m.pool, length-append (field tag_main (encode m.code)) (field tag_pool (pool_bytes m.pool)))

-- the refusals of an outcome
data OutcomeWithin (bound : ℕ) : Outcome → Type 0 where
  accepted : {m : Image} → OutcomeWithin bound (Outcome.accepted m)
  refused : {r : Refusal} → Bounded call_numbers bound r → OutcomeWithin bound (Outcome.refused r)

outcome_nowhere : {bound : ℕ} {n : Reason} → T (is_one_of call_numbers (number_of n)) → OutcomeWithin bound (Outcome.refused (refusal n 0))
outcome_nowhere {n = n} h = OutcomeWithin.refused {r = refusal n 0} (record { number = h; place = omega arith })

module _ {bound : ℕ} where
  finish_within : (output : ℕ) (z : Session) {x : Res State (Unit {0})} → Refuses bound x → OutcomeWithin bound (finish output z x).outcome
  finish_within output z (Refuses.on {s = s}) =
      chosen (λ (x : Step). OutcomeWithin bound x.outcome) (leb (length (image_bytes (image_of s))) output) (λ _. OutcomeWithin.accepted) (λ _. outcome_nowhere tt)
  finish_within output z (Refuses.stop {r = r} b) = OutcomeWithin.refused {r = r} (record { number = among walk_numbers call_numbers tt (number_of r.reason) b.number; place = b.place })

  translate_within : (output : ℕ) (z : Session) {p : Parsed Stmts} → PlacedParsed bound p → OutcomeWithin bound (translate output z p).outcome
  translate_within output z (PlacedParsed.parsed {b = b} h) = finish_within output z (refuses_stmts (machine_local bound) b h (start z))
  translate_within output z (PlacedParsed.refused n p h k) = OutcomeWithin.refused {r = refusal n p} (record { number = among tree_numbers call_numbers tt (number_of n) h; place = k })

  compile_within : (z : Session) (c : Request) → PlacedParsed bound (read_tree c.tree) → OutcomeWithin bound (compile z c).outcome
  unfolding compile
  compile_within z c h = chosen (λ (x : Step). OutcomeWithin bound x.outcome) (enough c) (λ _. translate_within c.output z h) (λ _. outcome_nowhere tt)

  -- an outcome that is answered
  answered_within : (l : Lent) (z : Session) (o : Outcome) → ((m : Image) → o ≡ Outcome.accepted m → ValidImage m) → OutcomeWithin bound o → Within image_limit call_numbers bound (answered l z o).answer
  answered_within l z (Outcome.accepted m) v h = Within.wrote (image_within m (v m refl))
  answered_within l z (Outcome.refused r) v (OutcomeWithin.refused b) = Within.refused b

-- compiling: the longest image, the numbers of a call, and places within any bound that the tree's length is within where it is not too long
call_within : (tree : Bytes) (l : Lent) → AreBytes (take session_size l.session) → (bound : ℕ) → (length tree ≤ tree_limit → length tree ≤ bound) → Within image_limit call_numbers bound (call tree l).answer
unfolding call
call_within tree l a bound t =
    chosen (λ (c : Called). Within image_limit call_numbers bound c.answer) (enough (request l tree)) (λ big. opened big (read_session (take session_size l.session)) refl) (λ _. nowhere tt)
  where
    opened : enough (request l tree) ≡ true → (d : Decoded Session) → read_session (take session_size l.session) ≡ d → Within image_limit call_numbers bound (in_session l tree d).answer
    opened big (decoded z n) e =
        let s = both_right (leb code_size (length l.code)) _ big in
        let k = both_right (leb table_size (length l.table)) _ s in
        let long : length (take session_size l.session) ≡ session_size = length-take-le session_size l.session (leb-true session_size (length l.session) k) in
        let v = compile-valid z (write_session (take session_size l.session) a long e).sound (request l tree) in
        let x = compile z (request l tree) in
        answered_within l x.session x.outcome v.image (compile_within z (request l tree) (read-places tree bound t))
    opened big (malformed p) e = nowhere tt

-- within the tree
pub call_within_tree : (tree : Bytes) (l : Lent) → AreBytes (take session_size l.session) → Within image_limit call_numbers (length tree) (call tree l).answer
call_within_tree tree l a = call_within tree l a (length tree) (λ h. omega arith)

-- and within the limit of trees
pub call_within_limit : (tree : Bytes) (l : Lent) → AreBytes (take session_size l.session) → Within image_limit call_numbers tree_limit (call tree l).answer
call_within_limit tree l a = call_within tree l a tree_limit (λ h. h)
