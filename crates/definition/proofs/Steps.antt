-- A compile call in a session: it keeps the session valid, and does not see literals.
use Prim.Native.Nat.{ℕ, ◌≤◌}
use native.Mathlib.Omega.{arith}
use mathlib.Core.Bool.{Bool, true, false}
use mathlib.Core.Logic.{◌↔◌}
use mathlib.Core.Option.{none, some}
use mathlib.Core.Path.{◌≡◌, refl, sym, ap, subst}
use lib.ListN.{length}
use lib.Dec.{leb, T, leb→le}
use borrow.Author.Tests.{leb-true}
use Rattle.definition.specs.Basic.{Bytes, byte_at, pick}
use Rattle.definition.specs.Limit.{name_limit}
use Rattle.definition.specs.Number
use Rattle.definition.specs.Number.{refusal, is_one_of, tree_numbers, walk_numbers, translate_numbers, number_of}
use Rattle.definition.specs.Syntax.{Stmts}
use Rattle.definition.specs.Bytecode.{Image, image_bytes}
use Rattle.definition.specs.Walk.{Res, walk_stmts}
use Rattle.definition.specs.SymbolTable.{builtins, same, find_builtin, distinct}
use Rattle.definition.specs.Compiler.{State, machine}
use Rattle.definition.specs.Tree.{Read, Parsed, judged, read_program, read_tree}
use Rattle.definition.specs.Shape.{shape}
use Rattle.definition.specs.Session.{Words, six, listed, word_list, Session, begun}
use Rattle.definition.specs.Compile.{Outcome, Step, Request, image_of, session_of, start, turned_down, finish, translate, enough, compile}
use Rattle.definition.specs.Valid.{All, IsName, ValidImage, ValidList, ValidWords, ValidSession}
use Rattle.definition.specs.declared.reason.Refusal.{Refusal}
use Rattle.definition.proofs.Basic.{picked, chosen}
use Rattle.definition.proofs.Numbers.{among}
use Rattle.definition.proofs.WellFormed.{WfStmts}
use Rattle.definition.proofs.Blank.{blank, map_stmts}
use Rattle.definition.proofs.ReadShape.{map_parsed, read-shape}
use Rattle.definition.proofs.ReadWellFormed.{read_well_formed}
use Rattle.definition.proofs.Simulation.{Both, Ends}
use Rattle.definition.proofs.Erase.{erase, Alike, self, Same, walk_shape}
use Rattle.definition.proofs.Limits.{ValidState, walk_limits}
use Rattle.definition.proofs.Agreement.{erase_image, erase_session, image-length}

-- a refusal of reading is number 3 or 4
abbrev tree_number : ℕ → Bool
tree_number n = is_one_of tree_numbers n

abbrev TreeNumber : {A : Type 0} → Parsed A → Type 0
TreeNumber (Parsed.parsed a n) = Unit {0}
TreeNumber (Parsed.refused r) = T (tree_number (number_of r.reason))

judged-number : {A : Type 0} (x : Read A) → TreeNumber (judged x)
judged-number (Read.ok a n none l) = tt
judged-number (Read.ok a n (some p) l) = tt
judged-number (Read.wrong p none l) = tt
judged-number (Read.wrong p (some q) l) = tt

read_number : (tree : Bytes) → TreeNumber (read_tree tree)
unfolding read_tree
read_number tree = judged-number (read_program (byte_at tree) (length tree))

-- what a tree that was read gives
module _ {A : Type 0} (P : Parsed Stmts → A → Type 0) (f : Parsed Stmts → A) where
  -- a statement about each outcome of reading
  pub by_reading : ((b : Stmts) (n : ℕ) → WfStmts b → P (Parsed.parsed b n) (f (Parsed.parsed b n))) → ((r : Refusal) → T (tree_number (number_of r.reason)) → P (Parsed.refused r) (f (Parsed.refused r)))
      → (tree : Bytes) → P (read_tree tree) (f (read_tree tree))
  by_reading h k tree = go (read_tree tree) (read_number tree) (λ b n e. read_well_formed tree b n e)
    where
      go : (p : Parsed Stmts) → TreeNumber p → ((b : Stmts) (n : ℕ) → p ≡ Parsed.parsed b n → WfStmts b) → P p (f p)
      go (Parsed.parsed b n) t w = h b n (w b n refl)
      go (Parsed.refused r) t w = k r t

-- A valid session stays valid

pub begun-valid : (w : Words) → ValidWords w → ValidSession (begun w)
begun-valid w v = record { words = v; count = omega arith; names = All.none; pool = record { count = omega arith; size = omega arith; each = All.none } }

-- document 01's words are a list as good as any
pub six_valid : ValidList builtins
unfolding distinct find_builtin same
six_valid = record { count = omega arith; names = All.more (name _ tt tt) (All.more (name _ tt tt) (All.more (name _ tt tt) (All.more (name _ tt tt) (All.more (name _ tt tt) (All.more (name _ tt tt) All.none))))); unrepeated = refl }
  where
    name : (n : Bytes) → T (leb 1 (length n)) → T (leb (length n) name_limit) → IsName n
    name n t u = record { some = leb→le 1 (length n) t; short = leb→le (length n) name_limit u }

pub list_valid : (w : Words) → ValidWords w → ValidList (word_list w)
list_valid six v = six_valid
list_valid (listed ws) v = v

pub start-valid : (z : Session) → ValidSession z → ValidState (start z)
start-valid z v = record { size = omega arith; code = All.none; tables = All.none; session = record { words = list_valid z.words v.words; count = v.count; names = v.names; pool = v.pool } }

-- the numbers of a call past number 2
abbrev pub CallNumber : ℕ → Type 0
CallNumber n = T (is_one_of translate_numbers n)

-- and of any call in a session
pub data CompileNumber (n : ℕ) : Type 0 where
  short : n ≡ number_of Number.short_buffer → CompileNumber n
  other : CallNumber n → CompileNumber n

pub not_two : {n : ℕ} → CompileNumber n → n ≡ number_of Number.no_session → ⊥
not_two (CompileNumber.short e) h = omega arith
not_two (CompileNumber.other c) h = absurd (subst CallNumber h c)

-- a step from a session: a valid session and image, or the session as it was and a numbered refusal
pub record ValidStep (N : ℕ → Type 0) (z : Session) (x : Step) : Type 0 where
  pub session : ValidSession x.session
  pub image : (m : Image) → x.outcome ≡ Outcome.accepted m → ValidImage m
  pub kept : (r : Refusal) → x.outcome ≡ Outcome.refused r → x.session ≡ z
  pub number : (r : Refusal) → x.outcome ≡ Outcome.refused r → N (number_of r.reason)

accepted_not_refused : (m : Image) (r : Refusal) → Outcome.accepted m ≡ Outcome.refused r → ⊥
accepted_not_refused m r e = let z : ◌≡◌ {A = ℕ} 0 1 = cc in omega arith

pub turned_down-valid : {N : ℕ → Type 0} (z : Session) → ValidSession z → (r : Refusal) → N (number_of r.reason) → ValidStep N z (turned_down z r)
turned_down-valid {N} z v r n = record { session = v; image = λ m e. absurd (accepted_not_refused m r (sym e)); kept = λ _ _. refl; number = λ q e. subst N (number q e) n }
  where
    number : (q : Refusal) → Outcome.refused r ≡ Outcome.refused q → (number_of r.reason) ≡ (number_of q.reason)
    number q e = ap (λ x. (number_of x.reason)) (same q e)
      where
        same : (q : Refusal) → Outcome.refused r ≡ Outcome.refused q → r ≡ q
        same q e = cc

accepted_valid : {N : ℕ → Type 0} (z : Session) (s : State) → ValidState s → ValidStep N z (record { outcome = Outcome.accepted (image_of s); session = session_of s })
accepted_valid z s v =
    let image : ValidImage (image_of s) = record { size = omega (arith, v.size); code = v.code; pool = v.session.pool } in
    record {
      session = v.session;
      image = λ m e. subst ValidImage (same m e) image;
      kept = λ r e. absurd (accepted_not_refused (image_of s) r e);
      number = λ r e. absurd (accepted_not_refused (image_of s) r e);
    }
  where
    same : (m : Image) → Outcome.accepted (image_of s) ≡ Outcome.accepted m → image_of s ≡ m
    same m e = cc

valid-pick : {N : ℕ → Type 0} {z : Session} {x y : Step} (b : Bool) → ValidStep N z x → ValidStep N z y → ValidStep N z (pick b x y)
valid-pick true h k = h
valid-pick false h k = k

finish-valid : (n : ℕ) (z : Session) → ValidSession z → {x : Res State (Unit {0})} → Ends (λ (_ : Unit {0}). ValidState) x → ValidStep CallNumber z (finish n z x)
finish-valid n z v (Ends.on a {s} h) = valid-pick (leb (length (image_bytes (image_of s))) n) (accepted_valid z s h) (turned_down-valid z v (refusal Number.output_short 0) tt)
finish-valid n z v (Ends.stop r s w) = turned_down-valid z v r (among walk_numbers translate_numbers tt (number_of r.reason) w)

-- past numbers 1 and 2
pub translate-valid : (n : ℕ) (z : Session) → ValidSession z → (tree : Bytes) → ValidStep CallNumber z (translate n z (read_tree tree))
translate-valid n z v tree =
    by_reading (λ _ x. ValidStep CallNumber z x) (λ p. translate n z p) (λ b _ w. finish-valid n z v (walk_limits b w (start-valid z v)))
    (λ r t. turned_down-valid z v r (among tree_numbers translate_numbers tt (number_of r.reason) t)) tree

-- with another account of the numbers
renumbered : {N M : ℕ → Type 0} {z : Session} {x : Step} → ((n : ℕ) → N n → M n) → ValidStep N z x → ValidStep M z x
renumbered f v = record { session = v.session; image = v.image; kept = v.kept; number = λ r e. f (number_of r.reason) (v.number r e) }

pub compile-valid : (z : Session) → ValidSession z → (c : Request) → ValidStep CompileNumber z (compile z c)
unfolding compile
compile-valid z v c =
    valid-pick (enough c) (renumbered (λ _ k. CompileNumber.other k) (translate-valid c.output z v c.tree)) (turned_down-valid z v (refusal Number.short_buffer 0) (CompileNumber.short refl))

-- A call and that with the tree's shape, from sessions that differ in literals alone

pub data OutcomeLike : Outcome → Outcome → Type 0 where
  accepted : {x y : Image} → Alike erase_image x y → OutcomeLike (Outcome.accepted x) (Outcome.accepted y)
  refused : (r : Refusal) → OutcomeLike (Outcome.refused r) (Outcome.refused r)

-- sessions that start alike; where they are compared, in the number of fields too
pub record SessionLike (compared : Type 0) (z w : Session) : Type 0 where
  pub starts : Alike erase (start z) (start w)
  pub bytes : compared → Alike erase_session z w

pub like_itself : {compared : Type 0} (z : Session) → SessionLike compared z z
like_itself z = record { starts = self (start z); bytes = λ _. self z }

pub record StepLike (compared : Type 0) (x y : Step) : Type 0 where
  pub outcome : OutcomeLike x.outcome y.outcome
  pub session : SessionLike compared x.session y.session

-- the call with its tree's shape
abbrev pub with_shape : Request → Request
with_shape c = record { code = c.code; table = c.table; session = c.session; output = c.output; tree = shape c.tree }

images : {s t : State} → Alike erase s t → Alike erase_image (image_of s) (image_of t)
images r = record { erased = λ k. image_of (r.erased k) }

-- where walks end alike, the sessions are alike
ended : {compared : Type 0} {s t : State} → Alike erase s t → SessionLike compared (session_of s) (session_of t)
ended r = record { starts = record { erased = λ k. start (session_of (r.erased k)) }; bytes = λ _. record { erased = λ k. session_of (r.erased k) } }

module _ {compared : Type 0} {z w : Session} (e : SessionLike compared z w) where
  pub turned_down_like : (r : Refusal) → StepLike compared (turned_down z r) (turned_down w r)
  turned_down_like r = record { outcome = OutcomeLike.refused r; session = e }

  pub finish_like : (n : ℕ) {x y : Res State (Unit {0})} → Same x y → StepLike compared (finish n z x) (finish n w y)
  finish_like n (Both.on a r) =
      picked (StepLike compared) (λ k. leb (image-length (images r) k) n)
      (record { outcome = OutcomeLike.accepted (images r); session = ended r }) (turned_down_like _)
  finish_like n (Both.stop r _ h) = turned_down_like r

  pub compile_like : (c : Request) → StepLike compared (compile z c) (compile w (with_shape c))
  unfolding compile
  compile_like c =
      picked (StepLike compared) {b = enough c} refl
      (subst (λ p. StepLike compared (translate c.output z (read_tree c.tree)) (translate c.output w p)) (read-shape c.tree)
      (by_reading (λ p x. StepLike compared x (translate c.output w (map_parsed (map_stmts blank) p))) (λ p. translate c.output z p)
      (λ b _ h. finish_like c.output (walk_shape b h e.starts)) (λ r _. turned_down_like r) c.tree))
      (turned_down_like _)

-- a tree and its shape are refused alike
refused_like : {x y : Outcome} → OutcomeLike x y → (r : Refusal) → (x ≡ Outcome.refused r) ↔ (y ≡ Outcome.refused r)
refused_like (OutcomeLike.accepted _) r = (λ e. absurd (accepted_not_refused _ r e), λ e. absurd (accepted_not_refused _ r e))
refused_like (OutcomeLike.refused q) r = (λ e. e, λ e. e)

pub shape-refused : (z : Session) (c : Request) (r : Refusal) → ((compile z c).outcome ≡ Outcome.refused r) ↔ ((compile z (with_shape c)).outcome ≡ Outcome.refused r)
shape-refused z c r = refused_like (compile_like {compared = Unit {0}} (like_itself z) c).outcome r

-- An image that was accepted fits the output

record FitsOutput (n : ℕ) (x : Step) : Type 0 where
  fits : (m : Image) → x.outcome ≡ Outcome.accepted m → length (image_bytes m) ≤ n

turned_down-fits : (n : ℕ) (z : Session) (r : Refusal) → FitsOutput n (turned_down z r)
turned_down-fits n z r = record { fits = λ m e. absurd (accepted_not_refused m r (sym e)) }

finish-fits : (n : ℕ) (z : Session) (x : Res State (Unit {0})) → FitsOutput n (finish n z x)
finish-fits n z (Res.on a s) =
    chosen (FitsOutput n) (leb (length (image_bytes (image_of s))) n)
    (λ t. record { fits = λ m e. let same : image_of s ≡ m = cc in subst (λ k. length (image_bytes k) ≤ n) same (leb-true _ _ t) }) (λ _. turned_down-fits n z (refusal Number.output_short 0))
finish-fits n z (Res.stop r s) = turned_down-fits n z r

translate-fits : (n : ℕ) (z : Session) (p : Parsed Stmts) → FitsOutput n (translate n z p)
translate-fits n z (Parsed.parsed b k) = finish-fits n z (walk_stmts machine b (start z))
translate-fits n z (Parsed.refused r) = turned_down-fits n z r

pub compile-fits : (z : Session) (c : Request) (m : Image) → (compile z c).outcome ≡ Outcome.accepted m → length (image_bytes m) ≤ c.output
unfolding compile
compile-fits z c =
    (chosen (FitsOutput c.output) (enough c) (λ _. translate-fits c.output z (read_tree c.tree)) (λ _. turned_down-fits c.output z (refusal Number.short_buffer 0))).fits
