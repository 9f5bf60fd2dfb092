-- The three conditions, about any calls that keep the promise of `monkey_compile`.
use Prim.Native.Nat.{ℕ}
use mathlib.Core.List.{List}
use mathlib.Core.Path.{◌≡◌}
use lib.ListN.{take}
use Rattle.definition.specs.Basic.{Bytes}
use Rattle.definition.specs.Limit.{session_size}
use Rattle.definition.specs.Session.{Words, word_list, field_count}
use Rattle.definition.specs.Call.{Lent, Called}
use Rattle.definition.specs.Series.{Call, AllAlike, shapes, Indistinguishable}
use Rattle.definition.specs.Valid.{AreBytes}
use Rattle.compiler.specs.Promise.{Compiles, Makes, MakesWords, MadeBy, Ended, Exact, Ran}
use Rattle.compiler.proofs.Conditions.{compile_condition_1, compile_condition_2, compile_condition_3}
use Rattle.exported.specs.Packed.{unpacked, MakesPacked, WordsPacked, MadeByPacked, CompilesPacked, RanPacked}

-- what `monkey_compile` promises is what `compile` promises, of the answer that is had from its number
pub compiles_unpacked : {tree : Bytes} {l : Lent} {r : ℕ} {l' : Lent} → CompilesPacked tree l r l' → Compiles tree l (unpacked r) l'
compiles_unpacked p = record { answer = p.back; lent = p.lent }

-- likewise `monkey_make_session`
pub makes-unpacked : {s : Bytes} {r : ℕ} {s' : Bytes} → MakesPacked s r s' → Makes s (unpacked r) s'
makes-unpacked p = record { answer = p.back; session = p.session }

-- and `monkey_make_session_words`
pub words-unpacked : {s names : Bytes} {r : ℕ} {s' : Bytes} → WordsPacked s names r s' → MakesWords s names (unpacked r) s'
words-unpacked p = record { answer = p.back; session = p.session }

-- so a session that either made
pub made-unpacked : {s : Bytes} {w : Words} → MadeByPacked s w → MadeBy s w
made-unpacked (MadeByPacked.fresh a m e) = MadeBy.fresh a (makes-unpacked m) e
made-unpacked (MadeByPacked.worded a names b m e h) = MadeBy.worded a names b (words-unpacked m) e h

-- and a series of calls
pub ran-unpacked : {s : Bytes} {cs : List Call} {xs : List Called} → RanPacked s cs xs → Ran s cs xs
ran-unpacked RanPacked.none = Ran.none
ran-unpacked (RanPacked.more p q) = Ran.more (compiles_unpacked p) (ran-unpacked q)

-- Condition 1: an answer, or a numbered refusal with its place that leaves session and output as they were
pub monkey_condition_1 : (tree : Bytes) (l : Lent) (r : ℕ) (l' : Lent) → AreBytes (take session_size l.session) → CompilesPacked tree l r l' → Ended l (unpacked r) l'
monkey_condition_1 tree l r l' a p = compile_condition_1 tree l (unpacked r) l' a (compiles_unpacked p)

-- Condition 2: image and session are the definition's, and a tree is refused exactly when the definition refuses it
pub monkey_condition_2 : (tree : Bytes) (l : Lent) (r : ℕ) (l' : Lent) → AreBytes (take session_size l.session) → CompilesPacked tree l r l' → Exact tree l (unpacked r) l'
monkey_condition_2 tree l r l' a p = compile_condition_2 tree l (unpacked r) l' a (compiles_unpacked p)

-- Condition 3: two series from sessions of equal words, whose lent lengths and shapes are equal, call by call, can't be told apart but by the literals' bytes
pub monkey_condition_3 : {a b : Bytes} {u v : Words} → MadeByPacked a u → MadeByPacked b v → word_list u ≡ word_list v → (cs ds : List Call) → AllAlike cs ds → (xs ys : List Called)
    → RanPacked (take session_size a) cs xs → RanPacked (take session_size b) ds ys → Indistinguishable (field_count u ≡ field_count v) (shapes u cs) xs ys
monkey_condition_3 m n e cs ds alike xs ys x y = compile_condition_3 (made-unpacked m) (made-unpacked n) e cs ds alike xs ys (ran-unpacked x) (ran-unpacked y)
