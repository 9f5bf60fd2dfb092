-- Every image of a session that was made, and that compile calls alone have written, keeps the promise of specs/Trusted (P2).
use Prim.Native.Nat.{ℕ, ◌<◌}
use native.Mathlib.Omega.{arith}
use mathlib.Core.Bool.{Bool, true, false}
use mathlib.Core.List.{List, [], ◌∷◌}
use mathlib.Core.Option.{some}
use mathlib.Core.Path.{◌≡◌, refl, sym, ap, subst, ◌∙◌}
use lib.ListN.{length, take}
use lib.Dec.{eqb}
use Rattle.definition.specs.Basic.{Bytes, pick}
use Rattle.definition.specs.Opcode.{Instr, op_closure, op_get_free}
use Rattle.definition.specs.Bytecode.{Code, Const, Image, image_bytes}
use Rattle.definition.specs.Session.{Words, Session, begun, session_fields}
use Rattle.definition.specs.Decode.{decoded, read_image, read_session}
use Rattle.definition.specs.Compile.{Outcome, Request, image_of, session_of, compile, steps}
use Rattle.definition.specs.Call.{Called, request}
use Rattle.definition.specs.Call.{call}
use Rattle.definition.specs.Series.{Start, Call, lent, session_after, calls}
use Rattle.definition.specs.Valid.{All, ValidImage, ValidWords, ValidSession}
use Rattle.definition.specs.Trusted.{Stands, constant_at, Chunk, Lands, TrustedChunk, Trusted, TrustedOutput, TrustedCall, TrustedStep}
use Rattle.std.specs.Prelude.{Ok}
use Rattle.definition.specs.SymbolTable.{Table}
use Rattle.definition.proofs.Numbers.{one_of}
use Rattle.definition.proofs.Account.{Known, state_of}
use Rattle.definition.proofs.Grown.{Grown}
use Rattle.definition.proofs.Invariant.{Holds, Invariant, keeps_compile}
use Rattle.definition.proofs.Scopes.{Sound, locals_of, captures_of}
use Rattle.definition.proofs.Chunks.{AllAt, all_stands, Inner, inner_starts, Scope, Kind, kind_of, FitsAs, Fits}
use Rattle.definition.proofs.Fitting.{scope_of, closed_scope, ConstFits, Kept, keeps_stmts}
use Rattle.definition.proofs.Images.{read-image}
use Rattle.definition.proofs.Sessions.{read-session}
use Rattle.definition.proofs.Steps.{begun-valid, compile-valid}
use Rattle.definition.proofs.Series.{Holds as HoldsSession, Gave, CallIs, front, call_does, start_holds}

-- From what fits to what is trusted

module _ {E : ℕ → Type 0} {s : Scope} {c : Code} (a : AllAt (Fits E s) 0 c) where
  -- an instruction of a kind
  of_kind : (k : Kind) {i : Instr} {p : ℕ} → Stands i p c → kind_of i.op ≡ k → FitsAs k E s p i
  of_kind k {i} {p} h e = subst (λ x. FitsAs x E s p i) e (all_stands a h)

-- a chunk whose code fits
chunk_trusted : {s : Scope} {c : Code} → AllAt (Fits (Inner 0 c) s) 0 c → TrustedChunk s.pool s.globals c
chunk_trusted {s} {c} a =
    record {
      jumps = λ {i} h t. lands (of_kind a Kind.jump h (one_of (λ o. kind_of o ≡ Kind.jump) (All.more refl (All.more refl All.none)) i.op t));
      constants = λ h e. of_kind a Kind.constant h (ap kind_of e);
      closures = λ h e. let k = of_kind a Kind.closure h (ap kind_of e) in record { locals = k.locals; parameters = k.parameters; code = k.code; named = k.named };
      globals = λ {i} h t. of_kind a Kind.global h (one_of (λ o. kind_of o ≡ Kind.global) (All.more refl (All.more refl All.none)) i.op t);
    }
  where
    lands : {p t : ℕ} → (p < t) × Inner 0 c t → Lands c p t
    lands h = let n = inner_starts h.1 in record { later = h.0; next = n.next; starts = n.starts }

-- a constant of the pool
all_constants : {P : Const → Type 0} {cs : List Const} (k : ℕ) {c : Const} → All P cs → constant_at cs k ≡ some c → P c
all_constants k {c} All.none e = let z : ◌≡◌ {A = ℕ} 0 1 = cc in absurd (omega arith)
all_constants {P} k {c} (All.more {x = x} {xs = xs} h hs) e = go (eqb (length xs) k) (λ q. all_constants k hs q) e
  where
    go : (b : Bool) → (constant_at xs k ≡ some c → P c) → pick b (some x) (constant_at xs k) ≡ some c → P c
    go true f e = subst P (same e) h
      where
        same : some x ≡ some c → x ≡ c
        same e = cc
    go false f e = f e

-- the scope of main code
abbrev main_scope : ℕ → List Const → Scope
main_scope globals pool = closed_scope 0 0 0 globals pool

-- the functions of a session's pool fit
pub record FitSession (z : Session) : Type 0 where
  pub pool : All (ConstFits (length z.globals) z.pool) z.pool

-- and so does an image's main code
pub record FitImage (m : Image) (z : Session) : Type 0 where
  pub main : AllAt (Fits (Inner 0 m.code) (main_scope (length z.globals) m.pool)) 0 m.code
  pub pool : All (ConstFits (length z.globals) m.pool) m.pool

-- each chunk in a scope of its own
data ChunkFits (g : ℕ) (pool : List Const) (c : Code) : Type 0 where
  fits : (l n d : ℕ) → AllAt (Fits (Inner 0 c) (closed_scope l n d g pool)) 0 c → ChunkFits g pool c

-- main's, or a function's
chunk-fits : {m : Image} {z : Session} {c : Code} → FitImage m z → Chunk m c → ChunkFits (length z.globals) m.pool c
chunk-fits f Chunk.main = ChunkFits.fits 0 0 0 f.main
chunk-fits f (Chunk.function k {l} e) = let h = all_constants k f.pool e in ChunkFits.fits l h.captures h.depth h.code

-- an image that fits
image_trusted : {m : Image} {z : Session} → ValidImage m → FitImage m z → Trusted m z
image_trusted {m} {z} v f =
    record {
      decodes = read-image m v;
      chunks = λ h. trusted (chunk-fits f h);
      locals = λ k {i = i} e h t. of_kind (all_constants k f.pool e).code Kind.local h (one_of (λ o. kind_of o ≡ Kind.local) (All.more refl (All.more refl All.none)) i.op t);
      captures = λ h s o e s' o'. captured (chunk-fits f h) s o e s' o';
      main = λ {i} {p} h t. one_of (λ o. FitsAs (kind_of o) (Inner 0 m.code) (main_scope (length z.globals) m.pool) p i → ⊥)
          (All.more (λ q. omega arith) (All.more (λ q. omega arith) (All.more (λ q. omega arith) (All.more (λ q. omega arith) All.none)))) i.op t (all_stands f.main h);
    }
  where
    trusted : {c : Code} → ChunkFits (length z.globals) m.pool c → TrustedChunk m.pool (length z.globals) c
    trusted (ChunkFits.fits l n d a) = chunk_trusted a

    captured : {d c : Code} {x i : Instr} {l n p q : ℕ} → ChunkFits (length z.globals) m.pool d → Stands x p d → x.op ≡ op_closure → constant_at m.pool x.a ≡ some (Const.function l n c)
        → Stands i q c → i.op ≡ op_get_free → i.a < x.b
    captured {c = c} {x} {i} {l} {n} {q = q} (ChunkFits.fits _ _ _ a) s o e s' o' = let k = of_kind a Kind.closure s (ap kind_of o) in k.below i q (subst (Stands i q) (same (sym e ∙ k.named)) s') o'
      where
        same : {l' n' : ℕ} {c' : Code} → some (Const.function l n c) ≡ some (Const.function l' n' c') → c ≡ c'
        same e = cc

-- Calls

-- no table comes from none
outside_all : {ts : List Table} → Grown [] ts → ts ≡ []
outside_all Grown.end = refl

-- what fits is kept by every program
pub fitting : Invariant FitSession FitImage
fitting = record { walked = λ b z f c w x. whole refl (keeps_stmts b x (record { sound = Sound.end; pool = f.pool })) }
  where
    whole : {c : Code} {v w : Known} → v.tables ≡ [] → Kept (Inner 0 c) 0 v c w → Holds FitSession FitImage (session_of (state_of c 0 w)) (image_of (state_of c 0 w))
    whole {c} {w = w} o k =
        let e = outside_all (subst (λ ts. Grown ts w.tables) o k.grows.tables) in
        let same : scope_of w ≡ main_scope (length w.globals) w.pool = λ i. record { locals = locals_of (e i); captures = captures_of (e i); depth = length (e i); globals = length w.globals; pool = w.pool } in
        record { session = record { pool = k.good.pool }; image = record { main = subst (λ s. AllAt (Fits (Inner 0 c) s) 0 c) same k.code; pool = k.good.pool } }

-- a session that was begun
pub begun-fits : (w : Words) → FitSession (begun w)
begun-fits w = record { pool = All.none }

-- Series of calls

-- one call in a session
pub trusted_step : (z : Session) → ValidSession z → FitSession z → (c : Request) → TrustedStep (compile z c)
trusted_step z v f c = record { image = λ m e. image_trusted ((compile-valid z v c).image m e) ((keeps_compile fitting z f c).image m e) }

-- each call of a series
trusted_from : (z : Session) → ValidSession z → FitSession z → (cs : List Request) → All TrustedStep (steps z cs)
trusted_from z v f [] = All.none
trusted_from z v f (c ∷ cs) = All.more (trusted_step z v f c) (trusted_from (compile z c).session (compile-valid z v c).session (keeps_compile fitting z f c).session cs)

-- P2, by the definition: in every series of calls from a session begun with valid words
pub trusted_steps : (w : Words) → ValidWords w → (cs : List Request) → All TrustedStep (steps (begun w) cs)
trusted_steps w v cs = trusted_from (begun w) (begun-valid w v) (begun-fits w) cs

-- the image that a call wrote
pub wrote : {o : Outcome} {x : Called} {s : Bytes} {k : ℕ} {z : Session} → CallIs x s k o z → ((m : Image) → o ≡ Outcome.accepted m → Trusted m z) → TrustedCall x
wrote {x = x} {z = z} d f = record { wrote = λ n e. go d.gave f n e }
  where
    go : {o : Outcome} → Gave o x → ((m : Image) → o ≡ Outcome.accepted m → Trusted m z) → (n : ℕ) → x.answer ≡ Ok n → TrustedOutput x n
    go (Gave.accepted {m} a t room) f n e =
        let l : length (image_bytes m) ≡ n = cc in
        let tr = f m refl in
        record {
          image = m;
          session = z;
          end = length (session_fields z);
          reads = ap (λ k. read_image (take k x.lent.output)) (sym l) ∙ ap read_image t ∙ tr.decodes ∙ ap (decoded m) l;
          left = ap read_session (front d room) ∙ read-session z d.holds.valid;
          trusted = tr;
        }
    go (Gave.refused {r} a) f n e = let z : ◌≡◌ {A = ℕ} 0 1 = cc in absurd (omega arith)

-- each call on lent memory
calls_trusted : (s : Bytes) (z : Session) → HoldsSession s z → FitSession z → (cs : List Call) → All TrustedCall (calls s cs)
calls_trusted s z h f [] = All.none
calls_trusted s z h f (c ∷ cs) =
    let d = call_does s z h c in
    let q = request (lent s c) c.tree in
    All.more (wrote d (λ m e. (trusted_step z h.valid f q).image m e)) (calls_trusted (session_after s (call c.tree (lent s c)).lent.session) (compile z q).session d.holds (keeps_compile fitting z f q).session cs)

-- P2, on lent memory: in every series of calls on a session that was made in a buffer, with either call
pub trusted_calls : {s : Bytes} {w : Words} → Start s w → (cs : List Call) → All TrustedCall (calls s cs)
trusted_calls {s} {w} x cs = calls_trusted s (begun w) (start_holds x) (begun-fits w) cs
