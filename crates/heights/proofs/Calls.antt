-- The same on lent memory: what a series of compile calls writes passes where each reached instruction is offered its height.
use Prim.Native.Nat.{ℕ}
use native.Mathlib.Omega.{arith}
use mathlib.Core.List.{List, [], ◌∷◌}
use mathlib.Core.Path.{◌≡◌, refl, sym, ap, subst, ◌∙◌}
use lib.ListN.{length, take}
use Rattle.definition.specs.Basic.{Bytes}
use Rattle.definition.specs.Bytecode.{Image, image_bytes}
use Rattle.definition.specs.Session.{Words, Session, begun}
use Rattle.definition.specs.Decode.{decoded, read_image}
use Rattle.definition.specs.Compile.{Outcome, Step, Request, compile, steps}
use Rattle.definition.specs.Call.{Called, call, request}
use Rattle.definition.specs.Series.{Call, Start, lent, session_after, calls}
use Rattle.definition.specs.Output.{output_answer}
use Rattle.definition.specs.Valid.{All}
use Rattle.std.specs.Prelude.{Ok}
use Rattle.definition.proofs.Series.{Holds, Gave, call_does, start_holds}
use Rattle.heights.specs.Judgement.{AllPass, Tops, Offers, Are32Bit}
use Rattle.heights.specs.Pass.{heights_answer}
use Rattle.heights.proofs.Compiled.{HeightsPass, compile_heights_pass}

-- bytes that read as an image: there is a list of 32-bit numbers with the heights of its reached instructions, and with each list that has them the check answers the greatest heights, or 15
pub record OutputPasses (b : Bytes) : Type 0 where
  pub image : Image
  pub reads : read_image b ≡ decoded image (length b)
  pub offers : (hs : List ℕ) × Offers hs image × Are32Bit hs
  pub passes : (hs : List ℕ) → Offers hs image → AllPass hs image image.pool
  pub answers : (hs : List ℕ) → Offers hs image → (ns : List ℕ) × Tops image image.pool ns × ((room : ℕ) → heights_answer (read_image b) hs room ≡ output_answer ns room)

-- what a call wrote, if it was accepted
pub record CallPasses (x : Called) : Type 0 where
  pub wrote : (n : ℕ) → x.answer ≡ Ok n → OutputPasses (take n x.lent.output)

-- calls on lent memory, beside the definition's
data Paired : List Called → List Step → Type 0 where
  none : Paired [] []
  more : {x : Called} {y : Step} {xs : List Called} {ys : List Step} → Gave y.outcome x → Paired xs ys → Paired (x ∷ xs) (y ∷ ys)

paired : (s : Bytes) (z : Session) → Holds s z → (cs : List Call) → (qs : List Request) × Paired (calls s cs) (steps z qs)
paired s z h [] = ([], Paired.none)
paired s z h (c ∷ cs) =
    let d = call_does s z h c in
    let q = request (lent s c) c.tree in
    let r = paired (session_after s (call c.tree (lent s c)).lent.session) (compile z q).session d.holds cs in
    (q ∷ r.0, Paired.more d.gave r.1)

-- one call
call_passes : {x : Called} {o : Outcome} → Gave o x → ((m : Image) → o ≡ Outcome.accepted m → OutputPasses (image_bytes m)) → CallPasses x
call_passes {x} (Gave.accepted {m} a t room) f = record { wrote = λ n e. there n e }
  where
    there : (n : ℕ) → x.answer ≡ Ok n → OutputPasses (take n x.lent.output)
    there n e =
        let l : length (image_bytes m) ≡ n = cc in
        let b : image_bytes m ≡ take n x.lent.output = sym t ∙ ap (λ k. take k x.lent.output) l in
        subst OutputPasses b (f m refl)
call_passes {x} (Gave.refused a) f = record { wrote = λ n e. never n e }
  where
    never : (n : ℕ) → x.answer ≡ Ok n → OutputPasses (take n x.lent.output)
    never n e = let z : ◌≡◌ {A = ℕ} 0 1 = cc in absurd (omega arith)

-- each
all_pass : {xs : List Called} {ys : List Step} → Paired xs ys → All HeightsPass ys → All CallPasses xs
all_pass Paired.none All.none = All.none
all_pass (Paired.more g p) (All.more h hs) =
    All.more (call_passes g (λ m e. record { image = m; reads = h.reads m e; offers = h.offers m e; passes = λ l o. h.passes m e l o; answers = λ l o. h.answers m e l o })) (all_pass p hs)

-- P9, on lent memory: in every series of calls on a session that was made, with either call
pub calls-pass : {s : Bytes} {w : Words} → Start s w → (cs : List Call) → All CallPasses (calls s cs)
calls-pass {s} {w} x cs = let h = start_holds x in let r = paired s (begun w) h cs in all_pass r.1 (compile_heights_pass w h.valid.words r.0)
