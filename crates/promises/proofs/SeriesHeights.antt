-- Every image of a session that was made, and that calls alone have written, passes when each reached instruction is offered its height:
-- `check_heights` answers the greatest heights.
use Prim.Native.Nat.{ℕ}
use native.Mathlib.Omega.{arith}
use mathlib.Core.List.{List, map}
use mathlib.Core.Path.{◌≡◌, sym, ap, subst, ◌∙◌}
use lib.ListN.{length, take}
use Rattle.std.specs.Prelude.{Ok, Err}
use Rattle.definition.specs.Basic.{Bytes}
use Rattle.definition.specs.Limit.{session_size}
use Rattle.definition.specs.Bytecode.{Const, Image}
use Rattle.definition.specs.Session.{Words}
use Rattle.definition.specs.Call.{Called}
use Rattle.definition.specs.Series.{Call, Start}
use Rattle.definition.specs.Valid.{All}
use Rattle.definition.specs.declared.reason.Refusal.{Refusal}
use Rattle.compiler.specs.Promise.{MadeBy, Ran}
use Rattle.compiler.proofs.Conditions.{ran-calls, made-start}
use Rattle.records.specs.Call.{Recorded, Turn, turns}
use Rattle.heights.specs.Judgement.{Tops, Offers}
use Rattle.heights.specs.Pass.{Verdict, verdict_answer, verdict_into, heights_answer, heights_into}
use Rattle.heights.proofs.Verdicts.{Right, judged_right, all_judged}
use Rattle.heights.proofs.Calls.{OutputPasses, CallPasses, calls-pass}
use Rattle.promises.specs.Heights.{ChecksTops, ImageOffered, HeightsOffered}
use Rattle.promises.specs.Mixed.{AnyCall, AnyDone, called_of, RanBy, RanMixed, turn_of}
use Rattle.promises.proofs.Either.{in_turns}
use Rattle.promises.proofs.Mixed.{Gives, kept_done, all_ran}

-- what holds of each holds of each in other words
pub each_is : {A : Type 0} {P Q : A → Type 0} → ((x : A) → P x → Q x) → {xs : List A} → All P xs → All Q xs
each_is f All.none = All.none
each_is f (All.more {x} h hs) = All.more (f x h) (each_is f hs)

-- the greatest heights of a verdict
verdict_tops : {hs : List ℕ} {m : Image} {cs : List Const} {v : Verdict} {ns : List ℕ} → Right hs m cs v → v ≡ Verdict.tops ns
    → Tops m cs ns
verdict_tops {m = m} {cs} {ns = ns} (Right.tops {ns = ks} a t) e = let z : ks ≡ ns = cc in subst (Tops m cs) z t
verdict_tops {ns = ns} (Right.fails {at} f) e = let z : ◌≡◌ {A = ℕ} 0 1 = cc in absurd (omega arith)

-- with a list that offers each reached instruction its height
checks_tops : {b : Bytes} (p : OutputPasses b) (hs : List ℕ) → Offers hs p.image → ChecksTops b p.image hs
checks_tops p hs o =
    let m = p.image in
    let j = all_judged hs m m.pool (p.passes hs o) in
    record {
      tops = j.0;
      greatest = verdict_tops (judged_right hs m m.pool) j.1;
      answer = λ {o} k. k.answer ∙ ap (λ d. heights_answer d hs (length o)) p.reads ∙ ap (λ v. verdict_answer v (length o)) j.1;
      output = λ {o} k. k.output ∙ ap (λ d. heights_into d hs o) p.reads ∙ ap (λ v. verdict_into v o) j.1;
    }

-- one call
offered : (x : Called) → CallPasses x → HeightsOffered x
offered x h =
    record { wrote = λ n e. let p = h.wrote n e in record { image = p.image; reads = p.reads; offers = p.offers; passes = p.passes; checks = λ hs o. checks_tops p hs o } }

-- a refusal has no image
none_wrote : (x : Called) (r : Refusal) → x.answer ≡ Err r → HeightsOffered x
none_wrote x r e = record { wrote = λ n f. never n f }
  where
    never : (n : ℕ) → x.answer ≡ Ok n → ImageOffered (take n x.lent.output)
    never n f = let z : ◌≡◌ {A = ℕ} 0 1 = cc in absurd (omega arith)

-- a series of turns
pub turns-pass : {s : Bytes} {w : Words} → Start s w → (ts : List Turn) → All (λ (x : Recorded). HeightsOffered x.called) (turns s ts)
turns-pass a ts = in_turns HeightsOffered none_wrote a (λ cs. each_is offered (calls-pass a cs)) ts

-- of any calls that keep the promise of `compile`
pub compile_heights : {a : Bytes} {w : Words} → MadeBy a w → (cs : List Call) (xs : List Called) → Ran (take session_size a) cs xs
    → All HeightsOffered xs
compile_heights m cs xs x = subst (All HeightsOffered) (sym (ran-calls x)) (each_is offered (calls-pass (made-start m) cs))

-- of any calls that give what the definition's turns give
pub any_heights : {K : Bytes → AnyCall → AnyDone → Type 0} → Gives K → {s : Bytes} {w : Words} → Start s w
    → {cs : List AnyCall} {xs : List AnyDone} → RanBy K s cs xs → All (λ (x : AnyDone). HeightsOffered (called_of x)) xs
any_heights g a {cs} x = all_ran g HeightsOffered x (turns-pass a (map turn_of cs))

-- of calls of `compile`, `compile_with_records` and `compile_names` in any order
pub mixed_heights : {a : Bytes} {w : Words} → MadeBy a w → (cs : List AnyCall) (xs : List AnyDone) → RanMixed (take session_size a) cs xs
    → All (λ (x : AnyDone). HeightsOffered (called_of x)) xs
mixed_heights m cs xs x = any_heights kept_done (made-start m) x
