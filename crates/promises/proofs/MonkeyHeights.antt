-- Of exported calls: every image of a session that `monkey_make_session` or `monkey_make_session_words` made, and that exported compile
-- calls alone have written, passes `monkey_check_heights` when each reached instruction is offered its height.
use Prim.Native.Nat.{ℕ}
use mathlib.Core.List.{List}
use mathlib.Core.Path.{refl}
use lib.ListN.{length, take}
use Rattle.definition.specs.Basic.{Bytes}
use Rattle.definition.specs.Limit.{session_size}
use Rattle.definition.specs.Bytecode.{Image}
use Rattle.definition.specs.Session.{Words}
use Rattle.definition.specs.Decode.{read_image}
use Rattle.definition.specs.Call.{Called}
use Rattle.definition.specs.Output.{output_answer}
use Rattle.definition.specs.Series.{Call}
use Rattle.definition.specs.Valid.{All}
use Rattle.heights.specs.Pass.{heights_answer}
use Rattle.heights.specs.Promise.{Checks}
use Rattle.compiler.proofs.Conditions.{made-start}
use Rattle.exported.specs.Packed.{MadeByPacked, RanPacked}
use Rattle.exported.specs.Heights.{ChecksPacked}
use Rattle.exported.proofs.Conditions.{made-unpacked, ran-unpacked}
use Rattle.exported.proofs.Fits.{packs_as, told, packs_back}
use Rattle.promises.specs.Heights.{ChecksTops, HeightsOffered}
use Rattle.promises.specs.Mixed.{AnyCall, AnyDone, called_of}
use Rattle.promises.specs.Monkey.{RanMixedPacked, ChecksWell, HeightsPacked}
use Rattle.promises.proofs.SeriesHeights.{each_is, compile_heights, any_heights}
use Rattle.promises.proofs.MonkeyMixed.{packed_done}

-- the promise that an exported check keeps
pub checks_of : {b : Bytes} {hs o o' : List ℕ} {r : ℕ} → ChecksPacked b hs o r o' → Checks b hs o (heights_answer (read_image b) hs (length o)) o'
checks_of k = record { answer = refl; output = k.output }

-- with a list that offers each reached instruction its height
checks_well : {b : Bytes} {m : Image} {hs : List ℕ} → ChecksTops b m hs → ChecksWell b m hs
checks_well c =
    record {
      tops = c.tops;
      greatest = c.greatest;
      answer = λ {o} k. packs_back (told (output_answer c.tops (length o))) (packs_as (c.answer (checks_of k)) k.answer);
      output = λ k. c.output (checks_of k);
    }

-- one call
packed_passes : (x : Called) → HeightsOffered x → HeightsPacked x
packed_passes x h =
    record { wrote = λ n e. let p = h.wrote n e in record { image = p.image; reads = p.reads; offers = p.offers; passes = λ hs o. checks_well (p.checks hs o) } }

-- of calls of `monkey_compile`
pub monkey_heights : {a : Bytes} {w : Words} → MadeByPacked a w → (cs : List Call) (xs : List Called)
    → RanPacked (take session_size a) cs xs → All HeightsPacked xs
monkey_heights m cs xs x = each_is packed_passes (compile_heights (made-unpacked m) cs xs (ran-unpacked x))

-- and of `monkey_compile_names` among them
pub monkey_mixed_heights : {a : Bytes} {w : Words} → MadeByPacked a w → (cs : List AnyCall) (xs : List AnyDone)
    → RanMixedPacked (take session_size a) cs xs → All (λ (x : AnyDone). HeightsPacked (called_of x)) xs
monkey_mixed_heights m cs xs x = each_is (λ (x : AnyDone). packed_passes (called_of x)) (any_heights packed_done (made-start (made-unpacked m)) x)
