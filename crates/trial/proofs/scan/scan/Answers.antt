-- `trial::scan::scan` meets its contract: the pass, then its marks.
use Rattle.std.proofs.Common.{ℕ, replicate, set, subst, sym, arith}
use lib.ListN.{length-replicate}
use Rattle.heights.specs.Marks.{PassReady}
use Rattle.heights.proofs.Ends.{pass_ready}
use Rattle.trial.proofs.CodeLoop.{sound, main_code}
use Rattle.trial.proofs.Calling.{marks_ready, marked}
use Rattle.trial.proofs.scan.scan.Goals as goal

pub pass-requires : goal.pass-requires
pass-requires c =
    let a = c.args.program in
    let p = a.parts.code in
    subst (λ n. PassReady (set (replicate 65536 0) 3 2) p.bytes.now n p.end) (sym a.divides.first) (pass_ready (replicate 65536 0) p.bytes.now 3 p.end (marks_ready p.bytes.now (sound a)))

pub scan_marked-requires : goal.scan_marked-requires
scan_marked-requires c = let k = marks_ready c.args.program.parts.code.bytes.now (sound c.args.program) in omega (arith, k.room, length-replicate {A = ℕ} 65536 0)

pub returns : goal.returns
returns c = λ m j s e.
    let a = c.args.program in
    let p = a.parts.code in
    let h = sound a in
    let q = main_code p.bytes.now j h.ends in
    let r = rw a.divides.first at c.pass.ensures in
    marked p.bytes.now c.args.heights.now m q (r m.code q) s e (c.scan_marked.ensures m j)
