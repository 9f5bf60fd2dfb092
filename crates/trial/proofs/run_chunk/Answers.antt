-- `trial::run_chunk` meets its contract: 27, 15, then the run.
use Rattle.std.proofs.Common.{length, sym, refl, subst, arith}
use Rattle.listing.proofs.Images.{has_head}
use Rattle.trial.specs.Output.{named_globals}
use Rattle.trial.specs.Call.{refused_with}
use Rattle.trial.specs.Run.{unset_globals}
use Rattle.trial.specs.Cells.{Keeping}
use Rattle.trial.specs.Machine.{Safe}
use Rattle.definition.specs.Bytecode.{Image}
use Rattle.trial.proofs.CodeLoop.{one_image, read_in}
use Rattle.trial.proofs.Memory.{cleared_keeps}
use Rattle.definition.proofs.Basic.{passed_on}
use Rattle.trial.proofs.Calling.{arrived, main_safe, names_few, names_found, refusal_found, room_short, ended-stopped, ended-ran, answered, written}
use Rattle.trial.proofs.run_chunk.Goals as goal

pub of-parts-requires : goal.of-parts-requires
of-parts-requires c = has_head c.args.image.now c.requires.0.reads

pub returns-then-output-globals : goal.returns-then-output-globals
returns-then-output-globals c = let h = c.requires.0 in let g = read_in c.of-parts.ensures h.reads in let a = arrived c.args.heights.now h.image h.passes in let f = names_found (refused_with c.args.heights.now h.image) (c.scan.ensures h.image g a.state a.passed) c.in_ok-globals.was in let o = room_short h.image (length c.args.output.now) f.0 f.1 c.if-output-globals.true in record {
  answers = answered c.args.heights.now (length c.args.output.now) h.reads (o) c.refused.ensures;
  writes = written c.args.heights.now (length c.args.output.now) h.reads (o) c.args.output.now (refl);
}

pub run_main-requires : goal.run_main-requires
run_main-requires c = let h = c.requires.0 in let g = read_in c.of-parts.ensures h.reads in let a = arrived c.args.heights.now h.image h.passes in let f = names_found (refused_with c.args.heights.now h.image) (c.scan.ensures h.image g a.state a.passed) c.in_ok-globals.was in (subst (λ w. Keeping w unset_globals) (sym c.requires.1) cleared_keeps, record { safe = λ m j. subst (λ (m : Image). Safe m.pool m.code) (one_image g j) (main_safe c.args.heights.now h.image h.passes f.0) })

pub put_globals-requires : goal.put_globals-requires
put_globals-requires c = let h = c.requires.0 in let g = read_in c.of-parts.ensures h.reads in let a = arrived c.args.heights.now h.image h.passes in let f = names_found (refused_with c.args.heights.now h.image) (c.scan.ensures h.image g a.state a.passed) c.in_ok-globals.was in let r = ended-ran h.image (length c.args.output.now) f.0 f.1 c.if-output-globals.false (c.run_main.ensures h.image g) c.in_ok-steps.was in (c.if-output-globals.false, omega (arith, f.1, names_few c.args.heights.now h.image h.passes f.0), record { globals = r.globals; keeping = r.keeping })

pub returns-in_err-globals : goal.returns-in_err-globals
returns-in_err-globals c = let h = c.requires.0 in let g = read_in c.of-parts.ensures h.reads in let a = arrived c.args.heights.now h.image h.passes in record {
  answers = answered c.args.heights.now (length c.args.output.now) h.reads (refusal_found (refused_with c.args.heights.now h.image) (named_globals h.image.code) (c.scan.ensures h.image g a.state a.passed) c.in_err-globals.was h.image (length c.args.output.now)) (passed_on c.from_residual.ensures.1);
  writes = written c.args.heights.now (length c.args.output.now) h.reads (refusal_found (refused_with c.args.heights.now h.image) (named_globals h.image.code) (c.scan.ensures h.image g a.state a.passed) c.in_err-globals.was h.image (length c.args.output.now)) c.args.output.now (refl);
}

pub returns-in_err-steps : goal.returns-in_err-steps
returns-in_err-steps c = let h = c.requires.0 in let g = read_in c.of-parts.ensures h.reads in let a = arrived c.args.heights.now h.image h.passes in let f = names_found (refused_with c.args.heights.now h.image) (c.scan.ensures h.image g a.state a.passed) c.in_ok-globals.was in let o = ended-stopped h.image (length c.args.output.now) f.0 f.1 c.if-output-globals.false (c.run_main.ensures h.image g) c.in_err-steps.was in record {
  answers = answered c.args.heights.now (length c.args.output.now) h.reads (o) (passed_on c.from_residual-in_err-steps.ensures.1);
  writes = written c.args.heights.now (length c.args.output.now) h.reads (o) c.args.output.now (refl);
}

pub returns : goal.returns
returns c = let h = c.requires.0 in let g = read_in c.of-parts.ensures h.reads in let a = arrived c.args.heights.now h.image h.passes in let f = names_found (refused_with c.args.heights.now h.image) (c.scan.ensures h.image g a.state a.passed) c.in_ok-globals.was in let r = ended-ran h.image (length c.args.output.now) f.0 f.1 c.if-output-globals.false (c.run_main.ensures h.image g) c.in_ok-steps.was in record {
  answers = answered c.args.heights.now (length c.args.output.now) h.reads r.is (refl);
  writes = written c.args.heights.now (length c.args.output.now) h.reads r.is c.args.output.now (c.put_globals.ensures r.globals r.keeping);
}

pub overflow_mul-globals : goal.overflow_mul-globals
overflow_mul-globals c = let h = c.requires.0 in let g = read_in c.of-parts.ensures h.reads in let a = arrived c.args.heights.now h.image h.passes in let f = names_found (refused_with c.args.heights.now h.image) (c.scan.ensures h.image g a.state a.passed) c.in_ok-globals.was in omega (arith, f.1, names_few c.args.heights.now h.image h.passes f.0)
