-- `listing::text::Writer::put_bytes` meets its contract: what fits is copied.
use mathlib.Core.Path.{refl, ◌∙◌}
use native.Mathlib.Omega.{arith}
use Rattle.listing.proofs.Puts.{sets_cut}
use Rattle.listing.proofs.text.Writer.put_bytes.Goals as goal

pub returns : goal.returns
returns c =
    let w = c.args.self.now in
    record {
      stored = c.copy.ensures ∙ sets_cut w.output.now w.at c.min-size.result c.args.text.now c.min-size.ensures w.within;
      fits = λ h. omega (arith, c.min-size.ensures);
      full = λ h. omega (arith, c.min-size.ensures, w.within);
      same = refl;
    }
