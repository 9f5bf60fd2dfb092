-- What a translation keeps of what it is lent.
use Rattle.std.specs.Prelude.{◌≡◌, length}
use Rattle.chin.specs.declared.row.Turning.{Turning}

-- the output stays as long as it is, and the image and its form stay
pub record Keeps (s s' : Turning) : Type 0 where
  pub output : length s'.output.now ≡ length s.output.now
  pub image : s'.image ≡ s.image
  pub from : s'.from ≡ s.from
  pub same : s'.output.ghost_name ≡ s.output.ghost_name
