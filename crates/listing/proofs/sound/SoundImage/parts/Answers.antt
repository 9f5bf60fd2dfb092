-- `parts` meets its contract: a sound image has a head.
use Rattle.listing.proofs.Images.{has_image, has_head}
use Rattle.listing.proofs.sound.SoundImage.parts.Goals as goal

pub of-requires : goal.of-requires
of-requires c = has_head c.args.self.bytes.now (has_image c.args.self.bytes.now c.args.self.sound).is
