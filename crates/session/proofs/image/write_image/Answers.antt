-- `session::image::write_image` meets its contract: two fields at the front.
use Rattle.session.proofs.Fields.{fields-stored}
use Rattle.session.proofs.image.write_image.Goals as goal

pub returns : goal.returns
returns c = search fields-stored
