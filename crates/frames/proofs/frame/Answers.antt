-- `frames::frame` meets its contract: the part lies where the frame was found.
use Rattle.frames.proofs.Calls.{found_within}
use Rattle.frames.proofs.frame.Goals as goal

-- the part ends inside the image
pub slice_bounds-result-end : goal.slice_bounds-result-end
slice_bounds-result-end c =
    let start = c in
    let find = c.find_frame in
    found_within start.args.image.now start.args.size start.args.index find.ensures.answer c.in-Ok.is
