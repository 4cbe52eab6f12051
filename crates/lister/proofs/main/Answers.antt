-- What is read lies within the first array, and the text within the second: `list` says that it has room.
use Rattle.std.proofs.Common.{◌≤◌, length, arith, sym}
use lib.Seq.{length-take-le}
use Rattle.listing.proofs.Texts.{listed_room}
use Rattle.lister.proofs.main.Goals.{In-Ok}
use Rattle.lister.proofs.main.Goals as goal

-- the text is within its array
within : (c : In-Ok) → c.in-Ok.count ≤ length c.list.new.out
within c = omega (arith, listed_room _ _ _ _ c.list.ensures.result_value c.in-Ok.is)

pub slice_bounds-text-end : goal.slice_bounds-text-end
slice_bounds-text-end c = within (goal.at.slice_bounds-text-end c).In-Ok

pub slice_bounds-write_all-end : goal.slice_bounds-write_all-end
slice_bounds-write_all-end c = sym (length-take-le _ _ (within (goal.at.slice_bounds-write_all-end c).In-Ok))
