-- Each of the four bytes leaves what `left` says of it; `bytes_leave` adds the four up.
use native.Mathlib.Omega.{arith}
use Rattle.crc.proofs.Slicing.{bytes_leave}
use Rattle.crc.proofs.left_by_four.Goals as goal

pub returns : goal.returns
returns c =
    bytes_leave c.args.k c.args.word _ _ _ _ _ (omega arith) c.to_be_bytes.ensures
    (c.left.ensures, c.left-2.ensures, c.left-3.ensures, c.left-4.ensures)
