-- Each field is what its call gives. The content begins at most 10 bytes in.
use native.Mathlib.Omega.{arith}
use Rattle.obu.specs.Header.{header_with}
use Rattle.obu.proofs.Headers.{fixed_most}
use Rattle.obu.proofs.header.header_with.Goals as goal

pub overflow_add-content : goal.overflow_add-content
overflow_add-content c = omega (arith, fixed_most c.args.first)

pub returns : goal.returns
unfolding header_with
returns c =
    rw (c.fixed_bytes.ensures, c.size_bytes.ensures)
    (rw (c.type_bits.ensures, c.extension_bit.ensures))
