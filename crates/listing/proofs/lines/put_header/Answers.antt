-- Each piece of the line stands behind the one before it.
use mathlib.Core.List.{append_assoc}
use Rattle.listing.specs.Listing.{header_line}
use Rattle.listing.proofs.lines.put_header.Goals as goal

pub returns-clause-puts : goal.returns-clause-puts
unfolding header_line
returns-clause-puts c = rw (c.word.ensures, c.named-2.ensures.puts, c.named.ensures.puts) (simp append_assoc)
