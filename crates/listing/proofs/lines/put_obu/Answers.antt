-- Each piece of the line stands behind the one before it.
use mathlib.Core.List.{append_assoc}
use Rattle.listing.specs.Listing.{obu_line}
use Rattle.listing.proofs.lines.put_obu.Goals as goal

pub returns-clause-puts : goal.returns-clause-puts
unfolding obu_line
returns-clause-puts c =
    rw (c.word.ensures, c.named-4.ensures.puts, c.named-3.ensures.puts, c.named-2.ensures.puts)
    (rw (c.named.ensures.puts, c.decimal.ensures.puts) (simp append_assoc))
