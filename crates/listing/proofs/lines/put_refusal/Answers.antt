-- Each piece of the line stands behind the one before it.
use mathlib.Core.List.{append_assoc}
use Rattle.listing.specs.Listing.{refusal_line}
use Rattle.listing.proofs.lines.put_refusal.Goals as goal

pub returns-clause-puts : goal.returns-clause-puts
unfolding refusal_line
returns-clause-puts c = rw (c.word.ensures, c.named-2.ensures.puts, c.named.ensures.puts, c.number.ensures) (simp append_assoc)
