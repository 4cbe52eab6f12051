-- The invariant is `Seen`: the programs not 0 of the chunks before this one are the one found, or none.
use Rattle.psi.proofs.Programs.{Seen}
use Rattle.psi.proofs.pat.one_program.Given as goal

abbrev pub invariant-loop-chunk : goal.invariant-loop-chunk
invariant-loop-chunk l = Seen l.chunks l.found l.chunk-index
