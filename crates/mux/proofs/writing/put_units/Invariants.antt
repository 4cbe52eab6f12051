-- What is written, then the packets of the units to come, are the packets of all.
use Rattle.mux.proofs.Placing.{Filling}
use Rattle.mux.proofs.writing.put_units.Given as goal

abbrev pub invariant-loop-slot : goal.invariant-loop-slot
invariant-loop-slot l = Filling l.stream.pid l.stream.counter l.slots l.store l.initial.out l.slot-index l.at l.to l.counter l.out
