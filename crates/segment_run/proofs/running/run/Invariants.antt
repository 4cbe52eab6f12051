-- As many packets as the index says have passed, and the run of the rest from here is the whole run (`Running`): so it is once null packets
-- are passed over, once packets have gone on with their stream, and once one more has passed by its step. Where a step refuses, the run
-- does, with the same refusal, and nothing is kept.
use Prim.Native.Nat.{◌-◌}
use Rattle.segment_rules.specs.Check.{outputs_of}
use Rattle.segment_run.proofs.Looping.{Running}
use Rattle.segment_run.proofs.running.run.Given as goal

abbrev pub invariant-loop-index : goal.invariant-loop-index
invariant-loop-index l = Running l.fn.edition l.segment (outputs_of l.initial.out l.initial.lens l.initial.times)
    (outputs_of l.out l.lens l.times) l.initial.firsts l.firsts l.state l.records l.totals l.index

abbrev pub decreases-loop-index : goal.decreases-loop-index
decreases-loop-index l = l.count - l.index
