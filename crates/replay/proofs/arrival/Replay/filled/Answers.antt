-- The fill is at most what the earlier arrivals brought, and draining adds nothing, so what this one brings has room.
use native.Mathlib.Omega.{arith}
use Rattle.replay.specs.Replay.{filled}
use Rattle.replay.proofs.Draining.{at_once}
use Rattle.replay.proofs.States.{rate_within, parts, passes}
use Rattle.replay.proofs.arrival.Replay.filled.Goals as goal

pub drained-left-requires : goal.drained-left-requires
drained-left-requires c = (rate_within _ c.args.self.now.rate_right, c.ticks_since.ensures.1)

pub overflow_mul-result : goal.overflow_mul-result
overflow_mul-result c = let p = passes _ _ c.requires.1 in omega arith

pub overflow_mul-result-2 : goal.overflow_mul-result-2
overflow_mul-result-2 c = let p = passes _ _ c.requires.1 in omega arith

pub overflow_add-result : goal.overflow_add-result
overflow_add-result c = let p = passes _ _ c.requires.1 in
    let v = parts _ c.args.self.now.state_valid in
    let d = at_once c.args.self.now.rate c.ticks_since.result c.args.self.now.state.fill in
    omega (arith, v.fill, v.highest, v.arrivals, c.drained-left.ensures)

pub returns : goal.returns
unfolding filled
returns c = rw (c.drained-left.ensures, c.ticks_since.ensures.0)
