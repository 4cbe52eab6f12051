-- Of a payload that is said to be short the first three bytes give the figures; any other is left to `judge_obu`.
use native.Mathlib.Omega.{arith}
use Prim.Native.Nat.{◌-◌}
use lib.ListN.{length}
use Rattle.emulation.proofs.Steps.{given_or_dropped}
use Rattle.tsobu.specs.Parts.{Short}
use Rattle.tsobu.proofs.Shorts.{short_figures}
use Rattle.tsobu.proofs.judging.judge_lawful.Goals.{Then-is_short}
use Rattle.tsobu.proofs.judging.judge_lawful.Goals as goal

short : (c : Then-is_short)
    → Short c.args.payload.now (length c.args.payload.now - c.args.dropped)
short c = c.is_short.ensures c.if-is_short.true

pub overflow_sub-payload : goal.overflow_sub-payload
overflow_sub-payload c = omega (arith, c.requires, given_or_dropped c.args.payload.now)

pub returns-then-is_short : goal.returns-then-is_short
returns-then-is_short c =
    let p = c.args.payload.now in
    short_figures p _ _ (short (goal.at.returns-then-is_short c).Then-is_short) (omega (arith, c.requires, given_or_dropped p)) c.requires

pub judge_obu-requires : goal.judge_obu-requires
judge_obu-requires c = c.requires

pub returns : goal.returns
returns c = c.judge_obu.ensures
