-- A listed PID of which a packet was seen; on the AV1 PID a PES is open and a PCR has counted.
use Rattle.std.proofs.Common.{rules}
use mathlib.Core.Path.{sym}
use Rattle.segment_run.specs.Parts.{MayGoOn}
use Rattle.segment_run.proofs.going.due_after.Goals as goal

pub returns-in_ok-last-in-Av1 : goal.returns-in_ok-last-in-Av1
returns-in_ok-last-in-Av1 c =
    let last = c.in_ok-last-in-Av1.last in
    let opened : MayGoOn c.args.state = search rules in
    (record { kind = c.in-Av1.ensures; seen = (last.index, last.repeat, sym c.in_ok-last-in-Av1.ensures) }, opened)

pub returns-in_ok-last-in-Listed : goal.returns-in_ok-last-in-Listed
returns-in_ok-last-in-Listed c =
    let last = c.in_ok-last-in-Listed.last in
    record { kind = c.in-Listed.ensures; seen = (last.index, last.repeat, sym c.in_ok-last-in-Listed.ensures) }
