-- What an OBU is judged from lies in its first eleven bytes; these, unescaped, and the OBU's length decide as the whole OBU does. Where
-- nothing is dropped the payload is the OBU.
use native.Mathlib.Omega.{arith}
use Prim.Native.Nat.{◌+◌}
use mathlib.Core.Path.{sym, ◌∙◌}
use lib.ListN.{length, replicate}
use lib.Seq.{take_all}
use Rattle.lists.specs.Lists.{Bytes}
use Rattle.emulation.specs.Payload.{unescape}
use Rattle.emulation.proofs.Steps.{given_or_dropped}
use Rattle.emulation.proofs.Judging.{undropped}
use Rattle.tsobu.proofs.TsObus.{first_bytes, figures_short}
use Rattle.tsobu.proofs.judging.judge_obu.Goals as goal

-- the array, as it is made
abbrev zeros : Bytes
zeros = replicate 11 0

pub overflow_sub-length : goal.overflow_sub-length
overflow_sub-length c = omega (arith, given_or_dropped c.args.payload.now)

pub returns-then-dropped-eq0 : goal.returns-then-dropped-eq0
returns-then-dropped-eq0 c =
    let p = c.args.payload.now in
    let u = undropped p (sym c.requires ∙ c.if-dropped-eq0.true) in
    let all = take_all (length (unescape p) + 11) (unescape p) (omega arith) in
    c.judge_first.ensures
    ∙ figures_short p p _ _ (length (unescape p) + 11) (omega arith) (sym u ∙ sym all) (omega (arith, c.requires, given_or_dropped p))
    c.requires

pub returns : goal.returns
returns c =
    let p = c.args.payload.now in
    let e = c.unescape_prefix-n.ensures in
    c.judge_first-2.ensures
    ∙ figures_short p _ _ _ 11 (omega arith) (first_bytes (unescape p) zeros _ _ e.value e.out_after).1
    (omega (arith, c.requires, given_or_dropped p)) c.requires
