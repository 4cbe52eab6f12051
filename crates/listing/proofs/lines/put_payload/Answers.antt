-- The verdict on the payload has what the line says: the type, the bytes dropped, the width of the size; the rest of the payload's length
-- is the OBU's. A payload that is refused has no line.
use native.Mathlib.Omega.{arith}
use mathlib.Core.Path.{◌≡◌, sym, ap, ◌∙◌}
use mathlib.Core.List.{◌++◌, append-nil}
use Prim.Native.Nat.{◌-◌}
use lib.ListN.{length}
use Rattle.lists.specs.Lists.{Bytes}
use Rattle.refusal.specs.Number.{says}
use Rattle.emulation.specs.Payload.{unescape}
use Rattle.emulation.proofs.Steps.{given_or_dropped}
use Rattle.tsobu.proofs.TsObus.{Passes, tsobu_passed}
use Rattle.listing.proofs.Puttings.{payload_line_lem, no_line}
use Rattle.listing.proofs.lines.put_payload.Goals.{In-Ok}
use Rattle.listing.proofs.lines.put_payload.Goals as goal

-- a payload that passed
passes : (c : In-Ok) → Passes c.args.payload.now c.in-Ok.figures
passes c = tsobu_passed _ _ _ c.judge_payload.ensures c.in-Ok.is

pub overflow_sub-payload : goal.overflow_sub-payload
overflow_sub-payload c =
    omega (arith, (passes (goal.at.overflow_sub-payload c).In-Ok).dropped_is, given_or_dropped c.args.payload.now)

pub returns-in_default-clause-puts : goal.returns-in_default-clause-puts
returns-in_default-clause-puts c =
    let none = no_line c.args.index c.args.payload.now _ _ (sym c.judge_payload.ensures ∙ ap says c.in_default.is) in
    sym (append-nil c.args.text.now) ∙ ap (λ (l : Bytes). c.args.text.now ++ l) none

pub returns-clause-puts : goal.returns-clause-puts
returns-clause-puts c =
    let p = c.args.payload.now in
    let size : length p - c.in-Ok.figures.dropped ≡ length (unescape p) =
    omega (arith, (passes (goal.at.returns-clause-puts c).In-Ok).dropped_is, given_or_dropped p) in
    let said = sym c.judge_payload.ensures ∙ ap says c.in-Ok.is in
    c.put_obu.ensures.puts ∙ ap (λ (l : Bytes). c.args.text.now ++ l) (payload_line_lem c.args.index p _ said size c.size_bytes.ensures)
