-- The first forbidden place is the end of the payload, or lies up to two bytes before it, where zeros come before a start code; anywhere
-- else the payload goes on for three bytes and more from there and is illegal, and its end is looked for.
use native.Mathlib.Omega.{arith}
use mathlib.Core.Path.{refl, sym, ◌∙◌}
use Rattle.tsobu.proofs.Places.{before_byte}
use Rattle.tsobu.proofs.Scanning.{First, scan_long, scan_legal, scan_code, scan_illegal, none_left}
use Rattle.tsobu.proofs.start_codes.scan.Goals.{After-search-reached}
use Rattle.tsobu.proofs.start_codes.scan.Goals as goal

-- what the search found
first : (c : After-search-reached)
    → let found = c.search-reached.result in
    First c.args.unit.now c.args.start found.place found.count
first c = record { at = c.search-reached.ensures.place_value; drops = c.search-reached.ensures.count_value }

pub returns-then-unit-place : goal.returns-then-unit-place
returns-then-unit-place c =
    let found = first (goal.at.returns-then-unit-place c).After-search-reached in
    scan_legal found 0 _ (omega arith) (none_left found c.if-unit-place.true) (omega arith)

pub loop-end-init : goal.loop-end-init
loop-end-init c = (scan_long (first (goal.at.loop-end-init c).After-search-reached) c.if-unit-place.false, refl)

pub returns-then-code_at : goal.returns-then-code_at
returns-then-code_at c =
    scan_code (first (goal.at.returns-then-code_at c).After-search-reached) _ c.loop-end-test.true c.loop-end.invariant.1
    (sym c.code_at.ensures ∙ c.if-code_at.true)

pub loop-end-preserved : goal.loop-end-preserved
loop-end-preserved c =
    let inv = c.loop-end.invariant in
    let on = before_byte c.args.unit.now c.loop-end.end (omega (arith, inv.0)) (sym c.code_at.ensures ∙ c.if-code_at.false) in
    (inv.0, omega (arith, inv.1, on))

pub returns : goal.returns
returns c =
    let found = first (goal.at.returns c).After-search-reached in
    scan_illegal found _ (omega (arith, c.loop-end.invariant.1)) c.find.ensures
