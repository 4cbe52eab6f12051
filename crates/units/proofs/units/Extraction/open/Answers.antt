-- The header is read, 29 and 30 are tried, and 31, 34 and 8 by `may_open`; where none refuses, the bytes stand behind those that are there.
use native.Mathlib.Omega.{arith}
use mathlib.Core.Path.{refl, sym, ap, ◌∙◌}
use lib.ListN.{length}
use Rattle.std.proofs.lemmas.Result.{err_from_is_err_and}
use Rattle.lists.specs.Lists.{Bytes}
use Rattle.lists.proofs.Parts.{tail_prefix}
use Rattle.descriptor.specs.Naming.{edition_says}
use Rattle.refusal.specs.Number.{refused_by}
use Rattle.pes.proofs.Headers.{read_data}
use Rattle.segment_rules.specs.Check.{outputs_of}
use Rattle.units.specs.declared.state.PesFound.{PesFound}
use Rattle.units.proofs.Holding.{opened_with}
use Rattle.units.proofs.Extracting.{at_passed, opens_wrong, opens_untimed, opens_refused, opens_right}
use Rattle.units.proofs.units.Extraction.open.Goals as goal

pub returns-in_err-header-clause-opening_refines : goal.returns-in_err-header-clause-opening_refines
returns-in_err-header-clause-opening_refines c before lens times p st r is k closed s =
    let a = c.args in
    let q = err_from_is_err_and c.from_residual.result c.from_residual.ensures.1 in
    rw (q.1, q.2) (opens_wrong (edition_says a.arrival.edition) a.arrival.index p a.payload.now st before is _ _
    (sym c.in_err-header.ensures))

pub returns-then-untimed-clause-opening_refines : goal.returns-then-untimed-clause-opening_refines
returns-then-untimed-clause-opening_refines c before lens times p st r is k closed s =
    let a = c.args in
    opens_untimed (edition_says a.arrival.edition) a.arrival.index p a.payload.now st before is c.in_ok-header.header
    (at_passed _ _ _ (sym c.in_ok-header.ensures)) (sym c.untimed.ensures ∙ c.if-untimed.true)
    ∙ ap refused_by (sym c.at.ensures)

pub returns-in_err-may_open-clause-opening_refines : goal.returns-in_err-may_open-clause-opening_refines
returns-in_err-may_open-clause-opening_refines c before lens times p st r is k closed s =
    let a = c.args in
    let q = err_from_is_err_and c.from_residual-in_err-may_open.result c.from_residual-in_err-may_open.ensures.1 in
    let read = at_passed _ _ _ (sym c.in_ok-header.ensures) in
    let lent = c.rest-bytes.ensures ∙ read_data a.payload.now _ read in
    let f : PesFound = record { first = a.arrival.index; header = c.in_ok-header.header } in
    rw (q.1, q.2) (opens_refused (edition_says a.arrival.edition) a.arrival.index p a.payload.now st before is c.in_ok-header.header
    read (sym c.untimed.ensures ∙ c.if-untimed.false) _ _
    (c.in_err-may_open.ensures.may_open_refines before (outputs_of a.out.now lens times) p a.payload.now st a.self f r is k s closed
    (ap (λ (b : Bytes). opened_with f (length b) a.self) lent)))

pub returns-clause-opening_refines : goal.returns-clause-opening_refines
returns-clause-opening_refines c before lens times p st r is k closed s =
    let a = c.args in
    let read = at_passed _ _ _ (sym c.in_ok-header.ensures) in
    let lent = c.rest-bytes.ensures ∙ read_data a.payload.now _ read in
    let f : PesFound = record { first = a.arrival.index; header = c.in_ok-header.header } in
    let fits = c.in_ok-may_open.ensures.fits refl in
    opens_right (edition_says a.arrival.edition) a.arrival.index p a.payload.now st before is c.in_ok-header.header
    read (sym c.untimed.ensures ∙ c.if-untimed.false)
    (c.in_ok-may_open.ensures.may_open_refines before (outputs_of a.out.now lens times) p a.payload.now st a.self f r is k s closed
    (ap (λ (b : Bytes). opened_with f (length b) a.self) lent))
    s c.rest-bytes.result.now _ lent
    (tail_prefix a.self.start a.out.now c.rest-bytes.result.now _ (omega (arith, fits.in_bytes)) c.copy.ensures)
    closed _ r fits
