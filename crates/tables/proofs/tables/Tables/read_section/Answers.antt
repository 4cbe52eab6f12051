-- Case by case of the kind: PID 0 and the map PID have sections, the others are passed over. A section that is found is a part of the
-- payload, and is read; one that is misplaced is refused.
use Rattle.std.specs.Prelude.{None, Some, Err}
use Rattle.std.proofs.Common.{arith}
use Rattle.std.proofs.lemmas.Result.{err_from_is_err_and}
use mathlib.Core.Path.{◌≡◌, sym, ap, ◌∙◌}
use Rattle.refusal.specs.Number.{refused_by}
use Rattle.descriptor.specs.Naming.{edition_says}
use Rattle.tables.proofs.Reading.{passes, by_kind, no_sections, pat_misplaced, pat_placed, pmt_misplaced, pmt_placed}
use Rattle.tables.proofs.Refining.{refines_as}
use Rattle.tables.proofs.tables.Tables.read_section.Goals as goal

pub returns-in_default-clause-section_refines : goal.returns-in_default-clause-section_refines
returns-in_default-clause-section_refines c t own k =
    let a = c.args in
    passes k _
    (no_sections (edition_says a.self.now.edition) a.index a.start a.payload.now t a.kind c.in_default.not-Pat c.in_default.not-Map)

pub returns-in_err-size-in-Pat-clause-section_refines : goal.returns-in_err-size-in-Pat-clause-section_refines
returns-in_err-size-in-Pat-clause-section_refines c t own k =
    let a = c.args in
    let edition = edition_says a.self.now.edition in
    let none : c.find_section.result ≡ None = grind arith in
    let why : c.in_err-size-in-Pat.field-0.0 ≡ c.at.result = grind arith in
    let p = err_from_is_err_and c.from_residual.result c.from_residual.ensures.1 in
    rw (p.1, p.2) (by_kind edition a.index a.start a.payload.now t _ _ c.in-Pat.is (Err _) (λ _. Unit {0})
    (pat_misplaced edition a.index a.start a.payload.now t (sym c.find_section.ensures ∙ none)
    ∙ ap refused_by (sym (why ∙ c.at.ensures))))

pub returns-in_ok-size-in-Pat-clause-section_refines : goal.returns-in_ok-size-in-Pat-clause-section_refines
returns-in_ok-size-in-Pat-clause-section_refines c t own k =
    let a = c.args in
    let edition = edition_says a.self.now.edition in
    let found : c.find_section.result ≡ Some c.in_ok-size-in-Pat.size = grind arith in
    by_kind edition a.index a.start a.payload.now t _ _ c.in-Pat.is _ _
    (refines_as _ _ _ _
    (pat_placed edition a.index a.start a.payload.now t _ c.part.result.now (sym c.find_section.ensures ∙ found) c.part.ensures)
    (c.pat_section.ensures.pat_refines t k))

pub returns-in_err-size-in-Map-clause-section_refines : goal.returns-in_err-size-in-Map-clause-section_refines
returns-in_err-size-in-Map-clause-section_refines c t own k =
    let a = c.args in
    let edition = edition_says a.self.now.edition in
    let none : c.find_section-in-Map.result ≡ None = grind arith in
    let why : c.in_err-size-in-Map.field-0.0 ≡ c.at-in-Map.result = grind arith in
    let p = err_from_is_err_and c.from_residual-in_err-size-in-Map.result c.from_residual-in_err-size-in-Map.ensures.1 in
    rw (p.1, p.2) (by_kind edition a.index a.start a.payload.now t _ _ c.in-Map.is (Err _) (λ _. Unit {0})
    (pmt_misplaced edition a.index a.start a.payload.now t (sym c.find_section-in-Map.ensures ∙ none)
    ∙ ap refused_by (sym (why ∙ c.at-in-Map.ensures))))

pub returns-in_ok-size-in-Map-clause-section_refines : goal.returns-in_ok-size-in-Map-clause-section_refines
returns-in_ok-size-in-Map-clause-section_refines c t own k =
    let a = c.args in
    let edition = edition_says a.self.now.edition in
    let found : c.find_section-in-Map.result ≡ Some c.in_ok-size-in-Map.size = grind arith in
    by_kind edition a.index a.start a.payload.now t _ _ c.in-Map.is _ _
    (refines_as _ _ _ _
    (pmt_placed edition a.index a.start a.payload.now t _ c.part-in-Map.result.now (sym c.find_section-in-Map.ensures ∙ found)
    c.part-in-Map.ensures)
    (c.pmt_section.ensures.pmt_refines t k))
