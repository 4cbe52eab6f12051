-- Before the PAT a PMT is passed over; the first is read; a later one is compared with the section of the first one's packet.
use Rattle.tables.proofs.Reading.{passes, pmt_skipped, pmt_later}
use Rattle.tables.proofs.tables.Tables.pmt_section.Goals as goal

pub returns-in_default-clause-pmt_refines : goal.returns-in_default-clause-pmt_refines
returns-in_default-clause-pmt_refines c t k = passes k _ (pmt_skipped k c.args.index c.args.section.now c.in_default.is)

pub returns-in-None-clause-pmt_refines : goal.returns-in-None-clause-pmt_refines
returns-in-None-clause-pmt_refines c t k = c.first_pmt.ensures.first_pmt_refines _ t c.in-None.is c.in-Some.is k

pub returns-in-Some-pmt-clause-pmt_refines : goal.returns-in-Some-pmt-clause-pmt_refines
returns-in-Some-pmt-clause-pmt_refines c t k =
    pmt_later k c.args.index c.args.section.now _ _ _ c.later_section.result c.in-Some.is c.in-Some-pmt.is c.section_at.ensures
    (c.later_section.ensures t)
