-- The first PAT is read; a later one is compared with the section that the first one's packet brought.
use Rattle.tables.proofs.Reading.{pat_later}
use Rattle.tables.proofs.tables.Tables.pat_section.Goals as goal

pub returns-in-None-clause-pat_refines : goal.returns-in-None-clause-pat_refines
returns-in-None-clause-pat_refines c t k = c.first_pat.ensures.first_pat_refines _ t c.in-None.is k

pub returns-in-Some-clause-pat_refines : goal.returns-in-Some-clause-pat_refines
returns-in-Some-clause-pat_refines c t k =
    pat_later k c.args.index c.args.section.now _ _ c.later_section.result c.in-Some.is c.section_at.ensures (c.later_section.ensures t)
