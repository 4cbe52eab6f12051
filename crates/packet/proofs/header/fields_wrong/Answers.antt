-- The parts of the sentence in turn.
use Rattle.std.proofs.Common.{rules}
use Rattle.packet.specs.Header.{fields_wrong}
use Rattle.packet.proofs.header.fields_wrong.Goals as goal

pub returns-then-pcr_cut_short : goal.returns-then-pcr_cut_short
unfolding fields_wrong
returns-then-pcr_cut_short c = search rules

pub returns-else-pcr_cut_short : goal.returns-else-pcr_cut_short
unfolding fields_wrong
returns-else-pcr_cut_short c = search rules
