-- Test by test: this packet has a PCR on the PCR PID, or the earlier one stays.
use Rattle.tables.proofs.Classes.{no_map_yet, another_pid, this_pid}
use Rattle.tables.proofs.tables.Tables.last_pcr.Goals as goal

pub returns-in_default : goal.returns-in_default
returns-in_default c t p kept e = no_map_yet t kept p _ e c.in_default.is

pub returns-then-header-found : goal.returns-then-header-found
returns-then-header-found c t p kept e = another_pid t kept p _ e _ c.in-Some.is c.if-header-found.true

pub returns : goal.returns
returns c t p kept e = this_pid t kept p _ e _ c.in-Some.is c.if-header-found.false _ c.or.ensures
