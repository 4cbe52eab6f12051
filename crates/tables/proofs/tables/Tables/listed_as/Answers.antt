-- By the slot that the lookup gives.
use Rattle.tables.proofs.Classes.{no_map_lem, in_no_slot, as_av1, as_other}
use Rattle.tables.proofs.tables.Tables.listed_as.Goals as goal

pub returns-in_default : goal.returns-in_default
returns-in_default c segment t f e k b d = no_map_lem k _ f e b d c.in_default.is

pub returns-in_default-look_up : goal.returns-in_default-look_up
returns-in_default-look_up c segment t f e k b d =
    in_no_slot k _ f e b d _ c.in-Some.is _ c.look_up.ensures c.in_default-look_up.is

pub returns-then-pid-found : goal.returns-then-pid-found
returns-then-pid-found c segment t f e k b d =
    as_av1 k _ f e b d _ c.in-Some.is _ c.look_up.ensures _ c.in-Some-look_up.is c.if-pid-found.true

pub returns : goal.returns
returns c segment t f e k b d =
    as_other k _ f e b d _ c.in-Some.is _ c.look_up.ensures _ c.in-Some-look_up.is c.if-pid-found.false
