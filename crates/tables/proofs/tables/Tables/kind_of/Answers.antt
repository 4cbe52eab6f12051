-- Test by test, in the definition's order.
use Rattle.tables.proofs.Classes.{kind_null, kind_pat, no_pat, kind_map, kind_listed}
use Rattle.tables.proofs.tables.Tables.kind_of.Goals as goal

pub returns-then-pid-eq-NULL_PID : goal.returns-then-pid-eq-NULL_PID
returns-then-pid-eq-NULL_PID c segment t k = kind_null k _ c.if-pid-eq-NULL_PID.true

pub returns-then-pid-eq0 : goal.returns-then-pid-eq0
returns-then-pid-eq0 c segment t k = kind_pat k _ c.if-pid-eq-NULL_PID.false c.if-pid-eq0.true

pub returns-in_default : goal.returns-in_default
returns-in_default c segment t k = no_pat k _ c.if-pid-eq-NULL_PID.false c.if-pid-eq0.false c.in_default.is

pub returns-then-pid-found : goal.returns-then-pid-found
returns-then-pid-found c segment t k =
    kind_map k _ c.if-pid-eq-NULL_PID.false c.if-pid-eq0.false _ c.in-Some.is c.if-pid-found.true

pub returns : goal.returns
returns c segment t k =
    let first = c.in-Some.is in
    let zero = c.if-pid-eq0.false in
    kind_listed k _ c.if-pid-eq-NULL_PID.false zero _ first c.listed_as.result c.if-pid-found.false
    (c.listed_as.ensures segment t _ first k zero c.if-pid-found.false)
