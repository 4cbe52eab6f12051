-- The header that was read says how many bytes the payload has at least; behind these the same start code is found (`said_end`).
use native.Mathlib.Omega.{arith}
use mathlib.Core.Path.{◌∙◌}
use Rattle.segment_sheet.proofs.Said.{Says, says_size, said_room, said_end}
use Rattle.segment_sheet.proofs.ends.end_of.Goals.{In-Some}
use Rattle.segment_sheet.proofs.ends.end_of.Goals as goal

-- the header read, and the size that it says
told : (c : In-Some)
    → let a = c.args in
    Says a.unit.now a.start c.in-Ok.header c.in-Some.leb
told c =
    says_size c.args.unit.now c.args.start _ _ c.in-Some.leb c.requires c.read_header.ensures
    c.in-Ok.is c.in-Some.is

pub overflow_add-start : goal.overflow_add-start
overflow_add-start c = omega (arith, said_room (told (goal.at.overflow_add-start c).In-Some))

pub overflow_add-start-in-Some : goal.overflow_add-start-in-Some
overflow_add-start-in-Some c = omega (arith, said_room (told (goal.at.overflow_add-start-in-Some c).In-Some))

pub returns-in-Some : goal.returns-in-Some
returns-in-Some c = c.find-in-Some.ensures ∙ said_end (told (goal.at.returns-in-Some c).In-Some)
