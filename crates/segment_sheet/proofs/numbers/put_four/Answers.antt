-- Two numbers behind two.
use borrow.Author.Rules.{rules}
use Rattle.segment_sheet.proofs.Filling.{four_placed}
use Rattle.segment_sheet.proofs.numbers.put_four.Goals as goal

pub returns : goal.returns
returns c =
    let a = c.args in
    four_placed a.sheet.now _ _ a.at a.a a.b a.c a.d c.requires c.put_two.ensures c.put_two-2.ensures

pub put_two-requires : goal.put_two-requires
put_two-requires c = search rules

pub overflow_add-at : goal.overflow_add-at
overflow_add-at c = search rules
