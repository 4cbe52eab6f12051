-- One number behind the other.
use borrow.Author.Rules.{rules}
use Rattle.segment_sheet.proofs.Filling.{two_placed}
use Rattle.segment_sheet.proofs.numbers.put_two.Goals as goal

pub returns : goal.returns
returns c =
    let a = c.args in
    two_placed a.sheet.now _ _ a.at a.a a.b c.requires c.put_number.ensures c.put_number-2.ensures

pub overflow_add-at : goal.overflow_add-at
overflow_add-at c = search rules
