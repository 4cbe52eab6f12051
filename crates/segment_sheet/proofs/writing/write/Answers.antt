-- By what the check says; what it handed out of an accepted segment is the content that is put.
use borrow.Author.Rules.{rules}
use Rattle.std.proofs.lemmas.Result.{err_from_is_err_and}
use Rattle.segment_rules.specs.Check.{outputs_of, rooms_of}
use Rattle.segment_sheet.proofs.Answers.{refused_writes, refused_stays, ready, accepted_writes, accepted_leaves}
use Rattle.segment_sheet.proofs.writing.write.Goals as goal

pub put_sheet-requires : goal.put_sheet-requires
put_sheet-requires c =
    let a = c.args in
    let done = c.in_ok-accepted.ensures in
    ready a.edition a.segment.now (outputs_of a.out.now a.lens.now a.times.now) _ (search rules) _ _ _ _
    done.answers done.beside done.leaves done.began

pub returns-in_err-accepted : goal.returns-in_err-accepted
returns-in_err-accepted c =
    let a = c.args in
    let p = err_from_is_err_and c.from_residual.result c.from_residual.ensures.1 in
    let done = c.in_err-accepted.ensures in
    let before = outputs_of a.out.now a.lens.now a.times.now in
    rw (p.1, p.2)
    (record {
      answers = refused_writes _ a.edition (rooms_of before) a.segment.now _ done.answers;
      outputs = done.leaves;
      written = refused_stays _ _ a.sheet.now done.answers;
    })

pub returns : goal.returns
returns c =
    let a = c.args in
    let done = c.in_ok-accepted.ensures in
    let before = outputs_of a.out.now a.lens.now a.times.now in
    let put = c.put_sheet.ensures in
    record {
      answers = accepted_writes a.edition a.segment.now before _ (search rules) _ _ _ _ done.answers done.beside done.leaves
          done.began _ _ put.answers;
      outputs = done.leaves;
      written = accepted_leaves a.edition a.segment.now before _ (search rules) _ _ _ _ done.answers done.beside done.leaves
          done.began _ a.sheet.now _ put.answers put.written;
    }
