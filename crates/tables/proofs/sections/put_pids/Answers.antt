use borrow.Author.Rules.{rules}
use mathlib.Core.Path.{◌≡◌, sym, ◌∙◌}
use native.Mathlib.Omega.{arith}
use lib.ListN.{length}
use Rattle.lists.proofs.Parts.{unmapped}
use Rattle.tables.proofs.Mapping.{put_next, put_all}
use Rattle.tables.proofs.sections.put_pids.Goals as goal

pub loop-i-preserved : goal.loop-i-preserved
loop-i-preserved c =
    let entries = c.args.entries in
    let twelve : length entries ≡ 12 = search (rules, unmapped) in
    c.loop-i.invariant ∙ put_next entries c.loop-i.i _ (omega (arith, twelve)) _ _ c.put_pid.ensures

pub returns : goal.returns
returns c =
    let entries = c.args.entries in
    let twelve : length entries ≡ 12 = search (rules, unmapped) in
    sym (c.loop-i.invariant ∙ put_all entries c.loop-i.i (omega (arith, twelve)) _)
