-- The refusals are tried in order; then the escaped form, which has room, is written whole.
use borrow.Author.Tests.{lt-ltb, le-ltb, leb-true, leb-false}
use native.Mathlib.Omega.{arith}
use mathlib.Core.Path.{refl, sym, ap, ◌∙◌}
use lib.ListN.{length}
use lib.Seq.{take_all}
use Rattle.lists.specs.Lists.{Bytes, over}
use Rattle.refusal.specs.Verdict.{passed, leaves}
use Rattle.refusal.proofs.Verdicts.{refuse, pass_on}
use Rattle.emulation.specs.Payload.{escape}
use Rattle.emulation.specs.Answer.{most_escaped, escaping}
use Rattle.escaping.proofs.escaping.escape.Goals as goal

pub returns-then-not-has_room : goal.returns-then-not-has_room
unfolding escaping leaves
returns-then-not-has_room c =
    let s = c.args.obu.now in
    let o = c.args.out.now in
    let short = leb-false (length (escape s)) (length o) (sym c.has_room.ensures ∙ c.if-not-has_room.true) in
    record {
      result_value = rw c.at-then-not-has_room.ensures (pass_on 2 (le-ltb _ _ c.if-obu-gt-MOST_ESCAPED.false)
          (refuse 8 _ (lt-ltb (length o) (length (escape s)) (omega (arith, short)))));
      out_after = refl;
    }

pub returns : goal.returns
unfolding escaping leaves
returns c =
    let s = c.args.obu.now in
    let o = c.args.out.now in
    let tested = sym c.has_room.ensures
    ∙ c.if-not-has_room.false in
    let room = leb-true (length (escape s)) (length o) tested in
    let whole = take_all (length o) (escape s) room in
    let written = c.escape_prefix.ensures in
    record {
      result_value = pass_on 2 (le-ltb most_escaped (length s) c.if-obu-gt-MOST_ESCAPED.false)
          (pass_on 8 (le-ltb (length o) (length (escape s)) room) (ap passed (written.value ∙ ap length whole)));
      out_after = written.out_after ∙ ap (λ (w : Bytes). over w o) whole;
    }

pub returns-then-obu-gt-MOST_ESCAPED : goal.returns-then-obu-gt-MOST_ESCAPED
unfolding escaping leaves
returns-then-obu-gt-MOST_ESCAPED c = record {
  result_value = rw c.at.ensures (refuse 2 _ (lt-ltb _ _ c.if-obu-gt-MOST_ESCAPED.true));
  out_after = refl;
}
