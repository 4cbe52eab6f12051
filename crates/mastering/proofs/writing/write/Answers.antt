-- 49, then 8; then the content, which has room, is written.
use Prim.Native.Nat.{ℕ}
use mathlib.Core.Path.{refl, sym, ap, ◌∙◌}
use mathlib.Core.List.{List, flatten}
use borrow.Author.Tests.{lt-ltb, le-ltb}
use lib.ListN.{length, take}
use Rattle.lists.specs.Lists.{over}
use Rattle.lists.proofs.Writing.{fits}
use Rattle.refusal.specs.Verdict.{leaves}
use Rattle.refusal.proofs.Verdicts.{refuse, pass_on}
use Rattle.mastering.specs.Content.{bytes2, bytes4, content_of}
use Rattle.mastering.specs.Steps.{writing}
use Rattle.mastering.proofs.writing.write.Goals as goal

pub returns-then-steps_past : goal.returns-then-steps_past
unfolding writing leaves
returns-then-steps_past c = record {
  result_value = rw c.at.ensures (refuse 49 _ (sym c.steps_past.ensures ∙ c.if-steps_past.true));
  out_after = refl;
}

pub returns : goal.returns
unfolding writing leaves content_of flatten bytes2 bytes4
returns c =
    let within = sym c.steps_past.ensures ∙ c.if-steps_past.false in
    let out = c.args.out.now in
    let content = c.content_of-content.ensures ∙ ap content_of c.numbers_from.ensures in
    record {
      result_value = pass_on 49 within (pass_on 8 (le-ltb _ _ c.if-out-lt-CONTENT.false) refl);
      out_after = c.copy.ensures ∙ ap (λ (l : List ℕ). over (take (length out) l) out) content
          ∙ fits out (content_of _) c.if-out-lt-CONTENT.false;
    }

pub returns-then-out-lt-CONTENT : goal.returns-then-out-lt-CONTENT
unfolding writing leaves content_of flatten bytes2 bytes4
returns-then-out-lt-CONTENT c =
    let within = sym c.steps_past.ensures ∙ c.if-steps_past.false in
    record {
      result_value = rw c.at-then-out-lt-CONTENT.ensures (pass_on 49 within (refuse 8 _ (lt-ltb _ _ c.if-out-lt-CONTENT.true)));
      out_after = refl;
    }
