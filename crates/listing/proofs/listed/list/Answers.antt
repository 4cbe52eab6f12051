-- The text is put together in a buffer that has room for it; if the output has room too, it goes over the output's front.
use mathlib.Core.Path.{refl, ap, ◌∙◌}
use lib.ListN.{length}
use lib.Seq.{take_all}
use Rattle.lists.specs.Lists.{Bytes, over}
use Rattle.refusal.specs.Verdict.{leaves}
use Rattle.listing.proofs.Texts.{list_short, list_fits}
use Rattle.listing.proofs.listed.list.Goals as goal

pub returns-then-out-bytes-clause-result_value : goal.returns-then-out-bytes-clause-result_value
returns-then-out-bytes-clause-result_value c =
    rw c.at.ensures (list_short c.args.unit.now _ _ (ap length (c.bytes-bytes.ensures ∙ c.put_text.ensures.puts)) c.if-out-bytes.true)

pub returns-then-out-bytes-clause-out_after : goal.returns-then-out-bytes-clause-out_after
unfolding leaves
returns-then-out-bytes-clause-out_after c = refl

pub returns-clause-result_value : goal.returns-clause-result_value
returns-clause-result_value c =
    list_fits c.args.unit.now _ _ (ap length (c.bytes-bytes.ensures ∙ c.put_text.ensures.puts)) c.if-out-bytes.false

pub returns-clause-out_after : goal.returns-clause-out_after
unfolding leaves
returns-clause-out_after c =
    let out = c.args.out.now in
    c.copy.ensures
    ∙ ap (λ (w : Bytes). over w out) (take_all (length out) _ c.if-out-bytes.false ∙ c.bytes-bytes.ensures ∙ c.put_text.ensures.puts)
