-- Reading and writing answer by their definitions; each case of their answers is one of the definition's steps.
use mathlib.Core.Path.{refl, sym, ap, ◌∙◌}
use Rattle.std.proofs.lemmas.Result.{err_from_is_err_and}
use Rattle.lists.specs.Lists.{over}
use Rattle.refusal.specs.Verdict.{leaves}
use Rattle.refusal.proofs.Verdicts.{go_on, stop}
use Rattle.descriptor.specs.declared.fields.Fields.{Fields}
use Rattle.descriptor.specs.declared.fields.Video.{Video}
use Rattle.descriptor.specs.Descriptor.{descriptor_of, rewriting}
use Rattle.descriptor.proofs.RoundTrip.{read_as}
use Rattle.descriptor.proofs.rewriting.rewrite.Goals as goal

pub returns-in_err-video : goal.returns-in_err-video
unfolding rewriting leaves
returns-in_err-video c =
    let p = err_from_is_err_and c.from_residual.result c.from_residual.ensures.1 in
    rw (p.1, p.2) (record { result_value = stop _ _ _ (sym c.in_err-video.ensures); out_after = refl })

pub returns-in_err-bytes : goal.returns-in_err-bytes
unfolding rewriting leaves
returns-in_err-bytes c =
    let p = err_from_is_err_and c.from_residual-in_err-bytes.result c.from_residual-in_err-bytes.ensures.1 in
    rw (p.1, p.2)
    (record {
      result_value = go_on _ _ (sym c.in_ok-video.ensures) (stop _ _ _ (sym c.in_err-bytes.ensures.result_value));
      out_after = c.in_err-bytes.ensures.out_after;
    })

pub returns : goal.returns
unfolding rewriting leaves
returns c =
    let fields = ap (λ (v : Video). v.fields) (read_as _ _ (sym c.in_ok-video.ensures)) in
    record {
      result_value = go_on _ _ (sym c.in_ok-video.ensures) (go_on _ _ (sym c.in_ok-bytes.ensures.result_value) (rw c.is_some.ensures));
      out_after = c.in_ok-bytes.ensures.out_after ∙ ap (λ (f : Fields). over (descriptor_of f) c.args.out.now) fields;
    }
