-- The invariant says which programs were found; at the end, or at the second one, so does the definition.
use mathlib.Core.Path.{◌≡◌, sym, ap, subst, ◌∙◌}
use native.Mathlib.Omega.{arith}
use Rattle.std.proofs.Common.{Option, ◌+◌}
use Rattle.refusal.specs.Number.{refused_by}
use Rattle.psi.specs.declared.pat.Program.{Program}
use Rattle.psi.proofs.Programs.{Seen, of_all, skip, keep, second, nobody, one}
use Rattle.psi.proofs.pat.one_program.Goals.{then-next-ne-NETWORK+else-is_some, else-next-ne-NETWORK}
use Rattle.psi.proofs.pat.one_program.Goals as goal

pub returns-then-is_some : goal.returns-then-is_some
returns-then-is_some c =
    ap refused_by c.at.ensures
    ∙ sym (second c.loop-chunk.invariant _ _ c.loop-chunk-test.true c.entry-next.ensures (sym c.is_some.ensures ∙ c.if-is_some.true)
    c.if-next-ne-NETWORK.true) ∙ of_all _ _ c.as_chunks.ensures.front

pub loop-chunk-preserved : goal.loop-chunk-preserved
loop-chunk-preserved c =
    let at : (found : Option Program) → c.if-next-ne-NETWORK.found ≡ found
    → Seen c.as_chunks.result.0.now found (c.loop-chunk.chunk-index + 1)
    → Seen c.as_chunks.result.0.now c.if-next-ne-NETWORK.found (c.loop-chunk.chunk-index + 1) =
    λ found e s. subst (λ (o : Option Program). Seen c.as_chunks.result.0.now o (c.loop-chunk.chunk-index + 1)) (sym e) s in
    elim c.if-next-ne-NETWORK.branch [
      | then-next-ne-NETWORK+else-is_some w ↦ at _ w.found-is (keep c.loop-chunk.invariant _ _ c.loop-chunk-test.true c.entry-next.ensures
          (sym w.is_some.ensures ∙ w.if-is_some.false) w.if-next-ne-NETWORK.true)
      | else-next-ne-NETWORK w ↦ at _ w.found-is (skip c.loop-chunk.invariant _ _ c.loop-chunk-test.true c.entry-next.ensures
          w.if-next-ne-NETWORK.false)
    ]

pub returns-in-Some : goal.returns-in-Some
returns-in-Some c =
    c.in_range.ensures ∙ sym (one c.loop-chunk.invariant _ (omega arith) c.in-Some.is) ∙ of_all _ _ c.as_chunks.ensures.front

pub returns-in-None : goal.returns-in-None
returns-in-None c =
    ap refused_by c.at-in-None.ensures ∙ sym (nobody c.loop-chunk.invariant (omega arith) c.in-None.is)
    ∙ of_all _ _ c.as_chunks.ensures.front
