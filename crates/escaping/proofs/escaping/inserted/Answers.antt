use native.Mathlib.Omega.{arith}
use Prim.Native.Nat.{ℕ, ◌+◌}
use mathlib.Core.Path.{sym, subst, ◌∙◌}
use Rattle.emulation.specs.Blocks.{block}
use Rattle.escaping.specs.Parts.{tripled, Inserts}
use Rattle.emulation.proofs.Hits.{is_free}
use Rattle.escaping.proofs.Inserting.{inserts_clean, inserts_single, inserts_end}
use Rattle.emulation.proofs.Passes.{counts_then}
use Rattle.escaping.proofs.escaping.inserted.Goals as goal

pub loop-i-preserved-then-clean : goal.loop-i-preserved-then-clean
loop-i-preserved-then-clean c = inserts_clean _ _ _ _ c.loop-i.invariant (sym c.clean.ensures ∙ c.if-clean.true)

pub criticals-requires : goal.criticals-requires
criticals-requires c =
    (is_free tripled c.args.obu.now c.loop-i.i (sym c.single.ensures ∙ c.if-single.true)).0

pub loop-i-preserved-then-single : goal.loop-i-preserved-then-single
loop-i-preserved-then-single c =
    let obu = c.args.obu.now in
    subst (λ (n : ℕ). Inserts obu 0 (c.loop-i.i + block) (c.loop-i.count + n)) (sym (c.wide-count.ensures ∙ c.criticals.ensures))
    (inserts_single _ _ _ _ c.loop-i.invariant (sym c.single.ensures ∙ c.if-single.true))

pub returns : goal.returns
returns c = inserts_end _ _ _ c.loop-i.invariant (omega arith)

pub loop-i-preserved : goal.loop-i-preserved
loop-i-preserved c =
    counts_then c.loop-i.invariant
    c.inserted_places-reached.ensures.inserts
