-- The tries are those of the definition, in its order; where none refuses, the bytes stand behind those that are in the output.
use borrow.Author.Tests.{not-true, not-false}
use native.Mathlib.Omega.{arith}
use Prim.Native.Nat.{◌+◌}
use mathlib.Core.Path.{refl, sym, ap, ◌∙◌}
use Rattle.lists.proofs.Parts.{tail_prefix}
use Rattle.refusal.specs.Number.{refused_by}
use Rattle.tables.proofs.Refining.{never_passed}
use Rattle.units.proofs.Extracting.{adds_closed, adds_unseen, adds_bytes, adds_right}
use Rattle.units.proofs.units.Extraction.add.Goals as goal

pub returns-in_default-clause-adds_payload : goal.returns-in_default-clause-adds_payload
returns-in_default-clause-adds_payload c edition lens times before p st is k s =
    adds_closed edition c.args.arrival.index p c.args.payload.now st is s c.in_default.is ∙ ap refused_by (sym c.at.ensures)

pub returns-then-not-arrival-clause-adds_payload : goal.returns-then-not-arrival-clause-adds_payload
returns-then-not-arrival-clause-adds_payload c edition lens times before p st is k s =
    adds_unseen edition c.args.arrival.index p c.args.payload.now st is s _ c.in-Some.is (k ∙ not-true _ c.if-not-arrival.true)
    ∙ ap refused_by (sym c.at-then-not-arrival.ensures)

pub returns-then-out-written-clause-adds_payload : goal.returns-then-out-written-clause-adds_payload
returns-then-out-written-clause-adds_payload c edition lens times before p st is k s =
    adds_bytes edition c.args.arrival.index p c.args.payload.now st is s _ c.in-Some.is
    (k ∙ not-false _ c.if-not-arrival.false) (omega arith)
    ∙ ap refused_by (sym c.at-then-out-written.ensures)

pub returns : goal.returns
returns c =
    let a = c.args in
    let e = a.self in
    record {
      adds_payload = (λ edition lens times before p st is k s.
          rw c.in-Some.is (adds_right edition a.arrival.index p a.payload.now st is s _ c.in-Some.is
          (k ∙ not-false _ c.if-not-arrival.false) (omega arith)
          (tail_prefix (e.start + e.bytes) a.out.now a.payload.now _ (omega (arith, c.requires))
          c.copy.ensures)));
      units_refused = (λ q k. never_passed q k refl);
    }
