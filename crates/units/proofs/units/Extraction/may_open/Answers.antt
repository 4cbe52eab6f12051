-- The tries are those of the definition, in its order: the last one is whether the units where the PES is open lie beyond the outputs.
use native.Mathlib.Omega.{arith}
use mathlib.Core.Path.{sym, ap, ◌∙◌}
use borrow.Author.Tests.{not-true, not-false}
use Rattle.refusal.specs.Number.{refused_by}
use Rattle.units.proofs.Beyond.{within_fits}
use Rattle.units.proofs.Extracting.{may_unseen, may_many, may_beyond, may_all}
use Rattle.units.specs.declared.units.Extraction.{Extraction}
use Rattle.units.proofs.units.Extraction.may_open.Goals as goal

pub returns-then-not-arrival-clause-may_open_refines : goal.returns-then-not-arrival-clause-may_open_refines
returns-then-not-arrival-clause-may_open_refines c before now p w st e f r is k s closed opened =
    may_unseen _ p w st r is s (k ∙ not-true _ c.if-not-arrival.true) ∙ ap refused_by (sym c.at.ensures)

pub returns-then-self-ge-MOST_UNITS-clause-may_open_refines : goal.returns-then-self-ge-MOST_UNITS-clause-may_open_refines
returns-then-self-ge-MOST_UNITS-clause-may_open_refines c before now p w st e f r is k s closed opened =
    may_many _ p w st r is s (k ∙ not-false _ c.if-not-arrival.false)
    (omega (arith, ap (λ (y : Extraction). y.units) opened))
    ∙ ap refused_by (sym c.at-then-self-ge-MOST_UNITS.ensures)

pub returns-then-is_beyond-clause-may_open_refines : goal.returns-then-is_beyond-clause-may_open_refines
returns-then-is_beyond-clause-may_open_refines c before now p w st e f r is k s closed opened =
    may_beyond _ p w st r is s (k ∙ not-false _ c.if-not-arrival.false)
    (omega (arith, ap (λ (y : Extraction). y.units) opened)) f closed _ opened
    (sym c.is_beyond.ensures ∙ c.if-is_beyond.true)
    ∙ ap refused_by (sym c.at-then-is_beyond.ensures)

pub returns : goal.returns
returns c =
    let within = sym c.is_beyond.ensures ∙ c.if-is_beyond.false in
    record {
      may_open_refines = (λ before now p w st e f r is k s closed opened.
          may_all _ p w st r is s (k ∙ not-false _ c.if-not-arrival.false)
          (omega (arith, ap (λ (y : Extraction). y.units) opened)) f closed _ opened within);
      fits = (λ k. within_fits _ _ within);
    }
