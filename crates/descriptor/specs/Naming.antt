-- What the code's names of the editions (src/edition.rt) say. Assumes nothing.
use Rattle.refusal.specs.declared.Refused.{Refused}
use Rattle.std.specs.Prelude.{Result, Ok, Err}
use Rattle.refusal.specs.Verdict.{Verdict, passed}
use Rattle.refusal.specs.Number.{refused_by}
use Rattle.descriptor.specs.Edition.{Edition, current, draft}
use Rattle.descriptor.specs.declared.edition.Edition.{Edition as EditionName}
use Rattle.descriptor.specs.declared.edition.Edition.TheVariants.{Current, Draft}

abbrev pub edition_says : EditionName → Edition
edition_says Current = current
edition_says Draft = draft

abbrev pub named_says : (Result EditionName Refused) → Verdict Edition
named_says (Ok e) = passed (edition_says e)
named_says (Err r) = refused_by r
