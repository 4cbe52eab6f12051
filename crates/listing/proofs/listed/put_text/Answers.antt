-- The verdict on the unit says which text is put: a refusal's line, or the header and the lines of the walk.
use mathlib.Core.Path.{sym, ap, ◌∙◌}
use mathlib.Core.List.{◌++◌}
use Rattle.lists.specs.Lists.{Bytes}
use Rattle.refusal.specs.Number.{says, number_of}
use Rattle.tsobu.specs.StartCodes.{payloads}
use Rattle.listing.specs.Listing.{refusal_line, header_line, payload_lines}
use Rattle.listing.proofs.Texts.{text_long, text_refused, text_passed}
use Rattle.listing.proofs.listed.put_text.Goals as goal

pub returns-then-unit-gt-MOST_LISTED-clause-puts : goal.returns-then-unit-gt-MOST_LISTED-clause-puts
returns-then-unit-gt-MOST_LISTED-clause-puts c =
    c.put_refusal.ensures.puts
    ∙ ap (λ (l : Bytes). l ++ refusal_line (number_of c.at.result.why) c.at.result.place) c.requires
    ∙ ap (λ r. refusal_line (number_of r.why) r.place) c.at.ensures
    ∙ text_long c.args.unit.now c.if-unit-gt-MOST_LISTED.true

pub returns-in-Err-clause-puts : goal.returns-in-Err-clause-puts
returns-in-Err-clause-puts c =
    c.put_refusal-in-Err.ensures.puts ∙ ap (λ (l : Bytes). l ++ refusal_line
    (number_of c.in-Err.refused.why) c.in-Err.refused.place) c.requires
    ∙ text_refused c.args.unit.now c.if-unit-gt-MOST_LISTED.false _ _ (sym (ap says c.in-Err.is) ∙ c.check.ensures)

pub returns-in-Ok-clause-puts : goal.returns-in-Ok-clause-puts
returns-in-Ok-clause-puts c =
    let lines = payload_lines 0 (payloads c.args.unit.now) in
    c.put_obus.ensures.puts
    ∙ ap (λ (l : Bytes). l ++ lines) (c.put_header.ensures.puts
    ∙ ap (λ (l : Bytes). l ++ header_line c.in-Ok.counts.obus c.in-Ok.counts.dropped) c.requires)
    ∙ text_passed c.args.unit.now c.if-unit-gt-MOST_LISTED.false _ (sym (ap says c.in-Ok.is) ∙ c.check.ensures)
