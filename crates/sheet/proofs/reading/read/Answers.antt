-- The check says whether the sheet is bad, and where its rows stand; then the rooms; then each section is copied.
use native.Mathlib.Omega.{arith}
use mathlib.Core.Bool.{false}
use mathlib.Core.Path.{◌≡◌, refl, sym, ap, ◌∙◌}
use lib.ListN.{length}
use Rattle.refusal.specs.Verdict.{leaves}
use Rattle.refusal.specs.Number.{refused_by}
use Rattle.sheet.specs.Passing.{rooms_short}
use Rattle.sheet.proofs.Measures.{checked_within}
use Rattle.sheet.proofs.Readings.{read_refused, streams_copied, units_copied, obus_copied, no_room, all_read, fits}
use Rattle.sheet.proofs.reading.read.Goals.{Else-outputs_short}
use Rattle.sheet.proofs.reading.read.Goals as goal

-- the outputs are long enough for them
enough : (c : Else-outputs_short)
    → rooms_short c.in-Some.sections (length c.args.streams.now) (length c.args.units.now) (length c.args.obus.now) ≡ false
enough c = sym c.outputs_short.ensures ∙ c.if-outputs_short.false

pub returns-in_default : goal.returns-in_default
unfolding leaves
returns-in_default c =
    record {
      result_value = ap refused_by c.at.ensures ∙ read_refused _ c.in_default.ensures _ _ _;
      leaves_numbers = record { streams = refl; units = refl; obus = refl };
    }

pub outputs_short-requires : goal.outputs_short-requires
outputs_short-requires c = let w = checked_within _ _ c.in-Some.ensures in (w.3, w.4, w.5)

pub returns-then-outputs_short : goal.returns-then-outputs_short
unfolding leaves
returns-then-outputs_short c =
    let short = sym c.outputs_short.ensures ∙ c.if-outputs_short.true in
    record {
      result_value = ap refused_by c.at-then-outputs_short.ensures ∙ no_room _ _ c.in-Some.ensures _ _ _ short;
      leaves_numbers = record { streams = refl; units = refl; obus = refl };
    }

pub overflow_mul-sections : goal.overflow_mul-sections
overflow_mul-sections c = omega (arith, (checked_within _ _ c.in-Some.ensures).3)

pub copy_numbers-requires : goal.copy_numbers-requires
copy_numbers-requires c =
    let t = c.in-Some.ensures in
    (omega (arith, (checked_within _ _ t).0), (fits _ _ t _ _ _ (enough (goal.at.copy_numbers-requires c).Else-outputs_short)).0)

pub overflow_mul-sections-2 : goal.overflow_mul-sections-2
overflow_mul-sections-2 c = omega (arith, (checked_within _ _ c.in-Some.ensures).4)

pub copy_numbers-requires-2 : goal.copy_numbers-requires-2
copy_numbers-requires-2 c =
    let t = c.in-Some.ensures in
    ((checked_within _ _ t).1, (fits _ _ t _ _ _ (enough (goal.at.copy_numbers-requires-2 c).Else-outputs_short)).1)

pub overflow_mul-sections-3 : goal.overflow_mul-sections-3
overflow_mul-sections-3 c = omega (arith, (checked_within _ _ c.in-Some.ensures).5)

pub copy_numbers-requires-3 : goal.copy_numbers-requires-3
copy_numbers-requires-3 c =
    let t = c.in-Some.ensures in
    ((checked_within _ _ t).2, (fits _ _ t _ _ _ (enough (goal.at.copy_numbers-requires-3 c).Else-outputs_short)).2)

pub returns : goal.returns
unfolding leaves
returns c =
    let t = c.in-Some.ensures in
    record {
      result_value = all_read _ _ t _ _ _ (enough (goal.at.returns c).Else-outputs_short);
      leaves_numbers = record {
        streams = streams_copied _ _ t _ c.copy_numbers.ensures;
        units = units_copied _ _ t _ c.copy_numbers-2.ensures;
        obus = obus_copied _ _ t _ c.copy_numbers-3.ensures;
      };
    }
