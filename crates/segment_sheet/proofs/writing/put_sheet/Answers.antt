-- The sections stand one behind the other; whether they fit is tried before anything is put. The count of the OBUs is put last.
use native.Mathlib.Omega.{arith}
use mathlib.Core.Path.{refl, sym, ap, ◌∙◌}
use lib.ListN.{length}
use Rattle.refusal.specs.Verdict.{leaves}
use Rattle.refusal.specs.Number.{refused_by}
use Rattle.refusal.specs.declared.Refused.{Refused}
use Rattle.segment_sheet.proofs.Wholes.{sheet_short, sheet_fits, sheet_put}
use Rattle.segment_sheet.proofs.writing.put_sheet.Goals as goal

pub returns-then-short_of : goal.returns-then-short_of
unfolding leaves
returns-then-short_of c =
    let a = c.args in
    record {
      answers = ap (λ (q : Refused). refused_by q) c.at.ensures
          ∙ sheet_short a.map a.count a.firsts.now a.lens.now a.times.now a.bytes.now (length a.sheet.now)
          (sym c.short_of.ensures ∙ c.if-short_of.true);
      written = refl;
    }

pub returns : goal.returns
unfolding leaves
returns c =
    let a = c.args in
    let room = sym c.short_of.ensures ∙ c.if-short_of.false in
    let end = c.put_obus-end.ensures.value in
    record {
      answers = sheet_fits a.map a.count a.firsts.now a.lens.now a.times.now a.bytes.now a.sheet.now room _ end;
      written = sheet_put a.map a.count a.firsts.now a.lens.now a.times.now a.bytes.now a.sheet.now room
          _ _ _ _ _ _ _ c.put_number.ensures c.put_streams.ensures c.put_number-2.ensures
          c.put_units.ensures c.put_obus-end.ensures.sheet_after (omega (arith, end)) c.put_number-3.ensures;
    }
