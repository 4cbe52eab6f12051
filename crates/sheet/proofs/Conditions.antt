-- 45 part by part: a condition holds exactly where a count is past its bound or the pass over the rows finds one wrong. Assumes nothing.
use mathlib.Core.Bool.{false}
use mathlib.Core.Path.{◌≡◌}
use Rattle.lists.specs.Lists.{Bytes, any}
use Rattle.lists.proofs.Tests.{or_neither}
use Rattle.refusal.proofs.Verdicts.{none_holds}
use Rattle.sheet.specs.Sheet.{Content}
use Rattle.sheet.specs.Reading.{content_of, length_wrong, count_past, conditions, content_wrong, wrong}
use Rattle.sheet.specs.Passing.{stream_wrong, units_wrong, at_first, obus_wrong}
use Rattle.sheet.proofs.Pairs.{neither, none_of}
use Rattle.sheet.proofs.Ascending.{streams_pass, streams_fine, units_pass, units_fine}
use Rattle.sheet.proofs.Payloads.{obus_pass, obus_fine}

-- the pass finds nothing wrong
pub record Passes (c : Content) : Type 0 where
  pub counts : count_past c ≡ false
  pub streams : any stream_wrong c.streams ≡ false
  pub units : units_wrong 0 c.units ≡ false
  pub obus : obus_wrong c.units at_first c.obus ≡ false

pub content_passes : (c : Content) → content_wrong c ≡ false → Passes c
unfolding content_wrong
content_passes c e =
    let h = none_holds (λ holds. holds c) conditions e in
    let s = h.1 in
    let u = s.1.1 in
    let o = u.1.1.1.1 in
    let p = o.1.1.1.1 in
    record {
      counts = h.0;
      streams = streams_fine c s.0 s.1.0;
      units = units_fine c u.0 u.1.0 u.1.1.0 u.1.1.1.0;
      obus = obus_fine c (o.0, o.1.0, o.1.1.0, o.1.1.1.0, p.0, p.1.0, p.1.1.0, p.1.1.1.0);
    }

pub passes_content : (c : Content) → Passes c → content_wrong c ≡ false
unfolding content_wrong
passes_content c h =
    let s = streams_pass c h.streams in
    let u = units_pass c h.units in
    let o = obus_pass c h.obus in
    none_of (λ holds. holds c) conditions (
      h.counts,
      (
        s.0,
        (
          s.1,
          (
            u.0,
            (
              u.1,
              (
                u.2,
                (
                  u.3,
                  (o.0, (o.1, (o.2, (o.3, (o.4, (o.5, (o.6, (o.7, tt)))))))),
                ),
              ),
            ),
          ),
        ),
      ),
    )

module _ (s : Bytes) where
  pub right_parts : wrong s ≡ false → (length_wrong s ≡ false) × Passes (content_of s)
  unfolding wrong
  right_parts e =
      let h = or_neither (length_wrong s) (content_wrong (content_of s)) e in (h.0, content_passes (content_of s) h.1)

  pub parts_right : length_wrong s ≡ false → Passes (content_of s) → wrong s ≡ false
  unfolding wrong
  parts_right e h = neither e (passes_content (content_of s) h)
