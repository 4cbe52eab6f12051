-- The pass over the streams and the units says what the conditions say: first packets strictly ascend exactly where each lies past the one
-- before it, since that makes each two of them ascend. Assumes nothing.
use Prim.Native.Nat.{ℕ, ◌+◌, ◌≤◌, ◌<◌}
use mathlib.Core.Bool.{false, ◌||◌}
use mathlib.Core.Path.{◌≡◌, refl}
use mathlib.Core.List.{List, [], ◌∷◌}
use native.Mathlib.Omega.{arith}
use lib.Dec.{ltb, leb}
use borrow.Author.Tests.{ltb-false, leb-false, le-ltb, lt-leb}
use Rattle.lists.specs.Lists.{any}
use Rattle.lists.proofs.Tests.{or_neither}
use Rattle.refusal.proofs.Verdicts.{All, all_so, none_holds}
use Rattle.sheet.specs.declared.rows.UnitRow.{UnitRow}
use Rattle.sheet.specs.Sheet.{Content}
use Rattle.sheet.specs.Reading.{pid_past, stream_type_past, firsts_not_ascending, firsts_reach, length_past, time_past}
use Rattle.sheet.specs.Passing.{stream_wrong, unit_wrong, units_wrong}
use Rattle.sheet.proofs.Pairs.{neither, each_by, none_of, Pairs, pairs_as, no_two, none_of_two}

-- ---- streams
module _ (c : Content) where
  pub streams_pass : any stream_wrong c.streams ≡ false → (pid_past c ≡ false) × (stream_type_past c ≡ false)
  unfolding pid_past stream_type_past stream_wrong
  streams_pass e =
      let h = none_holds stream_wrong c.streams e in (
        none_of _ c.streams (all_so c.streams (λ r k. (or_neither (ltb 0x1FFE r.pid) (ltb 255 r.stream_type) k).0) h),
        none_of _ c.streams (all_so c.streams (λ r k. (or_neither (ltb 0x1FFE r.pid) (ltb 255 r.stream_type) k).1) h),
      )

  pub streams_fine : pid_past c ≡ false → stream_type_past c ≡ false → any stream_wrong c.streams ≡ false
  unfolding pid_past stream_type_past stream_wrong
  streams_fine e f =
      none_of stream_wrong c.streams
      (each_by (λ r h k. neither h k) c.streams (none_holds _ c.streams e) (none_holds _ c.streams f))

-- ---- units
abbrev pub Fine : UnitRow → Type 0
Fine u = (u.first_packet < 65535) × (u.length ≤ 1573056) × (u.pts ≤ 8589934592) × (u.dts ≤ 8589934592)

abbrev pub Later : UnitRow → UnitRow → Type 0
Later a b = a.first_packet < b.first_packet

-- what holds of the units that are left, where no first packet may lie below `low`
pub record Right (low : ℕ) (units : List UnitRow) : Type 0 where
  pub each : All Fine units
  pub past : All (λ u. low ≤ u.first_packet) units
  pub pairs : Pairs Later units

pub unit_fine : (low : ℕ) (u : UnitRow) → unit_wrong low u ≡ false → (low ≤ u.first_packet) × Fine u
unfolding unit_wrong
unit_fine low u e =
    let f = u.first_packet in
    let a = or_neither (((ltb f low || leb 65535 f) || ltb 1573056 u.length) || ltb 8589934592 u.pts) (ltb 8589934592 u.dts) e in
    let b = or_neither ((ltb f low || leb 65535 f) || ltb 1573056 u.length) (ltb 8589934592 u.pts) a.0 in
    let d = or_neither (ltb f low || leb 65535 f) (ltb 1573056 u.length) b.0 in
    let g = or_neither (ltb f low) (leb 65535 f) d.0 in
    (ltb-false f low g.0, (leb-false 65535 f g.1, ltb-false _ _ d.1, ltb-false _ _ b.1, ltb-false _ _ a.1))

fine_unit : (low : ℕ) (u : UnitRow) → low ≤ u.first_packet → Fine u → unit_wrong low u ≡ false
unfolding unit_wrong
fine_unit low u p h =
    neither (neither (neither (neither (le-ltb _ _ p) (lt-leb _ _ h.0)) (le-ltb _ _ h.1)) (le-ltb _ _ h.2)) (le-ltb _ _ h.3)

pub units_right : (low : ℕ) (units : List UnitRow) → units_wrong low units ≡ false → Right low units
unfolding units_wrong
units_right low [] e = record { each = tt; past = tt; pairs = tt }
units_right low (u ∷ units) e =
    let both = or_neither (unit_wrong low u) (units_wrong (u.first_packet + 1) units) e in
    let now = unit_fine low u both.0 in
    let h = units_right (u.first_packet + 1) units both.1 in
    record {
      each = (now.1, h.each);
      past = (now.0, all_so units (λ v k. omega (arith, now.0)) h.past);
      pairs = (all_so units (λ v k. omega arith) h.past, h.pairs);
    }

right_units : (low : ℕ) (units : List UnitRow) → Right low units → units_wrong low units ≡ false
unfolding units_wrong
right_units low [] h = refl
right_units low (u ∷ units) h =
    neither (fine_unit low u h.past.0 h.each.0)
    (right_units (u.first_packet + 1) units
    (record { each = h.each.1; past = all_so units (λ v k. omega arith) h.pairs.0; pairs = h.pairs.1 }))

abbrev Timed : UnitRow → Type 0
Timed u = (u.length ≤ 1573056) × (u.pts ≤ 8589934592) × (u.dts ≤ 8589934592)

timed : (u : UnitRow) → ltb 1573056 u.length ≡ false → (ltb 8589934592 u.pts || ltb 8589934592 u.dts) ≡ false → Timed u
timed u e f =
    let g = or_neither (ltb 8589934592 u.pts) (ltb 8589934592 u.dts) f in
    (ltb-false _ _ e, ltb-false _ _ g.0, ltb-false _ _ g.1)

fine : (u : UnitRow) → leb 65535 u.first_packet ≡ false → Timed u → Fine u
fine u e t = (leb-false _ _ e, t.0, t.1, t.2)

module _ (c : Content) where
  pub units_pass : units_wrong 0 c.units ≡ false
      → (firsts_not_ascending c ≡ false) × (firsts_reach c ≡ false) × (length_past c ≡ false) × (time_past c ≡ false)
  unfolding firsts_not_ascending firsts_reach length_past time_past
  units_pass e =
      let h = units_right 0 c.units e in (
        none_of_two _ c.units (pairs_as (λ a b k. lt-leb _ _ k) c.units h.pairs),
        none_of _ c.units (all_so c.units (λ u k. lt-leb _ _ k.0) h.each),
        none_of _ c.units (all_so c.units (λ u k. le-ltb _ _ k.1) h.each),
        none_of _ c.units (all_so c.units (λ u k. neither (le-ltb _ _ k.2) (le-ltb _ _ k.3)) h.each),
      )

  pub units_fine : firsts_not_ascending c ≡ false → firsts_reach c ≡ false → length_past c ≡ false → time_past c ≡ false
      → units_wrong 0 c.units ≡ false
  unfolding firsts_not_ascending firsts_reach length_past time_past
  units_fine e1 e2 e3 e4 =
      let l = c.units in
      right_units 0 l
      (record {
        each = each_by fine l (none_holds _ l e2) (each_by timed l (none_holds _ l e3) (none_holds _ l e4));
        past = all_so l (λ u k. omega arith) (none_holds _ l e2);
        pairs = pairs_as (λ a b k. leb-false _ _ k) l (no_two _ l e1);
      })
