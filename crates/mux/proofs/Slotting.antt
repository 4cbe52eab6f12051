-- The slots of a queue one by one, and what they say of the units' packets. Assumes nothing.
use Prim.Native.Nat.{ℕ, zero, suc, ◌+◌, ◌-◌, ◌≤◌, ◌<◌}
use mathlib.Core.Bool.{Bool, true, false, not}
use mathlib.Core.Path.{◌≡◌, refl, sym, ap, ap₂, ◌∙◌}
use mathlib.Core.List.{List, [], ◌∷◌}
use native.Mathlib.Omega.{arith}
use native.Mathlib.Numerals.{add-one}
use borrow.Author.Tests.{leb-true, ltb-false, leb-false}
use lib.Dec.{leb, ltb}
use lib.ListN.{length, take, drop, get_or, length-drop, length-append, drop_of_length-le}
use lib.Seq.{drop-cons, length-take-le}
use Rattle.lists.specs.Lists.{Bytes}
use Rattle.lists.proofs.Tests.{and_both, and_by_false, and_by_true, or_neither}
use Rattle.unit.specs.Unit.{most_carried}
use Rattle.queue.specs.declared.records.Queued.{Queued}
use Rattle.queue.specs.declared.records.Queue.{Queue}
use Rattle.queue.specs.Queue.{TimedUnit, timed, time_past, most_units}
use Rattle.mux_rules.specs.Packets.{header, pes, first_most, others_for, packets_for, packets_for_units}
use Rattle.packet_writer.specs.Putting.{head_size}
use Rattle.packet_writer.proofs.Starting.{header_size}
use Rattle.mux.specs.Parts.{filled, slot_units, slot_wrong, formed, well_formed, slot_packets, slots_packets}

-- ---- the packets of a unit, from its length
pub unit_packets_lem : (u : TimedUnit)
    → packets_for u ≡ suc (others_for (head_size u.pts u.dts + length u.carried - first_most u.marked))
unit_packets_lem u =
    ap (λ (k : ℕ). suc (others_for k))
    (length-drop (first_most u.marked) (pes u)
    ∙ ap (λ (k : ℕ). k - first_most u.marked) (length-append (header u) u.carried
    ∙ ap (λ (k : ℕ). k + length u.carried) (header_size u.pts u.dts (length u.carried))))

-- ---- slot by slot
pub slot_next : (rs : List Queued) (i : ℕ) (d : Queued) → i < length rs → drop i rs ≡ get_or rs i d ∷ drop (i + 1) rs
slot_next rs i d h = rw add-one (drop-cons rs i d h)

pub slot_last : (rs : List Queued) (i : ℕ) → length rs ≤ i → drop i rs ≡ []
slot_last rs i h = drop_of_length-le rs {i = i} h

-- ---- well formed
module _ (r : Queued) (rs : List Queued) (room : ℕ) where
  pub formed_not : slot_wrong r room ≡ true → false ≡ formed (r ∷ rs) room
  unfolding formed
  formed_not e = and_by_false _ (ap not e) refl

  pub formed_on : slot_wrong r room ≡ false → formed (r ∷ rs) room ≡ formed rs (room - r.length)
  unfolding formed
  formed_on e = sym (and_by_true (ap not e) refl)

  pub slot_fits : slot_wrong r room ≡ false → r.length ≤ room
  unfolding slot_wrong
  slot_fits e =
      let a = or_neither (ltb most_carried r.length) _ e in
      ltb-false room r.length (or_neither (ltb room r.length) _ a.1).0

  -- what a slot that can be has
  pub record Sound : Type 0 where
    pub short : r.length ≤ 1573056
    pub within : r.length ≤ room
    pub pts : r.pts.0 < 8589934592
    pub dts : r.dts.0 < 8589934592
    pub rest : formed rs (room - r.length) ≡ true

  pub sound : formed (r ∷ rs) room ≡ true → Sound
  unfolding formed slot_wrong
  sound e =
      let b = and_both (not (slot_wrong r room)) (formed rs (room - r.length)) e in
      let a = or_neither (ltb most_carried r.length) _ (not-true _ b.0) in
      let p = or_neither (ltb room r.length) _ a.1 in
      let t = or_neither (time_past r.pts) (time_past r.dts) p.1 in
      record {
        short = ltb-false most_carried r.length a.0;
        within = ltb-false room r.length p.0;
        pts = leb-false 8589934592 r.pts.0 t.0;
        dts = leb-false 8589934592 r.dts.0 t.1;
        rest = b.1;
      }
    where
      not-true : (b : Bool) → not b ≡ true → b ≡ false
      not-true true e = sym e
      not-true false e = refl

pub formed_none : (room : ℕ) → true ≡ formed [] room
unfolding formed
formed_none room = refl

pub well : (q : Queue) (room : ℕ) → well_formed q room ≡ true → (q.count ≤ 8) × (formed (filled q) room ≡ true)
unfolding well_formed
well q room e = let b = and_both (leb q.count most_units) (formed (filled q) room) e in (leb-true q.count most_units b.0, b.1)

-- the slots that are filled, as they are lent
pub well_slots : (q : Queue) (rs : List Queued) (room : ℕ) → rs ≡ filled q → well_formed q room ≡ true → formed rs room ≡ true
well_slots q rs room e w = ap (λ (l : List Queued). formed l room) e ∙ (well q room w).1

-- a slot of several
pub slot_short : (rs : List Queued) (room i : ℕ) (d : Queued) → formed rs room ≡ true → i < length rs → (get_or rs i d).length ≤ 1573056
slot_short [] room i d e h = absurd (omega arith)
slot_short (r ∷ rs) room zero d e h = (sound r rs room e).short
slot_short (r ∷ rs) room (suc i) d e h = slot_short rs (room - r.length) i d (sound r rs room e).rest (omega arith)

pub packets_next : (r : Queued) (rs : List Queued) → slots_packets (r ∷ rs) ≡ slot_packets r + slots_packets rs
unfolding slots_packets
packets_next r rs = refl

pub packets_none : slots_packets [] ≡ 0
unfolding slots_packets
packets_none = refl

-- ---- the units in the slots
pub units_packets_lem : (rs : List Queued) (s : Bytes) → formed rs (length s) ≡ true → packets_for_units (slot_units rs s) ≡ slots_packets
    rs
unfolding slot_units packets_for_units slots_packets
units_packets_lem [] s e = refl
units_packets_lem (r ∷ rs) s e =
    let k = sound r rs (length s) e in
    let l = length-take-le r.length s k.within in
    ap₂ (λ (x y : ℕ). x + y)
    (unit_packets_lem (timed (take r.length s) r.pts r.dts r.marked)
    ∙ ap (λ (n : ℕ). suc (others_for (head_size r.pts r.dts + n - first_most r.marked))) l)
    (units_packets_lem rs (drop r.length s) (ap (formed rs) (length-drop r.length s) ∙ k.rest))
