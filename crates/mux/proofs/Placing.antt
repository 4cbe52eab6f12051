-- A unit's packets, in the two parts in which they are written, and the loop over all units: what is written, then the packets of the
-- units to come, are the packets of all. Assumes nothing.
use Prim.Native.Nat.{ℕ, suc, ◌+◌, ◌-◌, ◌*◌, ◌≤◌, ◌<◌}
use mathlib.Core.Bool.{true}
use mathlib.Core.Path.{◌≡◌, refl, sym, ap, ap₂, ◌∙◌}
use mathlib.Core.List.{List, [], ◌∷◌, ◌++◌, flatten, append-nil, append_assoc}
use native.Mathlib.Omega.{arith}
use borrow.Author.Tests.{ltb-true, ltb-false}
use borrow.Rule.Slice.PartMut.{mid_of, put_mid}
use lib.Dec.{ltb}
use lib.ListN.{length, take, drop, length-append, length-drop, drop_of_length-le}
use lib.Seq.{take_all, drop-drop, length-take-le}
use Rattle.lists.specs.Lists.{Bytes, over, pick}
use Rattle.lists.proofs.Picks.{by_true, by_false}
use Rattle.lists.proofs.Tests.{case}
use Rattle.packet.specs.Writing.{flag, carrying, counter_after}
use Rattle.packet.proofs.Writing.{length_carrying}
use Rattle.queue.specs.declared.records.Queued.{Queued}
use Rattle.queue.specs.Queue.{TimedUnit}
use Rattle.mux_rules.specs.Packets.{header, first_most, first_part_of, other_parts, others_for, packets_for, frame_place, within}
use Rattle.mux_rules.specs.Packets.{unit_bytes}
use Rattle.mux_rules.specs.Packets.{first_flags, others, unit_packets, units_packets, packets_for_units}
use Rattle.packet_writer.specs.declared.Start.{Start}
use Rattle.packet_writer.specs.Putting.{head_size, start_put}
use Rattle.mux.specs.Parts.{first_size, flags_of, slot_unit, slot_units, formed, slot_packets, slots_packets}
use Rattle.mux_rules.proofs.Cuts.{first_bytes, first_part, other_parts_lem, first_short}
use Rattle.mux_rules.proofs.Counts.{others_whole, length_others, unit_whole, units_whole, length_unit, length_units}
use Rattle.mux_rules.proofs.Counts.{flat_length, flat_append}
use Rattle.lists.proofs.Writing.{length_over}
use Rattle.packet_writer.proofs.Puts.{put_next}
use Rattle.packet_writer.proofs.Starting.{header_size}
use Rattle.packet_writer.proofs.Fitting.{start_written}
use Rattle.mux.proofs.Slotting.{unit_packets_lem, Sound, sound, units_packets_lem}

-- ---- one unit
module _ (u : TimedUnit) (first : ℕ) (e : first ≡ first_size u.marked (head_size u.pts u.dts) (length u.carried)) where
  abbrev room : ℕ
  room = first_most u.marked - head_size u.pts u.dts

  is_room : first_bytes u ≡ room
  is_room = ap (λ (k : ℕ). first_most u.marked - k) (header_size u.pts u.dts (length u.carried))

  -- the first part of the unit is cut where the code cuts it
  cuts : (take (first_bytes u) u.carried ≡ take first u.carried) × (drop (first_bytes u) u.carried ≡ drop first u.carried)
      × (length (take (first_bytes u) u.carried) ≡ first)
  unfolding first_size
  cuts =
      let s = u.carried in
      case (ltb (length s) room)
      (λ t.
      let h = ltb-true (length s) room t in
      let f : first ≡ length s = e ∙ sym (by_true _ t refl) in
      let r = is_room in (
        take_all (first_bytes u) s (omega arith) ∙ sym (take_all first s (omega arith)),
        drop_of_length-le s {i = first_bytes u} (omega arith) ∙ sym (drop_of_length-le s {i = first} (omega arith)),
        ap length (take_all (first_bytes u) s (omega arith)) ∙ sym f,
      ))
      (λ t.
      let h = ltb-false (length s) room t in
      let f : first_bytes u ≡ first = is_room ∙ by_false (length s) t refl ∙ sym e in
      (ap (λ (k : ℕ). take k s) f, ap (λ (k : ℕ). drop k s) f, length-take-le (first_bytes u) s (omega (arith, is_room)) ∙ f))

  pub first_is : first_part_of u ≡ header u ++ take first u.carried
  first_is = first_part u ∙ ap (λ (w : Bytes). header u ++ w) cuts.0

  pub others_are : other_parts u ≡ drop first u.carried
  others_are = other_parts_lem u ∙ cuts.1

  pub bytes_are : unit_bytes u ≡ first
  bytes_are = omega (arith, ap length (first_part u), length-append (header u) (take (first_bytes u) u.carried), cuts.2)

  pub flags_are : flags_of u.marked (within first (frame_place u.carried)) ≡ first_flags u
  unfolding flags_of first_flags
  flags_are = ap (λ (n : ℕ). pick u.marked (64 + flag (within n (frame_place u.carried)) * 32) 0) (sym bytes_are)

  -- the packets as they are written
  pub unit_placed : (pid counter next flags : ℕ) (head : Bytes) → head ≡ header u → next ≡ counter_after counter 1
      → flags ≡ flags_of u.marked (within first (frame_place u.carried))
      → carrying pid true counter flags (head ++ take first u.carried)
      ++ flatten (others (others_for (length (drop first u.carried))) pid next (drop first u.carried))
      ≡ flatten (unit_packets pid counter u)
  unfolding unit_packets flatten
  unit_placed pid counter next flags head eh en ef =
      ap₂ (λ (x : ℕ) (w : Bytes). carrying pid true counter x w ++ flatten
      (others (others_for (length (drop first u.carried))) pid next (drop first u.carried)))
      (ef ∙ flags_are) (ap (λ (w : Bytes). w ++ take first u.carried) eh ∙ sym first_is)
      ∙ ap₂ (λ (k : ℕ) (w : Bytes). carrying pid true counter (first_flags u) (first_part_of u) ++ flatten
      (others (others_for (length w)) pid k w)) en (sym others_are)

  pub others_count : packets_for u ≡ suc (others_for (length (drop first u.carried)))
  others_count = ap (λ (w : Bytes). suc (others_for (length w))) others_are

-- what the packets after the first are long
pub others_long : (pid counter : ℕ) (s : Bytes)
    → length (flatten (others (others_for (length s)) pid counter s)) ≡ 188 * others_for (length s)
others_long pid counter s =
    flat_length (others (others_for (length s)) pid counter s) (others_whole pid (others_for (length s)) counter s)
    ∙ ap (λ (n : ℕ). 188 * n) (length_others pid (others_for (length s)) counter s)

pub unit_long : (pid counter : ℕ) (u : TimedUnit) → length (flatten (unit_packets pid counter u)) ≡ 188 * packets_for u
unit_long pid counter u =
    flat_length (unit_packets pid counter u) (unit_whole pid counter u) ∙ ap (λ (n : ℕ). 188 * n) (length_unit pid counter u)

pub units_long : (pid counter : ℕ) (us : List TimedUnit) → length (flatten (units_packets pid counter us)) ≡ 188 * packets_for_units us
units_long pid counter us =
    flat_length (units_packets pid counter us) (units_whole pid counter us) ∙ ap (λ (n : ℕ). 188 * n) (length_units pid counter us)

-- what a call is lent
pub mid_long : (out : Bytes) (to : ℕ) → to ≤ length out → length (mid_of to (length out - to) out) ≡ length out - to
mid_long out to h = length-take-le (length out - to) (drop to out) (omega (arith, length-drop to out))

-- ---- a unit's packets in the output: its first packet is put, with the header and the first bytes
module _ (pid counter : ℕ) (u : TimedUnit) (out : Bytes) (first flags : ℕ) (out1 : Bytes) where
  abbrev starting : Bytes
  starting = carrying pid true counter flags (header u ++ take first u.carried)

  -- what the others find
  pub record Begun : Type 0 where
    pub room : (behind : Bytes) → behind ≡ drop first u.carried
        → 188 * others_for (length behind) ≤ length (mid_of 188 (length out1 - 188) out1)
    pub written : (next : ℕ) (behind after : Bytes) → behind ≡ drop first u.carried → next ≡ counter_after counter 1
        → after ≡ over (flatten (others (others_for (length behind)) pid next behind)) (mid_of 188 (length out1 - 188) out1)
        → put_mid 188 (length out1 - 188) out1 after ≡ over (flatten (unit_packets pid counter u)) out

  module _ (fits : 188 * packets_for u ≤ length out) (e : first ≡ first_size u.marked (head_size u.pts u.dts) (length u.carried))
      (ef : flags ≡ flags_of u.marked (within first (frame_place u.carried))) (put : out1 ≡ over starting out) where
    first_long : length starting ≡ 188
    first_long =
        length_carrying pid true counter flags (header u ++ take first u.carried)
        (omega (arith, first_short u, ap length (first_is u first e)))

    same_long : length out1 ≡ length out
    same_long = ap length put ∙ length_over starting out (omega (arith, first_long))

    counted : (behind : Bytes) → behind ≡ drop first u.carried → packets_for u ≡ suc (others_for (length behind))
    counted behind er = others_count u first e ∙ ap (λ (w : Bytes). suc (others_for (length w))) (sym er)

    pub begun : Begun
    begun = record {
      room = λ behind er. omega (arith, mid_long out1 188 (omega (arith, same_long)), same_long, counted behind er);
      written = λ next behind after er en ea.
          put_next starting (flatten (others (others_for (length behind)) pid next behind)) out out1 after 188 (sym first_long) put
          (omega (arith, first_long, others_long pid next behind, counted behind er)) ea
          ∙ ap (λ (y : Bytes). over (starting ++ flatten (others (others_for (length y)) pid next y)) out) er
          ∙ ap (λ (x : Bytes). over x out) (unit_placed u first e pid counter next flags (header u) refl en ef);
    }

-- the same, of the call that puts it
pub begun_by : (pid counter : ℕ) (u : TimedUnit) (out : Bytes) → pid < 8192 → counter < 16 → u.pts.0 < 8589934592
    → u.dts.0 < 8589934592 → 188 * packets_for u ≤ length out → (size first flags : ℕ) → size ≡ head_size u.pts u.dts
    → first ≡ first_size u.marked size (length u.carried) → (first ≤ length u.carried) × (size + first ≤ 184)
    → flags ≡ flags_of u.marked (within first (frame_place u.carried)) → (part out1 : Bytes) → part ≡ take first u.carried
    → out1 ≡ start_put pid counter (record { flags = flags; pts = u.pts; dts = u.dts; length = length u.carried }) part out
    → Begun pid counter u out first flags out1
begun_by pid counter u out p k a b fits size first flags es e short ef part out1 eb put =
    let s : Start = record { flags = flags; pts = u.pts; dts = u.dts; length = length u.carried } in
    let lp : length part ≡ first = ap length eb ∙ length-take-le first u.carried short.0 in
    let room : 188 ≤ length out = omega arith in
    begun pid counter u out first flags out1 fits (e ∙ ap (λ (n : ℕ). first_size u.marked n (length u.carried)) es) ef
    (put
    ∙ start_written pid counter s part out a b (omega (arith, es, lp, short.1)) p k room
    ∙ ap (λ (w : Bytes). over (carrying pid true counter flags (header u ++ w)) out) eb)

-- ---- all units in the output
-- a slot's unit, of the bytes from its place on
abbrev pub unit_in : Queued → Bytes → TimedUnit
unit_in r s = slot_unit r (take r.length s)

abbrev packets_from : ℕ → ℕ → List Queued → Bytes → Bytes
packets_from pid counter rs s = flatten (units_packets pid counter (slot_units rs s))

pub record Filling (pid counter : ℕ) (rs : List Queued) (store out₀ : Bytes) (i at to next : ℕ) (out : Bytes) : Type 0 where
  pub written : Bytes
  pub stands : out ≡ over written out₀
  pub place : to ≡ length written
  pub rest : written ++ packets_from pid next (drop i rs) (drop at store) ≡ packets_from pid counter rs store
  pub low : next < 16
  pub within : at ≤ length store
  pub good : formed (drop i rs) (length store - at) ≡ true

module _ (pid counter : ℕ) (rs : List Queued) (store out₀ : Bytes) where
  pub filling_start : counter < 16 → formed rs (length store) ≡ true → Filling pid counter rs store out₀ 0 0 0 counter out₀
  filling_start h e =
      let z : length store ≡ length store - 0 = omega arith in
      record { written = []; stands = refl; place = refl; rest = refl; low = h; within = omega arith; good = ap (formed rs) (sym z) ∙ e }

  module _ (fits : 188 * slots_packets rs ≤ length out₀) (all : formed rs (length store) ≡ true) where
    whole_long : length (packets_from pid counter rs store) ≡ 188 * slots_packets rs
    whole_long = units_long pid counter (slot_units rs store) ∙ ap (λ (n : ℕ). 188 * n) (units_packets_lem rs store all)

    module _ {i at to next : ℕ} {out : Bytes} (g : Filling pid counter rs store out₀ i at to next out) where
      pub filling_long : length out ≡ length out₀
      filling_long =
          ap length g.stands
          ∙ length_over g.written out₀
          (omega (arith, ap length g.rest, whole_long, length-append g.written (packets_from pid next (drop i rs) (drop at store))))

      pub filling_done : drop i rs ≡ [] → out ≡ over (packets_from pid counter rs store) out₀
      unfolding slot_units units_packets flatten
      filling_done e =
          g.stands
          ∙ ap (λ (w : Bytes). over w out₀)
          (sym (append-nil g.written) ∙ ap (λ (l : List Queued). g.written ++ packets_from pid next l (drop at store)) (sym e) ∙ g.rest)

      -- the next slot
      module _ (r : Queued) (more : drop i rs ≡ r ∷ drop (i + 1) rs) where
        abbrev s : Bytes
        s = drop at store

        abbrev u : TimedUnit
        u = unit_in r s

        good_slot : formed (r ∷ drop (i + 1) rs) (length store - at) ≡ true
        good_slot = ap (λ (l : List Queued). formed l (length store - at)) (sym more) ∙ g.good

        slot_sound : Sound r (drop (i + 1) rs) (length store - at)
        slot_sound = sound r (drop (i + 1) rs) (length store - at) good_slot

        slot_ends : at + r.length ≤ length store
        slot_ends = let w = g.within in omega (arith, slot_sound.within)

        carried_long : length (take r.length s) ≡ r.length
        carried_long = length-take-le r.length s (omega (arith, length-drop at store, slot_ends))

        slot_count : packets_for u ≡ slot_packets r
        slot_count = unit_packets_lem u ∙ ap (λ (n : ℕ). suc (others_for (head_size r.pts r.dts + n - first_most r.marked))) carried_long

        two_parts : packets_from pid next (drop i rs) s
            ≡ flatten (unit_packets pid next u) ++ packets_from pid (counter_after next (packets_for u)) (drop (i + 1) rs) (drop r.length s)
        unfolding slot_units units_packets
        two_parts =
            ap (λ (l : List Queued). packets_from pid next l s) more
            ∙ flat_append (unit_packets pid next u)
            (units_packets pid (counter_after next (packets_for u)) (slot_units (drop (i + 1) rs) (drop r.length s)))

        total : to + 188 * packets_for u ≤ length out₀
        total =
            omega (
              arith,
              g.place,
              ap length g.rest,
              whole_long,
              length-append g.written (packets_from pid next (drop i rs) s),
              ap length two_parts,
              length-append (flatten (unit_packets pid next u))
                  (packets_from pid (counter_after next (packets_for u)) (drop (i + 1) rs) (drop r.length s)),
              unit_long pid next u,
            )

        slot_room : 188 * packets_for u ≤ length (mid_of to (length out - to) out)
        slot_room = omega (arith, total, filling_long, mid_long out to (omega (arith, total, filling_long)))

        slot_to : to + 188 * slot_packets r ≤ length out₀
        slot_to = omega (arith, total, slot_count)

        filling_next : (n next' : ℕ) (after : Bytes) → n ≡ slot_packets r → next' ≡ counter_after next n
            → after ≡ over (flatten (unit_packets pid next u)) (mid_of to (length out - to) out)
            → Filling pid counter rs store out₀ (i + 1) (at + r.length) (to + 188 * n) next' (put_mid to (length out - to) out after)
        filling_next n next' after en ek ea =
            let p = flatten (unit_packets pid next u) in
            let m : n ≡ packets_for u = en ∙ sym slot_count in
            let k : next' ≡ counter_after next (packets_for u) = ek ∙ ap (counter_after next) m in
            let tail : drop r.length s ≡ drop (at + r.length) store = drop-drop r.length at store in
            let left : length store - at - r.length ≡ length store - (at + r.length) = omega arith in
            record {
              written = g.written ++ p;
              stands = put_next g.written p out₀ out after to g.place g.stands
                  (omega (arith, total, unit_long pid next u, g.place)) ea;
              place = omega (arith, length-append g.written p, unit_long pid next u, g.place, m);
              rest =
                  append_assoc g.written p (packets_from pid next' (drop (i + 1) rs) (drop (at + r.length) store))
                  ∙ ap₂ (λ (x : ℕ) (w : Bytes). g.written ++ (p ++ packets_from pid x (drop (i + 1) rs) w)) k (sym tail)
                  ∙ ap (λ (w : Bytes). g.written ++ w) (sym two_parts) ∙ g.rest;
              low = omega (arith, k);
              within = slot_ends;
              good = ap (formed (drop (i + 1) rs)) (sym left) ∙ slot_sound.rest;
            }

-- a turn of the loop, with the slot r: what its bytes need and where they go
pub record Turn (pid counter : ℕ) (rs : List Queued) (store out₀ : Bytes) (i at to next : ℕ) (out : Bytes) (r : Queued) : Type 0 where
  pub sound : Sound r (drop (i + 1) rs) (length store - at)
  pub ends : at + r.length ≤ length store
  pub long : length out ≡ length out₀
  pub reaches : to + 188 * slot_packets r ≤ length out₀
  pub room : 188 * packets_for (unit_in r (drop at store)) ≤ length (mid_of to (length out - to) out)
  pub low : next < 16
  pub filling : (n next' : ℕ) (after : Bytes) → n ≡ slot_packets r → next' ≡ counter_after next n
      → after ≡ over (flatten (unit_packets pid next (unit_in r (drop at store)))) (mid_of to (length out - to) out)
      → Filling pid counter rs store out₀ (i + 1) (at + r.length) (to + 188 * n) next' (put_mid to (length out - to) out after)

pub turn : (pid counter : ℕ) (rs : List Queued) (store out₀ : Bytes) → 188 * slots_packets rs ≤ length out₀ → formed rs (length store) ≡
    true
    → {i at to next : ℕ} {out : Bytes} → Filling pid counter rs store out₀ i at to next out
    → (r : Queued) → drop i rs ≡ r ∷ drop (i + 1) rs → Turn pid counter rs store out₀ i at to next out r
turn pid counter rs store out₀ fits all g r more =
    record {
      sound = slot_sound pid counter rs store out₀ fits all g r more;
      ends = slot_ends pid counter rs store out₀ fits all g r more;
      long = filling_long pid counter rs store out₀ fits all g;
      reaches = slot_to pid counter rs store out₀ fits all g r more;
      room = slot_room pid counter rs store out₀ fits all g r more;
      low = g.low;
      filling = filling_next pid counter rs store out₀ fits all g r more;
    }

-- a part of the store, as a call is lent it
pub part_is : (s : Bytes) (at n : ℕ) → take (at + n - at) (drop at s) ≡ take n (drop at s)
part_is s at n = let e : at + n - at ≡ n = omega arith in ap (λ (k : ℕ). take k (drop at s)) e
