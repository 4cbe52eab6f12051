-- A valid queue by its slots, and what send leaves, by the way that it takes. Assumes nothing.
use Rattle.std.specs.Prelude.{Ok, Err}
use Prim.Native.Nat.{ℕ, zero, suc, ◌+◌, ◌-◌, ◌*◌, ◌≤◌, ◌<◌}
use mathlib.Core.Bool.{true, false}
use mathlib.Core.Path.{◌≡◌, refl, sym, ap, ap₂, ◌∙◌}
use mathlib.Core.List.{List, [], ◌∷◌, ◌++◌, map, flatten, append_assoc}
use native.Mathlib.Omega.{arith}
use borrow.Author.Tests.{le-leb, le-ltb, lt-ltb, lt-leb, ltb-false}
use borrow.Rule.Slice.PartMut.{mid_of, put_mid}
use lib.Dec.{ltb, leb}
use lib.ListN.{length, take, drop, replicate, length-append, length-map}
use lib.Seq.{take-append_seam, drop-append_seam}
use Rattle.lists.specs.Lists.{Bytes, over, any}
use Rattle.lists.proofs.Parts.{drop_take}
use Rattle.lists.proofs.Tests.{case, or_by_false, and_by_true, or_neither}
use Rattle.refusal.specs.declared.Refusal.{Refusal}
use Rattle.refusal.specs.declared.Refused.{Refused}
use Rattle.refusal.specs.declared.Refusal.TheVariants as refusals
use Rattle.refusal.specs.Number.{number_of}
use Rattle.refusal.specs.Verdict.{Verdict, passed, refused, given}
use Rattle.refusal.specs.Verdict as verdict
use Rattle.refusal.proofs.Verdicts.{refuse, pass_on, passed_after, given_passed, never}
use Rattle.descriptor.specs.declared.fields.Video.{Video}
use Rattle.descriptor.specs.Descriptor.{wrong, reading}
use Rattle.packet.specs.Writing.{counter_before, pcr_packet}
use Rattle.packet.proofs.WritingClocks.{length_pcr}
use Rattle.psi.specs.Writing.{pat_rest, pat}
use Rattle.psi.proofs.Writing.{length_section}
use Rattle.pmt.specs.Writing.{pmt_rest, pmt}
use Rattle.pmt.proofs.Writing.{video_length}
use Rattle.unit.specs.Unit.{read_unit, most_carried}
use Rattle.queue.specs.declared.records.Queued.{Queued}
use Rattle.queue.specs.declared.records.Queue.{Queue}
use Rattle.queue.specs.Queue.{TimedUnit, timed, queued_bytes, record_of, no_record, slots, queue_of, unit_wrong, most_units, QueueIs}
use Rattle.queue.proofs.Keeping.{bytes_within}
use Rattle.mux_rules.specs.declared.Channel.{Channel}
use Rattle.mux_rules.specs.declared.Written.{Written}
use Rattle.mux_rules.specs.Packets.{section_packet, segment_packets, segment, units_packets, packets_for_units, next_channel}
use Rattle.mux_rules.specs.Sending.{channel_wrong, sending, units_left, channel_left, Sends}
use Rattle.mux.specs.Parts.{filled, slot_units, slot_wrong, formed, well_formed, slots_packets, table_packets}
use Rattle.mux_rules.proofs.Counts.{section_whole, flat_length, length_segment}
use Rattle.packet_writer.specs.Putting.{pat_put, pmt_put, pcr_put}
use Rattle.lists.proofs.Writing.{length_over}
use Rattle.packet_writer.proofs.Puts.{put_next}
use Rattle.packet_writer.proofs.Fitting.{pat_written, pmt_written, pcr_written}
use Rattle.mux.proofs.Placing.{units_long, mid_long}
use Rattle.mux_rules.proofs.Reaching.{right, Allowed, allowed, each_whole}
use Rattle.mux.proofs.Slotting.{formed_on, formed_none, units_packets_lem, well}

-- ---- the descriptor, from what its reading says
pub video_right : (d : Bytes) (v : Video) → reading d ≡ passed v → false ≡ wrong d
unfolding reading
video_right d v e = sym (given_passed 40 (wrong d) (passed_after (given 40 (wrong d)) _ v e).0)

pub video_wrong : (d : Bytes) (number place : ℕ) → reading d ≡ refused number place → true ≡ wrong d
unfolding reading
video_wrong d number place e =
    case (wrong d) (λ t. sym t)
    (λ t. never (sym e ∙ sym (pass_on 40 t refl)))

-- ---- a valid queue
-- a unit that could be added
unit_short : (u : TimedUnit) → unit_wrong u ≡ false → length u.carried ≤ most_carried
unfolding read_unit
unit_short u e =
    let r = right u e in
    ltb-false most_carried (length u.carried)
    (given_passed 2 _ (passed_after (given 2 (ltb most_carried (length u.carried))) _ r.obus r.read).0)

slot_right : (u : TimedUnit) (room : ℕ) → unit_wrong u ≡ false → length u.carried ≤ room → slot_wrong (record_of u) room ≡ false
unfolding slot_wrong
slot_right u room e h =
    let r = right u e in
    sym (or_by_false (le-ltb most_carried (length u.carried) (unit_short u e))
    (or_by_false (le-ltb room (length u.carried) h)
    (or_by_false (lt-leb 8589934592 u.pts.0 r.pts) (sym (lt-leb 8589934592 u.dts.0 r.dts)))))

formed_all : (us : List TimedUnit) (room : ℕ) → any unit_wrong us ≡ false → length (queued_bytes us) ≤ room
    → formed (map record_of us) room ≡ true
unfolding any flatten
formed_all [] room w h = sym (formed_none room)
formed_all (u ∷ us) room w h =
    let b = or_neither (unit_wrong u) (any unit_wrong us) w in
    let l = length-append u.carried (queued_bytes us) in
    formed_on (record_of u) (map record_of us) room (slot_right u room b.0 (omega arith))
    ∙ formed_all us (room - length u.carried) b.1 (omega arith)

-- its units stand in the store
stand : (us : List TimedUnit) (s : Bytes) → take (length (queued_bytes us)) s ≡ queued_bytes us → slot_units (map record_of us) s ≡ us
unfolding slot_units flatten
stand [] s e = refl
stand (u ∷ us) s e =
    let n = length-append u.carried (queued_bytes us) in
    let whole = length (u.carried ++ queued_bytes us) in
    let front : take (length u.carried) s ≡ u.carried =
    sym (take-take (length u.carried) whole s (omega arith)) ∙ ap (take (length u.carried)) e
    ∙ take-append_seam u.carried (queued_bytes us) in
    let left : whole - length u.carried ≡ length (queued_bytes us) = omega arith in
    let back : take (length (queued_bytes us)) (drop (length u.carried) s) ≡ queued_bytes us =
    ap (λ (k : ℕ). take k (drop (length u.carried) s)) (sym left) ∙ sym (drop_take (length u.carried) whole s (omega arith))
    ∙ ap (drop (length u.carried)) e ∙ drop-append_seam u.carried (queued_bytes us) in
    ap₂ (λ (x : Bytes) (l : List TimedUnit). timed x u.pts u.dts u.marked ∷ l) front (stand us (drop (length u.carried) s) back)
  where
    take-take : (n k : ℕ) (s : Bytes) → n ≤ k → take n (take k s) ≡ take n s
    take-take zero k s h = refl
    take-take (suc n) zero s h = absurd (omega arith)
    take-take (suc n) (suc k) [] h = refl
    take-take (suc n) (suc k) (a ∷ s) h = ap (λ (l : Bytes). a ∷ l) (take-take n k s (omega arith))

module _ {queue : Queue} {store : Bytes} {units : List TimedUnit} (q : QueueIs queue store units) where
  filled_is : filled queue ≡ map record_of units
  unfolding slots
  filled_is =
      ap filled q.holds
      ∙ ap (λ (n : ℕ). take n (map record_of units ++ drop (length units) (replicate most_units no_record)))
      (sym (length-map units record_of))
      ∙ take-append_seam (map record_of units) (drop (length units) (replicate most_units no_record))

  pub valid_formed : well_formed queue (length store) ≡ true
  unfolding well_formed
  valid_formed =
      sym (and_by_true (ap (λ (x : Queue). leb x.count most_units) q.holds ∙ le-leb (length units) most_units q.few)
      (sym (ap (λ (l : List Queued). formed l (length store)) filled_is ∙ formed_all units (length store) q.right (bytes_within q))))

  pub valid_units : slot_units (filled queue) store ≡ units
  valid_units = ap (λ (l : List Queued). slot_units l store) filled_is ∙ stand units store q.stands

  pub valid_packets : slots_packets (filled queue) ≡ packets_for_units units
  valid_packets = sym (units_packets_lem (filled queue) store (well queue (length store) valid_formed).1) ∙ ap packets_for_units valid_units

  -- ---- what send leaves
  module _ (c : Channel) (d out : Bytes) where
    abbrev count : ℕ
    count = 3 + packets_for_units units

    refused_by_lem : (why : Refusal) (r : Refused) → r ≡ record { why = why; place = 0 }
        → refused (number_of why) 0 ≡ sending c d (length out) units
        → Sends c d units out (record { answer = Err r; next = c; queue = queue }) out
    unfolding units_left channel_left verdict.leaves
    refused_by_lem why r e f =
        rw e record {
          answers = f;
          next = ap (λ (v : Verdict Written). channel_left v c units) f;
          queue = q.holds ∙ ap (λ (v : Verdict Written). queue_of (units_left v units)) f;
          leaves = ap (λ (v : Verdict Written). verdict.leaves v (segment c d units) out) f;
        }

    pub sends_wrong : channel_wrong c d ≡ true → (r : Refused) → r ≡ record { why = refusals.Channel; place = 0 }
        → Sends c d units out (record { answer = Err r; next = c; queue = queue }) out
    unfolding sending
    sends_wrong w r e = refused_by_lem refusals.Channel r e (refuse 52 _ w)

    module _ (w : channel_wrong c d ≡ false) where
      pub sends_many : 65535 < count → (r : Refused) → r ≡ record { why = refusals.PacketsToSend; place = 0 }
          → Sends c d units out (record { answer = Err r; next = c; queue = queue }) out
      unfolding sending
      sends_many h r e =
          refused_by_lem refusals.PacketsToSend r e
          (pass_on 52 w (refuse 53 _ (lt-ltb 65535 (length (segment_packets c d units)) (omega (arith, length_segment c d units)))))

      bytes_are : length (segment c d units) ≡ 188 * count
      bytes_are =
          flat_length (segment_packets c d units) (each_whole c d (allowed c d w).fine units)
          ∙ ap (λ (n : ℕ). 188 * n) (length_segment c d units)

      module _ (few : count ≤ 65535) where
        pub sends_short : length out < 188 * count → (r : Refused) → r ≡ record { why = refusals.NoRoom; place = 0 }
            → Sends c d units out (record { answer = Err r; next = c; queue = queue }) out
        unfolding sending
        sends_short h r e =
            refused_by_lem refusals.NoRoom r e
            (pass_on 52 w
            (pass_on 53 (le-ltb 65535 (length (segment_packets c d units)) (omega (arith, length_segment c d units)))
            (refuse 8 _ (lt-ltb (length out) (length (segment c d units)) (omega (arith, bytes_are))))))

        -- what is sent
        passes : 188 * count ≤ length out
            → sending c d (length out) units
            ≡ passed (record { bytes = length (segment c d units); packets = length (segment_packets c d units) })
        unfolding sending
        passes h =
            sym (pass_on 52 w
            (pass_on 53 (le-ltb 65535 (length (segment_packets c d units)) (omega (arith, length_segment c d units)))
            (pass_on 8 (le-ltb (length out) (length (segment c d units)) (omega (arith, bytes_are))) refl)))

        pub sends_sent : 188 * count ≤ length out → (n m : ℕ) (next : Channel) (empty : Queue) (after : Bytes) → n ≡ 188 * count → m ≡ count
            → next ≡ next_channel c units → empty ≡ queue_of [] → after ≡ over (segment c d units) out
            → Sends c d units out (record { answer = Ok (record { bytes = n; packets = m }); next = next; queue = empty }) after
        unfolding units_left channel_left verdict.leaves
        sends_sent h n m next empty after en em ec eq ea =
            let f = passes h in
            record {
              answers =
                  ap₂ (λ (x y : ℕ). passed (record { bytes = x; packets = y })) (en ∙ sym bytes_are) (em ∙ sym (length_segment c d units))
                  ∙ sym f;
              next = ec ∙ sym (ap (λ (v : Verdict Written). channel_left v c units) f);
              queue = eq ∙ sym (ap (λ (v : Verdict Written). queue_of (units_left v units)) f);
              leaves = ea ∙ sym (ap (λ (v : Verdict Written). verdict.leaves v (segment c d units) out) f);
            }

-- ---- PAT, PMT and PCR, and then the units
module _ (c : Channel) (d : Bytes) (w : channel_wrong c d ≡ false) where
  pub pat_long : length (section_packet 0 c.pat_counter (pat c.program c.map_pid)) ≡ 188
  pat_long =
      section_whole 0 c.pat_counter (pat c.program c.map_pid)
      (omega (arith, length_section 0 0 (pat_rest c.program c.map_pid) (omega arith)))

  pub pmt_long : length (section_packet c.map_pid c.map_counter (pmt c.program c.av1_pid d)) ≡ 188
  pmt_long =
      let l = video_length d (allowed c d w).fine in
      section_whole c.map_pid c.map_counter (pmt c.program c.av1_pid d)
      (omega (arith, length_section 2 c.program (pmt_rest c.av1_pid d) (omega arith)))

  pub clock_long : length (pcr_packet c.av1_pid (counter_before c.av1_counter) c.pcr) ≡ 188
  clock_long = length_pcr c.av1_pid (counter_before c.av1_counter) c.pcr

  pub tables_long : length (table_packets c d) ≡ 564
  tables_long =
      let p = section_packet 0 c.pat_counter (pat c.program c.map_pid) in
      let m = section_packet c.map_pid c.map_counter (pmt c.program c.av1_pid d) in
      omega (
        arith,
        length-append (p ++ m)
            (pcr_packet c.av1_pid (counter_before c.av1_counter) c.pcr),
        length-append p m,
        pat_long,
        pmt_long,
        clock_long,
      )

  pub segment_is : (us : List TimedUnit) → table_packets c d ++ flatten (units_packets c.av1_pid c.av1_counter us) ≡ segment c d us
  unfolding segment_packets flatten
  segment_is us =
      let p = section_packet 0 c.pat_counter (pat c.program c.map_pid) in
      let m = section_packet c.map_pid c.map_counter (pmt c.program c.av1_pid d) in
      let t = pcr_packet c.av1_pid (counter_before c.av1_counter) c.pcr in
      let r = flatten (units_packets c.av1_pid c.av1_counter us) in
      append_assoc (p ++ m) t r ∙ append_assoc p m (t ++ r)

  -- the units behind the tables
  module _ (out out1 : Bytes) (put : out1 ≡ over (table_packets c d) out) (room : 564 ≤ length out) where
    pub tables_kept : length out1 ≡ length out
    tables_kept = ap length put ∙ length_over (table_packets c d) out (omega (arith, tables_long))

    pub units_room : (n : ℕ) → 188 * (3 + n) ≤ length out → 188 * n ≤ length (mid_of 564 (length out1 - 564) out1)
    units_room n h = omega (arith, mid_long out1 564 (omega (arith, tables_kept)), tables_kept)

    pub all_written : (us found : List TimedUnit) (after : Bytes) → found ≡ us → 188 * (3 + packets_for_units us) ≤ length out
        → after ≡ over (flatten (units_packets c.av1_pid c.av1_counter found)) (mid_of 564 (length out1 - 564) out1)
        → put_mid 564 (length out1 - 564) out1 after ≡ over (segment c d us) out
    all_written us found after e fits ea =
        put_next (table_packets c d) (flatten (units_packets c.av1_pid c.av1_counter us)) out out1 after 564 (sym tables_long) put
        (omega (arith, tables_long, units_long c.av1_pid c.av1_counter us))
        (ea ∙ ap (λ (l : List TimedUnit). over (flatten (units_packets c.av1_pid c.av1_counter l))
        (mid_of 564 (length out1 - 564) out1)) e)
        ∙ ap (λ (x : Bytes). over x out) (segment_is us)

  -- ---- the tables, one behind the other
  abbrev pat' : Bytes
  pat' = section_packet 0 c.pat_counter (pat c.program c.map_pid)

  abbrev pmt' : Bytes
  pmt' = section_packet c.map_pid c.map_counter (pmt c.program c.av1_pid d)

  module _ (out out1 after2 after3 : Bytes) (room : 564 ≤ length out)
      (first : out1 ≡ pat_put c.pat_counter c.program c.map_pid out)
      (second : after2
      ≡ pmt_put c.map_pid c.map_counter c.program c.av1_pid d (mid_of 188 (length out1 - 188) out1)) where
    ok : Allowed c d
    ok = allowed c d w

    one : out1 ≡ over pat' out
    unfolding section_packet
    one =
        first
        ∙ pat_written c.pat_counter c.program c.map_pid out (omega (arith, ok.program_high)) (omega (arith, ok.map_high))
        ok.pat_low (omega arith)

    one_long : length out1 ≡ length out
    one_long = ap length one ∙ length_over pat' out (omega (arith, pat_long))

    abbrev out2 : Bytes
    out2 = put_mid 188 (length out1 - 188) out1 after2

    two : out2 ≡ over (pat' ++ pmt') out
    unfolding section_packet
    two =
        put_next pat' pmt' out out1 after2 188 (sym pat_long) one (omega (arith, pat_long, pmt_long))
        (second
        ∙ pmt_written c.map_pid c.map_counter c.program c.av1_pid d (mid_of 188 (length out1 - 188) out1)
        (video_length d ok.fine) (omega (arith, ok.program_high)) (omega (arith, ok.pid_high)) (omega (arith, ok.map_high))
        ok.map_counter (omega (arith, mid_long out1 188 (omega (arith, one_long)), one_long)))

    two_long : length out2 ≡ length out
    two_long = ap length two ∙ length_over (pat' ++ pmt') out (omega (arith, length-append pat' pmt', pat_long, pmt_long))

    pub tables_written : after3 ≡ pcr_put c.av1_pid c.av1_counter c.pcr (mid_of 376 (length out2 - 376) out2)
        → put_mid 376 (length out2 - 376) out2 after3 ≡ over (table_packets c d) out
    tables_written third =
        let n = length-append pat' pmt' in
        put_next (pat' ++ pmt') (pcr_packet c.av1_pid (counter_before c.av1_counter) c.pcr) out out2 after3 376
        (omega (arith, n, pat_long, pmt_long)) two
        (omega (arith, n, pat_long, pmt_long, clock_long))
        (third
        ∙ pcr_written c.av1_pid c.av1_counter c.pcr (mid_of 376 (length out2 - 376) out2) ok.pcr_low
        (omega (arith, ok.pid_high)) ok.av1_low (omega (arith, mid_long out2 376 (omega (arith, two_long)), two_long)))
