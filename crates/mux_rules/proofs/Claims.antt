-- The claim of request 2026-01 about a queue with its store (`claim`): send's bytes are accepted by the check, whose outputs then hold the
-- queued units and their times, and 2026-04's comparison is that of the queued units with the caller's descriptor. Two sends one after the
-- other are accepted as one segment (`two_sends`). Assumes nothing.
use Prim.Native.Nat.{ℕ, ◌+◌, ◌≤◌}
use mathlib.Core.Bool.{false}
use mathlib.Core.Path.{◌≡◌, refl, sym, ap, ap₂, subst, ◌∙◌}
use mathlib.Core.List.{List, [], ◌∷◌, ◌++◌, map, flatten}
use native.Mathlib.Omega.{arith}
use borrow.Author.Tests.{ltb-false}
use lib.Dec.{ltb}
use lib.ListN.{length, length-append}
use Rattle.lists.specs.Lists.{Bytes, over, any, those}
use Rattle.refusal.specs.Verdict.{Verdict, passed, refused, ◌>>=◌, given}
use Rattle.refusal.proofs.Verdicts.{passed_after, given_passed, passed_same, follows}
use Rattle.descriptor.specs.Descriptor.{registration, av01, fields_of, wrong}
use Rattle.descriptor.specs.Edition.{current, edition_of}
use Rattle.packet.specs.Writing.{counter_after, counter_before}
use Rattle.pmt.specs.Pmt.{MapContent, video_descriptors}
use Rattle.pmt.specs.Writing.{map_for}
use Rattle.pmt.proofs.Writing.{six}
use Rattle.queue.specs.declared.records.Queue.{Queue}
use Rattle.queue.specs.Queue.{TimedUnit, queued_bytes, unit_wrong, queue_of, QueueIs}
use Rattle.queue.proofs.Keeping.{empty_is, as_units}
use Rattle.segment_rules.specs.Check.{Accepted, Outputs, Progress, rooms_of, lengths, pts_and_dts, times_in_turn, holding, outputs_after}
use Rattle.segment_rules.specs.Check.{check_segment, start, run, ending}
use Rattle.comparison.specs.Comparison.{sequence_headers, first_from}
use Rattle.segment_rules.specs.Comparison.{compared_with, compared, check_compared}
use Rattle.segment_rules.specs.Rules.{Rooms, carried_units}
use Rattle.segment_rules.proofs.Running.{run_append}
use Rattle.refusal.proofs.Verdicts.{all_append}
use Rattle.mux_rules.specs.declared.Channel.{Channel}
use Rattle.mux_rules.specs.declared.Written.{Written}
use Rattle.packet.proofs.Packets.{Whole, packets_flatten}
use Rattle.mux_rules.specs.Packets.{packets_for, segment_packets, segment, packets_for_units}
use Rattle.mux_rules.specs.Sending.{channel_wrong, sending, units_left, Sent, Sends}
use Rattle.mux_rules.specs.Claim.{access_units, accepted_as, LongEnough, unit_lengths, unit_times, handed_back, Claim}
use Rattle.mux_rules.specs.Claim.{channel_then, accepted_twice, TwoSends}
use Rattle.mux_rules.proofs.Counts.{flat_append, whole_segment, length_segment}
use Rattle.mux_rules.proofs.Reaching.{Allowed, allowed, each_whole, reached, renamed, send_first, send_again, ends}

-- ---- the same units and times
carried_same : (first : ℕ) (us : List TimedUnit) → carried_units (access_units first us) ≡ queued_bytes us
unfolding access_units flatten
carried_same first [] = refl
carried_same first (u ∷ us) = ap (λ (r : Bytes). u.carried ++ r) (carried_same (first + packets_for u) us)

lengths_same : (first : ℕ) (us : List TimedUnit) → lengths (access_units first us) ≡ unit_lengths us
unfolding access_units
lengths_same first [] = refl
lengths_same first (u ∷ us) = ap (λ (r : List ℕ). length u.carried ∷ r) (lengths_same (first + packets_for u) us)

times_same : (first : ℕ) (us : List TimedUnit) → times_in_turn (access_units first us) ≡ unit_times us
unfolding access_units flatten pts_and_dts
times_same first [] = refl
times_same first (u ∷ us) = ap (λ (r : List ℕ). u.pts.0 ∷ u.dts.0 ∷ r) (times_same (first + packets_for u) us)

count_same : (first : ℕ) (us : List TimedUnit) → length (access_units first us) ≡ length us
unfolding access_units
count_same first [] = refl
count_same first (u ∷ us) = omega (arith, count_same (first + packets_for u) us)

outputs_same : (first : ℕ) (us : List TimedUnit) (o : Outputs) → holding (access_units first us) o ≡ handed_back us o
outputs_same first us o =
    ap₂
    (λ (b : Bytes)
    (l : List ℕ). record {
      bytes = over b o.bytes;
      lens = over l o.lens;
      times = over (times_in_turn (access_units first us))
          o.times;
    })
    (carried_same first us) (lengths_same first us)
    ∙ ap (λ (t : List ℕ). record {
      bytes = over (queued_bytes us) o.bytes;
      lens = over (unit_lengths us) o.lens;
      times = over t
          o.times;
    })
    (times_same first us)

-- ---- a send that passed
record Passes (c : Channel) (d : Bytes) (us : List TimedUnit) (w : Written) : Type 0 where
  ok : Allowed c d
  packets : w.packets ≡ length (segment_packets c d us)
  few : length (segment_packets c d us) ≤ 65535

passes : (c : Channel) (d : Bytes) (room : ℕ) (us : List TimedUnit) (w : Written) → sending c d room us ≡ passed w → Passes c d us w
unfolding sending
passes c d room us w e =
    let a = passed_after (given 52 (channel_wrong c d)) _ w e in
    let b = passed_after (given 53 (ltb 65535 (length (segment_packets c d us)))) _ w a.1 in
    let r = passed_after (given 8 (ltb room (length (segment c d us)))) _ w b.1 in
    record {
      ok = allowed c d (given_passed 52 (channel_wrong c d) a.0);
      packets = sym (ap (λ (x : Written). x.packets) (passed_same _ w r.1));
      few = ltb-false 65535 (length (segment_packets c d us)) (given_passed 53 (ltb 65535 (length (segment_packets c d us))) b.0);
    }

-- ---- one send
pub send_accepted : (c : Channel) (d : Bytes) (us : List TimedUnit) (rooms : Rooms) → Allowed c d → any unit_wrong us ≡ false
    → length us ≤ 1024
    → length (segment_packets c d us) ≤ 65535 → LongEnough us rooms
    → check_segment current rooms (segment c d us) ≡ passed (accepted_as c d us)
unfolding check_segment flatten
send_accepted c d us rooms ok w few most long =
    let r = send_first c d ok rooms c.pat_counter c.map_counter c.av1_counter ok.pat_low ok.map_counter ok.av1_low
    c.pcr us w
    (omega arith, omega (arith, long.bytes), omega (arith, long.lens), omega (arith, long.times)) in
    sym (follows (whole_segment (segment_packets c d us) (each_whole c d ok.fine us) (omega (arith, length_segment c d us)) most)
    (sym (ap (λ (ps : List Bytes). run current rooms start ps >>= ending)
    (packets_flatten (segment_packets c d us) (each_whole c d ok.fine us))
    ∙ ends c d ok rooms r)))

-- ---- the comparison: the caller's descriptor is the one video descriptor of the map, so what is accepted is compared with it
one_video : (d : Bytes) → wrong d ≡ false → video_descriptors current (registration av01 ∷ d ∷ []) ≡ d ∷ []
unfolding those
one_video d fine = subst (λ (x : Bytes). video_descriptors current (registration av01 ∷ x ∷ []) ≡ x ∷ []) (sym (six d fine)) refl

compared_as : (rooms : Rooms) (s d : Bytes) (a : Accepted) (pid : ℕ) → wrong d ≡ false → a.map ≡ map_for pid d
    → check_segment current rooms s ≡ passed a
    → check_compared 0 rooms s
    ≡ passed (record { accepted = a; disagreement = first_from 0 (fields_of d) (map sequence_headers (map (λ u. u.carried) a.units)) })
unfolding check_compared edition_of compared_with ◌>>=◌
compared_as rooms s d a pid fine m v =
    ap (λ (x : Verdict Accepted). x >>= λ y. passed (record { accepted = y; disagreement = compared current y.map y.units })) v
    ∙ ap (λ (x : MapContent). passed (record { accepted = a; disagreement = compared current x a.units })) m
    ∙ ap (λ (l : List Bytes). passed (record { accepted = a; disagreement = compared_with l a.units })) (one_video d fine)

pub claim : Claim
unfolding outputs_after
claim c d room queue store us w o q e long =
    let p = passes c d room us w e in
    let few = q.few in
    let v = send_accepted c d us (rooms_of o) p.ok q.right (omega arith) p.few long in (
      v,
      ap (λ x. outputs_after x o) v ∙ outputs_same 3 us o,
      compared_as (rooms_of o) (segment c d us) d (accepted_as c d us) c.av1_pid p.ok.fine refl v,
    )

-- ---- two sends
queued_append : (us vs : List TimedUnit) → length (queued_bytes (us ++ vs)) ≡ length (queued_bytes us) + length (queued_bytes vs)
unfolding flatten
queued_append [] vs = omega arith
queued_append (u ∷ us) vs =
    omega (arith, queued_append us vs, length-append u.carried (queued_bytes (us ++ vs)), length-append u.carried (queued_bytes us))

-- what is accepted, of which the second send's first unit begins in packet `first`, and so many packets are of the AV1 PID
abbrev accepted_both : Channel → Bytes → List TimedUnit → List TimedUnit → ℕ → ℕ → Accepted
accepted_both c d us more first count =
    record {
      program = c.program;
      map = map_for c.av1_pid d;
      units = access_units 3 us ++ access_units first more;
      totals = record { null = 0; section = 4; av1 = count; other_listed = 0; unlisted = 0 };
    }

pub two_sends : TwoSends
unfolding check_segment flatten ◌>>=◌
two_sends c d pcr room room' queue queue' store store' us more w w' rooms q q' e e' total long =
    let c2 = channel_then c us pcr in
    let p = passes c d room us w e in
    let p2 = passes c2 d room' more w' e' in
    let ok = p.ok in
    let few = q.few in
    let few' = q'.few in
    let lu = length-append us more in
    let lb = queued_append us more in
    let h1 = long.bytes in
    let h2 = long.lens in
    let h3 = long.times in
    let ha = ok.pat_low in
    let r = send_first c d ok rooms c.pat_counter c.map_counter c.av1_counter ok.pat_low ok.map_counter ok.av1_low
    c.pcr us q.right
    (omega arith, omega arith, omega arith, omega arith) in
    let k = packets_for_units us in
    let j = packets_for_units more in
    let lc = ap length (carried_same 3 us) in
    let ln = count_same 3 us in
    let g = reached c d ok rooms r in
    let r2 = send_again c d ok rooms (counter_after c.pat_counter 1) (counter_after c.map_counter 1)
    (counter_after c.av1_counter k) (omega arith)
    (omega arith) (omega arith) pcr more q'.right g c.pat_counter c.map_counter
    (counter_after (counter_before c.av1_counter) k) (access_units 3 us) 2
    (1 + k) (renamed c d ok rooms r (sym r.is) refl refl refl) refl refl (omega arith)
    (omega arith, omega arith, omega arith, omega arith) in
    let ps = segment_packets c d us in
    let qs = segment_packets c2 d more in
    let whole = all_append Whole ps qs (each_whole c d ok.fine us) (each_whole c2 d ok.fine more) in
    let n = length-append ps qs in
    let first : 2 + 2 + (1 + k + 1) ≡ 6 + k = omega arith in
    let count : 1 + k + 1 + j ≡ 2 + k + j = omega arith in
    let v : check_segment current rooms (segment c d us ++ segment c2 d more) ≡ passed (accepted_twice c d us more) =
    ap (check_segment current rooms) (sym (flat_append ps qs))
    ∙ sym (follows (whole_segment (ps ++ qs) whole (omega (arith, length_segment c d us)) (omega (arith, p.packets, p2.packets)))
    (sym (ap (λ (l : List Bytes). run current rooms start l >>= ending) (packets_flatten (ps ++ qs) whole)
    ∙ ap (λ (v : Verdict Progress). v >>= ending)
    (run_append current rooms start ps qs ∙ ap (λ (v : Verdict Progress). v >>= λ x. run current rooms x qs) r.is)
    ∙ ends c d ok rooms r2
    ∙ ap₂ (λ (x y : ℕ). passed (accepted_both c d us more x y)) first count))) in
    (v, compared_as rooms (segment c d us ++ segment c2 d more) d (accepted_twice c d us more) c.av1_pid ok.fine refl v)

-- ---- send keeps validity, refused or not: the queue that it hands back is valid with the store
pub send_keeps : {queue : Queue} {store : Bytes} {units : List TimedUnit} (q : QueueIs queue store units) (c : Channel) (d out : Bytes)
    (r : Sent) (after : Bytes)
    → Sends c d units out r after → QueueIs r.queue store (units_left (sending c d (length out) units) units)
unfolding units_left
send_keeps {queue} {store} {units} q c d out r after s =
    subst (λ (x : Queue). QueueIs x store (units_left (sending c d (length out) units) units)) (sym s.queue)
    (go (sending c d (length out) units))
  where
    go : (v : Verdict Written) → QueueIs (queue_of (units_left v units)) store (units_left v units)
    go (passed w) = empty_is store
    go (refused number place) = as_units q
