-- The packets of the units in a segment that send wrote: what one of them does to the check, and all of them in turn. Assumes nothing.
use Rattle.std.specs.Prelude.{Option, Some, None}
use Prim.Native.Nat.{ℕ, zero, suc, ◌+◌, ◌*◌, ◌≤◌, ◌<◌}
use mathlib.Core.Bool.{Bool, true, false, not, ◌&&◌, ◌||◌, and-false}
use mathlib.Core.Path.{◌≡◌, refl, sym, ap, ap₂, subst, ◌∙◌}
use mathlib.Core.List.{List, [], ◌∷◌, ◌++◌, append-nil, append_assoc}
use native.Mathlib.Omega.{arith}
use borrow.Author.Tests.{eq-eqb, le-ltb}
use lib.Dec.{eqb, ltb}
use lib.ListN.{length, take, drop, length-append, take-append-drop}
use Rattle.lists.specs.Lists.{Bytes}
use Rattle.lists.proofs.Tests.{case}
use Rattle.lists.proofs.Picks.{by_true, by_false}
use Rattle.refusal.specs.Verdict.{Verdict, passed, ◌>>=◌, ◌>>◌, at_place}
use Rattle.refusal.proofs.Verdicts.{pass_at, go_on}
use Rattle.descriptor.specs.Edition.{current}
use Rattle.ticks.specs.declared.Ticks27.{Ticks27}
use Rattle.packet.specs.Header as packet
use Rattle.packet.specs.Header.{has_payload, payload, continuity_counter}
use Rattle.packet.specs.Writing.{most, carrying, counter_after}
use Rattle.packet.proofs.Writing.{Reads, Carries, carrying_reads}
use Rattle.pes.specs.declared.header.Header.{Header}
use Rattle.pes.specs.Pes.{pes_data, stamps}
use Rattle.pes.specs.Writing.{times, bytes_after, length_written}
use Rattle.pes.proofs.Writing.{Opens, opens}
use Rattle.unit.specs.Unit.{read_unit}
use Rattle.queue.specs.Queue.{TimedUnit}
use Rattle.segment_rules.specs.State.{OpenPes, AccessUnit, Extraction, State, Av1, kind_of, with_extraction, counting}
use Rattle.segment_rules.specs.Rules.{Rooms, in_sequence, on_units, unless_repeat, packet_rules, pes_rules, unit_bytes, added_to, close_pes}
use Rattle.segment_rules.specs.Rules.{close_if_open}
use Rattle.segment_rules.specs.Rules.{close_open, length_differs, carried_units}
use Rattle.segment_rules.specs.Check.{Progress, run}
use Rattle.segment_rules.proofs.ByKind.{counted, av1_packet}
use Rattle.segment_rules.proofs.Sequence as sequence
use Rattle.mux_rules.specs.declared.Channel.{Channel}
use Rattle.mux_rules.specs.Packets.{header, others_for, first_part_of, other_parts, first_flags, others, packets_for, unit_packets}
use Rattle.mux_rules.proofs.Cuts.{first_bytes, first_part, other_parts_lem, first_short, first_some, first_steady, first_clockless}
use Rattle.mux_rules.proofs.Cuts.{other_some}
use Rattle.mux_rules.proofs.Cuts.{other_short, others_next, others_none}
use Rattle.mux_rules.proofs.States.{Laid, laid, seen, none_repeats, first_pmt, in_tables, kind_av1, next_check, checked_first}
use Rattle.mux_rules.proofs.States.{checked_later, counted_by, step_by, run_next, totals_at}
use Rattle.mux_rules.proofs.Tabling.{still, due_next}

-- the header that the check reads from a unit's first packet
abbrev pub header_for : TimedUnit → Header
header_for u =
    record {
      length = length_written u.pts u.dts (length u.carried);
      size = 9 + length (times u.pts u.dts);
      times = stamps u.pts u.dts;
    }

abbrev pub open_for : ℕ → TimedUnit → Bytes → OpenPes
open_for i u bytes = record { first = i; header = header_for u; bytes = bytes }

abbrev pub with_more : OpenPes → Bytes → OpenPes
with_more o s = record { first = o.first; header = o.header; bytes = o.bytes ++ s }

abbrev pub extracted : Option OpenPes → List AccessUnit → Extraction
extracted now units = record { pes = now; units = units }

-- two parts of a condition, neither of which holds
neither : (x y : Bool) → x ≡ false → y ≡ false → x || y ≡ false
neither x y e f = rw (e, f)

not_starting : (x : Bool) {y : Bool} → y ≡ false → x && y ≡ false
not_starting true e = e
not_starting false e = refl

-- a rule on the units, where what it gives is known
on_units_lem : (f : Extraction → Verdict Extraction) (st : State) (x : Extraction) → f st.extraction ≡ passed x
    → on_units f st ≡ passed (with_extraction x st)
unfolding on_units ◌>>=◌
on_units_lem f st x e = rw e

module _ (c : Channel) (d : Bytes) (rooms : Rooms) (p0 : c.av1_pid ≡ 0
    → ⊥) (high : c.av1_pid ≤ 0x1FFE) (p2 : c.av1_pid ≡ c.map_pid → ⊥)
    (a b : Laid) (t : Ticks27) where
  abbrev pub at : Laid → Option OpenPes → List AccessUnit → State
  at l now units = record { tables = in_tables c d a b l t; extraction = extracted now units }

  -- between two packets, of which so many had a section and so many were of the AV1 PID
  abbrev pub going : Laid → Option OpenPes → List AccessUnit → ℕ → ℕ → Progress
  going l now units s n = record { index = s + n; state = at l now units; totals = totals_at s n }

  at_av1 : (p : Bytes) (l : Laid) → packet.pid p ≡ c.av1_pid → kind_of (in_tables c d a b l t) (packet.pid p) ≡ Av1
  at_av1 p l e = ap (kind_of (in_tables c d a b l t)) e ∙ kind_av1 c d p0 high p2 (in_tables c d a b l t) refl refl

  -- ---- one packet
  module _ (i : ℕ) (p part : Bytes) (start : Bool) (l : Laid) (now : Option OpenPes) (units : List AccessUnit)
      (r : Reads p c.av1_pid start (counter_after (continuity_counter l.bytes) 1) false) (k : Carries p part) where
    payload_counted : counted i p (at l now units) ≡ passed (at (laid i p) now units)
    payload_counted =
        counted_by i p (at l now units) _ (Some t)
        (checked_later i (seen 0 a) (seen 0 a) _ p _ (λ e. p0 (sym r.pid ∙ sym e))
        (checked_later i (seen c.map_pid b) (seen c.map_pid b) _ p _ (λ e. p2 (sym r.pid ∙ sym e))
        (checked_first i (seen c.av1_pid l) _ [] p (sym r.pid)
        (next_check i c.av1_pid l p r.steady (r.counter ∙ due_next (continuity_counter l.bytes) (has_payload p) k.has)))))
        (still p (Some (first_pmt c d)) (Some t) r.clock)

    -- one that starts a PES, where the open one closes
    pub first_taken : (u : TimedUnit) (rest : Bytes) (units' : List AccessUnit) → start ≡ true → part ≡ header u ++ rest
        → u.pts.0 < 8589934592
        → u.dts.0 < 8589934592 → close_pes (extracted now units) ≡ passed (extracted None units') → length units' < 1024
        → length (carried_units units') + length rest ≤ rooms.bytes → length units' < rooms.lens → 2 * length units' + 2 ≤ rooms.times
        → packet_rules current rooms i p Av1 (at l now units) ≡ passed (at (laid i p) (Some (open_for i u rest)) units')
    first_taken u rest units' es ep hp hd closes few in_bytes in_lens in_times =
        let o : Opens u.pts u.dts (payload p) (length u.carried) rest =
        subst (λ (x : Bytes). Opens u.pts u.dts x (length u.carried) rest) (sym (k.payload ∙ ep))
        (opens u.pts u.dts (length u.carried) rest hp hd) in
        let m : length (pes_data (payload p)) ≡ length rest = ap length o.data_is in
        let e : length (carried_units units' ++ []) ≡ length (carried_units units') = ap length (append-nil (carried_units units')) in
        av1_packet current rooms i p (at l now units) _ r.passes
        ∙ sym (go_on (at (laid i p) now units) _ payload_counted
        (sym (sequence.not_repeated p _ (at (laid i p) now units) (none_repeats _ _ (refl, (refl, (refl, tt))))
        ∙ sequence.starts current rooms i p (at (laid i p) now units) k.has (r.starts ∙ es)
        ∙ sym (go_on (at (laid i p) None units') _ (on_units_lem close_pes (at (laid i p) now units) (extracted None units') closes)
        (sym (sequence.opens current rooms i p (at (laid i p) now units) k.has (r.starts ∙ es) (at (laid i p) None units')
        ∙ sym (pass_at i 29 o.right
        (pass_at i 30 o.timed
        (pass_at i 31 refl
        (pass_at i 34 (le-ltb 1024 (length units' + 1) (omega arith))
        (pass_at i 8
        (neither _ _ (le-ltb rooms.bytes (length (carried_units units' ++ []) + length (pes_data (payload p))) (omega arith))
        (neither _ _ (le-ltb rooms.lens (length units' + 1) (omega arith))
        (le-ltb rooms.times (2 * (length units' + 1)) (omega arith))))
        (ap₂ (λ (h : Header) (w : Bytes). passed (at (laid i p) (Some (record { first = i; header = h; bytes = w })) units'))
        (sym o.says) (sym o.data_is)))))))))))))

    -- the bytes that it adds to an open PES
    adds_part : start ≡ false → unit_bytes i p Av1 ≡ part
    adds_part es = sym (by_false _ (not_starting (has_payload p) (r.starts ∙ es)) (sym k.payload))

    and_added : (o : OpenPes) → start ≡ false → passed (at (laid i p) (Some (with_more o part)) units)
        ≡ passed (with_extraction (added_to i p Av1 (Some o) (extracted (Some o) units)) (at (laid i p) (Some o) units))
    unfolding added_to
    and_added o es = ap (λ (w : Bytes). passed (at (laid i p) (Some (with_more o w)) units)) (sym (adds_part es))

    -- one that goes on with the open PES
    pub more_taken : (o : OpenPes) → now ≡ Some o → start ≡ false
        → length (carried_units units) + length o.bytes + length part ≤ rooms.bytes
        → packet_rules current rooms i p Av1 (at l now units)
        ≡ passed (at (laid i p) (Some (with_more o part)) units)
    more_taken o en es in_bytes =
        let m : length (payload p) ≡ length part = ap length k.payload in
        let e = length-append (carried_units units) o.bytes in
        av1_packet current rooms i p (at l now units) _ r.passes
        ∙ sym (go_on (at (laid i p) now units) _ payload_counted
        (subst
        (λ (x : Option OpenPes). passed (at (laid i p) (Some (with_more o part)) units)
        ≡ unless_repeat p (in_sequence (pes_rules current rooms i p Av1)) (at (laid i p) x units)) (sym en)
        (sym (sequence.not_repeated p _ (at (laid i p) (Some o) units) (none_repeats _ _ (refl, (refl, (refl, tt))))
        ∙ sequence.adds current rooms i p (at (laid i p) (Some o) units) k.has (r.starts ∙ es)
        ∙ sym (pass_at i 29 refl
        (pass_at i 31 refl
        (pass_at i 8 (le-ltb rooms.bytes (length (carried_units units ++ o.bytes) + length (payload p)) (omega arith))
        (and_added o es))))))))

  -- ---- the packets of one unit
  module _ (units : List AccessUnit) (s : ℕ) where
    -- where a run comes to: the last packet of the AV1 PID has this counter
    pub record To (v : Verdict Progress) (now : Option OpenPes) (k n : ℕ) : Type 0 where
      pub last : Laid
      pub counter : continuity_counter last.bytes ≡ k
      pub is : v ≡ passed (going last now units s n)

    -- those after the first
    pub others_run : (m : ℕ) (w : Bytes) (l : Laid) (k n : ℕ) (o : OpenPes) → others_for (length w) ≡ m
        → continuity_counter l.bytes ≡ k → k < 16 → length (carried_units units) + length o.bytes + length w ≤ rooms.bytes
        → To (run current rooms (going l (Some o) units s n) (others m c.av1_pid (counter_after k 1) w)) (Some (with_more o w))
        (counter_after k m) (n + m)
    unfolding others run counting
    others_run zero w l k n o hm hl hk hb =
        let e = others_none w hm in
        let z : n ≡ n + 0 = omega arith in
        let b : o.bytes ≡ o.bytes ++ w = sym (append-nil o.bytes) ∙ ap (λ (x : Bytes). o.bytes ++ x) (sym e) in
        record {
          last = l;
          counter = omega (arith, hl);
          is =
              ap (λ (x : ℕ). passed (going l (Some o) units s x)) z
              ∙ ap (λ (x : Bytes). passed (going l (Some (record { first = o.first; header = o.header; bytes = x })) units s (n + 0))) b;
        }
    others_run (suc m) w l k n o hm hl hk hb =
        let p = carrying c.av1_pid false (counter_after k 1) 0 (take most w) in
        let parts = ap length (take-append-drop most w) in
        let la = length-append (take most w) (drop most w) in
        let both =
        carrying_reads c.av1_pid false (counter_after k 1) 0 (take most w) (omega arith) (omega arith) refl refl (other_short w m hm)
        (other_some w m hm) in
        let reads : Reads p c.av1_pid false (counter_after (continuity_counter l.bytes) 1) false =
        subst (λ (x : ℕ). Reads p c.av1_pid false (counter_after x 1) false) (sym hl) both.0 in
        let one = step_by rooms (going l (Some o) units s n) _ p Av1 (at_av1 p l both.0.pid)
        (more_taken (s + n) p (take most w) false l (Some o) units reads both.1 o refl refl (omega arith)) in
        let lb = length-append o.bytes (take most w) in
        let next : s + n + 1 ≡ s + (n + 1) = omega arith in
        let then : ℕ → Progress =
        λ x. record { index = x; state = at (laid (s + n) p) (Some (with_more o (take most w))) units; totals = totals_at s (n + 1) } in
        let rest =
        others_run m (drop most w) (laid (s + n) p) (counter_after k 1) (n + 1) (with_more o (take most w)) (others_next w m hm)
        both.0.counter (omega arith) (omega arith) in
        let ek : counter_after (counter_after k 1) m ≡ counter_after k (suc m) = omega arith in
        let en : n + 1 + m ≡ n + suc m = omega arith in
        let eb : (o.bytes ++ take most w) ++ drop most w ≡ o.bytes ++ w =
        append_assoc o.bytes (take most w) (drop most w) ∙ ap (λ (x : Bytes). o.bytes ++ x) (take-append-drop most w) in
        record {
          last = rest.last;
          counter = rest.counter ∙ ek;
          is =
              run_next rooms (going l (Some o) units s n) _ p
              (others m c.av1_pid (counter_after (counter_after k 1) 1) (drop most w)) _ one
              (ap (λ (x : ℕ). run current rooms (then x) (others m c.av1_pid (counter_after (counter_after k 1) 1) (drop most w))) next
              ∙ rest.is)
              ∙ ap₂ (λ (x : ℕ) (y : Bytes). passed
              (going rest.last (Some (record { first = o.first; header = o.header; bytes = y })) units s x)) en eb;
        }

    -- all of them: the PES is open, with the whole unit
    pub unit_run : (u : TimedUnit) (l : Laid) (k n : ℕ) (now : Option OpenPes) (before : List AccessUnit) → u.pts.0 < 8589934592
        → u.dts.0 < 8589934592
        → continuity_counter l.bytes ≡ k → k < 16 → close_pes (extracted now before) ≡ passed (extracted None units) → length units < 1024
        → length (carried_units units) + length u.carried ≤ rooms.bytes → length units < rooms.lens
        → 2 * length units + 2 ≤ rooms.times
        → To (run current rooms (going l now before s n) (unit_packets c.av1_pid (counter_after k 1) u))
        (Some (open_for (s + n) u u.carried))
        (counter_after k (packets_for u)) (n + packets_for u)
    unfolding unit_packets counting
    unit_run u l k n now before hp hd hl hk closes few in_bytes in_lens in_times =
        let m = others_for (length (other_parts u)) in
        let fb = first_bytes u in
        let w = take fb u.carried in
        let p = carrying c.av1_pid true (counter_after k 1) (first_flags u) (first_part_of u) in
        let parts = ap length (take-append-drop fb u.carried) in
        let la = length-append w (drop fb u.carried) in
        let lo = ap length (other_parts_lem u) in
        let both =
        carrying_reads c.av1_pid true (counter_after k 1) (first_flags u) (first_part_of u) (omega arith) (omega arith) (first_steady u)
        (first_clockless u) (first_short u) (first_some u) in
        let reads : Reads p c.av1_pid true (counter_after (continuity_counter l.bytes) 1) false =
        subst (λ (x : ℕ). Reads p c.av1_pid true (counter_after x 1) false) (sym hl) both.0 in
        let one = step_by rooms (going l now before s n) _ p Av1 (at_av1 p l both.0.pid)
        (first_taken (s + n) p (first_part_of u) true l now before reads both.1 u w units refl (first_part u) hp hd closes few
        (omega arith) in_lens in_times) in
        let next : s + n + 1 ≡ s + (n + 1) = omega arith in
        let then : ℕ → Progress =
        λ x. record { index = x; state = at (laid (s + n) p) (Some (open_for (s + n) u w)) units; totals = totals_at s (n + 1) } in
        let rest =
        others_run m (other_parts u) (laid (s + n) p) (counter_after k 1) (n + 1) (open_for (s + n) u w) refl both.0.counter (omega arith)
        (omega arith) in
        let ek : counter_after (counter_after k 1) m ≡ counter_after k (suc m) = omega arith in
        let en : n + 1 + m ≡ n + suc m = omega arith in
        let eb : w ++ other_parts u ≡ u.carried = ap (λ (x : Bytes). w ++ x) (other_parts_lem u) ∙ take-append-drop fb u.carried in
        record {
          last = rest.last;
          counter = rest.counter ∙ ek;
          is =
              run_next rooms (going l now before s n) _ p (others m c.av1_pid (counter_after (counter_after k 1) 1) (other_parts u)) _ one
              (ap (λ (x : ℕ). run current rooms (then x) (others m c.av1_pid (counter_after (counter_after k 1) 1) (other_parts u))) next
              ∙ rest.is)
              ∙ ap₂ (λ (x : ℕ) (y : Bytes). passed (going rest.last (Some (open_for (s + n) u y)) units s x)) en eb;
        }

-- ---- the closing of a PES
module _ (u : TimedUnit) where
  abbrev after : ℕ
  after = bytes_after u.pts u.dts (length u.carried)

  abbrev field : ℕ
  field = length_written u.pts u.dts (length u.carried)

  field_is : ltb 65535 after ≡ false → field ≡ after
  unfolding length_written
  field_is t = sym (by_false _ t refl)

  field_past : ltb 65535 after ≡ true → field ≡ 0
  unfolding length_written
  field_past t = sym (by_true _ t refl)

  -- 32 does not apply
  pub length_right : length_differs (header_for u) (length u.carried) ≡ false
  unfolding length_differs
  length_right =
      case (ltb 65535 after) (λ t. rw (field_past t))
      (λ t.
      let w = field_is t in
      let e : eqb (field + 6) (9 + length (times u.pts u.dts) + length u.carried) ≡ true =
      eq-eqb (field + 6) (9 + length (times u.pts u.dts) + length u.carried) (omega arith) in
      rw e (and-false (not (eqb field 0))))

abbrev pub unit_at : ℕ → TimedUnit → AccessUnit
unit_at i u = record { first = i; carried = u.carried; times = stamps u.pts u.dts }

pub unit_closes : (i : ℕ) (u : TimedUnit) (units : List AccessUnit) (obus : List Bytes) → read_unit u.carried ≡ passed obus
    → close_pes (extracted (Some (open_for i u u.carried)) units) ≡ passed (extracted None (units ++ (unit_at i u ∷ [])))
unfolding close_if_open close_open at_place ◌>>◌
unit_closes i u units obus e = sym (pass_at i 32 (length_right u) (rw e))
