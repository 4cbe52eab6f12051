-- The first three packets of a segment that send wrote, the PAT, the PMT and the PCR: as the first of a segment, and after another send's.
-- Assumes nothing.
use Rattle.std.specs.Prelude.{Option, Some, None}
use Prim.Native.Nat.{ℕ, ◌≤◌, ◌<◌}
use mathlib.Core.Bool.{Bool, true, false}
use mathlib.Core.Path.{◌≡◌, refl, sym, ap, ◌∙◌}
use mathlib.Core.List.{[], ◌∷◌}
use native.Mathlib.Omega.{arith}
use borrow.Author.Tests.{eq-eqb}
use lib.ListN.{length}
use Rattle.lists.specs.Lists.{Bytes, pick}
use Rattle.lists.proofs.Comparing.{same_self}
use Rattle.lists.proofs.Picks.{by_true, by_false}
use Rattle.refusal.specs.Verdict.{Verdict, passed, ◌>>=◌, ◌>>◌, given, at_place}
use Rattle.descriptor.specs.Descriptor.{wrong}
use Rattle.descriptor.specs.Edition.{current}
use Rattle.ticks.specs.declared.Ticks27.{Ticks27}
use Rattle.packet.specs.Header as packet
use Rattle.packet.specs.Header.{null_pid, has_payload, payload, payload_unit_start_indicator, continuity_counter}
use Rattle.packet.specs.Counter.{named, due}
use Rattle.packet.specs.Writing.{counter_after, pcr_packet}
use Rattle.packet.proofs.Writing.{Reads, Carries, carrying_reads}
use Rattle.packet.proofs.WritingClocks.{pcr_reads, pcr_empty, pcr_is_lem}
use Rattle.psi.specs.Section.{misplaced, section_of}
use Rattle.psi.specs.Writing.{section, section_payload, pat_rest, pat}
use Rattle.psi.proofs.Writing.{placed, section_back, length_section, length_payload, pat_read}
use Rattle.pmt.specs.Writing.{pmt_rest, pmt}
use Rattle.pmt.proofs.Writing.{pmt_read, video_length}
use Rattle.segment_rules.specs.State.{FirstPmt, Tables, Extraction, State, Pat, Map, Av1, fresh, with_tables}
use Rattle.segment_rules.specs.Rules.{Rooms, on_tables, counting_pcr, last_pcr, section_read, pat_section, pmt_section, later_section}
use Rattle.segment_rules.specs.Rules.{unless_repeat, packet_rules}
use Rattle.segment_rules.proofs.Sequence.{not_repeated}
use Rattle.refusal.proofs.Verdicts.{All, go_on}
use Rattle.segment_rules.proofs.ByKind.{counted, pat_packet, map_packet, av1_empty}
use Rattle.mux_rules.specs.declared.Channel.{Channel}
use Rattle.mux_rules.specs.Packets.{section_packet}
use Rattle.mux_rules.proofs.States.{Laid, laid, seen, first_pat, first_pmt, after_pat, after_pmt, in_tables, first_check, next_check}
use Rattle.mux_rules.proofs.States.{none_repeats, checked_first, checked_later, no_clock, counted_by}
use Rattle.segment_rules.proofs.Clocks.{uncounted}

-- ---- a section's packet
-- of a section with so many bytes behind its eight fixed ones, on this PID
module _ (q counter table extension : ℕ) (rest : Bytes) (hq : q < 8192) (hc : counter < 16) (short : length rest ≤ 171) where
  abbrev packet_of : Bytes
  packet_of = section_packet q counter (section table extension rest)

  both : Reads packet_of q true counter false × Carries packet_of (section_payload (section table extension rest))
  unfolding section_packet
  both =
      let n = length_payload (section table extension rest) (omega (arith, length_section table extension rest short)) in
      carrying_reads q true counter 0 (section_payload (section table extension rest)) hq hc refl refl (omega (arith, n)) (omega (arith, n))

  pub section_reads : Reads packet_of q true counter false
  section_reads = both.0

  pub section_carries : has_payload packet_of ≡ true
  section_carries = both.1.has

  -- it is found in the packet
  pub section_placed : misplaced (payload_unit_start_indicator packet_of) (payload packet_of) ≡ false
  section_placed =
      ap (λ (b : Bool). misplaced b (payload packet_of)) both.0.starts ∙ ap (misplaced true) both.1.payload
      ∙ placed table extension rest short

  pub section_found : section_of (payload packet_of) ≡ section table extension rest
  section_found = ap section_of both.1.payload ∙ section_back table extension rest short

-- no PCR of a packet without one counts
pub still : (p : Bytes) (pmt : Option FirstPmt) (earlier : Option Ticks27) → packet.pcr_flag p ≡ false →
    last_pcr earlier (counting_pcr pmt p) ≡
    earlier
still p pmt earlier e = ap (last_pcr earlier) (uncounted p pmt (no_clock p e))

-- the counter that is due after a payload more
pub due_next : (last : ℕ) (b : Bool) → b ≡ true → counter_after last 1 ≡ due last b
unfolding due
due_next last b e = by_true _ e refl

due_same : (last : ℕ) (b : Bool) → b ≡ false → last ≡ due last b
unfolding due
due_same last b e = by_false _ e refl

-- a section's packet, of which the counter and what it says are known
section_taken : (rooms : Rooms) (i : ℕ) (p : Bytes) (st st1 : State) (t : Tables) (read : Tables → Verdict Tables)
    → All (λ r. r.repeat ≡ false) st1.tables.records
    → counted i p st ≡ passed st1 → at_place i (read st1.tables) ≡ passed t
    → (counted i p st >>= unless_repeat p (on_tables (λ x. at_place i (read x)))) ≡ passed (with_tables t st1)
unfolding on_tables ◌>>=◌
section_taken rooms i p st st1 t read new e f =
    sym (go_on st1 _ e (sym (not_repeated p (on_tables (λ x. at_place i (read x))) st1 (none_repeats _ st1.tables.records new) ∙ rw f)))

-- the packets of PAT, PMT and PCR, with this counter
abbrev pub pat_is : Channel → ℕ → Bytes
pat_is c n = section_packet 0 n (pat c.program c.map_pid)

abbrev pub pmt_is : Channel → Bytes → ℕ → Bytes
pmt_is c d n = section_packet c.map_pid n (pmt c.program c.av1_pid d)

abbrev pub pcr_is : Channel → ℕ → Ticks27 → Bytes
pcr_is c n t = pcr_packet c.av1_pid n t

module _ (c : Channel) (d : Bytes) (rooms : Rooms) (i : ℕ) where
  -- ---- the PAT
  module _ (some-program : c.program ≡ 0 → ⊥) (low : 0x0010 ≤ c.map_pid) (high : c.map_pid ≤ 0x1FFE) (n : ℕ) (hn : n < 16) where
    abbrev rest : Bytes
    rest = pat_rest c.program c.map_pid

    pub pat_reads : Reads (pat_is c n) 0 true n false
    pat_reads = section_reads 0 n 0 0 rest (omega arith) hn (omega arith)

    pat_has : has_payload (pat_is c n) ≡ true
    pat_has = section_carries 0 n 0 0 rest (omega arith) hn (omega arith)

    pat_said : (s : Bool) (w : Bytes) → misplaced s w ≡ false → section_of w ≡ pat c.program c.map_pid
        → (t : Tables) → t.pat ≡ None → t.pmt ≡ None → t.records ≡ seen 0 (laid 0 (pat_is c n)) ∷ [] → t.pcr ≡ None
        → at_place 0 (section_read current Pat 0 s w t) ≡ passed (after_pat c d (laid 0 (pat_is c n)))
    unfolding section_read pat_section at_place given pick ◌>>◌ ◌>>=◌
    pat_said s w m e t ep em er ec = rw (ep, m, e, pat_read c.program c.map_pid some-program low high, em, er, ec)

    -- the first of a segment, which has index 0
    pub pat_first : packet_rules current rooms 0 (pat_is c n) Pat fresh
        ≡ passed (record { tables = after_pat c d (laid 0 (pat_is c n)); extraction = fresh.extraction })
    pat_first =
        pat_packet current rooms 0 (pat_is c n) fresh _ pat_reads.passes pat_has
        ∙ section_taken rooms 0 (pat_is c n) fresh _ (after_pat c d (laid 0 (pat_is c n)))
        (section_read current Pat 0 (payload_unit_start_indicator (pat_is c n)) (payload (pat_is c n))) (refl, tt)
        (counted_by 0 (pat_is c n) fresh (seen 0 (laid 0 (pat_is c n)) ∷ []) None
        (checked_first 0 (named 0) _ [] (pat_is c n) (sym pat_reads.pid) (first_check 0 0 (pat_is c n)))
        (still (pat_is c n) None None pat_reads.clock))
        (pat_said (payload_unit_start_indicator (pat_is c n)) (payload (pat_is c n))
        (section_placed 0 n 0 0 rest (omega arith) hn (omega arith))
        (section_found 0 n 0 0 rest (omega arith) hn (omega arith)) _ refl refl refl refl)

    pat_same : (s : Bool) (w : Bytes) → misplaced s w ≡ false → section_of w ≡ pat c.program c.map_pid → (t : Tables)
        → t.pat ≡ Some (first_pat c d)
        → at_place i (section_read current Pat i s w t) ≡ passed t
    unfolding section_read pat_section later_section at_place given pick ◌>>◌ ◌>>=◌
    pat_same s w m e t ep = rw (ep, m, e, same_self (pat c.program c.map_pid))

    -- after another send's
    pub pat_again : (a b l : Laid) (t : Ticks27) (x : Extraction) → counter_after (continuity_counter a.bytes) 1 ≡ n
        → packet_rules current rooms i (pat_is c n) Pat (record { tables = in_tables c d a b l t; extraction = x })
        ≡ passed (record { tables = in_tables c d (laid i (pat_is c n)) b l t; extraction = x })
    pat_again a b l t x e =
        let st : State = record { tables = in_tables c d a b l t; extraction = x } in
        let r = pat_reads in
        pat_packet current rooms i (pat_is c n) st _ r.passes pat_has
        ∙ section_taken rooms i (pat_is c n) st _ (in_tables c d (laid i (pat_is c n)) b l t)
        (section_read current Pat i (payload_unit_start_indicator (pat_is c n)) (payload (pat_is c n))) (refl, (refl, (refl, tt)))
        (counted_by i (pat_is c n) st _ (Some t)
        (checked_first i (seen 0 a) _ _ (pat_is c n) (sym r.pid)
        (next_check i 0 a (pat_is c n) r.steady
        (r.counter ∙ sym e ∙ due_next (continuity_counter a.bytes) (has_payload (pat_is c n)) pat_has)))
        (still (pat_is c n) (Some (first_pmt c d)) (Some t) r.clock))
        (pat_same (payload_unit_start_indicator (pat_is c n)) (payload (pat_is c n))
        (section_placed 0 n 0 0 rest (omega arith) hn (omega arith))
        (section_found 0 n 0 0 rest (omega arith) hn (omega arith)) _ refl)

  -- ---- the PMT
  module _ (p0 : c.av1_pid ≡ 0 → ⊥) (high : c.av1_pid ≤ 0x1FFE) (p2 : c.av1_pid ≡ c.map_pid → ⊥) (fine : wrong d ≡ false)
      (low : 0x0010 ≤ c.map_pid) (hm : c.map_pid ≤ 0x1FFE) (n : ℕ) (hn : n < 16) where
    abbrev rests : Bytes
    rests = pmt_rest c.av1_pid d

    short : length rests ≤ 171
    short = omega (arith, video_length d fine)

    pub pmt_reads : Reads (pmt_is c d n) c.map_pid true n false
    pmt_reads = section_reads c.map_pid n 2 c.program rests (omega arith) hn short

    pmt_has : has_payload (pmt_is c d n) ≡ true
    pmt_has = section_carries c.map_pid n 2 c.program rests (omega arith) hn short

    not_zero_lem : 0 ≡ packet.pid (pmt_is c d n) → ⊥
    not_zero_lem e = omega (arith, pmt_reads.pid)

    pmt_said : (s : Bool) (w : Bytes) → misplaced s w ≡ false → section_of w ≡ pmt c.program c.av1_pid d
        → (a : Laid) (t : Tables) → t.pat ≡ Some (first_pat c d) → t.pmt ≡ None
        → t.records ≡ seen 0 a ∷ seen c.map_pid (laid 1 (pmt_is c d n)) ∷ [] → t.pcr ≡ None
        → at_place 1 (section_read current Map 1 s w t) ≡ passed (after_pmt c d a (laid 1 (pmt_is c d n)))
    unfolding section_read pmt_section at_place given pick ◌>>◌ ◌>>=◌
    pmt_said s w m e a t ep em er ec = rw (ep, em, m, e, pmt_read c.program c.map_pid c.av1_pid d p0 high p2 fine, er, ec)

    -- the second of a segment
    pub pmt_first : (a : Laid) (x : Extraction)
        → packet_rules current rooms 1 (pmt_is c d n) Map (record { tables = after_pat c d a; extraction = x })
        ≡ passed (record { tables = after_pmt c d a (laid 1 (pmt_is c d n)); extraction = x })
    pmt_first a x =
        let st : State = record { tables = after_pat c d a; extraction = x } in
        let r = pmt_reads in
        map_packet current rooms 1 (pmt_is c d n) st _ r.passes pmt_has
        ∙ section_taken rooms 1 (pmt_is c d n) st _ (after_pmt c d a (laid 1 (pmt_is c d n)))
        (section_read current Map 1 (payload_unit_start_indicator (pmt_is c d n)) (payload (pmt_is c d n))) (refl, (refl, tt))
        (counted_by 1 (pmt_is c d n) st _ None
        (checked_later 1 (seen 0 a) (seen 0 a) _ (pmt_is c d n) _ not_zero_lem
        (checked_first 1 (named c.map_pid) _ [] (pmt_is c d n) (sym r.pid) (first_check 1 c.map_pid (pmt_is c d n))))
        (still (pmt_is c d n) None None r.clock))
        (pmt_said (payload_unit_start_indicator (pmt_is c d n)) (payload (pmt_is c d n))
        (section_placed c.map_pid n 2 c.program rests (omega arith) hn short)
        (section_found c.map_pid n 2 c.program rests (omega arith) hn short) a _ refl refl refl refl)

    pmt_same : (s : Bool) (w : Bytes) → misplaced s w ≡ false → section_of w ≡ pmt c.program c.av1_pid d → (t : Tables)
        → t.pat ≡ Some (first_pat c d) → t.pmt ≡ Some (first_pmt c d) → at_place i (section_read current Map i s w t) ≡ passed t
    unfolding section_read pmt_section later_section at_place given pick ◌>>◌ ◌>>=◌
    pmt_same s w m e t ep em = rw (ep, em, m, e, same_self (pmt c.program c.av1_pid d))

    pub pmt_again : (a b l : Laid) (t : Ticks27) (x : Extraction) → counter_after (continuity_counter b.bytes) 1 ≡ n
        → packet_rules current rooms i (pmt_is c d n) Map (record { tables = in_tables c d a b l t; extraction = x })
        ≡ passed (record { tables = in_tables c d a (laid i (pmt_is c d n)) l t; extraction = x })
    pmt_again a b l t x e =
        let st : State = record { tables = in_tables c d a b l t; extraction = x } in
        let r = pmt_reads in
        map_packet current rooms i (pmt_is c d n) st _ r.passes pmt_has
        ∙ section_taken rooms i (pmt_is c d n) st _ (in_tables c d a (laid i (pmt_is c d n)) l t)
        (section_read current Map i (payload_unit_start_indicator (pmt_is c d n)) (payload (pmt_is c d n))) (refl, (refl, (refl, tt)))
        (counted_by i (pmt_is c d n) st _ (Some t)
        (checked_later i (seen 0 a) (seen 0 a) _ (pmt_is c d n) _ not_zero_lem
        (checked_first i (seen c.map_pid b) _ _ (pmt_is c d n) (sym r.pid)
        (next_check i c.map_pid b (pmt_is c d n) r.steady
        (r.counter ∙ sym e ∙ due_next (continuity_counter b.bytes) (has_payload (pmt_is c d n)) pmt_has))))
        (still (pmt_is c d n) (Some (first_pmt c d)) (Some t) r.clock))
        (pmt_same (payload_unit_start_indicator (pmt_is c d n)) (payload (pmt_is c d n))
        (section_placed c.map_pid n 2 c.program rests (omega arith) hn short)
        (section_found c.map_pid n 2 c.program rests (omega arith) hn short) _ refl refl)

  -- ---- the PCR
  module _ (p0 : c.av1_pid ≡ 0 → ⊥) (high : c.av1_pid ≤ 0x1FFE) (p2 : c.av1_pid ≡ c.map_pid
      → ⊥) (n : ℕ) (hn : n < 16) (t : Ticks27) where
    pub clock_reads : Reads (pcr_is c n t) c.av1_pid false n true
    clock_reads = pcr_reads c.av1_pid n t (omega arith) hn

    clock_empty : has_payload (pcr_is c n t) ≡ false
    clock_empty = pcr_empty c.av1_pid n t (omega arith) hn

    not_null : c.av1_pid ≡ null_pid → ⊥
    not_null e = omega arith

    -- it counts
    counts : (earlier : Option Ticks27) → last_pcr earlier (counting_pcr (Some (first_pmt c d)) (pcr_is c n t)) ≡ Some t
    unfolding counting_pcr
    counts earlier =
        ap (last_pcr earlier)
        (sym (by_true _ (eq-eqb (packet.pid (pcr_is c n t)) c.av1_pid clock_reads.pid)
        (sym (pcr_is_lem c.av1_pid n t (omega arith) hn not_null))))

    -- it is neither on PID 0 nor on the map PID
    not_first : 0 ≡ packet.pid (pcr_is c n t) → ⊥
    not_first e = p0 (sym clock_reads.pid ∙ sym e)

    not_map : c.map_pid ≡ packet.pid (pcr_is c n t) → ⊥
    not_map e = p2 (sym clock_reads.pid ∙ sym e)

    pub pcr_first : (a b : Laid) (x : Extraction)
        → packet_rules current rooms i (pcr_is c n t) Av1 (record { tables = after_pmt c d a b; extraction = x })
        ≡ passed (record { tables = in_tables c d a b (laid i (pcr_is c n t)) t; extraction = x })
    pcr_first a b x =
        let st : State = record { tables = after_pmt c d a b; extraction = x } in
        let r = clock_reads in
        av1_empty current rooms i (pcr_is c n t) st _ r.passes clock_empty
        ∙ counted_by i (pcr_is c n t) st _ (Some t)
        (checked_later i (seen 0 a) (seen 0 a) _ (pcr_is c n t) _ not_first
        (checked_later i (seen c.map_pid b) (seen c.map_pid b) _ (pcr_is c n t) _ not_map
        (checked_first i (named c.av1_pid) _ [] (pcr_is c n t) (sym r.pid) (first_check i c.av1_pid (pcr_is c n t)))))
        (counts None)

    pub pcr_again : (a b l : Laid) (earlier : Ticks27) (x : Extraction) → continuity_counter l.bytes ≡ n
        → packet_rules current rooms i (pcr_is c n t) Av1 (record { tables = in_tables c d a b l earlier; extraction = x })
        ≡ passed (record { tables = in_tables c d a b (laid i (pcr_is c n t)) t; extraction = x })
    pcr_again a b l earlier x e =
        let st : State = record { tables = in_tables c d a b l earlier; extraction = x } in
        let r = clock_reads in
        av1_empty current rooms i (pcr_is c n t) st _ r.passes clock_empty
        ∙ counted_by i (pcr_is c n t) st _ (Some t)
        (checked_later i (seen 0 a) (seen 0 a) _ (pcr_is c n t) _ not_first
        (checked_later i (seen c.map_pid b) (seen c.map_pid b) _ (pcr_is c n t) _ not_map
        (checked_first i (seen c.av1_pid l) _ [] (pcr_is c n t) (sym r.pid)
        (next_check i c.av1_pid l (pcr_is c n t) r.steady
        (r.counter ∙ sym e ∙ due_same (continuity_counter l.bytes) (has_payload (pcr_is c n t)) clock_empty)))))
        (counts (Some earlier))
