-- The packets of one send in turn, as the first of a segment and after another send's, and what the check then answers. Assumes nothing.
use Rattle.std.specs.Prelude.{Option, Some, None}
use Prim.Native.Nat.{ℕ, ◌+◌, ◌*◌, ◌≤◌, ◌<◌}
use mathlib.Core.Bool.{Bool, true, false, ◌||◌, true≢false}
use mathlib.Core.Path.{◌≡◌, refl, sym, ap, ap₂, ◌∙◌}
use mathlib.Core.List.{List, [], ◌∷◌, ◌++◌, flatten, append-nil, append_assoc}
use native.Mathlib.Omega.{arith}
use borrow.Author.Tests.{ltb-false, leb-false, eqb-false}
use lib.Dec.{eqb, ltb}
use lib.ListN.{length, length-append}
use Rattle.lists.specs.Lists.{Bytes, any, pick}
use Rattle.lists.proofs.Tests.{or_neither}
use Rattle.refusal.specs.Verdict.{Verdict, passed, refused, ◌>>=◌}
use Rattle.refusal.proofs.Verdicts.{All, none_holds, passed_same}
use Rattle.descriptor.specs.Descriptor.{wrong}
use Rattle.descriptor.specs.Edition.{current}
use Rattle.ticks.specs.declared.Ticks27.{Ticks27}
use Rattle.packet.specs.Header as packet
use Rattle.packet.specs.Header.{continuity_counter}
use Rattle.packet.specs.Writing.{counter_after, counter_before}
use Rattle.packet.proofs.Packets.{Whole}
use Rattle.packet.proofs.Writing.{Reads}
use Rattle.packet.proofs.WritingClocks.{length_pcr}
use Rattle.psi.specs.Writing.{pat_rest, pat}
use Rattle.psi.proofs.Writing.{length_section}
use Rattle.pmt.specs.Writing.{pmt_rest, pmt, map_for}
use Rattle.pmt.proofs.Writing.{video_length}
use Rattle.unit.specs.Unit.{read_unit}
use Rattle.queue.specs.Queue.{TimedUnit, queued_bytes, unit_wrong, unacceptable, is_refused, time_past}
use Rattle.segment_rules.specs.State.{Tables, OpenPes, AccessUnit, Extraction, Pat, Map, Av1, fresh, counting, kind_of}
use Rattle.segment_rules.specs.Rules.{Rooms, close_pes, close_if_open, carried_units}
use Rattle.segment_rules.specs.Check.{Progress, start, run, ending, accepted}
use Rattle.segment_rules.proofs.Running.{run_append}
use Rattle.mux_rules.specs.declared.Channel.{Channel}
use Rattle.mux_rules.specs.Packets.{packets_for, unit_packets, units_packets, segment_packets, packets_for_units}
use Rattle.mux_rules.specs.Sending.{map_pid_wrong, av1_pid_wrong, program_wrong, counters_wrong, pcr_wrong, channel_wrong}
use Rattle.mux_rules.specs.Claim.{access_units}
use Rattle.mux_rules.proofs.Counts.{section_whole, units_whole}
use Rattle.mux_rules.proofs.States.{Laid, laid, first_pat, first_pmt, after_pat, after_pmt, in_tables, kind_map, kind_av1, step_by}
use Rattle.mux_rules.proofs.States.{run_next, totals_at}
use Rattle.mux_rules.proofs.Tabling.{pat_reads, pmt_reads, clock_reads, pat_first, pmt_first, pcr_first, pat_again, pmt_again}
use Rattle.mux_rules.proofs.Tabling.{pcr_again, pat_is, pmt_is, pcr_is}
use Rattle.mux_rules.proofs.Units.{extracted, going, open_for, unit_at, unit_run, unit_closes}

-- ---- a unit that could be added
pub record Right (u : TimedUnit) : Type 0 where
  pub obus : List Bytes
  pub read : read_unit u.carried ≡ passed obus
  pub pts : u.pts.0 < 8589934592
  pub dts : u.dts.0 < 8589934592

not_refused : {A : Type 0} (v : Verdict A) → is_refused v ≡ false → (a : A) × (v ≡ passed a)
unfolding is_refused
not_refused (passed a) e = (a, refl)
not_refused (refused number place) e = absurd (true≢false e)

pub right : (u : TimedUnit) → unit_wrong u ≡ false → Right u
unfolding unacceptable
right u e =
    let a = or_neither (is_refused (read_unit u.carried)) (time_past u.pts || time_past u.dts) e in
    let b = or_neither (time_past u.pts) (time_past u.dts) a.1 in
    let r = not_refused (read_unit u.carried) a.0 in
    record { obus = r.0; read = r.1; pts = leb-false 8589934592 u.pts.0 b.0; dts = leb-false 8589934592 u.dts.0 b.1 }

-- ---- 52 does not apply: what the caller says is allowed
pub record Allowed (c : Channel) (d : Bytes) : Type 0 where
  pub fine : wrong d ≡ false
  pub map_low : 0x0010 ≤ c.map_pid
  pub map_high : c.map_pid ≤ 0x1FFE
  pub pid_some : c.av1_pid ≡ 0 → ⊥
  pub pid_high : c.av1_pid ≤ 0x1FFE
  pub pid_other : c.av1_pid ≡ c.map_pid → ⊥
  pub program_some : c.program ≡ 0 → ⊥
  pub program_high : c.program ≤ 0xFFFF
  pub pat_low : c.pat_counter < 16
  pub map_counter : c.map_counter < 16
  pub av1_low : c.av1_counter < 16
  pub pcr_low : c.pcr.0 < 2576980377600

pub allowed : (c : Channel) (d : Bytes) → channel_wrong c d ≡ false → Allowed c d
unfolding channel_wrong
allowed c d e =
    let h = none_holds (λ (b : Bool). b) (wrong d ∷ map_pid_wrong c ∷ av1_pid_wrong c ∷ program_wrong c ∷ counters_wrong c ∷ pcr_wrong c ∷
    []) e in
    let m = none_holds (λ (b : Bool). b) (ltb c.map_pid 0x0010 ∷ ltb 0x1FFE c.map_pid ∷ []) h.1.0 in
    let p = none_holds (λ (b : Bool). b) (eqb c.av1_pid 0 ∷ ltb 0x1FFE c.av1_pid ∷ eqb c.av1_pid c.map_pid ∷ [])
    h.1.1.0 in
    let g = none_holds (λ (b : Bool). b) (eqb c.program 0 ∷ ltb 0xFFFF c.program ∷ []) h.1.1.1.0 in
    let k = none_holds (ltb 15) (c.pat_counter ∷ c.map_counter ∷ c.av1_counter ∷ []) h.1.1.1.1.0 in
    let k0 = ltb-false 15 c.pat_counter k.0 in
    let k1 = ltb-false 15 c.map_counter k.1.0 in
    let k2 = ltb-false 15 c.av1_counter k.1.1.0 in
    record {
      fine = h.0;
      map_low = ltb-false c.map_pid 0x0010 m.0;
      map_high = ltb-false 0x1FFE c.map_pid m.1.0;
      pid_some = eqb-false c.av1_pid 0 p.0;
      pid_high = ltb-false 0x1FFE c.av1_pid p.1.0;
      pid_other = eqb-false c.av1_pid c.map_pid p.1.1.0;
      program_some = eqb-false c.program 0 g.0;
      program_high = ltb-false 0xFFFF c.program g.1.0;
      pat_low = omega arith;
      map_counter = omega arith;
      av1_low = omega arith;
      pcr_low = leb-false 2576980377600 c.pcr.0 h.1.1.1.1.1.0;
    }

-- each packet has 188 bytes
pub each_whole : (c : Channel) (d : Bytes) → wrong d ≡ false → (us : List TimedUnit) → All Whole (segment_packets c d us)
unfolding segment_packets
each_whole c d fine us =
    let l = video_length d fine in
    let a = length_section 0 0 (pat_rest c.program c.map_pid) (omega arith) in
    let b = length_section 2 c.program (pmt_rest c.av1_pid d) (omega arith) in (
      section_whole 0 c.pat_counter (pat c.program c.map_pid) (omega arith),
      (
        section_whole c.map_pid c.map_counter (pmt c.program c.av1_pid d) (omega arith),
        (length_pcr c.av1_pid (counter_before c.av1_counter) c.pcr, units_whole c.av1_pid c.av1_counter us),
      ),
    )

-- ---- the units in turn
carried_more : (units : List AccessUnit) (x : AccessUnit)
    → length (carried_units (units ++ (x ∷ []))) ≡ length (carried_units units) + length x.carried
unfolding flatten
carried_more [] x = omega (arith, ap length (append-nil x.carried))
carried_more (y ∷ units) x =
    omega (
      arith,
      carried_more units x,
      length-append y.carried (carried_units (units ++ (x ∷ []))),
      length-append y.carried
          (carried_units units),
    )

-- of a caller's program and PIDs
module _ (c : Channel) (d : Bytes) (ok : Allowed c d) (rooms : Rooms) where
  -- where a run comes to: the last packets of the three PIDs have these counters, and when the open PES has closed, these are the units
  pub record Reaches (v : Verdict Progress) (ka kb kl : ℕ) (units : List AccessUnit) (s n : ℕ) : Type 0 where
    pub a : Laid
    pub b : Laid
    pub last : Laid
    pub t : Ticks27
    pub now : Option OpenPes
    pub before : List AccessUnit
    pub pat_counter : continuity_counter a.bytes ≡ ka
    pub map_counter : continuity_counter b.bytes ≡ kb
    pub av1_counter : continuity_counter last.bytes ≡ kl
    pub closes : close_pes (extracted now before) ≡ passed (extracted None units)
    pub is : v ≡ passed (going c d rooms ok.pid_some ok.pid_high ok.pid_other a b t last now before s n)

  -- where it is
  abbrev pub reached : {v : Verdict Progress} {ka kb kl s n : ℕ} {units : List AccessUnit} → Reaches v ka kb kl units s n → Progress
  reached {s = s} {n = n} r =
      going c d rooms ok.pid_some ok.pid_high ok.pid_other r.a r.b r.t r.last r.now r.before s n

  -- the same by other names
  pub renamed : {v v' : Verdict Progress} {ka kb kl kl' s n n' : ℕ} {units units' : List AccessUnit} → Reaches v ka kb kl units s n → v' ≡ v
      → kl ≡ kl'
      → units ≡ units' → n ≡ n' → Reaches v' ka kb kl' units' s n'
  renamed {s = s} r ev ek eu en =
      let k = ok in
      record {
        a = r.a;
        b = r.b;
        last = r.last;
        t = r.t;
        now = r.now;
        before = r.before;
        pat_counter = r.pat_counter;
        map_counter = r.map_counter;
        av1_counter = r.av1_counter ∙ ek;
        closes = r.closes ∙ ap (λ (x : List AccessUnit). passed (extracted None x)) eu;
        is =
            ev ∙ r.is
            ∙ ap (λ (x : ℕ). passed
            (going c d rooms k.pid_some k.pid_high k.pid_other r.a r.b r.t r.last r.now r.before s x)) en;
      }

  abbrev pub Fits : List AccessUnit → List TimedUnit → Type 0
  Fits units us =
      (length units + length us ≤ 1024) × (length (carried_units units) + length (queued_bytes us) ≤ rooms.bytes)
      × (length units + length us ≤ rooms.lens)
      × (2 * (length units + length us) ≤ rooms.times)

  pub units_run : (us : List TimedUnit) (g : Progress) (ka kb kl : ℕ) (units : List AccessUnit) (s n : ℕ)
      → Reaches (passed g) ka kb kl units s n → kl < 16
      → any unit_wrong us ≡ false → Fits units us
      → Reaches (run current rooms g (units_packets c.av1_pid (counter_after kl 1) us)) ka kb (counter_after kl (packets_for_units us))
      (units ++ access_units (s + n) us) s (n + packets_for_units us)
  unfolding units_packets run access_units packets_for_units any flatten ◌>>=◌
  units_run [] g ka kb kl units s n r hk w fits = renamed r refl (omega arith) (sym (append-nil units)) (omega arith)
  units_run (u ∷ us) g ka kb kl units s n r hk w fits =
      let k = packets_for u in
      let one_pid = c.av1_pid in
      let both = or_neither (unit_wrong u) (any unit_wrong us) w in
      let fine = right u both.0 in
      let f0 = fits.0 in
      let f1 = fits.1 in
      let f2 = fits.2 in
      let f3 = fits.3 in
      let lq = length-append u.carried (queued_bytes us) in
      let lu = length-append units (unit_at (s + n) u ∷ []) in
      let lc = carried_more units (unit_at (s + n) u) in
      let one =
      unit_run c d rooms ok.pid_some ok.pid_high ok.pid_other r.a r.b r.t units s u r.last kl n r.now r.before
      fine.pts
      fine.dts r.av1_counter hk r.closes (omega arith) (omega arith) (omega arith) (omega arith) in
      let then =
      going c d rooms ok.pid_some ok.pid_high ok.pid_other r.a r.b r.t one.last
      (Some (open_for (s + n) u u.carried)) units s (n + k) in
      let there : Reaches (passed then) ka kb (counter_after kl k) (units ++ (unit_at (s + n) u ∷ [])) s (n + k) =
      record {
        a = r.a;
        b = r.b;
        last = one.last;
        t = r.t;
        now = Some (open_for (s + n) u u.carried);
        before = units;
        pat_counter = r.pat_counter;
        map_counter = r.map_counter;
        av1_counter = one.counter;
        closes = unit_closes (s + n) u units fine.obus fine.read;
        is = refl;
      } in
      let rest = units_run us then ka kb (counter_after kl k) (units ++ (unit_at (s + n) u ∷ [])) s (n + k) there (omega arith) both.1
      (omega arith, omega arith, omega arith, omega arith) in
      let ek : counter_after (counter_after kl 1) k ≡ counter_after (counter_after kl k) 1 = omega arith in
      let ei : s + (n + k) ≡ s + n + k = omega arith in
      renamed rest
      (run_append current rooms g (unit_packets one_pid (counter_after kl 1) u)
      (units_packets one_pid (counter_after (counter_after kl 1) k) us)
      ∙ ap (λ (v : Verdict Progress). v >>= λ g'. run current rooms g' (units_packets one_pid (counter_after (counter_after kl 1) k) us))
      (ap (λ (x : Progress). run current rooms x (unit_packets one_pid (counter_after kl 1) u)) (passed_same g _ r.is) ∙ one.is)
      ∙ ap (λ (m : ℕ). run current rooms then (units_packets one_pid m us)) ek)
      (omega arith)
      (append_assoc units (unit_at (s + n) u ∷ []) (access_units (s + (n + k)) us)
      ∙ ap (λ (m : ℕ). units ++ (unit_at (s + n) u ∷ access_units m us)) ei)
      (omega arith)

  -- ---- PAT, PMT and PCR
  abbrev after : Laid → Laid → Ticks27 → Laid → Option OpenPes → List AccessUnit → ℕ → ℕ → Progress
  after = going c d rooms ok.pid_some ok.pid_high ok.pid_other

  module _ (na nb nl : ℕ) (ha : na < 16) (hb : nb < 16) (hl : nl < 16) (t : Ticks27) where
    -- with these counters
    abbrev p1 : Bytes
    p1 = pat_is c na

    abbrev p2 : Bytes
    p2 = pmt_is c d nb

    abbrev p3 : Bytes
    p3 = pcr_is c nl t

    pat_read : Reads p1 0 true na false
    pat_read = pat_reads c d rooms 0 ok.program_some ok.map_low ok.map_high na ha

    pmt_read : Reads p2 c.map_pid true nb false
    pmt_read = pmt_reads c d rooms 0 ok.pid_some ok.pid_high ok.pid_other ok.fine ok.map_low ok.map_high nb hb

    pcr_read : Reads p3 c.av1_pid false nl true
    pcr_read = clock_reads c d rooms 0 ok.pid_some ok.pid_high ok.pid_other nl hl t

    of_pat : (x : Tables) → kind_of x (packet.pid p1) ≡ Pat
    unfolding kind_of pick
    of_pat x = ap (kind_of x) pat_read.pid

    of_map : (x : Tables) → x.pat ≡ Some (first_pat c d) → kind_of x (packet.pid p2) ≡ Map
    of_map x e = ap (kind_of x) pmt_read.pid ∙ kind_map c d ok.map_low ok.map_high x e

    of_av1 : (x : Tables) → x.pat ≡ Some (first_pat c d) → x.pmt ≡ Some (first_pmt c d) → kind_of x (packet.pid p3) ≡ Av1
    of_av1 x e f = ap (kind_of x) pcr_read.pid ∙ kind_av1 c d ok.pid_some ok.pid_high ok.pid_other x e f

    -- as the first of a segment: before the second and before the third
    abbrev second : Progress
    second =
        record { index = 1; state = record { tables = after_pat c d (laid 0 p1); extraction = extracted None [] }; totals = totals_at 1 0 }

    abbrev third : Progress
    third =
        record {
          index = 2;
          state = record { tables = after_pmt c d (laid 0 p1) (laid 1 p2); extraction = extracted None [] };
          totals = totals_at 2 0;
        }

    pub first_three : (ps : List Bytes)
        → run current rooms start (p1 ∷ p2 ∷ p3 ∷ ps) ≡ run current rooms (after (laid 0 p1) (laid 1 p2) t (laid 2 p3) None [] 2 1) ps
    unfolding counting
    first_three ps =
        run_next rooms start _ p1 _ _
        (step_by rooms start _ p1 Pat (of_pat fresh.tables)
        (pat_first c d rooms 0 ok.program_some ok.map_low ok.map_high na ha))
        (run_next rooms second _ p2 _ _
        (step_by rooms second _ p2 Map (of_map (after_pat c d (laid 0 p1)) refl)
        (pmt_first c d rooms 1 ok.pid_some ok.pid_high ok.pid_other ok.fine ok.map_low ok.map_high nb hb (laid 0 p1)
        (extracted None [])))
        (run_next rooms third _ p3 _ _
        (step_by rooms third _ p3 Av1 (of_av1 (after_pmt c d (laid 0 p1) (laid 1 p2)) refl refl)
        (pcr_first c d rooms 2 ok.pid_some ok.pid_high ok.pid_other nl hl t (laid 0 p1) (laid 1 p2) (extracted None [])))
        refl))

    -- after another send's
    module _ (a b l : Laid) (earlier : Ticks27) (now : Option OpenPes) (before : List AccessUnit) (s n : ℕ)
        (ea : counter_after (continuity_counter a.bytes) 1 ≡ na)
        (eb : counter_after (continuity_counter b.bytes) 1 ≡ nb) (el : continuity_counter l.bytes ≡ nl) where
      abbrev x : Extraction
      x = extracted now before

      abbrev q1 : Laid
      q1 = laid (s + n) p1

      abbrev q2 : Laid
      q2 = laid (s + n + 1) p2

      abbrev q3 : Laid
      q3 = laid (s + n + 1 + 1) p3

      abbrev g0 : Progress
      g0 = after a b earlier l now before s n

      abbrev g1 : Progress
      g1 =
          record {
            index = s + n + 1;
            state = record { tables = in_tables c d q1 b l earlier; extraction = x };
            totals = totals_at (s + 1) n;
          }

      abbrev g2 : Progress
      g2 =
          record {
            index = s + n + 1 + 1;
            state = record { tables = in_tables c d q1 q2 l earlier; extraction = x };
            totals = totals_at (s + 1 + 1) n;
          }

      abbrev g3 : ℕ → ℕ → Progress
      g3 i k =
          record {
            index = i;
            state = record { tables = in_tables c d q1 q2 q3 t; extraction = x };
            totals = totals_at k (n + 1);
          }

      pub again_three : (ps : List Bytes)
          → run current rooms g0 (p1 ∷ p2 ∷ p3 ∷ ps) ≡ run current rooms (after q1 q2 t q3 now before (s + 2) (n + 1)) ps
      unfolding counting
      again_three ps =
          let i : s + n + 1 + 1 + 1 ≡ s + 2 + (n + 1) = omega arith in
          let k : s + 1 + 1 ≡ s + 2 = omega arith in
          run_next rooms g0 g1 p1 _ _
          (step_by rooms g0 _ p1 Pat (of_pat g0.state.tables)
          (pat_again c d rooms (s + n) ok.program_some ok.map_low ok.map_high na ha a b l earlier x ea))
          (run_next rooms g1 g2 p2 _ _
          (step_by rooms g1 _ p2 Map (of_map g1.state.tables refl)
          (pmt_again c d rooms (s + n + 1) ok.pid_some ok.pid_high ok.pid_other ok.fine ok.map_low
          ok.map_high nb hb q1 b l earlier x eb))
          (run_next rooms g2 (g3 (s + n + 1 + 1 + 1) (s + 1 + 1)) p3 _ _
          (step_by rooms g2 _ p3 Av1 (of_av1 g2.state.tables refl refl)
          (pcr_again c d rooms (s + n + 1 + 1) ok.pid_some ok.pid_high ok.pid_other nl hl t q1 q2 l earlier x el))
          (ap₂ (λ (y z : ℕ). run current rooms (g3 y z) ps) i k)))

  -- ---- the end
  pub ends : {v : Verdict Progress} {ka kb kl s n : ℕ} {units : List AccessUnit} → Reaches v ka kb kl units s n
      → (v >>= ending) ≡ passed (record { program = c.program; map = map_for c.av1_pid d; units = units; totals = totals_at s n })
  unfolding ending accepted ◌>>=◌
  ends r = rw (r.is, r.closes)

  -- ---- a send's packets
  -- of this caller's program and PIDs, with these counters and this PCR
  abbrev pub channel_with : ℕ → ℕ → ℕ → Ticks27 → Channel
  channel_with na nb nl t =
      record {
        program = c.program;
        map_pid = c.map_pid;
        av1_pid = c.av1_pid;
        pcr = t;
        pat_counter = na;
        map_counter = nb;
        av1_counter = nl;
      }

  module _ (na nb nl : ℕ) (ha : na < 16) (hb : nb < 16) (hl : nl < 16) (t : Ticks27) (us : List TimedUnit) (w : any unit_wrong us
      ≡ false) where
    before_then : counter_after (counter_before nl) 1 ≡ nl
    before_then = omega arith

    -- as the first of a segment
    pub send_first : Fits [] us
        → Reaches (run current rooms start (segment_packets (channel_with na nb nl t) d us)) na nb
        (counter_after (counter_before nl) (packets_for_units us))
        (access_units 3 us) 2 (1 + packets_for_units us)
    unfolding segment_packets close_if_open
    send_first fits =
        let g = after (laid 0 (pat_is c na)) (laid 1 (pmt_is c d nb)) t (laid 2 (pcr_is c (counter_before nl) t)) None [] 2 1 in
        renamed
        (units_run us g na nb (counter_before nl) [] 2 1
        (record {
          a = laid 0 (pat_is c na);
          b = laid 1 (pmt_is c d nb);
          last = laid 2 (pcr_is c (counter_before nl) t);
          t = t;
          now = None;
          before = [];
          pat_counter = (pat_read na nb (counter_before nl) ha hb (omega arith) t).counter;
          map_counter = (pmt_read na nb (counter_before nl) ha hb (omega arith) t).counter;
          av1_counter = (pcr_read na nb (counter_before nl) ha hb (omega arith) t).counter;
          closes = refl;
          is = refl;
        })
        (omega arith) w fits)
        (first_three na nb (counter_before nl) ha hb (omega arith) t (units_packets c.av1_pid nl us)
        ∙ ap (λ (k : ℕ). run current rooms g (units_packets c.av1_pid k us)) (sym before_then))
        refl refl refl

    -- after another send's, whose counters they continue
    pub send_again : (g : Progress) (ka kb kl : ℕ) (units : List AccessUnit) (s n : ℕ) → Reaches (passed g) ka kb kl units s n
        → counter_after ka 1 ≡ na
        → counter_after kb 1 ≡ nb → kl ≡ counter_before nl → Fits units us
        → Reaches (run current rooms g (segment_packets (channel_with na nb nl t) d us)) na nb
        (counter_after (counter_before nl) (packets_for_units us))
        (units ++ access_units (s + 2 + (n + 1)) us) (s + 2) (n + 1 + packets_for_units us)
    unfolding segment_packets
    send_again g ka kb kl units s n r ea eb el fits =
        let p1 = pat_is c na in
        let p2 = pmt_is c d nb in
        let p3 = pcr_is c (counter_before nl) t in
        let q1 = laid (s + n) p1 in
        let q2 = laid (s + n + 1) p2 in
        let q3 = laid (s + n + 1 + 1) p3 in
        let g3 = after q1 q2 t q3 r.now r.before (s + 2) (n + 1) in
        renamed
        (units_run us g3 na nb (counter_before nl) units (s + 2) (n + 1)
        (record {
          a = q1;
          b = q2;
          last = q3;
          t = t;
          now = r.now;
          before = r.before;
          pat_counter = (pat_read na nb (counter_before nl) ha hb (omega arith) t).counter;
          map_counter = (pmt_read na nb (counter_before nl) ha hb (omega arith) t).counter;
          av1_counter = (pcr_read na nb (counter_before nl) ha hb (omega arith) t).counter;
          closes = r.closes;
          is = refl;
        })
        (omega arith) w fits)
        (ap (λ (x : Progress). run current rooms x (p1 ∷ p2 ∷ p3 ∷ units_packets c.av1_pid nl us)) (passed_same g _ r.is)
        ∙ again_three na nb (counter_before nl) ha hb (omega arith) t r.a r.b r.last r.t r.now r.before s n
        (ap (λ (k : ℕ). counter_after k 1) r.pat_counter ∙ ea) (ap (λ (k : ℕ). counter_after k 1) r.map_counter ∙ eb) (r.av1_counter
        ∙ el)
        (units_packets c.av1_pid nl us)
        ∙ ap (λ (k : ℕ). run current rooms g3 (units_packets c.av1_pid k us)) (sym before_then))
        refl refl refl
