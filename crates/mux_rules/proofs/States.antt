-- What the check has heard between two packets of segments that send wrote, and what one packet adds to its records. Assumes nothing.
use Rattle.std.specs.Prelude.{Option, Some, None}
use Prim.Native.Nat.{ℕ, ◌+◌, ◌≤◌}
use mathlib.Core.Bool.{Bool, true, false, not, ◌&&◌, ◌||◌, and-false}
use mathlib.Core.Path.{◌≡◌, refl, ap, ◌∙◌}
use mathlib.Core.List.{List, [], ◌∷◌}
use native.Mathlib.Omega.{arith}
use borrow.Author.Tests.{eq-eqb, ne_eqb}
use lib.Dec.{eqb}
use Rattle.lists.specs.Lists.{Bytes, pick}
use Rattle.lists.proofs.Tests.{case, clash}
use Rattle.refusal.specs.Verdict.{Verdict, passed, ◌>>=◌, at_place}
use Rattle.refusal.proofs.Verdicts.{All}
use Rattle.descriptor.specs.Edition.{current}
use Rattle.ticks.specs.declared.Ticks27.{Ticks27}
use Rattle.packet.specs.Header.{pid, pcr, pcr_flag, null_pid, has_payload, continuity_counter, discontinuity_indicator}
use Rattle.packet.specs.Counter.{StreamRecord, named, counter_right, copy_of, due, check, record_of, checked_in}
use Rattle.packet.proofs.Counters.{check_right}
use Rattle.packet.proofs.Copies.{copy_not_due}
use Rattle.psi.specs.Writing.{pat}
use Rattle.pmt.specs.Writing.{pmt, map_for}
use Rattle.segment_rules.specs.declared.Totals.{Totals}
use Rattle.segment_rules.specs.State.{FirstPat, FirstPmt, Tables, State, Kind, Map, Av1, with_tables, kind_of, is_map_pid, listed_as}
use Rattle.segment_rules.specs.State.{counting}
use Rattle.segment_rules.specs.Rules.{Rooms, on_tables, counting_pcr, last_pcr, checked, last_repeats, packet_rules}
use Rattle.segment_rules.specs.Check.{Progress, step, run}
use Rattle.segment_rules.proofs.ByKind.{counted}
use Rattle.lists.proofs.Picks.{either}
use Rattle.mux_rules.specs.declared.Channel.{Channel}

-- a packet with its index in the segment
pub record Laid : Type 0 where
  pub index : ℕ
  pub bytes : Bytes

abbrev pub laid : ℕ → Bytes → Laid
laid i p = record { index = i; bytes = p }

-- the record of a PID of which this was the last packet
abbrev pub seen : ℕ → Laid → StreamRecord
seen n q = record { pid = n; last = Some q.bytes; lies = q.index; repeat = false }

module _ (c : Channel) (d : Bytes) where
  -- the first packet of the segment brings the first PAT, the second the first PMT
  abbrev pub first_pat : FirstPat
  first_pat =
      record { packet = 0; section = pat c.program c.map_pid; says = record { number = c.program; map_pid = c.map_pid } }

  abbrev pub first_pmt : FirstPmt
  first_pmt = record { packet = 1; section = pmt c.program c.av1_pid d; says = map_for c.av1_pid d }

  -- after the first PAT, which is the packet a; after the first PMT, which is b
  abbrev pub after_pat : Laid → Tables
  after_pat a = record { pat = Some first_pat; pmt = None; records = seen 0 a ∷ named c.map_pid ∷ []; pcr = None }

  abbrev pub after_pmt : Laid → Laid → Tables
  after_pmt a b =
      record {
        pat = Some first_pat;
        pmt = Some first_pmt;
        records = seen 0 a ∷ seen c.map_pid b ∷ named c.av1_pid ∷ [];
        pcr = None;
      }

  -- from the first PCR on: the last packets of the three PIDs, and the last PCR
  abbrev pub in_tables : Laid → Laid → Laid → Ticks27 → Tables
  in_tables a b l t =
      record {
        pat = Some first_pat;
        pmt = Some first_pmt;
        records = seen 0 a ∷ seen c.map_pid b ∷ seen c.av1_pid l ∷ [];
        pcr = Some t;
      }

  -- ---- the PIDs
  pub kind_map : 0x0010 ≤ c.map_pid → c.map_pid ≤ 0x1FFE → (t : Tables) → t.pat ≡ Some first_pat → kind_of t c.map_pid ≡ Map
  unfolding kind_of is_map_pid pick
  kind_map low high t e =
      rw (
        e,
        ne_eqb c.map_pid null_pid (λ (z : c.map_pid ≡ 0x1FFF). omega arith),
        ne_eqb c.map_pid 0 (λ (z : c.map_pid ≡ 0). omega arith),
        eq-eqb c.map_pid c.map_pid refl,
      )

  pub kind_av1 : (c.av1_pid ≡ 0 → ⊥) → c.av1_pid ≤ 0x1FFE → (c.av1_pid ≡ c.map_pid → ⊥) → (t : Tables) → t.pat ≡ Some first_pat
      → t.pmt ≡ Some first_pmt → kind_of t c.av1_pid ≡ Av1
  unfolding kind_of is_map_pid listed_as pick
  kind_av1 p0 high p2 t e f =
      rw (
        e,
        f,
        ne_eqb c.av1_pid null_pid (λ (z : c.av1_pid ≡ 0x1FFF). omega arith),
        ne_eqb c.av1_pid 0 p0,
        ne_eqb c.av1_pid c.map_pid p2,
        eq-eqb c.av1_pid c.av1_pid refl,
      )

-- ---- counters
-- a PID's first packet sets the counter, and is no copy
first_new : (p : Bytes) → (copy_of None p && true) ≡ false
unfolding copy_of
first_new p = ap (λ (b : Bool). b && true) (and-false (has_payload p && not (discontinuity_indicator p)))

pub first_check : (i n : ℕ) (p : Bytes) → check i (named n) p ≡ passed (seen n (laid i p))
unfolding counter_right
first_check i n p =
    check_right i (named n) p refl
    ∙ ap (λ (b : Bool). passed (record { pid = n; last = Some p; lies = i; repeat = b })) (first_new p)

-- then the one that is due, which no copy has
due_new : (l p : Bytes) → counter_right (Some l) p ≡ true → (copy_of (Some l) p && true) ≡ false
due_new l p e = case (copy_of (Some l) p) (λ k. clash e (copy_not_due l p k)) (λ k. ap (λ (b : Bool). b && true) k)

pub next_check : (i n : ℕ) (l : Laid) (p : Bytes) → discontinuity_indicator p ≡ false
    → continuity_counter p ≡ due (continuity_counter l.bytes) (has_payload p) → check i (seen n l) p ≡ passed (seen n (laid i p))
unfolding counter_right
next_check i n l p steady e =
    let right : counter_right (Some l.bytes) p ≡ true =
    rw (steady, eq-eqb (continuity_counter p) (due (continuity_counter l.bytes) (has_payload p)) e) in
    check_right i (seen n l) p (ap (λ (b : Bool). b || (copy_of (Some l.bytes) p && true)) right)
    ∙ ap (λ (b : Bool). passed (record { pid = n; last = Some p; lies = i; repeat = b })) (due_new l.bytes p right)

-- none of these records says that the last packet of its PID was a repeat
pub none_repeats : (n : ℕ) (records : List StreamRecord) → All (λ r. r.repeat ≡ false) records
    → last_repeats (record_of n records) ≡ false
unfolding record_of pick
none_repeats n [] h = refl
none_repeats n (r ∷ records) h =
    case (eqb r.pid n) (λ e. rw e h.0) (λ e. rw e (none_repeats n records h.1))

module _ (i : ℕ) (r r' : StreamRecord) (records : List StreamRecord) (p : Bytes) where
  -- the record of the packet's PID is the first
  pub checked_first : r.pid ≡ pid p → check i r p ≡ passed r' → checked_in i (r ∷ records) p ≡ passed (r' ∷ records)
  unfolding checked_in pick ◌>>=◌
  checked_first e f = rw (eq-eqb r.pid (pid p) e, f)

  -- or one behind it
  pub checked_later : (after : List StreamRecord) → (r.pid ≡ pid p → ⊥) → checked_in i records p ≡ passed after
      → checked_in i (r ∷ records) p ≡ passed (r ∷ after)
  unfolding checked_in pick ◌>>=◌
  checked_later after n f = rw (ne_eqb r.pid (pid p) n, f)

-- ---- the PCR
-- a packet without PCR_flag has none
pub no_clock : (p : Bytes) → pcr_flag p ≡ false → pcr p ≡ None
unfolding pcr pick
no_clock p e = rw e (either (eqb (pid p) null_pid) None)

-- ---- both: the counter is checked by these records, and the last PCR is then this
pub counted_by : (i : ℕ) (p : Bytes) (st : State) (after : List StreamRecord) (t : Option Ticks27)
    → checked_in i st.tables.records p ≡ passed after
    → last_pcr st.tables.pcr (counting_pcr st.tables.pmt p) ≡ t
    → counted i p st ≡ passed (with_tables (record { pat = st.tables.pat; pmt = st.tables.pmt; records = after; pcr = t }) st)
unfolding on_tables checked at_place ◌>>=◌
counted_by i p st after t e f = rw (e, f)

-- ---- one packet of which the kind and the rules are known
pub step_by : (rooms : Rooms) (g : Progress) (st : State) (p : Bytes) (kind : Kind) → kind_of g.state.tables (pid p) ≡ kind
    → packet_rules current rooms g.index p kind g.state ≡ passed st
    → step current rooms g p ≡ passed (record { index = g.index + 1; state = st; totals = counting kind g.totals })
unfolding step ◌>>=◌
step_by rooms g st p kind e f = rw (e, f)

-- and then the others
pub run_next : (rooms : Rooms) (g g' : Progress) (p : Bytes) (ps : List Bytes) (v : Verdict Progress) → step current rooms g p ≡ passed g'
    → run current rooms g' ps ≡ v → run current rooms g (p ∷ ps) ≡ v
unfolding run ◌>>=◌
run_next rooms g g' p ps v e f = rw e f

-- so many packets of sections and of the AV1 PID so far
abbrev pub totals_at : ℕ → ℕ → Totals
totals_at s n = record { null = 0; section = s; av1 = n; other_listed = 0; unlisted = 0 }
