-- 2026-05: a segment with a copy inserted behind its original is accepted with the same program, map, units and times, and the totals are
-- one more in the copy's class (`copy_accepted`): the copy changes its PID's record alone, and the two runs go on alike. Assumes nothing.
use Rattle.ticks.specs.declared.Ticks27.{Ticks27}
use Rattle.std.specs.Prelude.{Option, Some, None}
use Prim.Native.Nat.{ℕ, ◌≤◌, ◌/◌, ◌%◌}
use mathlib.Core.Bool.{Bool, true, false}
use mathlib.Core.Path.{◌≡◌, refl, sym, ap, ap₂, ◌∙◌, subst}
use mathlib.Core.List.{List, [], ◌∷◌, ◌++◌, map, flatten}
use native.Mathlib.Omega.{arith}
use borrow.Author.Tests.{eq-eqb, ne_eqb, eqb-true, eqb-false, le-ltb}
use lib.Dec.{eqb, ltb}
use lib.ListN.{length, length-append}
use Rattle.lists.specs.Lists.{Bytes, pick}
use Rattle.refusal.specs.Verdict.{Verdict, passed, refused, ◌>>=◌, ◌>>◌, at_place}
use Rattle.refusal.proofs.Verdicts.{All, pass_on, passed_same, passed_then}
use Rattle.descriptor.specs.Edition.{Edition}
use Rattle.packet.specs.declared.header.Header.{Header}
use Rattle.packet.specs.Header.{packet_length, header_of, pid}
use Rattle.packet.specs.Counter.{StreamRecord, named, copy_of, repeats, updated, record_of, checked_in}
use Rattle.packet.proofs.Counters.{record_after, checked_record, kept_record, some_not_none, some_same}
use Rattle.packet.proofs.Packets.{Whole, length_flatten, packets_flatten}
use Rattle.psi.specs.declared.pat.Program.{Program}
use Rattle.pes.specs.declared.header.Times.{Times}
use Rattle.segment_rules.specs.declared.Totals.{Totals}
use Rattle.segment_rules.specs.State.{FirstPat, FirstPmt, OpenPes, AccessUnit, Extraction}
use Rattle.segment_rules.specs.State.{State, counting, kind_of, with_tables, with_records}
use Rattle.segment_rules.specs.State.{Kind, Null, Pat, Map, Av1, Listed, Unlisted}
use Rattle.segment_rules.specs.Rules.{Rooms, in_sequence, on_tables, last_pcr, is_pcr, counting_pcr, clocked}
use Rattle.segment_rules.specs.Rules.{checked, up_to24, last_repeats, is_repeat, packet_rules}
use Rattle.segment_rules.specs.Check.{Progress, Accepted, one_more, step, run, start}
use Rattle.segment_rules.specs.Check.{most_packets, segment_length_wrong, accepted, ending, check_segment}
use Rattle.segment_rules.specs.Check.{Outputs, lengths, pts_and_dts, times_in_turn, outputs_after}
use Rattle.segment_rules.proofs.Sequence.{repeated, up_to_24}
use Rattle.segment_rules.proofs.Following.{packet_records}
use Rattle.segment_rules.proofs.Running.{run_append, step_passed}
use Rattle.segment_rules.proofs.Marking.{same_pid, after_original, mark, copy_checked, mark_other}
use Rattle.segment_rules.proofs.Marking.{mark_own, mark_append, other_checked, next_checked}
use Rattle.segment_rules.proofs.Alike.{Both, both_bind, AlikeUnits, close_alike, AlikePes, Alike, kind_alike, Records, packet_alike}
use Rattle.segment_rules.proofs.Alike.{said, said_checked, said_repeats, said_record, SamePat, SamePmt, pat_self, pmt_self}

-- ---- the totals
-- two packets count the same in either order
counting_swap : (k l : Kind) (t : Totals) → counting k (counting l t) ≡ counting l (counting k t)
unfolding counting
counting_swap Null Null t = refl
counting_swap Null Pat t = refl
counting_swap Null Map t = refl
counting_swap Null Av1 t = refl
counting_swap Null Listed t = refl
counting_swap Null Unlisted t = refl
counting_swap Pat Null t = refl
counting_swap Pat Pat t = refl
counting_swap Pat Map t = refl
counting_swap Pat Av1 t = refl
counting_swap Pat Listed t = refl
counting_swap Pat Unlisted t = refl
counting_swap Map Null t = refl
counting_swap Map Pat t = refl
counting_swap Map Map t = refl
counting_swap Map Av1 t = refl
counting_swap Map Listed t = refl
counting_swap Map Unlisted t = refl
counting_swap Av1 Null t = refl
counting_swap Av1 Pat t = refl
counting_swap Av1 Map t = refl
counting_swap Av1 Av1 t = refl
counting_swap Av1 Listed t = refl
counting_swap Av1 Unlisted t = refl
counting_swap Listed Null t = refl
counting_swap Listed Pat t = refl
counting_swap Listed Map t = refl
counting_swap Listed Av1 t = refl
counting_swap Listed Listed t = refl
counting_swap Listed Unlisted t = refl
counting_swap Unlisted Null t = refl
counting_swap Unlisted Pat t = refl
counting_swap Unlisted Map t = refl
counting_swap Unlisted Av1 t = refl
counting_swap Unlisted Listed t = refl
counting_swap Unlisted Unlisted t = refl

-- ---- the units' bytes and times
abbrev pub carried_of : List AccessUnit → List Bytes
carried_of units = map (λ u. u.carried) units

abbrev pub times_of : List AccessUnit → List (Option Times)
times_of units = map (λ u. u.times) units

-- ---- relations of records
-- they are the same
abbrev Equal : Records
Equal l l' = l ≡ l'

self : {A : Type 0} (v : Verdict A) → Both (λ (a b : A). a ≡ b) v v
self (passed a) = (a, refl, refl)
self (refused number place) = tt

equal_counts : (q : Bytes) (l l' : List StreamRecord) → Equal l l' → Both Equal (checked_in 0 l q) (checked_in 0 l' q)
equal_counts q l l' e = subst (λ (x : List StreamRecord). Both Equal (checked_in 0 l q) (checked_in 0 x q)) e (self (checked_in 0 l q))

equal_repeats : (q : Bytes) (l l' : List StreamRecord) → Equal l l' → last_repeats (record_of (pid q) l) ≡ last_repeats
    (record_of (pid q) l')
equal_repeats q l l' e = ap (λ (x : List StreamRecord). last_repeats (record_of (pid q) x)) e

equal_grows : (l l' new : List StreamRecord) → Equal l l' → Equal (l ++ new) (l' ++ new)
equal_grows l l' new e = ap (λ (x : List StreamRecord). x ++ new) e

-- at the end nothing is asked of them
abbrev AnyRecords : Records
AnyRecords l l' = Unit {0}

-- ---- two runs
module _ (edition : Edition) (rooms : Rooms) (k : Kind) where
  -- the states are alike, and the second has counted one packet of this kind more
  pub record AlikeRuns (R : Records) (g g' : Progress) : Type 0 where
    pub states : Alike R g.state g'.state
    pub totals : g'.totals ≡ counting k g.totals

  module _ (R S : Records) (grows : (l l' new : List StreamRecord) → S l l' → S (l ++ new) (l' ++ new)) (q : Bytes)
      (counts : (l l' : List StreamRecord) → R l l' → Both S (checked_in 0 l q) (checked_in 0 l' q))
      (repeats : (l l' : List StreamRecord) → S l l' → last_repeats (record_of (pid q) l) ≡ last_repeats (record_of (pid q) l')) where
    step_alike : (g g' : Progress) → AlikeRuns R g g' → Both (AlikeRuns S) (step edition rooms g q) (step edition rooms g' q)
    unfolding step
    step_alike g g' a =
        subst
        (λ (kind : Kind). Both (AlikeRuns S) (step edition rooms g q)
        (packet_rules edition rooms g'.index q kind g'.state >>= λ st. passed (one_more kind st g')))
        (kind_alike R g.state.tables g'.state.tables (pid q) a.states.tables)
        (both_bind (Alike S) (AlikeRuns S) _ _ _ _
        (packet_alike R S grows edition rooms q counts repeats g.index g'.index (kind_of g.state.tables (pid q)) g.state
        g'.state a.states)
        (λ st st' b. (
          _,
          refl,
          record {
            states = b;
            totals = ap (counting (kind_of g.state.tables (pid q))) a.totals
                ∙ counting_swap (kind_of g.state.tables (pid q)) k g.totals;
          },
        )))

  any_records : (R : Records) (g g' : Progress) → AlikeRuns R g g' → AlikeRuns AnyRecords g g'
  any_records R g g' a =
      record {
        states =
            record {
              tables =
                  record { pat = a.states.tables.pat; pmt = a.states.tables.pmt; pcr = a.states.tables.pcr; records = tt };
              units = a.states.units;
            };
        totals = a.totals;
      }

  run_equal : (ps : List Bytes) (g g' : Progress) → AlikeRuns Equal g g'
      → Both (AlikeRuns AnyRecords) (run edition rooms g ps) (run edition rooms g' ps)
  unfolding run
  run_equal [] g g' a = (_, refl, any_records Equal g g' a)
  run_equal (q ∷ ps) g g' a =
      both_bind (AlikeRuns Equal) (AlikeRuns AnyRecords) (step edition rooms g q) (step edition rooms g' q) _ _
      (step_alike Equal Equal equal_grows q (equal_counts q) (equal_repeats q) g g' a)
      (λ g1 g1' b. run_equal ps g1 g1' b)

-- ---- the copy
-- the next packet of a PID among these, if any
unfoldable pub next_of : ℕ → List Bytes → Option Bytes
next_of n [] = None
next_of n (q ∷ ps) = pick (eqb (pid q) n) (Some q) (next_of n ps)

-- it is a copy of this one
abbrev pub copied_by : Bytes → Option Bytes → Bool
copied_by p None = false
copied_by p (Some q) = copy_of (Some p) q

module _ (edition : Edition) (rooms : Rooms) (k : Kind) (p p' : Bytes) (copies : copy_of (Some p) p' ≡ true) where
  -- the records of the copy's run, as long as no packet of its PID has come since
  abbrev Marked : Records
  Marked l l' = (l' ≡ mark p p' copies l) × (record_of (pid p) l ≡ Some (after_original p p' copies))

  marked_grows : (l l' new : List StreamRecord) → Marked l l' → Marked (l ++ new) (l' ++ new)
  marked_grows l l' new m =
      (ap (λ (x : List StreamRecord). x ++ new) m.0 ∙ sym (mark_append p p' copies l new _ m.1), kept_record (pid p) l new _ m.1)

  module _ (q : Bytes) where
    -- a packet of another PID
    module _ (other : eqb (pid p) (pid q) ≡ false) where
      marked_counts : (l l' : List StreamRecord) → Marked l l' → Both Marked (checked_in 0 l q) (checked_in 0 l' q)
      unfolding pick ◌>>=◌
      marked_counts l l' m =
          subst (λ (x : List StreamRecord). Both Marked (checked_in 0 l q) (checked_in 0 x q)) (sym m.0)
          (subst (Both Marked (checked_in 0 l q)) (sym (other_checked p p' copies q l other)) (go (checked_in 0 l q) refl))
        where
          off : eqb (pid q) (pid p) ≡ false
          off = ne_eqb (pid q) (pid p) (λ z. eqb-false (pid p) (pid q) other (sym z))

          go : (v : Verdict (List StreamRecord)) → checked_in 0 l q ≡ v → Both Marked v (v >>= λ after. passed (mark p p' copies after))
          go (passed after) e =
              (mark p p' copies after, refl, (refl, checked_record 0 (pid p) q l after e ∙ ap (record_after 0 (pid p) q) m.1 ∙ rw off))
          go (refused number place) e = tt

      marked_repeats : (l l' : List StreamRecord) → Marked l l' → last_repeats (record_of (pid q) l) ≡ last_repeats (record_of (pid q) l')
      marked_repeats l l' m =
          ap last_repeats (sym (mark_other p p' copies (pid q) l other))
          ∙ ap (λ (x : List StreamRecord). last_repeats (record_of (pid q) x)) (sym m.0)

    -- the next packet of the PID, which is no copy
    next_counts : pid q ≡ pid p → copy_of (Some p) q ≡ false → (l l' : List StreamRecord) → Marked l l'
        → Both Equal (checked_in 0 l q) (checked_in 0 l' q)
    next_counts e f l l' m =
        subst (λ (x : List StreamRecord). Both Equal (checked_in 0 l q) (checked_in 0 x q)) (sym m.0) (go (checked_in 0 l q) refl)
      where
        go : (v : Verdict (List StreamRecord)) → checked_in 0 l q ≡ v → Both Equal v (checked_in 0 (mark p p' copies l) q)
        go (passed after) h = (after, next_checked p p' copies q l after e f m.1 h, refl)
        go (refused number place) h = tt

  run_marked : (ps : List Bytes) (g g' : Progress) → copied_by p (next_of (pid p) ps) ≡ false → AlikeRuns edition rooms k Marked g g'
      → Both (AlikeRuns edition rooms k AnyRecords) (run edition rooms g ps) (run edition rooms g' ps)
  unfolding run next_of pick
  run_marked [] g g' f a = (_, refl, any_records edition rooms k Marked g g' a)
  run_marked (q ∷ ps) g g' f a = go (eqb (pid q) (pid p)) refl f (run_marked ps)
    where
      go : (b : Bool) → eqb (pid q) (pid p) ≡ b → copied_by p (pick b (Some q) (next_of (pid p) ps)) ≡ false
          → ((g1 g1' : Progress) → copied_by p (next_of (pid p) ps) ≡ false → AlikeRuns edition rooms k Marked g1 g1'
          → Both (AlikeRuns edition rooms k AnyRecords) (run edition rooms g1 ps) (run edition rooms g1' ps))
          → Both (AlikeRuns edition rooms k AnyRecords) (step edition rooms g q >>= λ g1. run edition rooms g1 ps)
          (step edition rooms g' q >>= λ g1. run edition rooms g1 ps)
      go true e h more =
          both_bind (AlikeRuns edition rooms k Equal) (AlikeRuns edition rooms k AnyRecords) _ _ _ _
          (step_alike edition rooms k Marked Equal equal_grows q (next_counts q (eqb-true (pid q) (pid p) e) h) (equal_repeats q) g g' a)
          (λ g1 g1' b. run_equal edition rooms k ps g1 g1' b)
      go false e h more =
          let off : eqb (pid p) (pid q) ≡ false = ne_eqb (pid p) (pid q) (λ z. eqb-false (pid q) (pid p) e (sym z)) in
          both_bind (AlikeRuns edition rooms k Marked) (AlikeRuns edition rooms k AnyRecords) _ _ _ _
          (step_alike edition rooms k Marked Marked marked_grows q (marked_counts q off) (marked_repeats q off) g g' a)
          (λ g1 g1' b. more g1 g1' h b)

-- ---- the copy's own step
record_pid : (n : ℕ) (records : List StreamRecord) (r : StreamRecord) → record_of n records ≡ Some r → r.pid ≡ n
unfolding record_of pick
record_pid n [] r e = absurd (some_not_none r (sym e))
record_pid n (s ∷ records) r e = go (eqb s.pid n) refl e (record_pid n records r)
  where
    go : (b : Bool) → eqb s.pid n ≡ b → pick b (Some s) (record_of n records) ≡ Some r → (record_of n records ≡ Some r → r.pid ≡ n)
        → r.pid ≡ n
    go true h k more = ap (λ (x : StreamRecord). x.pid) (sym (some_same s r k)) ∙ eqb-true s.pid n h
    go false h k more = more k

alike_self : (o : Option OpenPes) → AlikePes o o
alike_self None = tt
alike_self (Some o) = (refl, refl)

pcr_kept : (earlier c : Option Ticks27) → is_pcr earlier ≡ true → is_pcr (last_pcr earlier c) ≡ true
pcr_kept earlier None e = e
pcr_kept earlier (Some ticks) e = refl

module _ (edition : Edition) (rooms : Rooms) (p p' : Bytes) (copies : copy_of (Some p) p' ≡ true) where
  -- after the original, which was no repeat: the record of its PID
  original_record : (g g1 : Progress) (r : StreamRecord) → record_of (pid p) g.state.tables.records ≡ Some r → repeats r p ≡ false
      → step edition rooms g p ≡ passed g1 → record_of (pid p) (said g1.state.tables.records) ≡ Some (after_original p p' copies)
  unfolding pick
  original_record g g1 r h new e =
      let s = step_passed edition rooms g g1 p e in
      let q = packet_records edition rooms g.index p (kind_of g.state.tables (pid p)) g.state s.0 s.1 in
      let own : eqb (pid p) (pid p) ≡ true = eq-eqb (pid p) (pid p) refl in
      let there : record_of (pid p) q.0 ≡ Some (updated g.index r p) =
      checked_record g.index (pid p) p g.state.tables.records q.0 q.1 ∙ ap (record_after g.index (pid p) p) h ∙ rw own in
      said_record (pid p) g1.state.tables.records (updated g.index r p)
      (ap (λ (x : Progress). record_of (pid p) x.state.tables.records) s.2
      ∙ ap (record_of (pid p)) q.2.1
      ∙ kept_record (pid p) q.0 (map named q.2.0) (updated g.index r p) there)
      ∙ ap₂ (λ (n : ℕ) (b : Bool). Some (record { pid = n; last = Some p; lies = 0; repeat = b }))
      (record_pid (pid p) g.state.tables.records r h) new

  -- then the copy
  module _ (g : Progress) (own : record_of (pid p) (said g.state.tables.records) ≡ Some (after_original p p' copies)) (h : Header)
      (right : header_of p' ≡ passed h) where
    -- the records behind the copy: but for where the packets lie, those that are marked
    records_behind : (after : List StreamRecord) × (checked_in g.index g.state.tables.records p' ≡ passed after)
        × (passed (said after) ≡ passed (mark p p' copies (said g.state.tables.records)))
    records_behind =
        passed_then (checked_in g.index g.state.tables.records p') (λ after. passed (said after)) _
        (sym (said_checked g.index p' g.state.tables.records) ∙ copy_checked p p' copies (said g.state.tables.records) own)

    marked_behind : said records_behind.0 ≡ mark p p' copies (said g.state.tables.records)
    marked_behind = passed_same _ _ records_behind.2

    abbrev marked : State
    marked = with_tables (with_records records_behind.0 (clocked g.index p' g.state.tables)) g.state

    copy_24 : in_sequence (up_to24 g.index p') g.state ≡ passed marked
    unfolding on_tables checked ◌>>=◌ ◌>>◌ at_place
    copy_24 = up_to_24 g.index p' g.state ∙ rw (right, records_behind.1)

    is_repeat_lem : is_repeat p' marked ≡ true
    is_repeat_lem =
        sym (said_repeats (pid p') records_behind.0)
        ∙ ap₂ (λ (n : ℕ) (l : List StreamRecord). last_repeats (record_of n l)) (same_pid p p' copies) marked_behind
        ∙ ap last_repeats (mark_own p p' copies (said g.state.tables.records) _ own)

    copy_packet : (kind : Kind) → packet_rules edition rooms g.index p' kind g.state ≡ passed marked
    unfolding packet_rules ◌>>=◌
    copy_packet kind = rw copy_24 (repeated p' _ marked is_repeat_lem)

    abbrev afterwards : Progress
    afterwards = one_more (kind_of g.state.tables (pid p)) marked g

    copy_step : step edition rooms g p' ≡ passed afterwards
    unfolding step ◌>>=◌
    copy_step =
        ap (λ (n : ℕ). packet_rules edition rooms g.index p' (kind_of g.state.tables n) g.state
        >>= λ st. passed (one_more (kind_of g.state.tables n) st g))
        (same_pid p p' copies)
        ∙ rw (copy_packet (kind_of g.state.tables (pid p)))

    copy_alike : AlikeRuns edition rooms (kind_of g.state.tables (pid p))
        (Marked edition rooms (kind_of g.state.tables (pid p)) p p' copies) g afterwards
    copy_alike =
        record {
          states =
              record {
                tables =
                    record {
                      pat = pat_self g.state.tables.pat;
                      pmt = pmt_self g.state.tables.pmt;
                      pcr = pcr_kept g.state.tables.pcr (counting_pcr g.state.tables.pmt p');
                      records = (marked_behind, own);
                    };
                units = record { pes = alike_self g.state.extraction.pes; carried = refl; times = refl };
              };
          totals = refl;
        }

-- ---- the end
-- acceptance with the same program, map, units' bytes and times, and one packet of this kind more
pub record OneMore (k : Kind) (a a' : Accepted) : Type 0 where
  pub program : a'.program ≡ a.program
  pub map : a'.map ≡ a.map
  pub carried : carried_of a'.units ≡ carried_of a.units
  pub times : times_of a'.units ≡ times_of a.units
  pub totals : a'.totals ≡ counting k a.totals

module _ (edition : Edition) (rooms : Rooms) (k : Kind) where
  accepted_alike : (n n' : ℕ) (pat pat' : Option FirstPat) (pmt pmt' : Option FirstPmt) (x x' : Extraction) (t t' : Totals)
      → SamePat pat pat' → SamePmt pmt pmt' → AlikeUnits x x' → t' ≡ counting k t
      → Both (OneMore k) (accepted n pat pmt x.units t) (accepted n' pat' pmt' x'.units t')
  unfolding accepted
  accepted_alike n n' None pat' pmt pmt' x x' t t' f m a e = tt
  accepted_alike n n' (Some pat) pat' None pmt' x x' t t' f m a e = tt
  accepted_alike n n' (Some pat) None (Some pmt) pmt' x x' t t' f m a e = absurd f
  accepted_alike n n' (Some pat) (Some pat') (Some pmt) None x x' t t' f m a e = absurd m
  accepted_alike n n' (Some pat) (Some pat') (Some pmt) (Some pmt') x x' t t' f m a e = (
    _,
    refl,
    record {
      program = ap (λ (p : Program). p.number) (sym f.1);
      map = sym m.1;
      carried = sym a.carried;
      times = sym a.times;
      totals = e;
    },
  )

  end_alike : (g g' : Progress) → AlikeRuns edition rooms k AnyRecords g g' → Both (OneMore k) (ending g) (ending g')
  unfolding ending
  end_alike g g' a =
      both_bind AlikeUnits (OneMore k) _ _ _ _ (close_alike g.state.extraction g'.state.extraction a.states.units)
      (λ x x' b. accepted_alike g.index g'.index g.state.tables.pat g'.state.tables.pat g.state.tables.pmt
      g'.state.tables.pmt x x' g.totals g'.totals a.states.tables.pat a.states.tables.pmt b a.totals)

-- ---- the theorem
-- a packet p behind the packets a, and p' behind p, and then the packets b
pub record CopyBehind (edition : Edition) (rooms : Rooms) (a : List Bytes) (p p' : Bytes) (b : List Bytes) : Type 0 where
  -- the packets before p pass, and have named its PID
  pub before : Progress
  pub passes : run edition rooms start a ≡ passed before
  pub there : StreamRecord
  pub recorded : record_of (pid p) before.state.tables.records ≡ Some there
  -- p is no repeat itself
  pub original : repeats there p ≡ false
  -- p' is a copy of it, which 21, 22 and 23 do not refuse
  pub copies : copy_of (Some p) p' ≡ true
  pub header : (h : Header) × (header_of p' ≡ passed h)
  -- and the next packet of the PID is none
  pub next : copied_by p (next_of (pid p) b) ≡ false

all_insert : (a : List Bytes) (p p' : Bytes) (b : List Bytes) → All Whole (a ++ (p ∷ b)) → Whole p' → All Whole (a ++ (p ∷ p' ∷ b))
all_insert [] p p' b h w = (h.0, (w, h.1))
all_insert (q ∷ a) p p' b h w = (h.0, all_insert a p p' b h.1 w)

right_length : (ps : List Bytes) → All Whole ps → 1 ≤ length ps → length ps ≤ most_packets → segment_length_wrong (flatten ps) ≡ false
unfolding segment_length_wrong
right_length ps h least few =
    let n = length_flatten ps h in
    let one : eqb (length (flatten ps)) 0 ≡ false = ne_eqb (length (flatten ps)) 0 (λ z. omega (arith, n)) in
    let two : eqb (length (flatten ps) % packet_length) 0 ≡ true = eq-eqb (length (flatten ps) % packet_length) 0 (omega (arith, n)) in
    let three : ltb most_packets (length (flatten ps) / packet_length) ≡ false =
    le-ltb most_packets (length (flatten ps) / packet_length) (omega (arith, n)) in
    rw (one, two, three)

-- where the first passed, so did the second
second : {A B : Type 0} (R : A → B → Type 0) (v : Verdict A) (w : Verdict B) (a : A) → Both R v w → v ≡ passed a
    → (b : B) × (w ≡ passed b) × R a b
second R v w a h e = subst (λ (x : Verdict _). Both R x w) e h

module _ (edition : Edition) (rooms : Rooms) (a : List Bytes) (p p' : Bytes) (b : List Bytes) (c : CopyBehind edition rooms a p p' b) where
  -- the check of these packets, from p on
  from_there : (ps : List Bytes) → All Whole (a ++ ps) → segment_length_wrong (flatten (a ++ ps)) ≡ false
      → check_segment edition rooms (flatten (a ++ ps)) ≡ (run edition rooms c.before ps >>= ending)
  unfolding check_segment ◌>>=◌
  from_there ps w right =
      sym (pass_on 20 right refl)
      ∙ ap (λ (l : List Bytes). run edition rooms start l >>= ending) (packets_flatten (a ++ ps) w)
      ∙ ap (λ (v : Verdict Progress). v >>= ending) (run_append edition rooms start a ps)
      ∙ rw c.passes

  goes : (g g1 g2 g3 : Progress) (x : Accepted) → step edition rooms g p ≡ passed g1 → step edition rooms g1 p' ≡ passed g2
      → run edition rooms g2 b ≡ passed g3 → ending g3 ≡ passed x → (run edition rooms g (p ∷ p' ∷ b) >>= ending) ≡ passed x
  unfolding run ◌>>=◌
  goes g g1 g2 g3 x e1 e2 e3 e4 = rw (e1, e2, e3, e4)

  so_accepted : All Whole (a ++ (p ∷ p' ∷ b)) → segment_length_wrong (flatten (a ++ (p ∷ p' ∷ b))) ≡ false
      → (g1 g2 g3 : Progress) (x : Accepted)
      → step edition rooms c.before p ≡ passed g1 → step edition rooms g1 p' ≡ passed g2
      → run edition rooms g2 b ≡ passed g3 → ending g3 ≡ passed x → check_segment edition rooms (flatten (a ++ (p ∷ p' ∷ b))) ≡ passed x
  so_accepted w right g1 g2 g3 x e1 e2 e3 e4 = from_there (p ∷ p' ∷ b) w right ∙ goes c.before g1 g2 g3 x e1 e2 e3 e4

  pub copy_accepted : All Whole (a ++ (p ∷ b)) → Whole p' → length (a ++ (p ∷ p' ∷ b)) ≤ most_packets → (x : Accepted)
      → check_segment edition rooms (flatten (a ++ (p ∷ b))) ≡ passed x
      → (g : Progress) × (x' : Accepted) × (step edition rooms c.before p ≡ passed g)
      × (check_segment edition rooms (flatten (a ++ (p ∷ p' ∷ b))) ≡ passed x')
      × OneMore (kind_of g.state.tables (pid p)) x x'
  unfolding run ◌>>=◌
  copy_accepted w w' few x e =
      let w2 = all_insert a p p' b w w' in
      let shorter = length-append a (p ∷ b) in
      let longer = length-append a (p ∷ p' ∷ b) in
      let right1 = right_length (a ++ (p ∷ b)) w (omega (arith, shorter)) (omega (arith, shorter, longer, few)) in
      let right2 = right_length (a ++ (p ∷ p' ∷ b)) w2 (omega (arith, longer)) few in
      let ends = passed_then (run edition rooms c.before (p ∷ b)) ending x (sym (from_there (p ∷ b) w right1) ∙ e) in
      let steps = passed_then (step edition rooms c.before p) (λ g. run edition rooms g b) ends.0 ends.1 in
      let g = steps.0 in
      let k = kind_of g.state.tables (pid p) in
      let own = original_record edition rooms p p' c.copies c.before g c.there c.recorded c.original steps.1 in
      let g' = afterwards edition rooms p p' c.copies g own c.header.0 c.header.1 in
      let copied = copy_step edition rooms p p' c.copies g own c.header.0 c.header.1 in
      let alike = copy_alike edition rooms p p' c.copies g own c.header.0 c.header.1 in
      let runs =
      second (AlikeRuns edition rooms k AnyRecords) (run edition rooms g b) (run edition rooms g' b) ends.0
      (run_marked edition rooms k p p' c.copies b g g' c.next alike) steps.2 in
      let answer = second (OneMore k) (ending ends.0) (ending runs.0) x (end_alike edition rooms k ends.0 runs.0 runs.2)
      ends.2 in
      (g, answer.0, steps.1, so_accepted w2 right2 g g' runs.0 answer.0 steps.1 copied runs.1 answer.1, answer.2)

-- ---- the outputs then hold the same
map_twice : {A B C : Type 0} (f : A → B) (h : B → C) (l : List A) → map (λ a. h (f a)) l ≡ map h (map f l)
map_twice f h [] = refl
map_twice f h (a ∷ l) = ap (λ (r : List _). h (f a) ∷ r) (map_twice f h l)

pub copy_outputs : (k : Kind) (x x' : Accepted) → OneMore k x x' → (o : Outputs) → outputs_after (passed x') o ≡ outputs_after (passed x) o
unfolding outputs_after
copy_outputs k x x' s o =
    let lens : lengths x'.units ≡ lengths x.units =
    map_twice (λ u. u.carried) length x'.units ∙ ap (map length) s.carried ∙ sym (map_twice (λ u. u.carried) length x.units) in
    let times : times_in_turn x'.units ≡ times_in_turn x.units =
    ap flatten (map_twice (λ u. u.times) pts_and_dts x'.units ∙ ap (map pts_and_dts) s.times
    ∙ sym (map_twice (λ u. u.times) pts_and_dts x.units)) in
    rw (ap flatten s.carried, lens, times)
