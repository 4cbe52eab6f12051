-- "27 is given where bytes remain after a twelfth that passed", of a whole segment: where the packets before it pass, the packet whose PMT
-- has them ends the check with 27 and its index (`thirteen_refused`), whatever comes after. Assumes nothing.
use Rattle.std.specs.Prelude.{Some, None}
use Prim.Native.Nat.{ℕ}
use mathlib.Core.Bool.{true, false}
use mathlib.Core.Path.{◌≡◌, refl, sym, ap, ◌∙◌}
use mathlib.Core.List.{List, ◌∷◌, ◌++◌}
use lib.ListN.{length}
use Rattle.lists.specs.Lists.{Bytes, pick}
use Rattle.refusal.specs.Verdict.{Verdict, passed, refused, ◌>>=◌, ◌>>◌, given, at_place}
use Rattle.refusal.proofs.Verdicts.{pass_on}
use Rattle.descriptor.specs.Edition.{Edition}
use Rattle.packet.specs.declared.header.Header.{Header}
use Rattle.packet.specs.Header.{packets, header_of, pid, has_payload, payload, payload_unit_start_indicator}
use Rattle.packet.specs.Counter.{StreamRecord, record_of, checked_in}
use Rattle.psi.specs.Section.{misplaced, section_of}
use Rattle.pmt.specs.Pmt.{MapEntry, most_entries, entries, entry_bytes, read_pmt}
use Rattle.pmt.proofs.Thirteenth.{Right, thirteenth_refused}
use Rattle.segment_rules.specs.State.{FirstPat, Tables, State, Map, kind_of}
use Rattle.segment_rules.specs.Rules.{Rooms, on_tables, pmt_section, section_read, checked, last_repeats, unless_repeat, packet_rules}
use Rattle.segment_rules.specs.Check.{Progress, step, run, start, segment_length_wrong, ending, check_segment}
use Rattle.segment_rules.proofs.ByKind.{map_packet}
use Rattle.segment_rules.proofs.Running.{run_append, index_totals}

-- there is a first PAT and no PMT yet; the packet, which has this index, is on the map PID and passes 21 to 24; it is no repeat; its
-- section lies right in its payload, and is right up to its entries, of which twelve pass and have bytes behind them
pub record Thirteen (i : ℕ) (t : Tables) (p : Bytes) : Type 0 where
  pub first : FirstPat
  pub pat : t.pat ≡ Some first
  pub pmt : t.pmt ≡ None
  pub on_map_pid : kind_of t (pid p) ≡ Map
  pub header : (h : Header) × (header_of p ≡ passed h)
  pub counter : (records : List StreamRecord) × (checked_in i t.records p ≡ passed records)
  pub new : last_repeats (record_of (pid p) counter.0) ≡ false
  pub carries : has_payload p ≡ true
  pub found : misplaced (payload_unit_start_indicator p) (payload p) ≡ false
  pub right : Right first.says.number (section_of (payload p))
  pub twelve : Bytes
  pub listed : List MapEntry
  pub pass : entries first.says.map_pid twelve ≡ passed listed
  pub count : length listed ≡ most_entries
  pub next : ℕ
  pub more : Bytes
  pub behind : entry_bytes (section_of (payload p)) ≡ twelve ++ (next ∷ more)

module _ (edition : Edition) (rooms : Rooms) where
  module _ (i : ℕ) (st : State) (p : Bytes) (t : Thirteen i st.tables p) where
    -- the PMT's reading
    pmt_refused : read_pmt edition t.first.says.number t.first.says.map_pid (section_of (payload p)) ≡ refused 27 0
    pmt_refused =
        thirteenth_refused edition t.first.says.number t.first.says.map_pid (section_of (payload p)) t.right t.twelve
        t.listed t.pass
        t.count t.next t.more t.behind

    -- the packet
    packet_refused : packet_rules edition rooms i p Map st ≡ refused 27 i
    unfolding on_tables checked section_read pmt_section unless_repeat ◌>>=◌ ◌>>◌ given at_place pick
    packet_refused =
        map_packet edition rooms i p st t.header.0 t.header.1 t.carries
        ∙ rw (t.counter.1, t.new, t.found, t.pat, t.pmt, pmt_refused)

  -- the run from there, whatever comes after
  run_refused : (g : Progress) (p : Bytes) (ps : List Bytes) → Thirteen g.index g.state.tables p
      → run edition rooms g (p ∷ ps) ≡ refused 27 g.index
  unfolding run step ◌>>=◌
  run_refused g p ps t = rw (t.on_map_pid, packet_refused g.index g.state p t)

  -- the whole segment
  pub thirteen_refused : (s : Bytes) (a : List Bytes) (p : Bytes) (ps : List Bytes) (g : Progress) → segment_length_wrong s ≡ false
      → packets s ≡ a ++ (p ∷ ps)
      → run edition rooms start a ≡ passed g → Thirteen g.index g.state.tables p
      → check_segment edition rooms s ≡ refused 27 (length a)
  unfolding check_segment ◌>>=◌
  thirteen_refused s a p ps g right parts before t =
      sym (pass_on 20 right refl)
      ∙ ap (λ (l : List Bytes). run edition rooms start l >>= ending) parts
      ∙ ap (λ (v : Verdict Progress). v >>= ending)
      (run_append edition rooms start a (p ∷ ps) ∙ ap (λ (v : Verdict Progress). v >>= λ g'. run edition rooms g' (p ∷ ps)) before
      ∙ run_refused g p ps t)
      ∙ ap (λ (n : ℕ). refused 27 n) (index_totals edition rooms a g before).0
