-- The units of an accepted segment: each is that of a PES whose header is right and lies in the packet that began it, and each is accepted
-- by reading (`units_right`, `units_accepted`); so its carried length is within the limit (`lengths_within`), its times are those of its
-- header (`times_within`), and the packets that began the units ascend strictly and lie within the segment (`firsts_ascend`,
-- `firsts_within`): a unit comes by the closing of a PES alone. Assumes nothing.
use Rattle.std.specs.Prelude.{Option, Some, None}
use Prim.Native.Nat.{ℕ, zero, suc, ◌+◌, ◌<◌, ◌≤◌, ◌/◌, ◌^◌}
use mathlib.Core.Bool.{Bool, true, false, not, ◌&&◌}
use mathlib.Core.Path.{◌≡◌, refl, sym, ap, ◌∙◌, subst}
use mathlib.Core.Logic.{◌⊎◌, inl, inr}
use mathlib.Core.List.{List, [], ◌∷◌, ◌++◌, append-nil, map-append}
use native.Mathlib.Omega.{arith}
use borrow.Author.Tests.{ltb-false, eqb-true, not-false}
use lib.Dec.{eqb, ltb}
use lib.ListN.{length, get_or, drop, length-append, get_or-append}
use Rattle.lists.specs.Lists.{Bytes, pick}
use Rattle.lists.proofs.Tests.{case, and_second}
use Rattle.refusal.specs.Verdict.{passed, given}
use Rattle.refusal.proofs.Verdicts.{All, all_so, passed_after, given_passed}
use Rattle.descriptor.specs.Edition.{Edition}
use Rattle.packet.specs.Header.{packet_length, packets_of, packets, has_payload, header_length, payload}
use Rattle.pes.specs.declared.header.Header.{Header}
use Rattle.pes.specs.declared.header.Times.{Times}
use Rattle.pes.specs.Pes.{pes_packet_length, length_byte, header_size, header_wrong, header_of, no_times, times_of}
use Rattle.pes.proofs.Headers.{pts_width, dts_width}
use Rattle.unit.specs.Unit.{most_carried, read_unit}
use Rattle.lists.specs.Bytes.{Octets}
use Rattle.lists.proofs.Parts.{octets_drop, octets_take}
use Rattle.segment_rules.specs.State.{OpenPes, AccessUnit, Extraction}
use Rattle.segment_rules.specs.Rules.{Rooms, length_differs, unit_of}
use Rattle.segment_rules.specs.Check.{Accepted, first_packets, check_segment}
use Rattle.segment_rules.proofs.Moving.{Moved, stays, starting, adding, Closes}
use Rattle.segment_rules.proofs.Moving.{none_open, one_open, close_passed, Kept, accepted_keeps}
use Rattle.segment_rules.proofs.Running.{length_packets}
use Rattle.refusal.proofs.Verdicts.{all_and_one}

-- ---- lists
last_of : (ps : List Bytes) (p : Bytes) → get_or (ps ++ (p ∷ [])) (length ps) [] ≡ p
last_of [] p = refl
last_of (q ∷ ps) p = last_of ps p

-- each number is less than those behind it
abbrev pub Ascending : List ℕ → Type 0
Ascending [] = Unit {0}
Ascending (n ∷ l) = All (λ m. n < m) l × Ascending l

ascending_and : (l : List ℕ) (n : ℕ) → Ascending l → All (λ m. m < n) l → Ascending (l ++ (n ∷ []))
ascending_and [] n a h = (tt, tt)
ascending_and (m ∷ l) n a h = (all_and_one (λ k. m < k) l n a.0 h.0, ascending_and l n a.1 h.1)

-- ---- bytes
octets_none : Octets []
octets_none i = omega arith

pub octets_payload : (p : Bytes) → Octets p → Octets (payload p)
unfolding payload pick
octets_payload p o = go (has_payload p)
  where
    go : (b : Bool) → Octets (pick b (drop (header_length p) p) [])
    go true = octets_drop p (header_length p) o
    go false = octets_none

pub octets_packet : (n : ℕ) (s : Bytes) (k : ℕ) → Octets s → Octets (get_or (packets_of n s) k [])
unfolding packets_of
octets_packet zero s k o = octets_none
octets_packet (suc n) s zero o = octets_take packet_length s o
octets_packet (suc n) s (suc k) o = octets_packet n (drop packet_length s) k (octets_drop s packet_length o)

-- a PTS and a DTS of 33 bits
abbrev pub Timed : Option Times → Type 0
Timed None = ⊥
Timed (Some t) = (t.pts.0 < 2 ^ 33) × (t.dts.0 < 2 ^ 33)

pub stamped : (w : Bytes) → Octets w → no_times w ≡ false → Timed (times_of w)
unfolding times_of pick
stamped w o e = rw e (pts_width w o, dts_width w o)

-- the PES length of this header's, and a unit's bytes
abbrev pub LengthRight : Bytes → Bytes → Type 0
LengthRight w carried = (pes_packet_length w ≡ 0) ⊎ (pes_packet_length w ≡ 2 + 1 + length_byte w + length carried)

length_right : (w carried : Bytes) → length_differs (header_of w) (length carried) ≡ false → LengthRight w carried
unfolding length_differs
length_right w carried e =
    case (eqb (pes_packet_length w) 0) (λ z. inl (eqb-true (pes_packet_length w) 0 z))
    (λ z. inr
    (omega (
      arith,
      eqb-true (pes_packet_length w + 6) (header_size w + length carried)
          (not-false _ (and_second (not (eqb (pes_packet_length w) 0)) _ (ap not z) e)),
    )))

-- reading accepts no unit above the limit
carried_within : (s : Bytes) (l : List Bytes) → read_unit s ≡ passed l → length s ≤ most_carried
unfolding read_unit
carried_within s l e = ltb-false most_carried (length s) (given_passed 2 _ (passed_after (given 2 (ltb most_carried (length s))) _ l e).0)

module _ (edition : Edition) where
  -- ---- a PES among these packets
  -- it began in this packet, where its header stands, and no rule refused the header
  pub record Began (ps : List Bytes) (first : ℕ) (header : Header) : Type 0 where
    pub within : first < length ps
    pub says : header ≡ header_of (payload (get_or ps first []))
    pub right : header_wrong (payload (get_or ps first [])) ≡ false
    pub timed : (edition.times_needed && no_times (payload (get_or ps first []))) ≡ false

  -- a unit of such a PES: 32 and the reading of the unit passed
  pub record UnitRight (ps : List Bytes) (u : AccessUnit) : Type 0 where
    pub header : Header
    pub began : Began ps u.first header
    pub times : u.times ≡ header.times
    pub sized : length_differs header (length u.carried) ≡ false
    pub obus : List Bytes
    pub read : read_unit u.carried ≡ passed obus

  -- one packet more
  began_longer : (ps : List Bytes) (p : Bytes) (first : ℕ) (header : Header) → Began ps first header → Began (ps ++ (p ∷ [])) first header
  began_longer ps p first header b =
      let e : get_or (ps ++ (p ∷ [])) first [] ≡ get_or ps first [] = get_or-append ps (p ∷ []) [] first b.within in
      record {
        within = omega (arith, b.within, length-append ps (p ∷ []));
        says = rw e b.says;
        right = rw e b.right;
        timed = rw e b.timed;
      }

  unit_longer : (ps : List Bytes) (p : Bytes) (u : AccessUnit) → UnitRight ps u → UnitRight (ps ++ (p ∷ [])) u
  unit_longer ps p u r =
      record {
        header = r.header;
        began = began_longer ps p u.first r.header r.began;
        times = r.times;
        sized = r.sized;
        obus = r.obus;
        read = r.read;
      }

  -- ---- what each packet keeps
  abbrev OpenRight : List Bytes → Option OpenPes → Type 0
  OpenRight ps None = Unit {0}
  OpenRight ps (Some o) = Began ps o.first o.header

  abbrev open_first : Option OpenPes → List ℕ
  open_first None = []
  open_first (Some o) = o.first ∷ []

  record RightUpTo (ps : List Bytes) (x : Extraction) : Type 0 where
    units : All (UnitRight ps) x.units
    pes : OpenRight ps x.pes
    ascend : Ascending (first_packets x.units ++ open_first x.pes)

  -- the closing adds the unit of the open PES
  closed : (ps : List Bytes) (x x' : Extraction) → RightUpTo ps x → Closes x x' → RightUpTo ps x' × (x'.pes ≡ None)
  closed ps x x' r (none_open n e) = subst (λ (y : Extraction). RightUpTo ps y × (y.pes ≡ None)) (sym e) (r, n)
  closed ps x x' r (one_open o l at sized read e) =
      subst (λ (y : Extraction). RightUpTo ps y × (y.pes ≡ None)) (sym e) (
        record {
          units = all_and_one (UnitRight ps) x.units (unit_of o) r.units (record {
            header = o.header;
            began = subst (OpenRight ps) at r.pes;
            times = refl;
            sized = sized;
            obus = l;
            read = read;
          });
          pes = tt;
          ascend =
              subst Ascending
              (ap (λ (z : Option OpenPes). first_packets x.units ++ open_first z) at
              ∙ sym (append-nil (first_packets (x.units ++ (unit_of o ∷ [])))
              ∙ map-append (λ (u : AccessUnit). u.first) x.units (unit_of o ∷ [])))
              r.ascend;
        },
        refl,
      )

  longer : (ps : List Bytes) (p : Bytes) (x : Extraction) → RightUpTo ps x → RightUpTo (ps ++ (p ∷ [])) x
  longer ps p x r =
      record { units = all_so x.units (unit_longer ps p) r.units; pes = open_longer x.pes r.pes; ascend = r.ascend }
    where
      open_longer : (o : Option OpenPes) → OpenRight ps o → OpenRight (ps ++ (p ∷ [])) o
      open_longer None h = tt
      open_longer (Some o) h = began_longer ps p o.first o.header h

  firsts_below : (ps : List Bytes) (units : List AccessUnit) → All (UnitRight ps) units → All (λ n. n < length ps) (first_packets units)
  firsts_below ps [] h = tt
  firsts_below ps (u ∷ units) h = (h.0.began.within, firsts_below ps units h.1)

  module _ (rooms : Rooms) where
    moved : (ps : List Bytes) (p : Bytes) (x x' : Extraction) → RightUpTo ps x → Moved edition rooms (length ps) p x x'
        → RightUpTo (ps ++ (p ∷ [])) x'
    moved ps p x x' r (stays e) = subst (RightUpTo (ps ++ (p ∷ []))) (sym e) (longer ps p x r)
    moved ps p x x' r (starting s) =
        let k = closed ps x s.closed r (close_passed x s.closed s.closes) in
        let c = longer ps p s.closed k.0 in
        let e : get_or (ps ++ (p ∷ [])) (length ps) [] ≡ p = last_of ps p in
        subst (RightUpTo (ps ++ (p ∷ []))) (sym s.opens)
        (record {
          units = c.units;
          pes =
              record {
                within = omega (arith, length-append ps (p ∷ []));
                says = rw e refl;
                right = rw e s.header;
                timed = rw e s.times;
              };
          ascend =
              ascending_and (first_packets s.closed.units) (length ps)
              (subst Ascending (ap (λ (z : Option OpenPes). first_packets s.closed.units ++ open_first z) k.1
              ∙ append-nil (first_packets s.closed.units)) k.0.ascend)
              (firsts_below ps s.closed.units k.0.units);
        })
    moved ps p x x' r (adding a) =
        let c = longer ps p x r in
        subst (RightUpTo (ps ++ (p ∷ []))) (sym a.adds)
        (record {
          units = c.units;
          pes = subst (OpenRight (ps ++ (p ∷ []))) a.there c.pes;
          ascend = subst Ascending (ap (λ (z : Option OpenPes). first_packets x.units ++ open_first z) a.there) c.ascend;
        })

    -- ---- an accepted segment
    module _ (s : Bytes) (a : Accepted) (e : check_segment edition rooms s ≡ passed a) where
      kept : Kept edition rooms RightUpTo moved (record { units = tt; pes = tt; ascend = tt }) (packets s) a.units
      kept = accepted_keeps edition rooms RightUpTo moved (record { units = tt; pes = tt; ascend = tt }) s a e

      ended : RightUpTo (packets s) kept.last × (kept.last.pes ≡ None)
      ended = closed (packets s) kept.before kept.last kept.keeping (close_passed kept.before kept.last kept.closes)

      -- each unit is of a PES that began in one of the packets, and nothing refused it
      pub units_right : All (UnitRight (packets s)) a.units
      units_right = subst (All (UnitRight (packets s))) (sym kept.units) ended.0.units

      -- each is accepted by reading
      pub units_accepted : All (λ u. (l : List Bytes) × (read_unit u.carried ≡ passed l)) a.units
      units_accepted = all_so a.units (λ u r. (r.obus, r.read)) units_right

      -- "a unit as carried 1,573,056 bytes"
      pub lengths_within : All (λ u. length u.carried ≤ most_carried) a.units
      lengths_within = all_so a.units (λ u r. carried_within u.carried r.obus r.read) units_right

      -- its PES length is 0, or "the number of PES bytes after that field": two bytes of flags, the length byte and as many as this counts,
      -- and the unit's bytes
      pub pes_lengths : All (λ u. LengthRight (payload (get_or (packets s) u.first [])) u.carried) a.units
      pes_lengths = all_so a.units
          (λ u r. length_right _ u.carried (subst (λ (h : Header). length_differs h _ ≡ false) r.began.says r.sized)) units_right

      -- its times are those that the PES header in the packet that began it says
      pub times_said : All (λ u. u.times ≡ times_of (payload (get_or (packets s) u.first []))) a.units
      times_said = all_so a.units (λ u r. r.times ∙ ap (λ (h : Header). h.times) r.began.says) units_right

      -- in an edition in which times are needed, of a segment of bytes: each unit has both, of 33 bits
      pub times_within : edition.times_needed ≡ true → Octets s → All (λ u. Timed u.times) a.units
      times_within needed o =
          all_so a.units
          (λ u r. subst Timed (sym (r.times ∙ ap (λ (h : Header). h.times) r.began.says))
          (stamped (payload (get_or (packets s) u.first [])) (octets_payload _ (octets_packet (length s / packet_length) s u.first o))
          (and_second edition.times_needed _ needed r.began.timed)))
          units_right

      -- the packets that began the units ascend, and are packets of the segment
      pub firsts_ascend : Ascending (first_packets a.units)
      firsts_ascend =
          subst Ascending
          (ap (λ (z : Option OpenPes). first_packets kept.last.units ++ open_first z) ended.1
          ∙ append-nil (first_packets kept.last.units) ∙ ap first_packets (sym kept.units))
          ended.0.ascend

      pub firsts_within : All (λ n. n < length s / packet_length) (first_packets a.units)
      firsts_within =
          subst (λ (n : ℕ). All (λ m. m < n) (first_packets a.units)) (length_packets (length s / packet_length) s)
          (firsts_below (packets s) a.units units_right)
