-- Two states that are alike: their tables say the same, and their units have the same bytes and times; the records of the counters may
-- differ, and a PCR that counted in the first has counted in the second; where packets lie is not compared. A packet that passes in the
-- first passes in the second, whatever the indices are, and the states are alike again (`packet_alike`). Assumes nothing.
use Rattle.ticks.specs.declared.Ticks27.{Ticks27}
use Rattle.std.specs.Prelude.{Option, Some, None}
use Prim.Native.Nat.{ℕ, ◌+◌, ◌*◌}
use mathlib.Core.Bool.{Bool, true, false, not, ◌&&◌, ◌||◌}
use mathlib.Core.Path.{◌≡◌, refl, sym, ap, ap₂, ◌∙◌, subst}
use mathlib.Core.List.{List, [], ◌∷◌, ◌++◌, map, flatten, map-append}
use lib.Dec.{eqb, ltb}
use lib.ListN.{length, length-map}
use Rattle.lists.specs.Lists.{Bytes, pick, any}
use Rattle.lists.proofs.Tests.{clash}
use Rattle.refusal.specs.Verdict.{Verdict, passed, refused, ◌>>=◌, ◌>>◌, given, at_place}
use Rattle.refusal.proofs.Verdicts.{never, passed_same}
use Rattle.descriptor.specs.Edition.{Edition}
use Rattle.packet.specs.Header.{header_of, pid, pcr, has_payload, payload}
use Rattle.packet.specs.Counter.{StreamRecord, named, follows, updated, check, record_of, checked_in}
use Rattle.packet.proofs.Counters.{some_not_none, some_same}
use Rattle.psi.specs.Section.{section_of}
use Rattle.psi.specs.Pat.{read_pat}
use Rattle.psi.specs.declared.pat.Program.{Program}
use Rattle.pmt.specs.Pmt.{MapContent, pids, read_pmt}
use Rattle.pes.specs.declared.header.Header.{Header}
use Rattle.pes.specs.declared.header.Times.{Times}
use Rattle.pes.specs.Pes as pes
use Rattle.unit.specs.Unit.{read_unit}
use Rattle.segment_rules.specs.State.{FirstPat, FirstPmt, Tables, OpenPes, Extraction, State}
use Rattle.segment_rules.specs.State.{Kind, Null, Pat, Map, Av1, Listed, Unlisted, is_map_pid, listed_as, kind_of}
use Rattle.segment_rules.specs.State.{with_pmt, with_pes, with_unit}
use Rattle.segment_rules.specs.Rules.{Rooms, Rule, in_sequence, on_tables, on_units, counting_pcr, last_pcr, is_pcr}
use Rattle.segment_rules.specs.Rules.{length_differs, length_wrong, unit_of, close_open, close_if_open, close_pes}
use Rattle.segment_rules.specs.Rules.{later_section, pat_section, pmt_section, section_read, with_next, is_open, open_bytes, carried_so_far}
use Rattle.segment_rules.specs.Rules.{rule, clocked, checked, up_to24, rules25to28, most_units}
use Rattle.segment_rules.specs.Rules.{av1_payload, av1_start, av1_more, unit_bytes, opened, added_to, carried}
use Rattle.segment_rules.specs.Rules.{closing, rule29, rule30, rule31, rule34, rule8, pes_rules, after24}
use Rattle.segment_rules.specs.Rules.{last_repeats, unless_repeat, packet_rules}
use Rattle.segment_rules.proofs.Sequence.{bind_assoc, up_to_24}

-- ---- two verdicts: where the first passed, the second did
abbrev pub Both : {A B : Type 0} → (A → B → Type 0) → Verdict A → Verdict B → Type 0
Both {A} {B} R (passed a) w = (b : B) × (w ≡ passed b) × R a b
Both R (refused number place) w = Unit {0}

module _ {A B : Type 0} (R : A → B → Type 0) where
  -- two steps
  pub both_bind : {C D : Type 0} (S : C → D → Type 0) (v : Verdict A) (w : Verdict B) (f : A → Verdict C) (g : B → Verdict D) → Both R v w
      → ((a : A) (b : B) → R a b → Both S (f a) (g b)) → Both S (v >>= f) (w >>= g)
  unfolding ◌>>=◌
  both_bind S (passed a) w f g h k = subst (λ (x : Verdict B). Both S (f a) (x >>= g)) (sym h.1) (k a h.0 h.2)
  both_bind S (refused number place) w f g h k = tt

  -- the same test, with another place
  pub both_try : (i j number : ℕ) (b c : Bool) (v : Verdict A) (w : Verdict B) → (b ≡ false → c ≡ false) → Both R v w
      → Both R (at_place i (given number b) >> v) (at_place j (given number c) >> w)
  unfolding given at_place pick ◌>>◌
  both_try i j number true c v w h k = tt
  both_try i j number false c v w h k = rw (h refl) k

  pub both_given : (number : ℕ) (b : Bool) (v : Verdict A) (w : Verdict B) → Both R v w → Both R (given number b >> v) (given number b >> w)
  unfolding given pick ◌>>◌
  both_given number true v w k = tt
  both_given number false v w k = k

  -- the same step
  pub both_value : {C : Type 0} (v : Verdict C) (f : C → Verdict A) (g : C → Verdict B) → ((c : C) → Both R (f c) (g c))
      → Both R (v >>= f) (v >>= g)
  unfolding ◌>>=◌
  both_value (passed c) f g k = k c
  both_value (refused number place) f g k = tt

  -- the same step, with another place, whose value is not handed on
  pub both_same : {C : Type 0} (i j : ℕ) (u u' : Verdict C) (v : Verdict A) (w : Verdict B) → u ≡ u' → Both R v w
      → Both R (at_place i u >> v) (at_place j u' >> w)
  unfolding at_place ◌>>◌
  both_same i j (passed c) u' v w e k = rw (sym e) k
  both_same i j (refused number place) u' v w e k = tt

  pub both_at : (i j : ℕ) (v : Verdict A) (w : Verdict B) → Both R v w → Both R (at_place i v) (at_place j w)
  unfolding at_place
  both_at i j (passed a) w h = (h.0, rw h.1, h.2)
  both_at i j (refused number place) w h = tt

  pub both_pick : (b c : Bool) (v v' : Verdict A) (w w' : Verdict B) → b ≡ c → Both R v w → Both R v' w'
      → Both R (pick b v v') (pick c w w')
  unfolding pick
  both_pick true c v v' w w' e h k = rw (sym e) h
  both_pick false c v v' w w' e h k = rw (sym e) k

-- ---- units
abbrev pub AlikePes : Option OpenPes → Option OpenPes → Type 0
AlikePes None None = Unit {0}
AlikePes None (Some o) = ⊥
AlikePes (Some o) None = ⊥
AlikePes (Some o) (Some o') = (o.header ≡ o'.header) × (o.bytes ≡ o'.bytes)

pub record AlikeUnits (x x' : Extraction) : Type 0 where
  pub pes : AlikePes x.pes x'.pes
  pub carried : map (λ u. u.carried) x.units ≡ map (λ u. u.carried) x'.units
  pub times : map (λ u. u.times) x.units ≡ map (λ u. u.times) x'.units

-- what the rules ask of them is the same
pub alike_open : (o o' : Option OpenPes) → AlikePes o o' → is_open o ≡ is_open o'
alike_open None None h = refl
alike_open None (Some o) h = absurd h
alike_open (Some o) None h = absurd h
alike_open (Some o) (Some o') h = refl

alike_bytes : (o o' : Option OpenPes) → AlikePes o o' → open_bytes o ≡ open_bytes o'
alike_bytes None None h = refl
alike_bytes None (Some o) h = absurd h
alike_bytes (Some o) None h = absurd h
alike_bytes (Some o) (Some o') h = h.1

module _ (x x' : Extraction) (a : AlikeUnits x x') where
  pub alike_count : with_next x ≡ with_next x'
  alike_count =
      ap (λ (n : ℕ). n + 1)
      (sym (length-map x.units (λ u. u.carried)) ∙ ap length a.carried ∙ length-map x'.units (λ u. u.carried))

  pub alike_carried : carried_so_far x ≡ carried_so_far x'
  alike_carried = ap₂ (λ (s t : Bytes). s ++ t) (ap flatten a.carried) (alike_bytes x.pes x'.pes a.pes)

  -- the closing of the open PES
  unit_alike : (o o' : OpenPes) → o.header ≡ o'.header → o.bytes ≡ o'.bytes
      → AlikeUnits (with_unit (unit_of o) x) (with_unit (unit_of o') x')
  unit_alike o o' h b =
      record {
        pes = tt;
        carried =
            map-append (λ u. u.carried) x.units (unit_of o ∷ [])
            ∙ ap₂ (λ (s t : List Bytes). s ++ t) a.carried (ap (λ (w : Bytes). w ∷ []) b)
            ∙ sym (map-append (λ u. u.carried) x'.units (unit_of o' ∷ []));
        times =
            map-append (λ u. u.times) x.units (unit_of o ∷ [])
            ∙ ap₂ (λ (s t : List (Option Times)). s ++ t) a.times (ap (λ (w : Header). w.times ∷ []) h)
            ∙ sym (map-append (λ u. u.times) x'.units (unit_of o' ∷ []));
      }

  pub close_alike : Both AlikeUnits (close_pes x) (close_pes x')
  unfolding close_if_open close_open
  close_alike = go x.pes x'.pes a.pes
    where
      go : (o o' : Option OpenPes) → AlikePes o o' → Both AlikeUnits (close_if_open o x) (close_if_open o' x')
      go None None h = (x', refl, a)
      go None (Some o) h = absurd h
      go (Some o) None h = absurd h
      go (Some o) (Some o') h =
          both_try AlikeUnits o.first o'.first 32 (length_wrong o) (length_wrong o') _ _
          (λ e. ap₂ (λ (k : Header) (w : Bytes). length_differs k (length w)) (sym h.0) (sym h.1) ∙ e)
          (both_same AlikeUnits o.first o'.first _ _ _ _ (ap read_unit h.1) (_, refl, unit_alike o o' h.0 h.1))

-- ---- the records, but for where their last packets lie
abbrev pub placeless : StreamRecord → StreamRecord
placeless r = record { pid = r.pid; last = r.last; lies = 0; repeat = r.repeat }

abbrev pub said : List StreamRecord → List StreamRecord
said records = map placeless records

-- the check does not look at it
said_check : (i : ℕ) (q : Bytes) (r : StreamRecord) (l : List StreamRecord)
    → (check 0 (placeless r) q >>= λ r'. passed (r' ∷ said l))
    ≡ ((check i r q >>= λ r'. passed (r' ∷ l)) >>= λ after. passed (said after))
unfolding check given pick ◌>>=◌ ◌>>◌
said_check i q r l = go (follows r q)
  where
    go : (b : Bool)
        → ((given 24 (not b) >> passed (updated 0 (placeless r) q)) >>= λ r'. passed (r' ∷ said l))
        ≡ (((given 24 (not b) >> passed (updated i r q)) >>= λ r'. passed (r' ∷ l)) >>= λ after. passed (said after))
    go true = refl
    go false = refl

pub said_checked : (i : ℕ) (q : Bytes) (l : List StreamRecord)
    → checked_in 0 (said l) q ≡ (checked_in i l q >>= λ after. passed (said after))
unfolding checked_in pick ◌>>=◌
said_checked i q [] = refl
said_checked i q (r ∷ l) = go (eqb r.pid (pid q)) (said_checked i q l)
  where
    go : (b : Bool) → checked_in 0 (said l) q ≡ (checked_in i l q >>= λ after. passed (said after))
        → pick b (check 0 (placeless r) q >>= λ r'. passed (r' ∷ said l))
        (checked_in 0 (said l) q >>= λ after. passed (placeless r ∷ after))
        ≡ (pick b (check i r q >>= λ r'. passed (r' ∷ l)) (checked_in i l q >>= λ after. passed (r ∷ after))
        >>= λ after. passed (said after))
    go true more = said_check i q r l
    go false more =
        ap (λ (v : Verdict (List StreamRecord)). v >>= λ after. passed (placeless r ∷ after)) more
        ∙ bind_assoc (checked_in i l q) (λ after. passed (said after)) (λ after. passed (placeless r ∷ after))
        ∙ sym (bind_assoc (checked_in i l q) (λ after. passed (r ∷ after)) (λ after. passed (said after)))

-- nor do the rules of a repeat
pub said_repeats : (n : ℕ) (l : List StreamRecord) → last_repeats (record_of n (said l)) ≡ last_repeats (record_of n l)
unfolding record_of pick
said_repeats n [] = refl
said_repeats n (r ∷ l) = go (eqb r.pid n) (said_repeats n l)
  where
    go : (b : Bool) → last_repeats (record_of n (said l)) ≡ last_repeats (record_of n l)
        → last_repeats (pick b (Some (placeless r)) (record_of n (said l))) ≡ last_repeats (pick b (Some r) (record_of n l))
    go true more = refl
    go false more = more

pub said_record : (n : ℕ) (l : List StreamRecord) (r : StreamRecord) → record_of n l ≡ Some r → record_of n (said l) ≡ Some (placeless r)
unfolding record_of pick
said_record n [] r e = absurd (some_not_none r (sym e))
said_record n (s ∷ l) r e = go (eqb s.pid n) e (said_record n l r)
  where
    go : (b : Bool) → pick b (Some s) (record_of n l) ≡ Some r → (record_of n l ≡ Some r → record_of n (said l) ≡ Some (placeless r))
        → pick b (Some (placeless s)) (record_of n (said l)) ≡ Some (placeless r)
    go true k more = ap (λ (x : StreamRecord). Some (placeless x)) (some_same s r k)
    go false k more = more k

-- so two checks go alike where those of what is said do
counts_alike : (S : List StreamRecord → List StreamRecord → Type 0) (i j : ℕ) (q : Bytes) (l l' : List StreamRecord)
    → Both S (checked_in 0 (said l) q) (checked_in 0 (said l') q)
    → Both (λ (a b : List StreamRecord). S (said a) (said b)) (checked_in i l q) (checked_in j l' q)
unfolding ◌>>=◌
counts_alike S i j q l l' h =
    go (checked_in i l q) (checked_in j l' q)
    (subst (λ (v : Verdict (List StreamRecord)). Both S v (checked_in j l' q >>= λ after. passed (said after))) (said_checked i q l)
    (subst (Both S (checked_in 0 (said l) q)) (said_checked j q l') h))
  where
    go : (v w : Verdict (List StreamRecord)) → Both S (v >>= λ after. passed (said after)) (w >>= λ after. passed (said after))
        → Both (λ (a b : List StreamRecord). S (said a) (said b)) v w
    go (passed a) (passed b) k = (b, refl, subst (S (said a)) (sym (passed_same (said b) k.0 k.1)) k.2)
    go (passed a) (refused number place) k = never k.1
    go (refused number place) w k = tt

-- ---- the first PAT and the first PMT, but for the packets that brought them
abbrev pub SamePat : Option FirstPat → Option FirstPat → Type 0
SamePat None None = Unit {0}
SamePat None (Some f) = ⊥
SamePat (Some f) None = ⊥
SamePat (Some f) (Some f') = (f.section ≡ f'.section) × (f.says ≡ f'.says)

abbrev pub SamePmt : Option FirstPmt → Option FirstPmt → Type 0
SamePmt None None = Unit {0}
SamePmt None (Some m) = ⊥
SamePmt (Some m) None = ⊥
SamePmt (Some m) (Some m') = (m.section ≡ m'.section) × (m.says ≡ m'.says)

pub pat_self : (o : Option FirstPat) → SamePat o o
pat_self None = tt
pat_self (Some f) = (refl, refl)

pub pmt_self : (o : Option FirstPmt) → SamePmt o o
pmt_self None = tt
pmt_self (Some m) = (refl, refl)

same_map_pid : (o o' : Option FirstPat) (n : ℕ) → SamePat o o' → is_map_pid o n ≡ is_map_pid o' n
unfolding is_map_pid
same_map_pid None None n h = refl
same_map_pid None (Some f) n h = absurd h
same_map_pid (Some f) None n h = absurd h
same_map_pid (Some f) (Some f') n h = ap (λ (x : Program). eqb n x.map_pid) h.1

same_listed : (o o' : Option FirstPmt) (n : ℕ) → SamePmt o o' → listed_as o n ≡ listed_as o' n
unfolding listed_as
same_listed None None n h = refl
same_listed None (Some m) n h = absurd h
same_listed (Some m) None n h = absurd h
same_listed (Some m) (Some m') n h =
    ap (λ (x : MapContent). pick (eqb n x.av1.pid) Av1 (pick (any (eqb n) (pids x.entries)) Listed Unlisted)) h.1

same_pcr : (o o' : Option FirstPmt) (q : Bytes) → SamePmt o o' → counting_pcr o q ≡ counting_pcr o' q
unfolding counting_pcr
same_pcr None None q h = refl
same_pcr None (Some m) q h = absurd h
same_pcr (Some m) None q h = absurd h
same_pcr (Some m) (Some m') q h = ap (λ (x : MapContent). pick (eqb (pid q) x.pcr_pid) (pcr q) None) h.1

-- ---- both parts, where what the records say is in some relation
module _ (R : List StreamRecord → List StreamRecord → Type 0) where
  pub record AlikeTables (t t' : Tables) : Type 0 where
    pub pat : SamePat t.pat t'.pat
    pub pmt : SamePmt t.pmt t'.pmt
    pub pcr : is_pcr t.pcr ≡ true → is_pcr t'.pcr ≡ true
    pub records : R (said t.records) (said t'.records)

  pub record Alike (st st' : State) : Type 0 where
    pub tables : AlikeTables st.tables st'.tables
    pub units : AlikeUnits st.extraction st'.extraction

  pub kind_alike : (t t' : Tables) (n : ℕ) → AlikeTables t t' → kind_of t n ≡ kind_of t' n
  unfolding kind_of
  kind_alike t t' n a = rw (same_map_pid t.pat t'.pat n a.pat, same_listed t.pmt t'.pmt n a.pmt)

-- ---- rules
abbrev pub Records : Type 1
Records = List StreamRecord → List StreamRecord → Type 0

abbrev pub AlikeRules : Records → Records → Rule → Rule → Type 0
AlikeRules R S r r' = (st st' : State) → Alike R st st' → Both (Alike S) (r st) (r' st')

module _ (R S : Records) (f f' : Tables → Verdict Tables) where
  tables_alike : ((t t' : Tables) → AlikeTables R t t' → Both (AlikeTables S) (f t) (f' t')) → AlikeRules R S (on_tables f) (on_tables f')
  unfolding on_tables
  tables_alike k st st' a =
      both_bind (AlikeTables S) (Alike S) (f st.tables) (f' st'.tables) _ _ (k st.tables st'.tables a.tables)
      (λ t t' b. (_, refl, record { tables = b; units = a.units }))

module _ (R : Records) where
  units_alike : (f f' : Extraction → Verdict Extraction) → ((x x' : Extraction) → AlikeUnits x x' → Both AlikeUnits (f x) (f' x'))
      → AlikeRules R R (on_units f) (on_units f')
  unfolding on_units
  units_alike f f' k st st' a =
      both_bind AlikeUnits (Alike R) (f st.extraction) (f' st'.extraction) _ _ (k st.extraction st'.extraction a.units)
      (λ x x' b. (_, refl, record { tables = a.tables; units = b }))

  rule_alike : (i j number : ℕ) (p : Bytes) (c c' : State → Bool) → ((st st' : State) → Alike R st st' → c st ≡ false → c' st' ≡ false)
      → AlikeRules R R (rule i p number c) (rule j p number c')
  unfolding rule
  rule_alike i j number p c c' k st st' a = both_try (Alike R) i j number (c st) (c' st') _ _ (k st st' a) (_, refl, a)

  abbrev EachAlike : List Rule → List Rule → Type 0
  EachAlike [] [] = Unit {0}
  EachAlike [] (r ∷ rules) = ⊥
  EachAlike (r ∷ rules) [] = ⊥
  EachAlike (r ∷ rules) (r' ∷ rules') = AlikeRules R R r r' × EachAlike rules rules'

  sequence_alike : (rules rules' : List Rule) → EachAlike rules rules' → AlikeRules R R (in_sequence rules) (in_sequence rules')
  unfolding in_sequence
  sequence_alike [] [] k st st' a = (_, refl, a)
  sequence_alike [] (r ∷ rules) k st st' a = absurd k
  sequence_alike (r ∷ rules) [] k st st' a = absurd k
  sequence_alike (r ∷ rules) (r' ∷ rules') k st st' a =
      both_bind (Alike R) (Alike R) (r st) (r' st') _ _ (k.0 st st' a) (sequence_alike rules rules' k.1)

-- ---- up to 24
pcr_alike : (earlier earlier' c : Option Ticks27) → (is_pcr earlier ≡ true → is_pcr earlier' ≡ true) → is_pcr (last_pcr earlier c) ≡ true
    → is_pcr (last_pcr earlier' c) ≡ true
pcr_alike earlier earlier' None h e = h e
pcr_alike earlier earlier' (Some ticks) h e = refl

module _ (R S : Records) (i j : ℕ) (q : Bytes)
    (counts : (l l' : List StreamRecord) → R l l' → Both S (checked_in 0 l q) (checked_in 0 l' q)) where
  checked_alike : (t t' : Tables) → AlikeTables R t t' → Both (AlikeTables S) (checked i q (clocked i q t)) (checked j q (clocked j q t'))
  unfolding checked
  checked_alike t t' a =
      both_bind (λ (l l' : List StreamRecord). S (said l) (said l')) (AlikeTables S) _ _ _ _
      (both_at (λ (l l' : List StreamRecord). S (said l) (said l')) i j _ _
      (counts_alike S i j q t.records t'.records (counts (said t.records) (said t'.records) a.records)))
      (λ l l' b. (
        _,
        refl,
        record {
          pat = a.pat;
          pmt = a.pmt;
          pcr = λ e. subst (λ (c : Option Ticks27). is_pcr (last_pcr t'.pcr c) ≡ true) (same_pcr t.pmt t'.pmt q a.pmt)
              (pcr_alike t.pcr t'.pcr (counting_pcr t.pmt q) a.pcr e);
          records = b;
        },
      ))

  pub to_24_alike : AlikeRules R S (in_sequence (up_to24 i q)) (in_sequence (up_to24 j q))
  to_24_alike st st' a =
      subst (λ (v : Verdict State). Both (Alike S) v (in_sequence (up_to24 j q) st')) (sym (up_to_24 i q st))
      (subst (λ (v : Verdict State). Both (Alike S) (at_place i (header_of q) >> on_tables (λ t. checked i q (clocked i q t)) st) v)
      (sym (up_to_24 j q st'))
      (both_same (Alike S) i j (header_of q) (header_of q) _ _ refl (tables_alike R S _ _ checked_alike st st' a)))

-- ---- sections
module _ (R : Records) (grows : (l l' new : List StreamRecord) → R l l' → R (l ++ new) (l' ++ new)) (edition : Edition) where
  module _ (i j : ℕ) (t t' : Tables) (a : AlikeTables R t t') where
    later_alike : (number : ℕ) (first first' section : Bytes) → first ≡ first'
        → Both (AlikeTables R) (later_section number first section t) (later_section number first' section t')
    unfolding later_section
    later_alike number first first' section e =
        subst (λ (s : Bytes). Both (AlikeTables R) (later_section number first section t) (later_section number s section t')) e
        (both_given (AlikeTables R) number _ _ _ (_, refl, a))

    more_records : (new : List StreamRecord) → R (said (t.records ++ new)) (said (t'.records ++ new))
    more_records new =
        subst (λ (l : List StreamRecord). R l (said (t'.records ++ new))) (sym (map-append placeless t.records new))
        (subst (λ (l : List StreamRecord). R (said t.records ++ said new) l) (sym (map-append placeless t'.records new))
        (grows (said t.records) (said t'.records) (said new) a.records))

    pat_alike : (o o' : Option FirstPat) (section : Bytes) → SamePat o o'
        → Both (AlikeTables R) (pat_section i o section t) (pat_section j o' section t')
    unfolding pat_section
    pat_alike None None section h =
        both_value (AlikeTables R) (read_pat section) _ _
        (λ program. (_, refl, record { pat = (refl, refl); pmt = a.pmt; pcr = a.pcr; records = more_records _ }))
    pat_alike None (Some f) section h = absurd h
    pat_alike (Some f) None section h = absurd h
    pat_alike (Some f) (Some f') section h = later_alike 25 f.section f'.section section h.0

    abbrev map_read : ℕ → Tables → Bytes → Program → Verdict Tables
    map_read k t section program =
        read_pmt edition program.number program.map_pid section
        >>= λ m. passed (with_pmt (record { packet = k; section = section; says = m }) (map named (pids m.entries)) t)

    pmt_alike : (o o' : Option FirstPat) (m m' : Option FirstPmt) (section : Bytes) → SamePat o o' → SamePmt m m'
        → Both (AlikeTables R) (pmt_section edition i o m section t) (pmt_section edition j o' m' section t')
    unfolding pmt_section
    pmt_alike None None m m' section h k = (_, refl, a)
    pmt_alike None (Some f) m m' section h k = absurd h
    pmt_alike (Some f) None m m' section h k = absurd h
    pmt_alike (Some f) (Some f') None None section h k =
        subst (λ (x : Program). Both (AlikeTables R) (map_read i t section f.says) (map_read j t' section x)) h.1
        (both_value (AlikeTables R) (read_pmt edition f.says.number f.says.map_pid section) _ _
        (λ m. (_, refl, record { pat = a.pat; pmt = (refl, refl); pcr = a.pcr; records = more_records _ })))
    pmt_alike (Some f) (Some f') None (Some m) section h k = absurd k
    pmt_alike (Some f) (Some f') (Some m) None section h k = absurd k
    pmt_alike (Some f) (Some f') (Some m) (Some m') section h k = later_alike 26 m.section m'.section section k.0

    section_alike : (kind : Kind) (b : Bool) (w : Bytes)
        → Both (AlikeTables R) (section_read edition kind i b w t) (section_read edition kind j b w t')
    unfolding section_read
    section_alike Null b w = (_, refl, a)
    section_alike Pat b w = both_given (AlikeTables R) 25 _ _ _ (pat_alike t.pat t'.pat (section_of w) a.pat)
    section_alike Map b w =
        both_given (AlikeTables R) 26 _ _ _ (pmt_alike t.pat t'.pat t.pmt t'.pmt (section_of w) a.pat a.pmt)
    section_alike Av1 b w = (_, refl, a)
    section_alike Listed b w = (_, refl, a)
    section_alike Unlisted b w = (_, refl, a)

  sections_alike : (i j : ℕ) (q : Bytes) (kind : Kind) → AlikeRules R R (rules25to28 i q kind edition) (rules25to28 j q kind edition)
  unfolding rules25to28
  sections_alike i j q kind =
      tables_alike R R _ _
      (λ t t' a. both_pick (AlikeTables R) (has_payload q) (has_payload q) _ _ _ _ refl
      (both_at (AlikeTables R) i j _ _ (section_alike i j t t' a kind _ _)) (_, refl, a))

-- ---- the rules of a PES
no_pcr_alike : (b c c' : Bool) → (c ≡ true → c' ≡ true) → (b && not c) ≡ false → (b && not c') ≡ false
no_pcr_alike false c c' h e = refl
no_pcr_alike true true c' h e = rw (h refl)
no_pcr_alike true false c' h e = clash refl e

module _ (R : Records) (edition : Edition) (rooms : Rooms) (i j : ℕ) (q : Bytes) (kind : Kind) where
  closing_alike : AlikeRules R R (closing i q kind) (closing j q kind)
  unfolding closing
  closing_alike =
      units_alike R _ _
      (λ x x' a. both_pick AlikeUnits (av1_start i q kind) (av1_start j q kind) _ _ _ _ refl (close_alike x x' a) (_, refl, a))

  alike_29 : AlikeRules R R (rule29 i q kind) (rule29 j q kind)
  unfolding rule29
  alike_29 =
      rule_alike R i j 29 q _ _
      (λ st st' a e. ap (λ (b : Bool). (av1_start j q kind && pes.header_wrong (payload q)) || (av1_more j q kind && not b))
      (sym (alike_open st.extraction.pes st'.extraction.pes a.units.pes)) ∙ e)

  alike_30 : AlikeRules R R (rule30 i q kind edition) (rule30 j q kind edition)
  unfolding rule30
  alike_30 = rule_alike R i j 30 q _ _ (λ st st' a e. e)

  alike_31 : AlikeRules R R (rule31 i q kind) (rule31 j q kind)
  unfolding rule31
  alike_31 =
      rule_alike R i j 31 q _ _
      (λ st st' a e. no_pcr_alike (av1_payload i q kind) (is_pcr st.tables.pcr) (is_pcr st'.tables.pcr) a.tables.pcr e)

  alike_34 : AlikeRules R R (rule34 i q kind) (rule34 j q kind)
  unfolding rule34
  alike_34 =
      rule_alike R i j 34 q _ _
      (λ st st' a e. ap (λ (n : ℕ). av1_start j q kind && ltb most_units n) (sym (alike_count st.extraction st'.extraction a.units))
      ∙ e)

  past : ℕ → Bytes → Bool
  past n s =
      (av1_payload i q kind && ltb rooms.bytes (length s + length (unit_bytes i q kind)))
      || (av1_start i q kind && (ltb rooms.lens n || ltb rooms.times (2 * n)))

  alike_8 : AlikeRules R R (rule8 i q kind rooms) (rule8 j q kind rooms)
  unfolding rule8 past
  alike_8 =
      rule_alike R i j 8 q _ _
      (λ st st' a e. ap₂ past (sym (alike_count st.extraction st'.extraction a.units))
      (sym (alike_carried st.extraction st'.extraction a.units)) ∙ e)

  added_alike : (x x' : Extraction) → AlikeUnits x x' → (o o' : Option OpenPes) → AlikePes o o'
      → AlikeUnits (added_to i q kind o x) (added_to j q kind o' x')
  unfolding added_to
  added_alike x x' a None None h = a
  added_alike x x' a None (Some o) h = absurd h
  added_alike x x' a (Some o) None h = absurd h
  added_alike x x' a (Some o) (Some o') h =
      record { pes = (h.0, ap (λ (s : Bytes). s ++ unit_bytes i q kind) h.1); carried = a.carried; times = a.times }

  carried_alike : AlikeRules R R (carried i q kind) (carried j q kind)
  unfolding carried pick
  carried_alike = units_alike R _ _ (λ x x' a. (_, refl, go (av1_start i q kind) (av1_more i q kind) x x' a))
    where
      go : (b c : Bool) (x x' : Extraction) → AlikeUnits x x'
          → AlikeUnits (pick b (with_pes (opened i q kind) x) (pick c (added_to i q kind x.pes x) x))
          (pick b (with_pes (opened j q kind) x') (pick c (added_to j q kind x'.pes x') x'))
      go true c x x' a = record { pes = (refl, refl); carried = a.carried; times = a.times }
      go false true x x' a = added_alike x x' a x.pes x'.pes a.pes
      go false false x x' a = a

  pes_alike : AlikeRules R R (in_sequence (pes_rules edition rooms i q kind)) (in_sequence (pes_rules edition rooms j q kind))
  pes_alike =
      sequence_alike R (pes_rules edition rooms i q kind) (pes_rules edition rooms j q kind)
      (closing_alike, (alike_29, (alike_30, (alike_31, (alike_34, (alike_8, (carried_alike, tt)))))))

-- ---- the whole packet: 24 takes one relation of the records to another, which named PIDs keep and in which the packet is a repeat in both
-- or in none
module _ (R S : Records) (grows : (l l' new : List StreamRecord) → S l l' → S (l ++ new) (l' ++ new)) (edition : Edition) (rooms : Rooms)
    (q : Bytes) (counts : (l l' : List StreamRecord) → R l l' → Both S (checked_in 0 l q) (checked_in 0 l' q))
    (repeats : (l l' : List StreamRecord) → S l l' → last_repeats (record_of (pid q) l) ≡ last_repeats (record_of (pid q) l')) where
  rest_alike : (i j : ℕ) (kind : Kind)
      → AlikeRules S S (in_sequence (after24 edition rooms i q kind)) (in_sequence (after24 edition rooms j q kind))
  unfolding in_sequence
  rest_alike i j kind st st' a =
      both_bind (Alike S) (Alike S) (rules25to28 i q kind edition st) (rules25to28 j q kind edition st') _ _
      (sections_alike S grows edition i j q kind st st' a) (pes_alike S edition rooms i j q kind)

  pub packet_alike : (i j : ℕ) (kind : Kind) → AlikeRules R S (packet_rules edition rooms i q kind) (packet_rules edition rooms j q kind)
  unfolding packet_rules unless_repeat
  packet_alike i j kind st st' a =
      both_bind (Alike S) (Alike S) (in_sequence (up_to24 i q) st) (in_sequence (up_to24 j q) st') _ _
      (to_24_alike R S i j q counts st st' a)
      (λ st1 st1' b. both_pick (Alike S) _ _ _ _ _ _
      (sym (said_repeats (pid q) st1.tables.records)
      ∙ repeats (said st1.tables.records) (said st1'.tables.records) b.tables.records
      ∙ said_repeats (pid q) st1'.tables.records)
      (_, refl, b)
      (rest_alike i j kind st1 st1' b))
