-- What holds of a PMT section that passed (`says`), of its entries and their PIDs, and of the AV1 entry. Assumes nothing.
use Prim.Native.Nat.{ℕ, zero, suc, ◌+◌, ◌-◌, ◌≤◌, ◌<◌}
use mathlib.Core.Bool.{Bool, true, false, not}
use mathlib.Core.Path.{◌≡◌, refl, sym, ap, ap₂, subst, ◌∙◌}
use mathlib.Core.List.{List, [], ◌∷◌, ◌++◌}
use native.Mathlib.Omega.{arith}
use borrow.Author.Tests.{eqb-true, eqb-false, ltb-true, ltb-false, not-false}
use lib.Dec.{eqb, ltb}
use lib.ListN.{length, take, drop, get_or, length-append, get_or-append, get_or-map}
use lib.Seq.{take-append-le, take-append_seam, get_or-append-add, get_or-take, length-take-le}
use Rattle.lists.specs.Lists.{Bytes, any, those}
use Rattle.lists.specs.Bytes.{byte, Octets}
use Rattle.lists.proofs.Elements.{those_first, those_others}
use Rattle.lists.proofs.Tests.{case, or_neither}
use Rattle.refusal.specs.Verdict.{Verdict, passed, refused, ◌>>◌, given}
use Rattle.refusal.proofs.Verdicts.{passed_then, passed_after, passed_same, given_passed, never}
use Rattle.psi.specs.Section.{common_wrong, before_crc, up_to_crc, table_id_extension}
use Rattle.descriptor.specs.Edition.{Edition}
use Rattle.packet.specs.Header.{null_pid}
use Rattle.lists.proofs.Parts.{octets_drop, octets_take}
use Rattle.pmt.specs.Pmt.{MapEntry, MapContent, elementary_pid, entry_size, pid_wrong, entry, pids, most_entries, entries_after, entries}
use Rattle.pmt.specs.Pmt.{is_av1, one_av1, av1_entry, pcr_pid, program_info_length, entry_bytes, read_pmt}
use Rattle.pmt.specs.Answer.{first_of, map_of, mapped}
use Rattle.pmt.specs.declared.section.ProgramMap.{ProgramMap}
use Rattle.pmt.proofs.Finding.{first_in, first_out}

-- ---- the tries of a section that passed
past : {A B : Type 0} (v : Verdict A) (w : Verdict B) (b : B) → (v >> w) ≡ passed b → w ≡ passed b
unfolding ◌>>◌
past (passed a) w b e = e
past (refused number place) w b e = never e

pub record Says (edition : Edition) (program map_pid : ℕ) (s : Bytes) (m : MapContent) : Type 0 where
  pub right : common_wrong 2 16 s ≡ false
  pub number : table_id_extension s ≡ program
  pub pcr : m.pcr_pid ≡ pcr_pid s
  pub listed : entries map_pid (entry_bytes s) ≡ passed m.entries
  pub one : av1_entry edition m.entries ≡ passed m.av1

pub says : (edition : Edition) (program map_pid : ℕ) (s : Bytes) (m : MapContent) → read_pmt edition program map_pid s ≡ passed m
    → Says edition program map_pid s m
unfolding read_pmt
says edition program map_pid s m e =
    let a = passed_after (given 26 (common_wrong 2 16 s)) _ m e in
    let b = passed_after (given 26 (not (eqb (table_id_extension s) program))) _ m a.1 in
    let d = past _ _ m (passed_after _ _ m b.1).1 in
    let es = passed_then (entries map_pid (entry_bytes s)) _ m d in
    let one = passed_then (av1_entry edition es.0) _ m es.2 in
    let same = passed_same _ m one.2 in
    record {
      right = given_passed 26 _ a.0;
      number = eqb-true _ _ (not-false _ (given_passed 26 _ b.0));
      pcr = sym (ap (λ (x : MapContent). x.pcr_pid) same);
      listed = es.1 ∙ ap (λ (x : MapContent). passed x.entries) same;
      one = ap (λ (x : MapContent). av1_entry edition x.entries) (sym same) ∙ one.1 ∙ ap (λ (x : MapContent). passed x.av1) same;
    }

-- ---- the entries
pids_more : (es : List MapEntry) (e : MapEntry) → pids (es ++ (e ∷ [])) ≡ pids es ++ (e.pid ∷ [])
pids_more [] e = refl
pids_more (x ∷ es) e = ap (λ (l : List ℕ). x.pid ∷ l) (pids_more es e)

-- the PID of an entry that passed
pid_of : (map_pid : ℕ) (earlier : List ℕ) (s : Bytes) (e : MapEntry) → entry map_pid earlier s ≡ passed e
    → (e.pid ≡ elementary_pid s) × (pid_wrong map_pid earlier (elementary_pid s) ≡ false)
unfolding entry
pid_of map_pid earlier s e p =
    let loop = passed_then _ _ e (passed_after _ _ e p).1 in
    let pid = passed_after (given 26 (pid_wrong map_pid earlier (elementary_pid s))) _ e loop.2 in
    (sym (ap (λ (x : MapEntry). x.pid) (passed_same _ e pid.1)), given_passed 26 _ pid.0)

-- what holds of the PIDs so far holds with each entry that passes; Q holds of the bytes and of what is left of them
kept : (P : List ℕ → Type 0) (Q : Bytes → Type 0) (map_pid : ℕ) → ((s : Bytes) (k : ℕ) → Q s → Q (drop k s))
    → ((earlier : List ℕ) (s : Bytes) → P earlier → Q s → pid_wrong map_pid earlier (elementary_pid s) ≡ false
    → P (earlier ++ (elementary_pid s ∷ [])))
    → (n : ℕ) (before es : List MapEntry) (s : Bytes) → P (pids before) → Q s → entries_after n map_pid before s ≡ passed es → P (pids es)
unfolding entries_after
kept P Q map_pid rest step zero before es [] p q e = subst (λ (l : List MapEntry). P (pids l)) (passed_same before es e) p
kept P Q map_pid rest step zero before es (b ∷ s) p q e = never e
kept P Q map_pid rest step (suc n) before es [] p q e = subst (λ (l : List MapEntry). P (pids l)) (passed_same before es e) p
kept P Q map_pid rest step (suc n) before es (b ∷ s) p q e =
    let x = passed_then (entry map_pid (pids before) (b ∷ s)) _ es e in
    let y = pid_of map_pid (pids before) (b ∷ s) x.0 x.1 in
    let after : P (pids (before ++ (x.0 ∷ []))) =
    subst P (ap (λ (i : ℕ). pids before ++ (i ∷ [])) (sym y.0) ∙ sym (pids_more before x.0))
    (step (pids before) (b ∷ s) p q y.1) in
    kept P Q map_pid rest step n (before ++ (x.0 ∷ [])) es (drop (entry_size (b ∷ s)) (b ∷ s)) after (rest (b ∷ s) (entry_size (b ∷ s)) q)
    x.2

-- "12 streams in a program map"
counted : (n map_pid : ℕ) (before es : List MapEntry) (s : Bytes) → entries_after n map_pid before s ≡ passed es
    → length es ≤ length before + n
unfolding entries_after
counted zero map_pid before es [] e = omega (arith, ap length (passed_same before es e))
counted zero map_pid before es (b ∷ s) e = never e
counted (suc n) map_pid before es [] e = omega (arith, ap length (passed_same before es e))
counted (suc n) map_pid before es (b ∷ s) e =
    let q = passed_then (entry map_pid (pids before) (b ∷ s)) _ es e in
    omega (arith, counted n map_pid (before ++ (q.0 ∷ [])) es (drop (entry_size (b ∷ s)) (b ∷ s)) q.2, length-append before (q.0 ∷ []))

pub at_most_twelve : (map_pid : ℕ) (s : Bytes) (es : List MapEntry) → entries map_pid s ≡ passed es → length es ≤ 12
at_most_twelve map_pid s es e = counted most_entries map_pid [] es s e

-- ---- their PIDs: each passed with those before it
abbrev Fresh : ℕ → List ℕ → Type 0
Fresh map_pid ps = (j : ℕ) → j < length ps → pid_wrong map_pid (take j ps) (byte ps j) ≡ false

fresh_more : (map_pid : ℕ) (ps : List ℕ) (p : ℕ) → Fresh map_pid ps → pid_wrong map_pid ps p ≡ false → Fresh map_pid (ps ++ (p ∷ []))
fresh_more map_pid ps p f w j h =
    case (ltb j (length ps))
    (λ t. let k = ltb-true j (length ps) t in
    ap₂ (pid_wrong map_pid) (take-append-le j ps (p ∷ []) (omega arith)) (get_or-append ps (p ∷ []) 0 j k) ∙ f j k)
    (λ t. let k : j ≡ length ps = omega (arith, ltb-false j (length ps) t, length-append ps (p ∷ [])) in
    let z : get_or (ps ++ (p ∷ [])) (length ps) 0 ≡ p = ap (λ (i : ℕ). get_or (ps ++ (p ∷ [])) i 0)
    (let i : length ps ≡ length ps + 0 = omega arith in i) ∙ get_or-append-add ps (p ∷ []) 0 0 in
    ap₂ (pid_wrong map_pid) (ap (λ (i : ℕ). take i (ps ++ (p ∷ []))) k ∙ take-append_seam ps (p ∷ []))
    (ap (λ (i : ℕ). byte (ps ++ (p ∷ [])) i) k ∙ z) ∙ w)

not_among : (p : ℕ) (l : List ℕ) → any (eqb p) l ≡ false → (i : ℕ) → i < length l → p ≡ byte l i → ⊥
unfolding any
not_among p [] e i h q = omega arith
not_among p (a ∷ l) e zero h q = eqb-false p a (or_neither (eqb p a) (any (eqb p) l) e).0 q
not_among p (a ∷ l) e (suc i) h q = not_among p l (or_neither (eqb p a) (any (eqb p) l) e).1 i (omega arith) q

abbrev Small : List ℕ → Type 0
Small ps = (j : ℕ) → byte ps j < 8192

small_more : (ps : List ℕ) (p : ℕ) → Small ps → p < 8192 → Small (ps ++ (p ∷ []))
small_more [] p f h zero = h
small_more [] p f h (suc j) = omega arith
small_more (a ∷ ps) p f h zero = f 0
small_more (a ∷ ps) p f h (suc j) = small_more ps p (λ n. f (suc n)) h j

module _ (map_pid : ℕ) (s : Bytes) (es : List MapEntry) (e : entries map_pid s ≡ passed es) where
  fresh : Fresh map_pid (pids es)
  fresh =
      kept (Fresh map_pid) (λ (x : Bytes). Unit {0}) map_pid (λ x k u. tt)
      (λ ps x f u w. fresh_more map_pid ps (elementary_pid x) f w) most_entries [] es s
      (λ j h. absurd (omega arith)) tt e

  module _ (j : ℕ) (h : j < length (pids es)) where
    among : (i : ℕ) → i < length (0 ∷ null_pid ∷ map_pid ∷ take j (pids es))
        → byte (pids es) j ≡ byte (0 ∷ null_pid ∷ map_pid ∷ take j (pids es)) i → ⊥
    unfolding pid_wrong
    among i k q = not_among (byte (pids es) j) (0 ∷ null_pid ∷ map_pid ∷ take j (pids es)) (fresh j h) i k q

    -- "none equal to 0, 0x1FFF or the map PID"
    pub not_zero_lem : byte (pids es) j ≡ 0 → ⊥
    not_zero_lem q = among 0 (omega arith) q

    pub not_null : byte (pids es) j ≡ null_pid → ⊥
    not_null q = among 1 (omega arith) q

    pub not_map : byte (pids es) j ≡ map_pid → ⊥
    not_map q = among 2 (omega arith) q

    -- "no PID twice"
    pub not_twice : (i : ℕ) → i < j → byte (pids es) j ≡ byte (pids es) i → ⊥
    not_twice i k q =
        among (suc (suc (suc i))) (omega (arith, length-take-le j (pids es) (omega arith)))
        (q ∙ sym (get_or-take j (pids es) i 0 k))

  -- a PID has thirteen bits
  pub below_8192 : Octets s → (j : ℕ) → byte (pids es) j < 8192
  below_8192 o =
      kept Small Octets map_pid octets_drop (λ ps x f u w. small_more ps (elementary_pid x) f (omega (arith, u 2))) most_entries [] es s
      (λ j. omega arith) o e

-- the entries' bytes are of the section
pub entry_octets : (s : Bytes) → Octets s → Octets (entry_bytes s)
entry_octets s o = octets_drop (up_to_crc 12 s) (program_info_length s) (octets_drop (before_crc s) 12 (octets_take (length s - 4) s o))

-- ---- the AV1 entry
-- the first of which a test holds
first_holds : {A : Type 0} (f : A → Bool) (l : List A) (a : A) (more : List A) → those f l ≡ a ∷ more
    → (first_of f l < length l) × ((d : A) → get_or l (first_of f l) d ≡ a) × (f a ≡ true)
unfolding those
first_holds f [] a more e = absurd (omega (arith, ap length e))
first_holds f (b ∷ l) a more e =
    case (f b)
    (λ p. let q : b ≡ a = cc (those_first f b l p) in
    (omega (arith, first_in f b l p), (λ d. ap (λ (i : ℕ). get_or (b ∷ l) i d) (first_in f b l p) ∙ q), ap f (sym q) ∙ p))
    (λ p. let r = first_holds f l a more (sym (those_others f b l p) ∙ e) in
    (omega (arith, first_out f b l p, r.0), (λ d. ap (λ (i : ℕ). get_or (b ∷ l) i d) (first_out f b l p) ∙ r.1 d), r.2))

the_one : (edition : Edition) (l : List MapEntry) (e : MapEntry) → one_av1 edition l ≡ passed e → l ≡ e ∷ []
unfolding one_av1
the_one edition [] e p = never p
the_one edition (x ∷ []) e p = ap (λ (y : MapEntry). y ∷ []) (passed_same x e (passed_after _ (passed x) e p).1)
the_one edition (x ∷ y ∷ more) e p = never p

-- where one AV1 entry was found: its slot is one of the entries', it stands there, and no other has its test
module _ (edition : Edition) (es : List MapEntry) (e : MapEntry) (p : av1_entry edition es ≡ passed e) where
  pub only_av1 : those (is_av1 edition) es ≡ e ∷ []
  unfolding av1_entry
  only_av1 = the_one edition (those (is_av1 edition) es) e (passed_after _ _ e p).1

  pub slot_within : first_of (is_av1 edition) es < length es
  slot_within = (first_holds (is_av1 edition) es e [] only_av1).0

  pub stands_there : (d : MapEntry) → get_or es (first_of (is_av1 edition) es) d ≡ e
  stands_there d = (first_holds (is_av1 edition) es e [] only_av1).1 d

  pub is_av1_lem : is_av1 edition e ≡ true
  is_av1_lem = (first_holds (is_av1 edition) es e [] only_av1).2

  -- its PID is the one in its slot
  pub av1_pid : byte (pids es) (first_of (is_av1 edition) es) ≡ e.pid
  av1_pid =
      let d : MapEntry = record { stream_type = 0; pid = 0; descriptors = [] } in
      get_or-map (λ (x : MapEntry). x.pid) es (first_of (is_av1 edition) es) d ∙ ap (λ (x : MapEntry). x.pid) (stands_there d)

-- ---- the map that the code answers with
pub map_says : (edition : Edition) (v : Verdict MapContent) (p : ProgramMap) → mapped edition v ≡ passed p
    → (m : MapContent) × (v ≡ passed m) × (map_of edition m ≡ p)
unfolding mapped
map_says edition v p e =
    let q = passed_then v (λ m. passed (map_of edition m)) p e in
    (q.0, q.1, passed_same (map_of edition q.0) p q.2)
