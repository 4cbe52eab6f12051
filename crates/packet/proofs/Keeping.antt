-- The numbers that the code keeps of the records: before the first packet (`fresh_numbers_lem`), what is read of them (`last_kept_lem`,
-- `listed_kept`, `look_behind_two`), and what a write makes of them (`put_kept`, `pid_kept`). Assumes nothing.
use Rattle.std.specs.Prelude.{Option, Some, None}
use Prim.Native.Nat.{ℕ, zero, suc, ◌+◌, ◌*◌, ◌/◌, ◌%◌, ◌≤◌, ◌<◌}
use mathlib.Core.Bool.{Bool, true, false}
use mathlib.Core.Path.{◌≡◌, refl, sym, ap, ap₂, ◌∙◌}
use mathlib.Core.List.{List, [], ◌∷◌, ◌++◌, map, append_assoc, map-append}
use native.Mathlib.Omega.{arith}
use lib.ListN.{length, get_or, take, drop, set, replicate, length-append, length-drop, length-set, length-replicate, length-map}
use lib.ListN.{get_or-append, get_or-map}
use lib.Seq.{set-append_left, set-append_seam, map-set_same, get_or-append-add, take_at, drop-cons}
use lib.Seq.{take-take}
use mir.Val.{bool_byte}
use Rattle.lists.specs.Lists.{Bytes}
use Rattle.lists.proofs.Picks.{by_lt}
use Rattle.packet.specs.Header.{continuity_counter}
use Rattle.packet.specs.Counter.{StreamRecord, named, pids_of, seen, last_kept, last_of}
use Rattle.packet.specs.Streams.{look_up_from, look_up, most_records, padded, mark_of, index_of, numbers_of, streams_of, listed_pids}
use Rattle.packet.specs.Streams.{last_from, last_in, with_last, with_pid}
use Rattle.packet.proofs.Slots.{first_has_not}

-- ---- lists
-- an element of the second part of a list is set
set_behind : (l r : List ℕ) (i : ℕ) (a : ℕ) → set (l ++ r) (length l + i) a ≡ l ++ set r i a
set_behind [] r i a = let e : 0 + i ≡ i = omega arith in ap (λ (k : ℕ). set r k a) e
set_behind (x ∷ l) r i a =
    let e : suc (length l) + i ≡ suc (length l + i) = omega arith in
    ap (λ (k : ℕ). set (x ∷ (l ++ r)) k a) e ∙ ap (λ (t : List ℕ). x ∷ t) (set_behind l r i a)

map_set : (f : StreamRecord → ℕ) (l : List StreamRecord) (i : ℕ) (r : StreamRecord) → set (map f l) i (f r) ≡ map f (set l i r)
map_set f [] i r = refl
map_set f (x ∷ l) zero r = refl
map_set f (x ∷ l) (suc i) r = ap (λ (t : List ℕ). f x ∷ t) (map_set f l i r)

-- ---- as many numbers, of which the first are given
abbrev blank : List ℕ
blank = replicate most_records 0

padded_long : (l : List ℕ) → length l ≤ most_records → length (padded l) ≡ most_records
padded_long l h = omega (arith, length-append l (drop (length l) blank), length-drop (length l) blank)

padded_at : (l : List ℕ) (k : ℕ) → k < length l → get_or (padded l) k 0 ≡ get_or l k 0
padded_at l k h = get_or-append l (drop (length l) blank) 0 k h

padded_set : (l : List ℕ) (k a : ℕ) → k < length l → set (padded l) k a ≡ padded (set l k a)
padded_set l k a h =
    set-append_left l (drop (length l) blank) k a h ∙ ap (λ (n : ℕ). set l k a ++ drop n blank) (sym (length-set l k a))

-- one number set where the given ones end
padded_next : (l : List ℕ) (a : ℕ) → length l < most_records → set (padded l) (length l) a ≡ padded (l ++ (a ∷ []))
padded_next l a h =
    let long : suc (length l) ≡ length (l ++ (a ∷ [])) = omega (arith, length-append l (a ∷ [])) in
    ap (λ (t : List ℕ). set (l ++ t) (length l) a) (drop-cons blank (length l) 0 h)
    ∙ set-append_seam l (get_or blank (length l) 0) (drop (suc (length l)) blank) a
    ∙ sym (append_assoc l (a ∷ []) (drop (suc (length l)) blank)) ∙ ap (λ (n : ℕ). (l ++ (a ∷ [])) ++ drop n blank) long

-- zeros behind the given ones are there already
drop_zeros : (n k : ℕ) → k ≤ n → ◌≡◌ {A = List ℕ} (replicate k 0 ++ drop k (replicate n 0)) (replicate n 0)
drop_zeros n zero h = refl
drop_zeros zero (suc k) h = absurd (omega arith)
drop_zeros (suc n) (suc k) h = ap (λ (t : List ℕ). 0 ∷ t) (drop_zeros n k (omega arith))

zeros_there : (n k z : ℕ) → k + z ≤ n → ◌≡◌ {A = List ℕ} (replicate z 0 ++ drop (k + z) (replicate n 0)) (drop k (replicate n 0))
zeros_there n zero z h =
    let e : 0 + z ≡ z = omega arith in
    ap (λ (j : ℕ). replicate z 0 ++ drop j (replicate n 0)) e ∙ drop_zeros n z (omega arith)
zeros_there zero (suc k) z h = absurd (omega arith)
zeros_there (suc n) (suc k) z h =
    let e : suc k + z ≡ suc (k + z) = omega arith in
    ap (λ (j : ℕ). replicate z 0 ++ drop j (replicate (suc n) 0)) e ∙ zeros_there n k z (omega arith)

padded_zeros : (l : List ℕ) (z : ℕ) → length l + z ≤ most_records → padded (l ++ replicate z 0) ≡ padded l
padded_zeros l z h =
    let long : length (l ++ replicate z 0) ≡ length l + z =
    length-append l (replicate z 0) ∙ ap (λ (n : ℕ). length l + n) (length-replicate z 0) in
    append_assoc l (replicate z 0) (drop (length (l ++ replicate z 0)) blank)
    ∙ ap (λ (t : List ℕ). l ++ t)
    (ap (λ (n : ℕ). replicate z 0 ++ drop n blank) long ∙ zeros_there most_records (length l) z h)

-- ---- the three parts of the numbers
abbrev mark : StreamRecord → ℕ
mark r = mark_of (last_of r)

abbrev index : StreamRecord → ℕ
index r = index_of (last_of r)

-- one number a record, as many as there are at most
module _ (f : StreamRecord → ℕ) (records : List StreamRecord) where
  part_long : length records ≤ most_records → length (padded (map f records)) ≡ most_records
  part_long h = padded_long (map f records) (omega (arith, length-map records f))

  part_at : (k : ℕ) (d : StreamRecord) → f d ≡ 0 → k < length records → get_or (padded (map f records)) k 0 ≡ f (get_or records k d)
  part_at k d e h =
      padded_at (map f records) k (omega (arith, length-map records f)) ∙ ap (get_or (map f records) k) (sym e)
      ∙ get_or-map f records k d

  part_set : (k : ℕ) (r : StreamRecord) → k < length records → set (padded (map f records)) k (f r) ≡ padded (map f (set records k r))
  part_set k r h = padded_set (map f records) k (f r) (omega (arith, length-map records f)) ∙ ap padded (map_set f records k r)

  -- PIDs that are named bring zeros
  part_named : (pids : List ℕ) → ((n : ℕ) → f (named n) ≡ 0) → length records + length pids ≤ most_records
      → padded (map f (records ++ map named pids)) ≡ padded (map f records)
  part_named pids e h =
      ap padded (map-append f records (map named pids) ∙ ap (λ (t : List ℕ). map f records ++ t) (go pids))
      ∙ padded_zeros (map f records) (length pids) (omega (arith, length-map records f))
    where
      go : (ns : List ℕ) → map f (map named ns) ≡ replicate (length ns) 0
      go [] = refl
      go (n ∷ ns) = ap₂ (λ (a : ℕ) (t : List ℕ). a ∷ t) (e n) (go ns)

no_mark : (n : ℕ) → mark (named n) ≡ 0
unfolding last_kept
no_mark n = refl

no_index : (n : ℕ) → index (named n) ≡ 0
unfolding last_kept
no_index n = refl

-- ---- how many they are, and the first
pub fresh_numbers_lem : streams_of (named 0 ∷ []) ≡ record { numbers = replicate 42 0 }
unfolding last_kept
fresh_numbers_lem = refl

-- ---- what is read
-- two numbers of a last packet stand for it
packet_back : (n i : ℕ) (repeat : Bool) → n < 16
    → last_from (suc (2 * n + bool_byte repeat)) i ≡ seen n i repeat
unfolding last_from
packet_back n i false h =
    let e : (2 * n + 0) / 2 % 256 ≡ n = omega arith in
    let f : (2 * n + 0) % 2 ≡ 0 = omega arith in
    rw (e, f)
packet_back n i true h =
    let e : (2 * n + 1) / 2 % 256 ≡ n = omega arith in
    let f : (2 * n + 1) % 2 ≡ 1 = omega arith in
    rw (e, f)

last_back : (o : Option Bytes) (i : ℕ) (repeat : Bool)
    → last_from (mark_of (last_kept o i repeat)) (index_of (last_kept o i repeat)) ≡ last_kept o i repeat
unfolding last_kept last_from
last_back None i repeat = refl
last_back (Some p) i repeat = packet_back (continuity_counter p) i repeat (omega arith)

module _ (records : List StreamRecord) (k : ℕ) (inside : k < length records) (few : length records ≤ most_records) where
  abbrev pids : List ℕ
  pids = padded (pids_of records)

  abbrev marks : List ℕ
  marks = padded (map mark records)

  abbrev indices : List ℕ
  indices = padded (map index records)

  -- the numbers of a slot
  mark_at : get_or (numbers_of records) (most_records + k) 0 ≡ mark (get_or records k (named 0))
  mark_at =
      ap (λ (n : ℕ). get_or (numbers_of records) (n + k) 0) (sym (part_long (λ (r : StreamRecord). r.pid) records few))
      ∙ get_or-append-add pids (marks ++ indices) k 0
      ∙ get_or-append marks indices 0 k (omega (arith, part_long mark records few))
      ∙ part_at mark records k (named 0) (no_mark 0) inside

  index_at : get_or (numbers_of records) (2 * most_records + k) 0 ≡ index (get_or records k (named 0))
  index_at =
      let e : 2 * most_records + k ≡ length pids + (length marks + k) =
      omega (arith, part_long (λ (r : StreamRecord). r.pid) records few, part_long mark records few) in
      ap (λ (n : ℕ). get_or (numbers_of records) n 0) e ∙ get_or-append-add pids (marks ++ indices) (length marks + k) 0
      ∙ get_or-append-add marks indices k 0 ∙ part_at index records k (named 0) (no_index 0) inside

  -- another last packet of the same PID
  put_at : (r : StreamRecord) → r.pid ≡ (get_or records k (named 0)).pid
      → set (set (numbers_of records) (most_records + k) (mark r)) (2 * most_records + k) (index r) ≡ numbers_of (set records k r)
  put_at r e =
      let m = set marks k (mark r) in
      let first : set (numbers_of records) (most_records + k) (mark r) ≡ pids ++ (m ++ indices) =
      ap (λ (n : ℕ). set (numbers_of records) (n + k) (mark r)) (sym (part_long (λ (r : StreamRecord). r.pid) records few))
      ∙ set_behind pids (marks ++ indices) k (mark r)
      ∙ ap (λ (t : List ℕ). pids ++ t) (set-append_left marks indices k (mark r) (omega (arith, part_long mark records few))) in
      let place : 2 * most_records + k ≡ length pids + (length m + k) =
      omega (arith, part_long (λ (r : StreamRecord). r.pid) records few, part_long mark records few, length-set marks k (mark r)) in
      let same : pids ≡ padded (pids_of (set records k r)) =
      ap padded (sym (map-set_same (λ (t : StreamRecord). t.pid) records k r (named 0) e)) in
      ap (λ (t : List ℕ). set t (2 * most_records + k) (index r)) first
      ∙ ap (λ (n : ℕ). set (pids ++ (m ++ indices)) n (index r)) place
      ∙ set_behind pids (m ++ indices) (length m + k) (index r)
      ∙ ap (λ (t : List ℕ). pids ++ t) (set_behind m indices k (index r))
      ∙ ap (λ (t : List ℕ). t ++ (m ++ set indices k (index r))) same
      ∙ ap₂ (λ (s t : List ℕ). padded (pids_of (set records k r)) ++ (s ++ t)) (part_set mark records k r inside)
      (part_set index records k r inside)

pub last_kept_lem : (records : List StreamRecord) (k : ℕ) → k < length records → length records ≤ most_records
    → last_in (streams_of records) k ≡ last_of (get_or records k (named 0))
unfolding last_in
last_kept_lem records k h few =
    let r = get_or records k (named 0) in
    sym (by_lt None (let slot : k < most_records = omega arith in slot)
    (sym (ap₂ last_from (mark_at records k h few) (index_at records k h few) ∙ last_back r.last r.lies r.repeat)))

-- ---- what is written
pub put_kept : (records : List StreamRecord) (k : ℕ) (r : StreamRecord) → k < length records → length records ≤ most_records
    → r.pid ≡ (get_or records k (named 0)).pid → with_last (streams_of records) k (last_of r) ≡ streams_of (set records k r)
unfolding with_last
put_kept records k r h few e =
    ap (λ (l : List ℕ). record { numbers = l })
    (sym (by_lt (numbers_of records) (let slot : k < most_records = omega arith in slot) (sym (put_at records k h few r e))))

-- the marks and indices of PIDs that are named are there already
others_kept : (records : List StreamRecord) (pids : List ℕ) → length records + length pids ≤ most_records
    → padded (map mark records) ++ padded (map index records)
    ≡ padded (map mark (records ++ map named pids)) ++ padded (map index (records ++ map named pids))
others_kept records pids h =
    sym (ap₂ (λ (s t : List ℕ). s ++ t) (part_named mark records pids no_mark h) (part_named index records pids no_index h))

pids_named : (records : List StreamRecord) (pids : List ℕ) → pids_of (records ++ map named pids) ≡ pids_of records ++ pids
pids_named [] [] = refl
pids_named [] (n ∷ pids) = ap (λ (t : List ℕ). n ∷ t) (pids_named [] pids)
pids_named (r ∷ records) pids = ap (λ (t : List ℕ). r.pid ∷ t) (pids_named records pids)

pub pid_kept : (records : List StreamRecord) (n : ℕ) → length records < most_records
    → with_pid (streams_of records) (length records) n ≡ streams_of (records ++ (named n ∷ []))
unfolding with_pid
pid_kept records n h =
    let others = padded (map mark records) ++ padded (map index records) in
    let count : length (pids_of records) ≡ length records = length-map records (λ (r : StreamRecord). r.pid) in
    ap (λ (l : List ℕ). record { numbers = l })
    (sym (by_lt (numbers_of records) h
    (sym (ap (λ (k : ℕ). set (numbers_of records) k n) (sym count)
    ∙ set-append_left (padded (pids_of records)) others (length (pids_of records)) n
    (omega (arith, count, part_long (λ (r : StreamRecord). r.pid) records (omega arith)))
    ∙ ap₂ (λ (s t : List ℕ). s ++ t)
    (padded_next (pids_of records) n (omega (arith, count)) ∙ ap padded (sym (pids_named records (n ∷ []))))
    (others_kept records (n ∷ []) (omega arith))))))

-- ---- the listed streams
pub listed_kept : (a b : StreamRecord) (records : List StreamRecord) → length records ≤ 12
    → listed_pids (length records) (streams_of (a ∷ b ∷ records)) ≡ pids_of records
listed_kept a b records h =
    let pids = pids_of records in
    let behind = drop (length (pids_of (a ∷ b ∷ records))) blank in
    let others = padded (map mark (a ∷ b ∷ records)) ++ padded (map index (a ∷ b ∷ records)) in
    take-take (length records) 12 (((pids ++ behind) ++ others) ++ blank) h
    ∙ ap (take (length records)) (append_assoc (pids ++ behind) others blank ∙ append_assoc pids behind (others ++ blank))
    ∙ take_at pids (behind ++ (others ++ blank)) (length records) (length-map records (λ (r : StreamRecord). r.pid))

pub look_behind_two : (n a b : ℕ) (pids : List ℕ) → (n ≡ a → ⊥) → (n ≡ b → ⊥) → look_up n (a ∷ b ∷ pids) ≡ look_up_from 2 n pids
look_behind_two n a b pids e f =
    first_has_not 0 n a (b ∷ pids) (λ k. e (sym k)) ∙ first_has_not 1 n b pids (λ k. f (sym k))
