-- What a PMT section says. "PMT: table 2, the PAT's program number, descriptors and entries filling their lengths
-- exactly, no PID twice, none equal to 0, 0x1FFF or the map PID. After the CRC the entries are tried in order, each
-- wholly for 26; 27 is given where bytes remain after a twelfth that passed; 28 last." (document 01, "A segment").
-- Assumes nothing.
use Rattle.std.specs.Prelude.{ℕ, zero, suc, ◌+◌, Bool, true, false, not, ◌&&◌, ◌||◌, List, [], ◌∷◌, ◌++◌, map, eqb, ltb}
use Rattle.std.specs.Prelude.{length, take, drop}
use Rattle.lists.specs.Lists.{Bytes, same, any, those}
use Rattle.lists.specs.Bytes.{byte, bits, word}
use Rattle.refusal.specs.Verdict.{Verdict, passed, refused, ◌>>=◌, ◌>>◌, given}
use Rattle.descriptor.specs.Descriptor.{registration, video_tag, wrong}
use Rattle.descriptor.specs.Edition.{Edition}
use Rattle.packet.specs.Header.{null_pid}
use Rattle.psi.specs.Section.{common_wrong, up_to_crc, table_id_extension}

-- ---- the descriptors of a loop
-- a descriptor is its tag, its length and as many bytes: its whole size
abbrev pub descriptor_size : Bytes → ℕ
descriptor_size s = 2 + byte s 1

-- "descriptors .. filling their lengths exactly": the descriptors of a loop, or 26. A loop has no more descriptors than
-- bytes
unfoldable pub descriptors_within : ℕ → Bytes → Verdict (List Bytes)
descriptors_within zero [] = passed []
descriptors_within zero (b ∷ s) = refused 26 0
descriptors_within (suc n) [] = passed []
descriptors_within (suc n) (b ∷ s) = do
  given 26 (ltb (length (b ∷ s)) (descriptor_size (b ∷ s)))
  rest ← descriptors_within n (drop (descriptor_size (b ∷ s)) (b ∷ s))
  passed (take (descriptor_size (b ∷ s)) (b ∷ s) ∷ rest)

abbrev pub descriptors : Bytes → Verdict (List Bytes)
descriptors loop = descriptors_within (length loop) loop

-- ---- the entries
-- one entry of the map
pub record MapEntry : Type 0 where
  pub stream_type : ℕ
  pub pid : ℕ
  pub descriptors : List Bytes

-- a PID and a length, of which the first byte has the five or four upper bits
abbrev pub pid_field : ℕ → ℕ → ℕ
pid_field high low = word (bits 4 0 high) low

abbrev pub length_field : ℕ → ℕ → ℕ
length_field high low = word (bits 3 0 high) low

-- the fields of the entry at the head of s: stream_type, elementary_PID, ES_info_length
abbrev pub stream_type : Bytes → ℕ
stream_type s = byte s 0

abbrev pub elementary_pid : Bytes → ℕ
elementary_pid s = pid_field (byte s 1) (byte s 2)

abbrev pub es_info_length : Bytes → ℕ
es_info_length s = length_field (byte s 3) (byte s 4)

abbrev pub entry_size : Bytes → ℕ
entry_size s = 5 + es_info_length s

-- the descriptors' bytes of the entry at the head of s
abbrev pub es_info : Bytes → Bytes
es_info s = drop 5 (take (entry_size s) s)

-- "no PID twice, none equal to 0, 0x1FFF or the map PID": of the next entry's PID and those of the earlier ones
unfoldable pub pid_wrong : ℕ → List ℕ → ℕ → Bool
pid_wrong map_pid earlier pid = any (eqb pid) (0 ∷ null_pid ∷ map_pid ∷ earlier)

-- the entry at the head of s, "wholly for 26", where the earlier ones have these PIDs
unfoldable pub entry : ℕ → List ℕ → Bytes → Verdict MapEntry
entry map_pid earlier s = do
  given 26 (ltb (length s) 5 || ltb (length s) (entry_size s))
  loop ← descriptors (es_info s)
  given 26 (pid_wrong map_pid earlier (elementary_pid s))
  passed (record { stream_type = stream_type s; pid = elementary_pid s; descriptors = loop })

abbrev pub pids : List MapEntry → List ℕ
pids es = map (λ e. e.pid) es

-- "the entries are tried in order .. 27 is given where bytes remain after a twelfth that passed": so many may still
-- come after the earlier ones
unfoldable pub entries_after : ℕ → ℕ → List MapEntry → Bytes → Verdict (List MapEntry)
entries_after zero map_pid earlier [] = passed earlier
entries_after zero map_pid earlier (b ∷ s) = refused 27 0
entries_after (suc n) map_pid earlier [] = passed earlier
entries_after (suc n) map_pid earlier (b ∷ s) = do
  e ← entry map_pid (pids earlier) (b ∷ s)
  entries_after n map_pid (earlier ++ (e ∷ [])) (drop (entry_size (b ∷ s)) (b ∷ s))

-- "12 streams in a program map"
abbrev pub most_entries : ℕ
most_entries = 12

abbrev pub entries : ℕ → Bytes → Verdict (List MapEntry)
entries map_pid s = entries_after most_entries map_pid [] s

-- ---- the AV1 entry
-- 28 "the AV1 entry has two video descriptors or one refused by 40": of its video descriptors
unfoldable pub video_wrong : List Bytes → Bool
video_wrong [] = false
video_wrong (d ∷ []) = wrong d
video_wrong (d ∷ d' ∷ more) = true

-- the rule of an AV1 entry, in this edition
module _ (edition : Edition) where
  -- "The AV1 entry has .. the registration as its first descriptor"; a video descriptor is known by its tag
  abbrev pub is_registration : Bytes → Bool
  is_registration d = same d (registration edition.identifier)

  abbrev pub is_video : Bytes → Bool
  is_video d = edition.interprets_video && eqb (byte d 0) video_tag

  -- the video descriptors of an entry's loop
  abbrev pub video_descriptors : List Bytes → List Bytes
  video_descriptors loop = those is_video loop

  -- the registration is the first of these descriptors
  unfoldable pub registration_first : List Bytes → Bool
  registration_first [] = false
  registration_first (d ∷ loop) = is_registration d

  -- the registration is one of these descriptors after the first
  unfoldable pub registration_later : List Bytes → Bool
  registration_later [] = false
  registration_later (d ∷ loop) = any is_registration loop

  -- "The AV1 entry has stream_type 0x06 and the registration as its first descriptor."
  unfoldable pub is_av1 : MapEntry → Bool
  is_av1 e = eqb e.stream_type 0x06 && registration_first e.descriptors

  -- 28 "the registration 'AV01' elsewhere in an entry's loop or with stream_type other than 0x06"
  unfoldable pub misplaced_registration : MapEntry → Bool
  misplaced_registration e =
      registration_later e.descriptors
      || (registration_first e.descriptors && not (eqb e.stream_type 0x06))

  -- 28 "not exactly one AV1 entry"
  unfoldable pub one_av1 : List MapEntry → Verdict MapEntry
  one_av1 [] = refused 28 0
  one_av1 (e ∷ []) = given 28 (video_wrong (video_descriptors e.descriptors)) >> passed e
  one_av1 (e ∷ e' ∷ more) = refused 28 0

  -- the AV1 entry, or 28
  unfoldable pub av1_entry : List MapEntry → Verdict MapEntry
  av1_entry es = given 28 (any misplaced_registration es) >> one_av1 (those is_av1 es)

-- ---- the section
-- what a PMT says: the PCR PID, the entries in order, and which of them is the AV1 entry
pub record MapContent : Type 0 where
  pub pcr_pid : ℕ
  pub entries : List MapEntry
  pub av1 : MapEntry

abbrev pub pcr_pid : Bytes → ℕ
pcr_pid s = pid_field (byte s 8) (byte s 9)

abbrev pub program_info_length : Bytes → ℕ
program_info_length s = length_field (byte s 10) (byte s 11)

-- what is behind the fixed fields, which are twelve bytes, up to the CRC: the program's descriptors, then the entries
abbrev pub program_info : Bytes → Bytes
program_info s = take (program_info_length s) (up_to_crc 12 s)

abbrev pub entry_bytes : Bytes → Bytes
entry_bytes s = drop (program_info_length s) (up_to_crc 12 s)

-- what a PMT section says, or 26, 27, 28; the fixed fields are twelve bytes, the CRC four
unfoldable pub read_pmt : Edition → ℕ → ℕ → Bytes → Verdict MapContent
read_pmt edition program map_pid s = do
  given 26 (common_wrong 2 16 s)
  given 26 (not (eqb (table_id_extension s) program))
  given 26 (ltb (length (up_to_crc 12 s)) (program_info_length s))
  descriptors (program_info s)
  es ← entries map_pid (entry_bytes s)
  e ← av1_entry edition es
  passed (record { pcr_pid = pcr_pid s; entries = es; av1 = e })
