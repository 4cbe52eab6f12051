-- What the promises of private functions cite; no public promise does. Assumes nothing.
use Rattle.std.specs.Prelude.{ℕ, suc, Bool, true, not, ◌||◌, List, [], ◌∷◌, map, eqb, ltb, length}
use Rattle.std.specs.Prelude.{take, Option, Some, None}
use Rattle.lists.specs.Lists.{Bytes, pick}
use Rattle.refusal.specs.Verdict.{Verdict, passed, refused, ◌>>=◌, ◌>>◌, given}
use Rattle.descriptor.specs.Descriptor.{wrong}
use Rattle.descriptor.specs.Edition.{Edition}
use Rattle.psi.specs.Section.{up_to_crc}
use Rattle.pmt.specs.Pmt.{MapEntry, descriptors, entry_size, entry, entries, is_video, video_descriptors, video_wrong}
use Rattle.pmt.specs.Pmt.{is_registration, registration_first, registration_later, pcr_pid, program_info_length}
use Rattle.pmt.specs.Pmt.{program_info, entry_bytes}
use Rattle.pmt.specs.Answer.{listed, no_entries, slots, video_bytes, video_of}
use Rattle.pmt.specs.declared.loops.Videos.{Videos}
use Rattle.pmt.specs.declared.loops.Found.{Found}
use Rattle.pmt.specs.declared.slots.Entries.{Entries}
use Rattle.pmt.specs.declared.entries.Kind.{Kind}
use Rattle.pmt.specs.declared.entries.Kind.TheVariants.{Other, Right, Misplaced}
use Rattle.pmt.specs.declared.entries.Av1.{Av1}
use Rattle.pmt.specs.declared.entries.Av1.TheVariants.{Missing, One, Wrong}
use Rattle.pmt.specs.declared.entries.Tried.{Tried}
use Rattle.pmt.specs.declared.entries.Listed.{Listed}
use Rattle.pmt.specs.declared.section.ProgramMap.{ProgramMap}

-- ---- one loop of descriptors
-- the first of these video descriptors, and whether they are against the rule
abbrev pub videos_of : List Bytes → Videos
videos_of ds = record { first = video_of ds; wrong = video_wrong ds }

-- with one more
abbrev pub another_video : Option Bytes → Bytes → Videos
another_video None d = record { first = Some (video_bytes d); wrong = wrong d }
another_video (Some first) d = record { first = Some first; wrong = true }

unfoldable pub with_video : Edition → Videos → Bytes → Videos
with_video edition v d = pick (is_video edition d) (another_video v.first d) v

-- what 28 asks of the descriptors of a loop
abbrev pub found_in : Edition → List Bytes → Found
found_in edition ds =
    record {
      first = registration_first edition ds;
      later = registration_later edition ds;
      videos = videos_of (video_descriptors edition ds);
    }

-- with one more, which is the first or is not
unfoldable pub with_descriptor : Edition → Found → Bool → Bytes → Found
with_descriptor edition f first d =
    pick first
    (record { first = is_registration edition d; later = f.later; videos = with_video edition f.videos d })
    (record {
      first = f.first;
      later = f.later || is_registration edition d;
      videos = with_video edition f.videos d;
    })

-- 26, or what is found in the loop
unfoldable pub loop_found : Edition → Bytes → Verdict Found
loop_found edition s = descriptors s >>= λ ds. passed (found_in edition ds)

-- ---- one entry
-- what an entry with this stream_type and such descriptors is to 28: an AV1 entry, against the rule, or another
unfoldable pub kind_from : ℕ → Found → Kind
kind_from stream_type f =
    pick f.later Misplaced
    (pick (not f.first) Other
    (pick (not (eqb stream_type 0x06)) Misplaced
    (pick f.videos.wrong Misplaced (Right f.videos.first))))

abbrev pub kind_of : Edition → MapEntry → Kind
kind_of edition e = kind_from e.stream_type (found_in edition e.descriptors)

-- the entries in the code's slots, and none of them
abbrev pub filled : List MapEntry → Entries
filled es = record { slots = slots es; count = length es }

abbrev pub no_entry_yet : Entries
no_entry_yet = record { slots = no_entries; count = 0 }

-- the PIDs in the first slots
abbrev pub pids_in : Entries → List ℕ
pids_in entries = map (λ e. e.pid) (take entries.count entries.slots)

-- 26, or the entry at the head of s, its size and its kind
unfoldable pub tried_entry : Edition → ℕ → List ℕ → Bytes → Verdict Tried
tried_entry edition map_pid earlier s =
    entry map_pid earlier s >>= λ e. passed (record { entry = listed e; size = entry_size s; kind = kind_of edition e })

-- ---- the entries
-- what is known of the AV1 entry, with one more entry of this kind in this slot
abbrev pub with_kind : Kind → ℕ → Av1 → Av1
with_kind Other slot a = a
with_kind (Right v) slot Missing = One slot v
with_kind (Right v) slot (One at w) = Wrong
with_kind (Right v) slot Wrong = Wrong
with_kind Misplaced slot a = Wrong

-- with all these, of which the first stands in this slot
unfoldable pub with_all : Edition → List MapEntry → ℕ → Av1 → Av1
with_all edition [] slot a = a
with_all edition (e ∷ es) slot a = with_all edition es (suc slot) (with_kind (kind_of edition e) slot a)

abbrev pub list_of : Edition → List MapEntry → Listed
list_of edition es =
    record { entries = filled es; av1 = with_all edition es 0 Missing }

-- 26, 27, or the entries
unfoldable pub list_read : Edition → ℕ → Bytes → Verdict Listed
list_read edition map_pid s = entries map_pid s >>= λ es. passed (list_of edition es)

-- ---- the map
-- the map of the listed entries, or 28
abbrev pub map_from : Av1 → ℕ → Listed → Verdict ProgramMap
map_from Missing pcr_pid l = refused 28 0
map_from (One slot v) pcr_pid l =
    passed
    (record { pcr_pid = pcr_pid; count = l.entries.count; entries = l.entries.slots; av1 = slot; video = v })
map_from Wrong pcr_pid l = refused 28 0

abbrev pub listed_map : ℕ → Listed → Verdict ProgramMap
listed_map pcr_pid l = map_from l.av1 pcr_pid l

-- what stands behind a section's fixed fields: 26, 27, 28, or the map
unfoldable pub body_map : Edition → ℕ → Bytes → Verdict ProgramMap
body_map edition map_pid s = do
  given 26 (ltb (length (up_to_crc 12 s)) (program_info_length s))
  descriptors (program_info s)
  l ← list_read edition map_pid (entry_bytes s)
  listed_map (pcr_pid s) l
