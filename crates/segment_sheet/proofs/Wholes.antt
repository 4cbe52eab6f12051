-- The sheet of what was handed out: its length, and that its three sections stand one behind the other. Assumes nothing.
use Prim.Native.Nat.{ℕ, ◌+◌, ◌*◌}
use mathlib.Core.Bool.{true, false}
use mathlib.Core.Path.{◌≡◌, refl, sym, ap, ap₂, ◌∙◌}
use mathlib.Core.List.{List, [], ◌++◌, append-nil, append_assoc}
use native.Mathlib.Omega.{arith}
use borrow.Author.Tests.{ltb-false}
use lib.Dec.{ltb}
use lib.ListN.{length}
use Rattle.lists.specs.Lists.{Bytes, over, placed}
use Rattle.refusal.specs.Verdict.{passed, refused}
use Rattle.refusal.proofs.Verdicts.{refuse, pass_on}
use Rattle.pmt.specs.declared.section.ProgramMap.{ProgramMap}
use Rattle.sheet.specs.Sheet.{Content, big_endian, section, stream_numbers, unit_numbers, obu_numbers, sheet_numbers, sheet_of, in_bytes}
use Rattle.sheet.proofs.RowByRow.{length_rows}
use Rattle.sheet.proofs.RoundTrip.{length_of_sheet}
use Rattle.segment_sheet.specs.Parts.{stream_at, unit_at, content_in, putting}
use Rattle.segment_sheet.proofs.Filling.{filling_start, filling_as, filling_next, filling_done, filling_long}
use Rattle.segment_sheet.proofs.Filling.{before_placed, bytes_append, row_bytes, section_is}
use Rattle.sheet.proofs.BigEndian.{eight_long}
use Rattle.segment_sheet.proofs.Rowing.{whole_long, stream_size, unit_size}
use Rattle.segment_sheet.proofs.Walking.{obu_bytes}

module _ (m : ProgramMap) (count : ℕ) (firsts lens times : List ℕ) (bytes : Bytes) where
  abbrev pub content : Content
  content = content_in m count firsts lens times bytes

  abbrev streams : Bytes
  streams = row_bytes stream_numbers content.streams

  abbrev units : Bytes
  units = row_bytes unit_numbers content.units

  abbrev obus : Bytes
  obus = obu_bytes content.obus

  abbrev total : ℕ
  total = length content.obus

  -- what stands before the count of the OBUs, and the whole sheet
  abbrev pub before_obus : ℕ
  before_obus = 8 + 16 * m.count + 8 + 32 * count

  pub sheet_size : before_obus + 8 + 32 * total ≡ length (sheet_of content)
  sheet_size =
      omega (
        arith,
        length_of_sheet content,
        length_rows (stream_at m.entries) 1 m.count 0,
        length_rows (unit_at firsts lens times) 1 count 0,
      )

  -- whether it fits, as the code tries it
  pub sheet_short : (room : ℕ) → ltb room (before_obus + 8 + 32 * total) ≡ true → refused 8 0 ≡ putting content room
  unfolding putting
  sheet_short room h = refuse 8 _ (ap (ltb room) (sym sheet_size) ∙ h)

  module _ (out : Bytes) (h : ltb (length out) (before_obus + 8 + 32 * total) ≡ false) where
    pub sheet_fits : (end : ℕ) → end ≡ before_obus + 8 + 32 * total → passed end ≡ putting content (length out)
    unfolding putting
    sheet_fits end f = pass_on 8 (ap (ltb (length out)) (sym sheet_size) ∙ h) (ap passed (f ∙ sheet_size))

    abbrev pieces : Bytes
    pieces =
        big_endian 8 m.count ++ (streams ++ (big_endian 8 count ++ (units ++ ((big_endian 8 total ++ obus) ++ []))))

    sheet_is : sheet_of content ≡ pieces
    unfolding sheet_of sheet_numbers
    sheet_is =
        let U = section unit_numbers content.units in
        let O = section obu_numbers content.obus in
        bytes_append (section stream_numbers content.streams) (U ++ O)
        ∙ ap (λ (x : Bytes). in_bytes (section stream_numbers content.streams) ++ x) (bytes_append U O)
        ∙ ap₂ (λ (x y : Bytes). x ++ y) (counted stream_numbers content.streams m.count (length_rows (stream_at m.entries) 1 m.count 0))
        (ap₂ (λ (x y : Bytes). x ++ y) (counted unit_numbers content.units count (length_rows (unit_at firsts lens times) 1 count 0))
        (section_is obu_numbers content.obus))
        ∙ append_assoc (big_endian 8 m.count) streams _
        ∙ ap (λ (x : Bytes). big_endian 8 m.count ++ (streams ++ x)) (append_assoc (big_endian 8 count) units _)
        ∙ ap (λ (x : Bytes). big_endian 8 m.count ++ (streams ++ (big_endian 8 count ++ (units ++ x)))) (sym
        (append-nil (big_endian 8 total ++ obus)))
      where
        counted : {A : Type 0} (numbers : A → List ℕ) (l : List A) (n : ℕ) → length l ≡ n
            → in_bytes (section numbers l) ≡ big_endian 8 n ++ row_bytes numbers l
        counted numbers l n h = section_is numbers l ∙ ap (λ (k : ℕ). big_endian 8 k ++ row_bytes numbers l) h

    streams_long : length streams ≡ 16 * m.count
    streams_long = whole_long stream_numbers 16 stream_size (stream_at m.entries) m.count

    units_long : length units ≡ 32 * count
    units_long = whole_long unit_numbers 32 unit_size (unit_at firsts lens times) count

    -- the count of the OBUs is put behind their rows
    pub sheet_put : (o1 o2 o3 o4 o5 o6 : Bytes) (obus' : ℕ) → o1 ≡ placed out 0 (big_endian 8 m.count) → o2 ≡ placed o1 8 streams
        → o3 ≡ placed o2 (8 + 16 * m.count) (big_endian 8 count) → o4 ≡ placed o3 (8 + 16 * m.count + 8) units
        → o5 ≡ placed o4 (before_obus + 8) obus → obus' ≡ total
        → o6 ≡ placed o5 before_obus (big_endian 8 obus') → o6 ≡ over (sheet_of content) out
    sheet_put o1 o2 o3 o4 o5 o6 obus' p1 p2 p3 p4 p5 same p6 =
        let room = ltb-false (length out) (before_obus + 8 + 32 * total) h in
        let f0 = filling_as (filling_start out 0 (sheet_of content) (omega (arith, sheet_size))) pieces sheet_is in
        let f1 = filling_next (big_endian 8 m.count) _ f0 8 o1 (omega (arith, eight_long m.count)) p1 in
        let f2 = filling_next streams _ f1 (8 + 16 * m.count) o2 (omega (arith, streams_long)) p2 in
        let f3 = filling_next (big_endian 8 count) _ f2 (8 + 16 * m.count + 8) o3 (omega (arith, eight_long count)) p3 in
        let f4 = filling_next units _ f3 before_obus o4 (omega (arith, units_long)) p4 in
        let both = before_placed o4 o5 o6 before_obus (before_obus + 8) (big_endian 8 total) obus (omega (arith, eight_long total))
        (omega (arith, filling_long f4)) p5
        (p6 ∙ ap (λ (k : ℕ). placed o5 before_obus (big_endian 8 k)) same) in
        filling_done (filling_next (big_endian 8 total ++ obus) [] f4 _ o6 refl both) refl
