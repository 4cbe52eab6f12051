-- Reading a sheet, and finding a unit in it. The words of document 02, request 2026-09, stand over each definition.
-- Assumes nothing.
use Rattle.std.specs.Prelude.{ℕ, zero, suc, ◌+◌, ◌*◌, Bool, false, not, ◌&&◌, ◌||◌, List, [], ◌∷◌, map, eqb, ltb, leb}
use Rattle.std.specs.Prelude.{Option, Some, None}
use Rattle.std.specs.Prelude.{length, take, drop, get_or}
use Rattle.lists.specs.Lists.{Bytes, any, those}
use Rattle.lists.specs.Bytes.{word}
use Rattle.refusal.specs.Verdict.{Verdict, passed, ◌>>◌, given}
use Rattle.sheet.specs.declared.rows.StreamRow.{StreamRow}
use Rattle.sheet.specs.declared.rows.UnitRow.{UnitRow}
use Rattle.sheet.specs.declared.rows.ObuRow.{ObuRow}
use Rattle.sheet.specs.declared.rows.Counts.{Counts}
use Rattle.sheet.specs.Sheet.{Content, stream_numbers, unit_numbers, obu_numbers, numbers_of}

-- ---- the content of bytes
-- a number from its bytes, the highest first
unfoldable pub value_from : ℕ → Bytes → ℕ
value_from high [] = high
value_from high (b ∷ s) = value_from (word high b) s

-- "All numbers, counts too, are 8 bytes big-endian.": the one with this index, from 0
unfoldable pub number : Bytes → ℕ → ℕ
number s i = value_from 0 (take 8 (drop (8 * i) s))

-- so many rows, each of `width` numbers, of which the first begins at number i
unfoldable pub rows : {A : Type 0} → (ℕ → A) → ℕ → ℕ → ℕ → List A
rows row width zero i = []
rows row width (suc n) i = row i ∷ rows row width n (i + width)

module _ (s : Bytes) where
  -- "three sections in a fixed order, each after its count": each count, and the number that it is
  abbrev pub stream_count : ℕ
  stream_count = number s 0

  abbrev pub unit_section : ℕ
  unit_section = 1 + 2 * stream_count

  abbrev pub unit_count : ℕ
  unit_count = number s unit_section

  abbrev pub obu_section : ℕ
  obu_section = unit_section + 1 + 4 * unit_count

  abbrev pub obu_count : ℕ
  obu_count = number s obu_section

  -- the rows that begin at number i
  abbrev pub stream_row : ℕ → StreamRow
  stream_row i = record { pid = number s i; stream_type = number s (i + 1) }

  abbrev pub unit_row : ℕ → UnitRow
  unit_row i =
      record {
        first_packet = number s i;
        length = number s (i + 1);
        pts = number s (i + 2);
        dts = number s (i + 3);
      }

  abbrev pub obu_row : ℕ → ObuRow
  obu_row i =
      record { unit = number s i; obu_type = number s (i + 1); offset = number s (i + 2); length = number s (i + 3) }

  unfoldable pub content_of : Content
  content_of =
      record {
        streams = rows stream_row 2 stream_count 1;
        units = rows unit_row 4 unit_count (unit_section + 1);
        obus = rows obu_row 4 obu_count (obu_section + 1);
      }

-- ---- 45
-- two elements, one behind the other, of which the test holds
unfoldable pub any_two : {A : Type 0} → (A → A → Bool) → List A → Bool
any_two f [] = false
any_two f (a ∷ s) = any (f a) s || any_two f s

-- a number below n of which the test holds
unfoldable pub any_below : (ℕ → Bool) → ℕ → Bool
any_below f zero = false
any_below f (suc n) = f n || any_below f n

-- "the length isn't the one the counts give"
abbrev pub length_given : Bytes → ℕ
length_given s = 8 * (obu_section s + 1 + 4 * obu_count s)

unfoldable pub length_wrong : Bytes → Bool
length_wrong s = not (eqb (length s) (length_given s))

-- "a count passes 12, 1,024 or 65,536"
unfoldable pub count_past : Content → Bool
count_past c = ltb 12 (length c.streams) || ltb 1024 (length c.units) || ltb 65536 (length c.obus)

-- "a PID passes 0x1FFE"
unfoldable pub pid_past : Content → Bool
pid_past c = any (λ r. ltb 0x1FFE r.pid) c.streams

-- "or a stream_type 255"
unfoldable pub stream_type_past : Content → Bool
stream_type_past c = any (λ r. ltb 255 r.stream_type) c.streams

-- "first packets don't strictly ascend"
unfoldable pub firsts_not_ascending : Content → Bool
firsts_not_ascending c = any_two (λ a b. leb b.first_packet a.first_packet) c.units

-- "or reach 65,535"
unfoldable pub firsts_reach : Content → Bool
firsts_reach c = any (λ u. leb 65535 u.first_packet) c.units

-- "a carried length passes 1,573,056"
unfoldable pub length_past : Content → Bool
length_past c = any (λ u. ltb 1573056 u.length) c.units

-- "a time passes 8,589,934,592"
unfoldable pub time_past : Content → Bool
time_past c = any (λ u. ltb 8589934592 u.pts || ltb 8589934592 u.dts) c.units

-- "a unit hasn't 1 to 64 OBUs": the number of those of unit n
unfoldable pub obus_of : List ObuRow → ℕ → ℕ
obus_of obus n = length (those (λ o. eqb o.unit n) obus)

unfoldable pub few_or_many : Content → Bool
few_or_many c =
    any_below (λ n. ltb (obus_of c.obus n) 1 || ltb 64 (obus_of c.obus n)) (length c.units)

-- "OBUs aren't in unit order"
unfoldable pub not_in_unit_order : Content → Bool
not_in_unit_order c = any_two (λ a b. ltb b.unit a.unit) c.obus

-- "or name no unit"
unfoldable pub names_no_unit : Content → Bool
names_no_unit c = any (λ o. leb (length c.units) o.unit) c.obus

-- "a type passes 15"
unfoldable pub obu_type_past : Content → Bool
obu_type_past c = any (λ o. ltb 15 o.obu_type) c.obus

-- "or payloads of a unit overlap": a payload stands from its offset up to its end. Sums are of whole numbers.
abbrev pub end : ObuRow → ℕ
end o = o.offset + o.length

abbrev pub same_unit : ObuRow → ObuRow → Bool
same_unit a b = eqb a.unit b.unit

unfoldable pub overlap : Content → Bool
overlap c = any_two (λ a b. same_unit a b && (ltb a.offset (end b) && ltb b.offset (end a))) c.obus

-- "are empty"
unfoldable pub empty : Content → Bool
empty c = any (λ o. eqb o.length 0) c.obus

-- "don't ascend"
unfoldable pub not_ascending : Content → Bool
not_ascending c = any_two (λ a b. same_unit a b && leb b.offset a.offset) c.obus

-- "or pass its length": the carried length of unit n
abbrev pub length_of : List UnitRow → ℕ → ℕ
length_of units n = get_or (map (λ u. u.length) units) n 0

unfoldable pub passes_length : Content → Bool
passes_length c = any (λ o. ltb (length_of c.units o.unit) (end o)) c.obus

-- what must not hold of a content, in the order of the words
abbrev pub conditions : List (Content → Bool)
conditions =
    count_past
    ∷ pid_past
    ∷ stream_type_past
    ∷ firsts_not_ascending
    ∷ firsts_reach
    ∷ length_past
    ∷ time_past
    ∷ few_or_many
    ∷ not_in_unit_order
    ∷ names_no_unit
    ∷ obu_type_past
    ∷ overlap
    ∷ empty
    ∷ not_ascending
    ∷ passes_length
    ∷ []

unfoldable pub content_wrong : Content → Bool
content_wrong c = any (λ holds. holds c) conditions

-- "Refusals: 45, in reading, exactly where .."
unfoldable pub wrong : Bytes → Bool
wrong s = length_wrong s || content_wrong (content_of s)

-- ---- reading
-- "then 8": the outputs of streams, units and OBUs have room for so many numbers
unfoldable pub outputs_short : ℕ → ℕ → ℕ → Content → Bool
outputs_short streams units obus c =
    ltb streams (length (numbers_of stream_numbers c.streams))
    || ltb units (length (numbers_of unit_numbers c.units))
    || ltb obus (length (numbers_of obu_numbers c.obus))

abbrev pub counts_of : Content → Counts
counts_of c = record { streams = length c.streams; units = length c.units; obus = length c.obus }

-- "The reader gives back what was written": how many of each, and their numbers in the outputs
unfoldable pub reading : Bytes → ℕ → ℕ → ℕ → Verdict Counts
reading s streams units obus = do
  given 45 (wrong s)
  given 8 (outputs_short streams units obus (content_of s))
  passed (counts_of (content_of s))

-- ---- finding a unit
-- "a unit found by number, from 0, .. or none exactly from the unit count on"
unfoldable pub row_at : List UnitRow → ℕ → Option UnitRow
row_at [] n = None
row_at (u ∷ units) zero = Some u
row_at (u ∷ units) (suc n) = row_at units n

-- in a bad sheet 45
unfoldable pub finding : Bytes → ℕ → Verdict (Option UnitRow)
finding s n = do
  given 45 (wrong s)
  passed (row_at (content_of s).units n)
