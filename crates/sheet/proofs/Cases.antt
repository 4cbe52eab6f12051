-- The definitions, computed on small sheets: a sheet that passes with its figures at their bounds, and each condition of 45 broken alone.
-- Assumes nothing.
use Prim.Native.Nat.{ℕ}
use mathlib.Core.Bool.{true, false}
use mathlib.Core.Path.{◌≡◌, refl}
use mathlib.Core.List.{List, [], ◌∷◌, ◌++◌, map, flatten}
use Rattle.lists.specs.Lists.{any, those}
use Rattle.sheet.specs.Sheet.{Content, big_endian, sheet_numbers, sheet_of, numbers_of, in_bytes}
use Rattle.sheet.specs.Reading.{wrong, length_wrong, content_of, content_wrong, rows, number, value_from, any_two, any_below, count_past}
use Rattle.sheet.specs.Reading.{pid_past, stream_type_past, firsts_not_ascending, firsts_reach, length_past, time_past, obus_of}
use Rattle.sheet.specs.Reading.{few_or_many}
use Rattle.sheet.specs.Reading.{not_in_unit_order, names_no_unit, obu_type_past, overlap, empty, not_ascending, passes_length}

abbrev small : Content
small =
    record {
      streams = record { pid = 0x1FFE; stream_type = 255 } ∷ record { pid = 0; stream_type = 0 } ∷ [];
      units =
          record { first_packet = 3; length = 11; pts = 8589934592; dts = 7 }
          ∷ record { first_packet = 65534; length = 1573056; pts = 1; dts = 8589934592 }
          ∷ [];
      obus =
          record { unit = 0; obu_type = 2; offset = 3; length = 2 }
          ∷ record { unit = 0; obu_type = 6; offset = 5; length = 6 }
          ∷ record { unit = 1; obu_type = 15; offset = 0; length = 1 }
          ∷ [];
    }

-- it is read as it was written
back : content_of (sheet_of small) ≡ small
unfolding content_of rows number value_from sheet_of flatten sheet_numbers big_endian numbers_of
back = refl

-- sheets by their numbers: streams, units and OBUs, each after its count
abbrev sheet_by : List ℕ → List ℕ → List ℕ → List ℕ
sheet_by streams units obus = streams ++ (units ++ obus)

abbrev stream : List ℕ
stream = 1 ∷ 0x1FFE ∷ 255 ∷ []

abbrev unit : List ℕ
unit = 1 ∷ 65534 ∷ 1573056 ∷ 8589934592 ∷ 8589934592 ∷ []

abbrev obu : List ℕ
obu = 1 ∷ 0 ∷ 15 ∷ 0 ∷ 1573056 ∷ []

abbrev refusals : List (List ℕ)
refusals =
    sheet_by (1152921504606846976 ∷ []) (0 ∷ []) (0 ∷ [])  -- counts that would wrap
    ∷ sheet_by stream unit (2 ∷ 0 ∷ 15 ∷ 0 ∷ 1573056 ∷ [])  -- a length that isn't the one the counts give
    ∷ sheet_by (13 ∷ 0 ∷ 0 ∷ 0 ∷ 0 ∷ 0 ∷ 0 ∷ 0 ∷ 0 ∷ 0 ∷ 0 ∷ 0 ∷ 0 ∷ 0 ∷ 0 ∷ 0 ∷ 0 ∷ 0 ∷ 0 ∷ 0 ∷ 0 ∷ 0 ∷ 0 ∷ 0 ∷ 0 ∷ 0 ∷ 0 ∷ []) unit obu
    ∷ sheet_by (1 ∷ 0x1FFF ∷ 255 ∷ []) unit obu
    ∷ sheet_by (1 ∷ 0x1FFE ∷ 256 ∷ []) unit obu
    ∷ sheet_by stream (2 ∷ 5 ∷ 9 ∷ 0 ∷ 0 ∷ 5 ∷ 9 ∷ 0 ∷ 0 ∷ []) (2 ∷ 0 ∷ 6 ∷ 3 ∷ 6 ∷ 1 ∷ 6 ∷ 3 ∷ 6 ∷ [])  -- equal first packets
    ∷ sheet_by stream (1 ∷ 65535 ∷ 9 ∷ 0 ∷ 0 ∷ []) (1 ∷ 0 ∷ 6 ∷ 3 ∷ 6 ∷ [])
    ∷ sheet_by stream (1 ∷ 0 ∷ 1573057 ∷ 0 ∷ 0 ∷ []) (1 ∷ 0 ∷ 6 ∷ 3 ∷ 6 ∷ [])
    ∷ sheet_by stream (1 ∷ 0 ∷ 9 ∷ 8589934593 ∷ 0 ∷ []) (1 ∷ 0 ∷ 6 ∷ 3 ∷ 6 ∷ [])
    ∷ sheet_by stream (1 ∷ 0 ∷ 9 ∷ 0 ∷ 8589934593 ∷ []) (1 ∷ 0 ∷ 6 ∷ 3 ∷ 6 ∷ [])
    ∷ sheet_by stream (2 ∷ 5 ∷ 9 ∷ 0 ∷ 0 ∷ 6 ∷ 9 ∷ 0 ∷ 0 ∷ []) (1 ∷ 0 ∷ 6 ∷ 3 ∷ 6 ∷ [])  -- a unit without OBU
    ∷ sheet_by stream (2 ∷ 5 ∷ 9 ∷ 0 ∷ 0 ∷ 6 ∷ 9 ∷ 0 ∷ 0 ∷ []) (2 ∷ 1 ∷ 6 ∷ 3 ∷ 6 ∷ 0 ∷ 6 ∷ 3 ∷ 6 ∷ [])  -- not in unit order
    ∷ sheet_by stream (1 ∷ 0 ∷ 9 ∷ 0 ∷ 0 ∷ []) (2 ∷ 0 ∷ 6 ∷ 3 ∷ 6 ∷ 1 ∷ 6 ∷ 3 ∷ 6 ∷ [])  -- an OBU that names no unit
    ∷ sheet_by stream unit (1 ∷ 0 ∷ 16 ∷ 0 ∷ 1 ∷ [])
    ∷ sheet_by stream unit (2 ∷ 0 ∷ 2 ∷ 3 ∷ 2 ∷ 0 ∷ 6 ∷ 4 ∷ 2 ∷ [])  -- payloads that overlap
    ∷ sheet_by stream unit (1 ∷ 0 ∷ 2 ∷ 3 ∷ 0 ∷ [])  -- an empty one
    ∷ sheet_by stream unit (2 ∷ 0 ∷ 2 ∷ 5 ∷ 2 ∷ 0 ∷ 6 ∷ 3 ∷ 2 ∷ [])  -- they don't ascend
    ∷ sheet_by stream unit (1 ∷ 0 ∷ 15 ∷ 1 ∷ 1573056 ∷ [])  -- one that passes its unit's length
    ∷ sheet_by stream unit (1 ∷ 0 ∷ 15 ∷ 18446744073709551615 ∷ 2 ∷ [])  -- and one whose end would wrap
    ∷ []

abbrev accepted : List (List ℕ)
accepted =
    sheet_numbers small
    ∷ sheet_by stream unit obu
    ∷ sheet_by (0 ∷ []) (0 ∷ []) (0 ∷ [])
    ∷ sheet_by stream unit (2 ∷ 0 ∷ 2 ∷ 3 ∷ 2 ∷ 0 ∷ 6 ∷ 5 ∷ 2 ∷ [])  -- payloads that touch
    ∷ []

answers : (map (λ ns. wrong (in_bytes ns)) accepted ++ map (λ ns. wrong (in_bytes ns)) refusals)
    ≡ false ∷ false ∷ false ∷ false ∷ true ∷ true
    ∷ true ∷ true ∷ true ∷ true ∷ true ∷ true ∷ true ∷ true ∷ true ∷ true ∷ true ∷ true ∷ true ∷ true ∷ true ∷ true ∷ true ∷ []
unfolding wrong length_wrong content_of content_wrong rows number value_from any_two any_below count_past
    pid_past stream_type_past firsts_not_ascending firsts_reach length_past time_past obus_of few_or_many
    not_in_unit_order names_no_unit obu_type_past overlap empty not_ascending passes_length
    sheet_of flatten sheet_numbers big_endian numbers_of any those
answers = refl
