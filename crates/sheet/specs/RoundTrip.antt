-- What holds of sheets, as statements; they are proved in proofs/RoundTrip.antt. Assumes nothing.
use Rattle.std.specs.Prelude.{ℕ, ◌+◌, ◌*◌, ◌^◌, ◌≤◌, Bool, true, false, ◌≡◌, ◌↔◌, ltb, length, None}
use Rattle.lists.specs.Lists.{all}
use Rattle.refusal.specs.Verdict.{passed}
use Rattle.sheet.specs.Sheet.{Content, sheet_numbers, sheet_of}
use Rattle.sheet.specs.Reading.{content_of, content_wrong, wrong, outputs_short, counts_of, reading, row_at, finding}

-- "The reader gives back what was written": the sheet of a content of which no condition of 45 holds is read without
-- 45, and the content read is the one written
abbrev pub ReadsBack : Type 0
ReadsBack = (c : Content) → content_wrong c ≡ false → (wrong (sheet_of c) ≡ false) × (content_of (sheet_of c) ≡ c)

-- so that the answer has its counts, where the outputs have room
abbrev pub CountsBack : Type 0
CountsBack =
    (c : Content) (streams units obus : ℕ) → content_wrong c ≡ false → outputs_short streams units obus c ≡ false
    → reading (sheet_of c) streams units obus ≡ passed (counts_of c)

-- "and a unit found by number, from 0, is the one .., or none exactly from the unit count on"
abbrev pub FindsUnits : Type 0
FindsUnits =
    (c : Content) (n : ℕ) → content_wrong c ≡ false
    → (finding (sheet_of c) n ≡ passed (row_at c.units n)) × ((row_at c.units n ≡ None) ↔ (length c.units ≤ n))

-- its numbers, counts too, fit 8 bytes; those of a content of which no condition of 45 holds do
unfoldable pub fits : Content → Bool
fits c = all (λ n. ltb n (2 ^ 64)) (sheet_numbers c)

abbrev pub GoodFits : Type 0
GoodFits = (c : Content) → content_wrong c ≡ false → fits c ≡ true

-- two contents with the same sheet are equal
abbrev pub OneContent : Type 0
OneContent = (b c : Content) → fits b ≡ true → fits c ≡ true → sheet_of b ≡ sheet_of c → b ≡ c

-- how long the sheet of a content is
abbrev pub LengthOfSheet : Type 0
LengthOfSheet =
    (c : Content)
    → length (sheet_of c) ≡ 24 + 16 * length c.streams + 32 * length c.units + 32 * length c.obus
