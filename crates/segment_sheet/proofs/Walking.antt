-- The walk over a unit's start codes: what is done, then the OBUs from here on, are the OBUs of the unit. The type stands in the payload's
-- first byte, which unescaping leaves. Assumes nothing.
use Prim.Native.Nat.{ℕ, suc, ◌+◌, ◌-◌, ◌*◌, ◌≤◌, ◌<◌}
use mathlib.Core.Path.{◌≡◌, refl, sym, ap, ap₂, subst, ◌∙◌}
use mathlib.Core.Logic.{inr}
use mathlib.Core.List.{List, [], ◌∷◌, ◌++◌, map}
use native.Mathlib.Omega.{arith}
use lib.ListN.{length, take, drop, length-map}
use Rattle.lists.specs.Lists.{Bytes, placed}
use Rattle.lists.specs.Bytes.{byte}
use Rattle.obu.specs.Header.{type_bits}
use Rattle.refusal.specs.Verdict.{passed}
use Rattle.refusal.proofs.Verdicts.{All}
use Rattle.tsobu.specs.StartCodes.{split, payloads}
use Rattle.tsobu.specs.TsObu.{tsobu_refusal}
use Rattle.emulation.proofs.Steps.{unescaped_first}
use Rattle.tsobu.proofs.Places.{At, at_start, code_room, next_at, next_payloads, lent_is, next_code, payload_at, payload_is, payload_length}
use Rattle.tsobu.proofs.Places.{payloads_end}
use Rattle.unit.proofs.Acceptance.{reads}
use Rattle.segment_rules.specs.Content.{ObuPlace, place_of, places_from, places_in}
use Rattle.sheet.specs.declared.rows.ObuRow.{ObuRow}
use Rattle.sheet.specs.Sheet.{obu_numbers, in_bytes}
use Rattle.sheet.proofs.BigEndian.{bytes_long}
use Rattle.segment_rules.proofs.Contents.{length_places}
use Rattle.segment_sheet.specs.Content.{obu_of}
use Rattle.segment_sheet.specs.Parts.{Readable, obus_in}
pub use Rattle.segment_sheet.specs.Parts.{obu_bytes}
use Rattle.segment_sheet.proofs.Filling.{Filling, filling_start, filling_as, filling_next, filling_room, filling_done, filling_place}
use Rattle.segment_sheet.proofs.Filling.{row_none, row_next, rows_long}

-- ---- a place where a tsOBU begins, or the end; those from there on pass
pub record Stands (s : Bytes) (code : ℕ) : Type 0 where
  pub at : At s code
  pub passes : All (λ p. tsobu_refusal p ≡ passed tt) (payloads (drop code s))

pub stands_start : (s : Bytes) → Readable s → Stands s 0
stands_start s a = let r = (reads s a.0 a.1).0 in record { at = at_start s (inr r.headed); passes = r.tsobus }

module _ {s : Bytes} {code : ℕ} (a : Stands s code) (h : code < length s) where
  next_passes : All (λ p. tsobu_refusal p ≡ passed tt) (payload_at s code ∷ payloads (drop (next_code s code) s))
  next_passes = subst (All (λ p. tsobu_refusal p ≡ passed tt)) (next_payloads a.at h) a.passes

  -- what is asked of the payload whose end is searched
  pub payload_passes : (code + 3 ≤ length s) × (tsobu_refusal (split (drop (code + 3) s)).before ≡ passed tt)
  payload_passes = (code_room a.at h, subst (λ (p : Bytes). tsobu_refusal p ≡ passed tt) (payload_is s code) next_passes.0)

  pub stands_next : Stands s (next_code s code)
  stands_next = record { at = next_at a.at h; passes = next_passes.1 }

  pub one_less : length (payloads (drop code s)) ≡ suc (length (payloads (drop (next_code s code) s)))
  one_less = ap length (next_payloads a.at h)

  pub next_places : (index : ℕ) → places_from index code (payloads (drop code s))
      ≡ place_of index code (payload_at s code) ∷ places_from index (next_code s code) (payloads (drop (next_code s code) s))
  unfolding places_from
  next_places index =
      ap (places_from index code) (next_payloads a.at h)
      ∙ ap (λ (k : ℕ). place_of index code (payload_at s code) ∷ places_from index k (payloads (drop (next_code s code) s))) (
      let l = payload_length s code in let e : code + 3 + length (payload_at s code) ≡ next_code s code = omega arith in e
      )

-- ---- counting
pub obus_count : (index : ℕ) (s : Bytes) → length (obus_in index s) ≡ length (payloads s)
obus_count index s = length-map (places_in index s) obu_of ∙ length_places index 0 (payloads s)

pub record Counting (s : Bytes) (count code : ℕ) : Type 0 where
  pub here : Stands s code
  pub few : count ≤ code
  pub total : count + length (payloads (drop code s)) ≡ length (payloads s)

pub counting_start : (s : Bytes) → Readable s → Counting s 0 0
counting_start s e = record { here = stands_start s e; few = omega arith; total = omega arith }

module _ {s : Bytes} {count code : ℕ} (c : Counting s count code) where
  pub counting_next : code < length s → (end : ℕ) → end ≡ next_code s code → Counting s (count + 1) end
  counting_next h end e =
      subst (Counting s (count + 1)) (sym e)
      (record {
        here = stands_next c.here h;
        few = omega (arith, c.few);
        total = omega (arith, c.total, one_less c.here h);
      })

  pub counting_done : length s ≤ code → (index : ℕ) → count ≡ length (obus_in index s)
  counting_done h index = omega (arith, c.total, ap length (payloads_end s code h), obus_count index s)

-- ---- putting
abbrev pub obus_after : ℕ → Bytes → ℕ → List ObuRow
obus_after index s code = map obu_of (places_from index code (payloads (drop code s)))

pub obus_long : (l : List ObuRow) → length (obu_bytes l) ≡ 32 * length l
obus_long l = rows_long obu_numbers 4 (λ o. refl) l

pub record Putting (index : ℕ) (s out₀ : Bytes) (at code to : ℕ) (out : Bytes) : Type 0 where
  pub here : Stands s code
  pub filling : Filling out₀ at (obu_bytes (obus_in index s)) to (obu_bytes (obus_after index s code)) out

pub putting_start : (index : ℕ) (s out : Bytes) (at : ℕ) → Readable s → at + 32 * length (obus_in index s) ≤ length out
    → Putting index s out at 0 at out
putting_start index s out at e h =
    record {
      here = stands_start s e;
      filling = filling_start out at (obu_bytes (obus_in index s)) (omega (arith, obus_long (obus_in index s)));
    }

module _ {index : ℕ} {s out₀ : Bytes} {at code to : ℕ} {out : Bytes} (p : Putting index s out₀ at code to out) where
  module _ (h0 : code < length s) where
    row : List ℕ
    row = index ∷ type_bits (byte (payload_at s code) 0) ∷ (code + 3) ∷ length (payload_at s code) ∷ []

    opened : Filling out₀ at (obu_bytes (obus_in index s)) to (in_bytes row ++ obu_bytes (obus_after index s (next_code s code))) out
    unfolding row
    opened =
        filling_as p.filling _
        (ap (λ (l : List ObuPlace). obu_bytes (map obu_of l)) (next_places p.here h0 index)
        ∙ row_next obu_numbers (obu_of (place_of index code (payload_at s code))) (obus_after index s (next_code s code))
        ∙ ap (λ (b : ℕ). in_bytes (index ∷ type_bits b ∷ (code + 3) ∷ length (payload_at s code) ∷ []) ++ obu_bytes (obus_after index s
        (next_code s code)))
        (unescaped_first (payload_at s code)))

    pub putting_room : to + 32 ≤ length out
    unfolding row
    putting_room =
        let l = bytes_long row in
        omega (arith, filling_room (in_bytes row) (obu_bytes (obus_after index s (next_code s code))) opened)

    -- the numbers as the code has them: of the payload up to where the next start code was found
    pub putting_next : (end : ℕ) (w : Bytes) (t to' : ℕ) (out' : Bytes) → end ≡ next_code s code
        → w ≡ take (end - (code + 3)) (drop (code + 3) s) → t ≡ type_bits (byte w 0) → to' ≡ to + 32
        → out' ≡ placed out to (in_bytes (index ∷ t ∷ (code + 3) ∷ length w ∷ []))
        → Putting index s out₀ at end to' out'
    unfolding row
    putting_next end w t to' out' e f g h k =
        let q : w ≡ payload_at s code = f ∙ lent_is p.here.at h0 end e in
        let l = bytes_long row in
        let same : in_bytes (index ∷ t ∷ (code + 3) ∷ length w ∷ []) ≡ in_bytes row =
        ap₂ (λ (b : ℕ) (x : Bytes). in_bytes (index ∷ b ∷ (code + 3) ∷ length x ∷ [])) (g ∙ ap (λ (x : Bytes). type_bits (byte x 0)) q) q in
        subst (λ (n : ℕ). Putting index s out₀ at n to' out') (sym e)
        (record {
          here = stands_next p.here h0;
          filling = filling_next (in_bytes row) (obu_bytes (obus_after index s (next_code s code))) opened to' out' (omega (arith, h, l))
              (k ∙ ap (placed out to) same);
        })

  pub putting_done : length s ≤ code → (out ≡ placed out₀ at (obu_bytes (obus_in index s))) × (to ≡ at + 32 * length (obus_in index s))
  unfolding places_from
  putting_done h =
      let z : obu_bytes (obus_after index s code) ≡ [] =
      ap (λ (l : List Bytes). obu_bytes (map obu_of (places_from index code l))) (payloads_end s code h) ∙ row_none obu_numbers in
      (filling_done p.filling z, omega (arith, filling_place p.filling, ap length z, obus_long (obus_in index s)))
