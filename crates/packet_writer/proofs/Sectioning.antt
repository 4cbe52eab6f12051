-- The fields of a section, of the PAT and of the PMT as the code writes them. Assumes nothing.
use Prim.Native.Nat.{ℕ, ◌+◌, ◌*◌, ◌/◌, ◌%◌, ◌^◌, ◌≤◌}
use mathlib.Core.Path.{◌≡◌, refl, ap, ap₂, ◌∙◌}
use mathlib.Core.List.{[], ◌∷◌, ◌++◌}
use native.Mathlib.Omega.{arith}
use lib.ListN.{length, get_or}
use Rattle.lists.specs.Lists.{Bytes}
use Rattle.psi.specs.Writing.{pid_bytes, length_bytes, section_start, pat_rest}
use Rattle.pmt.specs.Writing.{info, pmt_rest}

-- the first eight bytes of a section
pub start_by : (table extension n h l : ℕ) → n ≤ 171 → h ≡ extension / 256 → l ≡ extension % 256
    → table ∷ 176 ∷ (9 + n) ∷ h ∷ l ∷ 193 ∷ 0 ∷ 0 ∷ [] ≡ section_start table extension n
start_by table extension n h l s eh el =
    let x : 176 ≡ 0b1011 * 2 ^ 4 + (9 + n) / 256 = omega arith in
    let y : 9 + n ≡ (9 + n) % 256 = omega arith in
    ap₂ (λ (i j : ℕ). table ∷ i ∷ j ∷ h ∷ l ∷ 193 ∷ 0 ∷ 0 ∷ []) x y
    ∙ ap₂ (λ (i j : ℕ). table ∷ (0b1011 * 2 ^ 4 + (9 + n) / 256) ∷ (9 + n) % 256 ∷ i ∷ j ∷ 193 ∷ 0 ∷ 0 ∷ []) eh el

-- a PID below the three reserved bits
reserved_lem : (pid : ℕ) → (57344 + pid) / 256 ≡ 224 + pid / 256
reserved_lem pid = omega arith

low_lem : (pid : ℕ) → (57344 + pid) % 256 ≡ pid % 256
low_lem pid = omega arith

-- what the PAT has behind them
pub pat_rest_lem : (program map_pid h l m k : ℕ) → h ≡ program / 256 → l ≡ program % 256 → m ≡ map_pid / 256 → k ≡ map_pid % 256
    → h ∷ l ∷ (224 + m) ∷ k ∷ [] ≡ pat_rest program map_pid
pat_rest_lem program map_pid h l m k eh el em ek =
    ap₂ (λ (i j : ℕ). i ∷ j ∷ (224 + m) ∷ k ∷ []) eh el
    ∙ ap₂ (λ (i j : ℕ). program / 256 ∷ program % 256 ∷ (224 + i) ∷ j ∷ []) em ek

-- the same, of the two bytes of each number as the code has them
pub pat_rest_put : (program map_pid : ℕ) (w v : Bytes) → w ≡ program / 256 ∷ program % 256 ∷ []
    → v ≡ (57344 + map_pid) / 256 ∷ (57344 + map_pid) % 256 ∷ [] → w ++ v ≡ pat_rest program map_pid
pat_rest_put program map_pid w v ew ev =
    rw (ew, ev)
    (ap (λ (i : ℕ). program / 256 ∷ program % 256 ∷ i ∷ (57344 + map_pid) % 256 ∷ []) (reserved_lem map_pid)
    ∙ pat_rest_lem program map_pid _ _ _ _ refl refl refl (low_lem map_pid))

-- what the PMT has behind them
pub pmt_rest_lem : (pid h l : ℕ) (d : Bytes) → h ≡ pid / 256 → l ≡ pid % 256 → length d ≡ 6
    → (224 + h) ∷ l ∷ 240 ∷ 0 ∷ 6 ∷ (224 + h) ∷ l ∷ 240 ∷ 12 ∷ 5 ∷ 4 ∷ 65 ∷ 86 ∷ 48 ∷ 49 ∷ d ≡ pmt_rest pid d
pmt_rest_lem pid h l d eh el e =
    let k : 12 ≡ length (info d) = omega arith in
    ap₂ (λ (i j : ℕ). (224 + i) ∷ j ∷ 240 ∷ 0 ∷ 6 ∷ (224 + i) ∷ j ∷ 240 ∷ 12 ∷ info d) eh el
    ∙ ap (λ (n : ℕ). pid_bytes pid ++ (length_bytes 0 ++ (6 ∷ pid_bytes pid ++ (length_bytes n ++ info d)))) k

-- the same, of the two bytes of the PID as the code has them
pub pmt_rest_put : (pid : ℕ) (w d : Bytes) → w ≡ (57344 + pid) / 256 ∷ (57344 + pid) % 256 ∷ [] → length d ≡ 6
    → get_or w 0 0 ∷ get_or w 1 0 ∷ 240 ∷ 0 ∷ 6 ∷ get_or w 0 0 ∷ get_or w 1 0 ∷ 240 ∷ 12 ∷ 5 ∷ 4 ∷ 65 ∷ 86 ∷ 48 ∷ 49 ∷ d ≡ pmt_rest pid d
pmt_rest_put pid w d ew e =
    rw ew
    (ap (λ (i : ℕ). i ∷ (57344 + pid) % 256 ∷ 240 ∷ 0 ∷ 6 ∷ i ∷ (57344 + pid) % 256 ∷ 240 ∷ 12 ∷ info d) (reserved_lem pid)
    ∙ pmt_rest_lem pid _ _ d refl (low_lem pid) e)
