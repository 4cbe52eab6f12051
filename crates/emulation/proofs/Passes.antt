-- Laws of a pass that counts (`Counts`): it begins, goes on, and passes places that add nothing or something. Assumes nothing.
use Prim.Native.Nat.{ℕ, ◌+◌, ◌≤◌}
use mathlib.Core.Path.{◌≡◌}
use native.Mathlib.Omega.{arith}
use lib.ListN.{length}
use Rattle.lists.specs.Lists.{Bytes}
use Rattle.emulation.specs.Parts.{Counts}

pub counts_start : (left : ℕ → ℕ) (s : Bytes) (i : ℕ) → i ≤ length s → Counts left s i i 0
counts_start left s i h = record { onward = omega arith; within = h; less = omega arith }

-- the two passes, one after the other
pub counts_then : {left : ℕ → ℕ} {s : Bytes} {i j k d e : ℕ} → Counts left s i j d → Counts left s j k e → Counts left s i k (d + e)
counts_then a b =
    record { onward = omega (arith, a.onward, b.onward); within = b.within; less = omega (arith, a.less, b.less) }

-- n places that add nothing
pub counts_none : {left : ℕ → ℕ} {s : Bytes} {i j d : ℕ} → Counts left s i j d → (n : ℕ) → j + n ≤ length s → left j ≡ left (j + n)
    → Counts left s i (j + n) d
counts_none a n h e = record { onward = omega (arith, a.onward); within = h; less = omega (arith, a.less) }

-- n places that add e
pub counts_some : {left : ℕ → ℕ} {s : Bytes} {i j d : ℕ} → Counts left s i j d → (n e : ℕ) → e ≤ n → j + n ≤ length s
    → left j ≡ e + left (j + n) → Counts left s i (j + n) (d + e)
counts_some a n e few h f = record { onward = omega (arith, a.onward); within = h; less = omega (arith, a.less) }
