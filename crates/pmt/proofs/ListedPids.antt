-- No PID that a PMT lists is 0x1FFF. Assumes nothing.
use Prim.Native.Nat.{ℕ, suc, ◌<◌}
use mathlib.Core.Bool.{false}
use mathlib.Core.Path.{◌≡◌}
use mathlib.Core.List.{List, [], ◌∷◌}
use native.Mathlib.Omega.{arith}
use borrow.Author.Tests.{ne_eqb}
use lib.Dec.{eqb}
use lib.ListN.{length}
use Rattle.lists.specs.Lists.{Bytes}
use Rattle.lists.specs.Bytes.{byte}
use Rattle.refusal.specs.Verdict.{passed}
use Rattle.refusal.proofs.Verdicts.{All}
use Rattle.descriptor.specs.Edition.{Edition}
use Rattle.packet.specs.Header.{null_pid}
use Rattle.pmt.specs.Pmt.{MapContent, pids, entry_bytes, read_pmt}
use Rattle.pmt.proofs.Passed.{says, not_null}

-- what holds at each place holds of all
at_each : (P : ℕ → Type 0) (l : List ℕ) → ((j : ℕ) → j < length l → P (byte l j)) → All P l
at_each P [] h = tt
at_each P (a ∷ l) h = (h 0 (omega arith), at_each P l (λ j k. h (suc j) (omega arith)))

pub listed_not_null : (edition : Edition) (program map_pid : ℕ) (s : Bytes) (m : MapContent) → read_pmt edition program map_pid s ≡ passed m
    → All (λ n. eqb n null_pid ≡ false) (pids m.entries)
listed_not_null edition program map_pid s m e =
    at_each (λ n. eqb n null_pid ≡ false) (pids m.entries) (λ j h. ne_eqb _ null_pid
    (not_null map_pid (entry_bytes s) m.entries (says edition program map_pid s m e).listed j h))
