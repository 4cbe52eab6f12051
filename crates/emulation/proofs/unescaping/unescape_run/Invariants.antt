-- What is written is what unescaping gives behind the two last bytes; behind the run it goes on as from the front (`Fresh`).
use Prim.Native.Nat.{◌+◌, ◌-◌, ◌≤◌, ◌<◌}
use mathlib.Core.Path.{◌≡◌}
use lib.ListN.{length, drop, get_or}
use Rattle.emulation.specs.Parts.{Writes}
use Rattle.emulation.proofs.Machine.{unescape_after}
use Rattle.emulation.proofs.unescaping.unescape_run.Given as goal

abbrev pub invariant-loop-place : goal.invariant-loop-place
invariant-loop-place l =
    (l.i < l.place) × (l.place ≤ l.end) × (l.n < l.count) × (l.count + l.i ≤ l.n + l.place) × (l.n + (l.end - l.i) ≤ length l.out) ×
    (l.q ≡ get_or l.payload (l.place - 1) 0)
    × Writes l.initial.out (l.n + 1) (unescape_after 1 (get_or l.payload l.i 0) (drop (l.i + 1) l.payload)) l.count
    (unescape_after l.p l.q (drop l.place l.payload)) l.out
