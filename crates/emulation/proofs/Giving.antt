-- Laws of `Gives`, for escaping and unescaping alike: a pass begins, goes on, and comes to the end of its input or its output; one of
-- unescaping copies a block in which no 00 00 03 stands. Assumes nothing.
use Prim.Native.Nat.{ℕ, ◌+◌, ◌-◌, ◌≤◌, ◌<◌}
use mathlib.Core.Path.{◌≡◌}
use mathlib.Core.List.{[]}
use native.Mathlib.Omega.{arith}
use lib.ListN.{length, drop}
use Rattle.lists.specs.Lists.{Bytes}
use Rattle.lists.proofs.Writing.{Finished}
use Rattle.emulation.specs.Payload.{unescape}
use Rattle.emulation.specs.Blocks.{block}
use Rattle.emulation.specs.Parts.{marked, Writes, Copied, Gives}
use Rattle.emulation.proofs.Outputs.{writes_start, writes_then, writes_end, writes_full}
use Rattle.emulation.proofs.Keeping.{unescape_keeps, free_passes, last_passes}
use Rattle.emulation.proofs.Hits.{is_free}

pub gives_start : (f : Bytes → Bytes) (s out : Bytes) (i n : ℕ) → i ≤ length s → n ≤ length out → Gives f s i out n i n out
gives_start f s out i n h k = record { within = h; written = writes_start out (f (drop i s)) n k }

pub gives_then : {f : Bytes → Bytes} {s out later last : Bytes} {i n j m k l : ℕ} → Gives f s i out n j m later
    → Gives f s j later m k l last
    → Gives f s i out n k l last
gives_then a b = record { within = b.within; written = writes_then a.written b.written }

-- a pass that writes at every place: it has written something once it has gone on
abbrev pub Going : (Bytes → Bytes) → Bytes → ℕ → Bytes → ℕ → ℕ → ℕ → Bytes → Type 0
Going f s i out n j m later = Gives f s i out n j m later × (i < j → n < m)

pub going_on : {f : Bytes → Bytes} {s out rest later last : Bytes} {i n j m k l : ℕ} → Going f s i out n j m later
    → f (drop j s) ≡ rest → k ≤ length s → Writes later m rest l (f (drop k s)) last → m < l
    → Going f s i out n k l last
going_on g e h w o =
    (record { within = h; written = writes_then (rw e at g.0.written) w }, λ b. omega (arith, g.0.written.onward))

pub gives_copied : {s out later last : Bytes} {i n j m : ℕ} → Gives unescape s i out n j m later → Copied s j later m last
    → Gives unescape s i out n (j + block) (m + block) last
gives_copied {s} {j = j} g c =
    let e = free_passes marked unescape unescape_keeps s j c.tested in
    record {
      within = omega (arith, (is_free marked s j c.tested).0);
      written = writes_then (rw e at g.written) (c.written (unescape (drop (j + block) s)));
    }

-- at most two bytes of the input are left, and they are copied
pub gives_rest : {s out later last : Bytes} {j m k : ℕ} → Gives unescape s 0 out 0 j m later → length s - 2 ≤ j
    → Writes later m (drop j s) k [] last → Finished out (unescape s) k last
gives_rest {s} {j = j} g h w = writes_end (writes_then (rw (last_passes marked unescape unescape_keeps s j h) at g.written) w)

-- what is left to be written gets less
pub less_left : (long now n m : ℕ) → now ≡ long → n < now → n < m → long - m < long - n
less_left long now n m e h k = omega arith

-- no room is left
pub gives_full : {f : Bytes → Bytes} {s out later : Bytes} {j m : ℕ} → Gives f s 0 out 0 j m later → length later ≤ m
    → Finished out (f s) m later
gives_full g h = writes_full g.written h
