-- The part from the place to the end that `scan` gives is what stands before the next start code, so what `scan` says of it is known of it.
use native.Mathlib.Omega.{arith}
use Prim.Native.Nat.{ℕ, ◌-◌}
use mathlib.Core.Path.{◌≡◌, sym, ap, ◌∙◌}
use lib.ListN.{take, drop}
use Rattle.lists.specs.Lists.{Bytes}
use Rattle.emulation.specs.Payload.{legal, dropped}
use Rattle.tsobu.specs.StartCodes.{split, code_from}
use Rattle.tsobu.specs.TsObu.{tsobu_figures}
use Rattle.tsobu.proofs.Places.{before, before_taken}
use Rattle.tsobu.proofs.judging.judge_from.Goals as goal

-- the part that is lent is the payload
lent : (s p : Bytes) (start end : ℕ) → end ≡ code_from s start → p ≡ take (end - start) (drop start s) → p ≡ (split (drop start s)).before
lent s p start end e f =
    let n : end - start ≡ before (drop start s) = omega (arith, e) in
    f ∙ ap (λ (k : ℕ). take k (drop start s)) n ∙ before_taken (drop start s)

pub judge_scanned-tsobu-requires : goal.judge_scanned-tsobu-requires
judge_scanned-tsobu-requires c =
    let found = c.scan-scanned.ensures in
    let same = lent _ _ _ _ found.ends c.part-payload.ensures in
    (found.lawful ∙ ap legal (sym same), λ l. found.drops l ∙ ap dropped (sym same))

pub returns : goal.returns
returns c =
    let found = c.scan-scanned.ensures in
    record {
      end_value = found.ends;
      tsobu_value = c.judge_scanned-tsobu.ensures ∙ ap tsobu_figures (lent _ _ _ _ found.ends c.part-payload.ensures);
    }
