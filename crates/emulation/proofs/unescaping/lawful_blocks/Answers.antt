use native.Mathlib.Omega.{arith}
use mathlib.Core.Path.{◌≡◌, refl, sym, ◌∙◌}
use lib.ListN.{drop}
use Rattle.emulation.specs.Payload.{forbidden}
use Rattle.emulation.specs.Blocks.{hits, block, paired, zeros_then}
use Rattle.emulation.specs.Parts.{marked}
use Rattle.emulation.proofs.Hits.{decides}
use Rattle.emulation.proofs.Judging.{lawful_unpaired, lawful_block}
use Rattle.emulation.proofs.Zeros.{is_marked}
use Rattle.emulation.proofs.unescaping.lawful_blocks.Goals.{then-count_places-ne0+else-count_places-ne0-2, else-count_places-ne0}
use Rattle.emulation.proofs.unescaping.lawful_blocks.Goals as goal

pub loop-place-preserved : goal.loop-place-preserved
unfolding paired forbidden zeros_then
loop-place-preserved c =
    let lawful = c.loop-place.invariant in
    elim c.if-count_places-ne0.branch [
      | then-count_places-ne0+else-count_places-ne0-2 w ↦
          let forbidding = w.count_places-then-count_places-ne0.ensures in
          let none = sym (forbidding forbidden (decides forbidden refl _ _)) ∙ w.if-count_places-ne0-2.false in
          let test = zeros_then 3 3 in
          let n : w.count_places-then-count_places-ne0-2.result ≡ hits marked block (drop c.loop-place.place c.args.s.now) =
          rw is_marked at (w.count_places-then-count_places-ne0-2.ensures test (decides test refl _ _)) in
          rw (w.count-is, w.wide-count.ensures, n) (lawful_block _ _ _ _ lawful (omega (arith, c.loop-place-test.true)) none)
      | else-count_places-ne0 w ↦
          let none = sym (c.count_places.ensures paired (decides paired refl _ _)) ∙ w.if-count_places-ne0.false in
          rw w.count-is (lawful_unpaired _ _ _ _ lawful (omega (arith, c.loop-place-test.true)) none)
    ]

pub returns : goal.returns
returns c = c.loop-place.invariant
