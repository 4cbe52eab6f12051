use native.Mathlib.Omega.{arith}
use mathlib.Core.Path.{sym, ◌∙◌}
use Rattle.emulation.proofs.Steps.{first_found}
use Rattle.emulation.proofs.Critical.{paired_of}
use Rattle.emulation.proofs.Judging.{lawful_past_one, lawful_past_two, lawful_past_mark, lawful_past_three}
use Rattle.emulation.proofs.Judging.{lawful_rest, first_past}
use Rattle.emulation.proofs.unescaping.lawful_places.Goals.{then-s-place-eq3, else-s-place-eq3}
use Rattle.emulation.proofs.unescaping.lawful_places.Goals as goal

pub loop-place-preserved-then-s-place-ne0 : goal.loop-place-preserved-then-s-place-ne0
loop-place-preserved-then-s-place-ne0 c = lawful_past_two _ _ _ _ c.loop-place.invariant (omega arith) c.if-s-place-ne0.true

pub loop-place-preserved-then-s-place-ne0-2 : goal.loop-place-preserved-then-s-place-ne0-2
loop-place-preserved-then-s-place-ne0-2 c = lawful_past_one _ _ _ _ c.loop-place.invariant (omega arith) c.if-s-place-ne0-2.true

pub forbidden_pair-requires : goal.forbidden_pair-requires
forbidden_pair-requires c =
    let s = c.args.s.now in
    let place = c.loop-place.place in
    (omega arith, paired_of s place (omega arith) c.if-s-place-ne0-2.false c.if-s-place-ne0.false)

pub returns-then-forbidden_pair : goal.returns-then-forbidden_pair
returns-then-forbidden_pair c =
    let s = c.args.s.now in
    record {
      lawful = c.loop-place.invariant;
      s_value = first_found s c.loop-place.place (omega arith) (sym c.forbidden_pair.ensures ∙ c.if-forbidden_pair.true);
    }

pub loop-place-preserved : goal.loop-place-preserved
loop-place-preserved c =
    let s = c.args.s.now in
    let place = c.loop-place.place in
    let lawful = c.loop-place.invariant in
    let allowed = sym c.forbidden_pair.ensures ∙ c.if-forbidden_pair.false in
    let zeros = paired_of s place (omega arith) c.if-s-place-ne0-2.false c.if-s-place-ne0.false in
    elim c.if-s-place-eq3.branch [
      | then-s-place-eq3 w ↦ rw w.count-is (lawful_past_mark _ _ _ _ lawful (omega arith) allowed w.if-s-place-eq3.true zeros)
      | else-s-place-eq3 w ↦ rw w.count-is (lawful_past_three _ _ _ _ lawful (omega arith) allowed w.if-s-place-eq3.false zeros)
    ]

pub returns : goal.returns
returns c = record {
  lawful = lawful_rest _ _ _ _ c.loop-place.invariant (omega (arith, c.places-last.ensures, c.loop-place-test.false));
  s_value = first_past
      c.args.s.now;
}
