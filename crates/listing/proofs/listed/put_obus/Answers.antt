use Rattle.std.proofs.Common.{◌≡◌, ◌+◌, ◌++◌, ℕ, sym, ap, subst, ◌∙◌, arith}
use Rattle.lists.specs.Lists.{Bytes}
use Rattle.refusal.specs.Verdict.{passed}
use Rattle.tsobu.specs.Walk.{stepping, payload, place_after, handed_out, step_says}
use Rattle.std.specs.Prelude.{Option, Some, Ok}
use Rattle.tsobu.specs.declared.walking.Part.{Part}
use Rattle.tsobu.specs.declared.reader.Walk.{Walk}
use Rattle.listing.specs.Listing.{payload_line}
use Rattle.listing.proofs.Walked.{Listing, listing_start, listing_step, listing_end, listing_bound, part_onward}
use Rattle.listing.proofs.listed.put_obus.Goals.{In-Some}
use Rattle.listing.proofs.listed.put_obus.Goals as goal

-- the step handed out a payload
hands : (c : In-Some) → stepping c.args.unit.now c.loop-step.walk.at ≡ passed (payload c.in-Some.field-0)
hands c =
    let at = c.loop-step.walk.at in
    ap (λ (u : Bytes). stepping u at) (sym c.loop-step.invariant.0) ∙ sym c.step-handed.ensures.step_value
    ∙ ap step_says (c.in-Ok.is ∙ ap (λ (x : Option Part). Ok x) c.in-Some.is)

-- the reader's place behind the step
after : (c : In-Some) → c.step-handed.new.self.at ≡ place_after c.args.unit.now c.loop-step.walk.at
after c =
    let at = c.loop-step.walk.at in
    ap (λ (w : Walk). w.at) c.step-handed.ensures.self_after ∙ ap (λ (u : Bytes). place_after u at) c.loop-step.invariant.0

pub loop-step-init : goal.loop-step-init
loop-step-init c =
    let e = c.new-walk.ensures in (
      ap (λ (w : Walk). w.src.now) e,
      subst (λ (n : ℕ). Listing c.args.unit.now c.args.text.now c.args.text.now n 0) (sym (ap (λ (w : Walk). w.at) e))
          (listing_start c.args.unit.now c.args.text.now c.requires.0),
    )

pub returns-in_default : goal.returns-in_default
returns-in_default c =
    record {
      puts =
          listing_end c.loop-step.invariant.1 _
          (c.step-handed.ensures.step_value ∙ ap (λ (u : Bytes). stepping u c.loop-step.walk.at) c.loop-step.invariant.0)
          (λ p e. c.in_default.not-Ok (Some p) e);
      upper_bound = listing_bound c.loop-step.invariant.1;
    }

pub returns-in_default-step : goal.returns-in_default-step
returns-in_default-step c =
    record {
      puts =
          listing_end c.loop-step.invariant.1 _
          (c.step-handed.ensures.step_value ∙ ap (λ (u : Bytes). stepping u c.loop-step.walk.at) c.loop-step.invariant.0)
          (λ p e. let h = sym c.in-Ok.is ∙ e in c.in_default-step.not-Some p (cc));
      upper_bound = listing_bound c.loop-step.invariant.1;
    }

pub loop-step-smaller : goal.loop-step-smaller
loop-step-smaller c =
    let at = goal.at.loop-step-smaller c in
    omega (arith, after at.In-Some, part_onward c.args.unit.now c.loop-step.walk.at c.in-Some.field-0 (hands at.In-Some))

pub loop-step-preserved : goal.loop-step-preserved
loop-step-preserved c =
    let at = goal.at.loop-step-preserved c in
    let unit = c.args.unit.now in
    let place = c.loop-step.walk.at in
    let wrote = c.put_payload in
    let part : c.step-handed.result.payload.now ≡ handed_out unit (stepping unit place) =
    c.step-handed.ensures.payload_value ∙ ap (λ (u : Bytes). handed_out u (stepping u place)) c.loop-step.invariant.0 in
    let puts = wrote.ensures.puts ∙ ap (λ (p : Bytes). c.loop-step.text ++ payload_line c.loop-step.index p) part in (
      ap (λ (w : Walk). w.src.now) c.step-handed.ensures.self_after ∙ c.loop-step.invariant.0,
      subst (λ (n : ℕ). Listing unit c.args.text.now wrote.new.text n (c.loop-step.index + 1))
          (sym (after at.In-Some))
          (listing_step c.loop-step.invariant.1 c.in-Some.field-0 (hands at.In-Some) wrote.new.text puts wrote.ensures.upper_bound),
    )
