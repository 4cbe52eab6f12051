use Rattle.std.specs.Prelude.{Ok, Err}
use native.Mathlib.Omega.{arith}
use Prim.Native.Nat.{ℕ, ◌+◌, ◌*◌, ◌/◌, ◌≤◌, ◌<◌}
use lib.ListN.{length}
use mathlib.Core.List.{List}
use mathlib.Core.Path.{◌≡◌, refl, sym, subst, ◌∙◌}
use Rattle.lists.specs.Lists.{Bytes}
use Rattle.descriptor.specs.declared.edition.Edition.{Edition}
use Rattle.segment_rules.specs.declared.Totals.{Totals}
use Rattle.segment_rules.specs.Check.{Outputs, outputs_of}
use Rattle.packet.specs.declared.streams.Streams.{Streams}
use Rattle.extraction.specs.declared.packets.State.{State}
use Rattle.extraction.specs.Packets.{stepped}
use Rattle.segment_run.specs.Parts.{state_went}
use Rattle.units.proofs.Holding.{same_bytes, same_lens, same_times}
use Rattle.units.proofs.Firsts.{firsts_length}
use Rattle.segment_run.proofs.Clearing.{zeros_as, cleared_as}
use Rattle.segment_run.proofs.Looping.{Running, begins, goes_on, refused_there, stops, ends}
use Rattle.segment_run.proofs.Passing.{more_nulls, passes_nulls, passes_on}
use Rattle.segment_run.proofs.running.run.Goals.{After-nulls-skipped}
use Rattle.segment_run.proofs.running.run.Goals as goal

-- once the null packets have passed
skipped : (c : After-nulls-skipped)
    → let a = c.args in
    let l = c.loop-index in
    let k = l.index + c.nulls-skipped.result in
    (k ≤ length a.segment.now / 188)
    × Running a.edition a.segment.now (outputs_of a.out.now a.lens.now a.times.now) (outputs_of l.out l.lens l.times) a.firsts.now l.firsts
    l.state l.records (more_nulls c.nulls-skipped.result l.totals) k
skipped c =
    passes_nulls c.loop-index.invariant (omega (arith, c.loop-index-test.true)) c.nulls-skipped.result c.nulls-skipped.ensures

-- where no packets then went on, the loop is still there
none_went : {edition : Edition} {segment : Bytes} {before : Outputs} {old firsts : List ℕ} {c : State} {totals : Totals} {k : ℕ}
    (streams streams' : Streams) (out out' lens times : List ℕ) → (streams' ≡ streams) × (out' ≡ out)
    → Running edition segment before (outputs_of out lens times) old firsts c streams totals k
    → Running edition segment before (outputs_of out' lens times) old firsts c streams' totals k
none_went streams streams' out out' lens times same inv = rw (same.0, same.1) inv

-- a packet is left there, which lies within the segment
there : (s : Bytes) (i : ℕ) → i < length s / 188 → i * 188 + 188 ≤ length s
there s i h = omega (arith, h)

pub loop-index-init : goal.loop-index-init
loop-index-init c =
    let a = c.args in
    begins a.edition a.segment.now (outputs_of a.out.now a.lens.now a.times.now) a.firsts.now _ _ _
    c.fresh-state.ensures c.fresh-records.ensures c.none_yet-totals.ensures

pub overflow_add-totals : goal.overflow_add-totals
overflow_add-totals c =
    omega (
      arith,
      c.loop-index.invariant.counts,
      (skipped (goal.at.overflow_add-totals c).After-nulls-skipped).0,
      c.well_formed,
    )

pub overflow_add-index : goal.overflow_add-index
overflow_add-index c = omega (arith, (skipped (goal.at.overflow_add-index c).After-nulls-skipped).0, c.well_formed)

pub loop-index-preserved-then-count-index : goal.loop-index-preserved-then-count-index
loop-index-preserved-then-count-index c = (skipped (goal.at.loop-index-preserved-then-count-index c).After-nulls-skipped).1

pub loop-index-preserved-then-went-ne0 : goal.loop-index-preserved-then-went-ne0
loop-index-preserved-then-went-ne0 c =
    let a = c.args in
    let l = c.loop-index in
    let before = outputs_of a.out.now a.lens.now a.times.now in
    let now = outputs_of c.go_on-went.new.out l.lens l.times in
    let w = c.go_on-went.result in
    let k = l.index + c.nulls-skipped.result + w.packets in
    let went = passes_on (skipped (goal.at.loop-index-preserved-then-went-ne0 c).After-nulls-skipped).1 w c.go_on-went.new.records now
    (c.go_on-went.ensures.passes a.edition l.lens l.times) c.if-went-ne0.true c.go_on-went.ensures.within in
    subst (λ (s : State). Running a.edition a.segment.now before now a.firsts.now l.firsts s c.go_on-went.new.records
    c.count_went-totals.result k) (sym c.went_on-state.ensures)
    (subst (λ (n : Totals). Running a.edition a.segment.now before now a.firsts.now l.firsts (state_went l.state w)
    c.go_on-went.new.records n k) (sym c.count_went-totals.ensures) went)

pub returns-in-Err : goal.returns-in-Err
returns-in-Err c =
    let a = c.args in
    let l = c.loop-index in
    let before = outputs_of a.out.now a.lens.now a.times.now in
    let s = c.step in
    let now = outputs_of s.new.out s.new.lens s.new.times in
    let k = l.index + c.nulls-skipped.result in
    let inv = none_went _ _ _ _ l.lens l.times (c.go_on-went.ensures.unmoved c.if-went-ne0.false)
    (skipped (goal.at.returns-in-Err c).After-nulls-skipped).1 in
    let left : k < length a.segment.now / 188 = omega (arith, c.if-count-index.false) in
    let q = c.in-Err.refused in
    let zero = c.clear.ensures in
    stops a.edition a.segment.now before a.firsts.now q
    (refused_there inv left (stepped s.new.self (Err q)) s.new.records now (c.in-Err.ensures.rules (there a.segment.now k left)) q refl)
    c.stopped.result c.stopped.ensures _
    (cleared_as before now.bytes now.lens now.times zero.out_after zero.lens_after zero.times_after
    (s.auto.out ∙ same_bytes inv.stands.extraction) (s.auto.lens ∙ same_lens inv.stands.extraction)
    (s.auto.times ∙ same_times inv.stands.extraction)) _
    (zeros_as l.firsts a.firsts.now zero.firsts_after
    (firsts_length a.firsts.now l.firsts l.invariant.state.extraction.units l.invariant.noted))

pub loop-index-preserved : goal.loop-index-preserved
loop-index-preserved c =
    let a = c.args in
    let l = c.loop-index in
    let s = c.step in
    let now = outputs_of s.new.out s.new.lens s.new.times in
    let k = l.index + c.nulls-skipped.result in
    let inv = none_went _ _ _ _ l.lens l.times (c.go_on-went.ensures.unmoved c.if-went-ne0.false)
    (skipped (goal.at.loop-index-preserved c).After-nulls-skipped).1 in
    let left : k < length a.segment.now / 188 = omega (arith, c.if-count-index.false) in
    goes_on inv left (stepped s.new.self (Ok c.in-Ok.kind)) s.new.records now (c.in-Ok.ensures.rules (there a.segment.now k left)) refl _
    c.count_packet-totals.ensures _ c.note_first.ensures

pub returns : goal.returns
returns c =
    let a = c.args in
    let l = c.loop-index in
    ends a.edition a.segment.now (outputs_of a.out.now a.lens.now a.times.now) (outputs_of l.out l.lens l.times) a.firsts.now l.firsts
    l.state
    l.records l.totals l.index l.invariant c.loop-index-test.false
