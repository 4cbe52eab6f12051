-- The unit is judged, then the rooms are tried; an accepted unit that has room is copied whole.
use Rattle.refusal.specs.Number.{says, refused_by}
use Rattle.std.proofs.lemmas.Result.{err_from_is_err_and}
use native.Mathlib.Omega.{arith}
use mathlib.Core.Path.{◌≡◌, refl, sym, ap, subst, ◌∙◌}
use mathlib.Core.List.{List}
use Prim.Native.Nat.{ℕ, ◌≤◌}
use lib.ListN.{length, length-map, take, drop_of_length-le}
use lib.Seq.{length-take-le}
use Rattle.lists.specs.Lists.{over}
use Rattle.lists.proofs.Writing.{Part, put, done}
use Rattle.unit.specs.Parts.{widths_of}
use Rattle.unit.proofs.Readings.{width_of, widths_next}
use Rattle.refusal.specs.Verdict.{passed, leaves}
use Rattle.refusal.proofs.Verdicts.{refused_leaves}
use Rattle.unit.specs.Answer.{checking}
use Rattle.unit.specs.declared.reading.Counts.{Counts}
use Rattle.unit.proofs.Checking.{checked, widths_long, reading_refused, reading_short, reading_fits, rooms}
use Rattle.unit.proofs.reading.read.Goals.{Else-no_room, In_ok-counts}
use Rattle.unit.proofs.reading.read.Goals as goal

-- an accepted unit
accepted : (c : In_ok-counts)
    → checking c.args.unit.now ≡ passed c.in_ok-counts.counts
accepted c = sym c.in_ok-counts.ensures.result_value

-- the rooms, where they are not too short
room : (c : Else-no_room)
    → let counts = c.in_ok-counts.counts in
    let args = c.args in
    (counts.bytes ≤ length args.out.now) × (counts.obus ≤ length args.lens.now) × (counts.obus ≤ length args.widths.now)
room c = rooms c.in_ok-counts.counts _ _ _ (sym c.no_room.ensures ∙ c.if-no_room.false)

pub returns-in_err-counts : goal.returns-in_err-counts
unfolding leaves
returns-in_err-counts c =
    let p = err_from_is_err_and c.from_residual.result c.from_residual.ensures.1 in
    let e = ap says p.1 ∙ ap refused_by p.2 in
    let r = reading_refused _ _ _ _ _ _ (sym c.in_err-counts.ensures.result_value) in
    record { answers = e ∙ r; obus = refused_leaves _ _ e; of_each = refused_leaves _ _ e; sizes = refused_leaves _ _ e }

pub returns-then-no_room : goal.returns-then-no_room
unfolding leaves
returns-then-no_room c =
    let e = ap (λ r. refused_by {A = Counts} r) c.at.ensures in
    let short = sym c.no_room.ensures ∙ c.if-no_room.true in
    record {
      answers = e ∙ reading_short _ _ _ _ _ (accepted (goal.at.returns-then-no_room c).In_ok-counts) short;
      obus = refl;
      of_each = refl;
      sizes = refl;
    }

pub copy_obus-requires : goal.copy_obus-requires
copy_obus-requires c =
    let k = accepted (goal.at.copy_obus-requires c).In_ok-counts in
    let a = checked _ _ k in
    let r = room (goal.at.copy_obus-requires c).Else-no_room in
    record {
      measured = record {
        headed = a.headed;
        obus = a.obus;
        few = a.few;
        ending = c.judge_unit.ensures.notes.ends _ k;
        drops = a.drops;
      };
      unit_in_bounds = (omega (arith, a.bytes, r.0), r.1);
    }

pub bounds-notes-i : goal.bounds-notes-i
bounds-notes-i c = omega (arith, (checked _ _ (accepted (goal.at.bounds-notes-i c).In_ok-counts)).few, c.loop-i-test.true)

pub loop-i-preserved : goal.loop-i-preserved
loop-i-preserved c =
    let notes = c.judge_unit.new.notes in
    let count = c.in_ok-counts.counts.obus in
    let all = widths_of (take count notes) in
    let k = accepted (goal.at.loop-i-preserved c).In_ok-counts in
    let few = widths_long _ _ _ (checked _ _ k) (c.judge_unit.ensures.notes.widths _ k) in
    let room = (room (goal.at.loop-i-preserved c).Else-no_room).2 in
    put
    (subst (λ (l : List ℕ). Part c.args.widths.now all c.loop-i.i l c.loop-i.widths)
    (widths_next notes count c.loop-i.i _ c.loop-i-test.true few) c.loop-i.invariant)
    (omega (arith, length-take-le count notes few, length-map (take count notes) width_of, room))

pub returns : goal.returns
unfolding leaves
returns c =
    let notes = c.judge_unit.new.notes in
    let count = c.in_ok-counts.counts.obus in
    let all = widths_of (take count notes) in
    let k = accepted (goal.at.returns c).In_ok-counts in
    let few = widths_long _ _ _ (checked _ _ k) (c.judge_unit.ensures.notes.widths _ k) in
    let none = drop_of_length-le all (omega (
      arith,
      c.loop-i-test.false,
      length-take-le count notes few,
      length-map
          (take count notes) width_of,
    )) in
    record {
      answers = reading_fits _ _ _ _ _ k (sym c.no_room.ensures ∙ c.if-no_room.false);
      obus = c.copy_obus.ensures.out_after;
      of_each = c.copy_obus.ensures.lens_after;
      sizes =
          done (subst (λ (l : List ℕ). Part c.args.widths.now all c.loop-i.i l c.loop-i.widths) none c.loop-i.invariant)
          ∙ ap (λ (w : List ℕ). over w c.args.widths.now) (c.judge_unit.ensures.notes.widths _ k);
    }
