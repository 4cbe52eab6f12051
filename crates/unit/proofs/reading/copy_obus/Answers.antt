use native.Mathlib.Omega.{arith}
use Prim.Native.Nat.{ℕ, ◌+◌, ◌-◌, ◌≤◌, ◌<◌}
use mathlib.Core.Path.{◌≡◌, sym, ap, subst, subst₂, ◌∙◌}
use mathlib.Core.List.{map}
use lib.ListN.{length, take, drop, get_or, set, length-drop}
use Rattle.lists.specs.Lists.{Bytes, over, placed}
use borrow.Rule.Slice.PartMut.{mid_of, put_mid}
use Rattle.lists.proofs.Parts.{tail_lent, tail_placed}
use Rattle.emulation.specs.Payload.{unescape}
use Rattle.emulation.specs.Payload.{dropped as payload_dropped}
use Rattle.unit.specs.Unit.{sum, dropped_in}
use Rattle.tsobu.specs.StartCodes.{payloads}
use Rattle.tsobu.proofs.Places.{next_code, payload_at, next_fits}
use Rattle.unit.proofs.Readings.{passing_code, passing_end, dropped_left, Copying, copying_room}
use Rattle.unit.proofs.Readings.{copying_step, copying_done}
use Rattle.unit.specs.declared.reading.Note.{Note}
use Rattle.unit.proofs.reading.copy_obus.Goals.{After-copy_obu-written, In-loop-k}
use Rattle.unit.proofs.reading.copy_obus.Goals as goal

-- the note behind the end
abbrev no_note : Note
no_note = record { end = 0; width = 0 }

-- ---- in a turn
left : (c : In-loop-k)
    → c.loop-k.k < length (payloads c.args.unit.now)
left c = omega (arith, c.loop-k-test.true, c.requires.measured.obus)

end_is : (c : In-loop-k)
    → (get_or c.args.notes.now c.loop-k.k no_note).end
    ≡ next_code c.args.unit.now c.loop-k.code
end_is c =
    let left : c.loop-k.k < length (payloads c.args.unit.now) = omega (arith, c.loop-k-test.true, c.requires.measured.obus) in
    passing_end c.loop-k.invariant.0.passing (left) no_note

fits : (c : In-loop-k)
    → next_code c.args.unit.now c.loop-k.code ≤ length
    c.args.unit.now
fits c =
    let left : c.loop-k.k < length (payloads c.args.unit.now) = omega (arith, c.loop-k-test.true, c.requires.measured.obus) in
    next_fits c.args.unit.now c.loop-k.code
    (passing_code c.loop-k.invariant.0.passing (left))

-- the lent part is the payload
lent : (c : In-loop-k)
    → let s = c.args.unit.now in
    let code = c.loop-k.code in
    take ((get_or c.args.notes.now c.loop-k.k no_note).end - (code + 3)) (drop (code + 3) s)
    ≡ payload_at s code
lent c =
    let left : c.loop-k.k < length (payloads c.args.unit.now) = omega (arith, c.loop-k-test.true, c.requires.measured.obus) in
    let end_is : (get_or c.args.notes.now c.loop-k.k no_note).end
    ≡ next_code c.args.unit.now c.loop-k.code = passing_end c.loop-k.invariant.0.passing (left) no_note in
    let s = c.args.unit.now in
    let code = c.loop-k.code in
    ap (λ (e : ℕ). take (e - (code + 3)) (drop (code + 3) s)) (end_is)

-- the whole OBU has room
fitting : (c : In-loop-k)
    → c.loop-k.n + length
    (unescape (payload_at c.args.unit.now c.loop-k.code)) ≤ length
    c.loop-k.out
fitting c =
    let left : c.loop-k.k < length (payloads c.args.unit.now) = omega (arith, c.loop-k-test.true, c.requires.measured.obus) in
    copying_room c.loop-k.invariant.0 (left) c.requires.unit_in_bounds.0
    (omega (arith, c.requires.measured.obus, c.requires.unit_in_bounds.1))

-- ---- what the call gave
called : (c : After-copy_obu-written)
    → c.copy_obu-written.result ≡ length (unescape (payload_at c.args.unit.now c.loop-k.code))
called c =
    let left : c.loop-k.k < length (payloads c.args.unit.now) = omega (arith, c.loop-k-test.true, c.requires.measured.obus) in
    let end_is : (get_or c.args.notes.now c.loop-k.k no_note).end
    ≡ next_code c.args.unit.now c.loop-k.code = passing_end c.loop-k.invariant.0.passing (left) no_note in
    let lent : let s = c.args.unit.now in
    let code = c.loop-k.code in
    take ((get_or c.args.notes.now c.loop-k.k no_note).end - (code + 3)) (drop (code + 3) s)
    ≡ payload_at s code = let s = c.args.unit.now in
    let code = c.loop-k.code in
    ap (λ (e : ℕ). take (e - (code + 3)) (drop (code + 3) s)) (end_is) in
    c.copy_obu-written.ensures.value ∙ ap (λ (p : Bytes). length (unescape p)) (lent)

written : (c : After-copy_obu-written)
    → let out = c.loop-k.out in
    let n = c.loop-k.n in
    put_mid n (length out - n) out c.copy_obu-written.new.out
    ≡ placed out n (unescape (payload_at c.args.unit.now c.loop-k.code))
written c =
    let left : c.loop-k.k < length (payloads c.args.unit.now) = omega (arith, c.loop-k-test.true, c.requires.measured.obus) in
    let end_is : (get_or c.args.notes.now c.loop-k.k no_note).end
    ≡ next_code c.args.unit.now c.loop-k.code = passing_end c.loop-k.invariant.0.passing (left) no_note in
    let lent : let s = c.args.unit.now in
    let code = c.loop-k.code in
    take ((get_or c.args.notes.now c.loop-k.k no_note).end - (code + 3)) (drop (code + 3) s)
    ≡ payload_at s code = let s = c.args.unit.now in
    let code = c.loop-k.code in
    ap (λ (e : ℕ). take (e - (code + 3)) (drop (code + 3) s)) (end_is) in
    let s = c.args.unit.now in
    let w = unescape (payload_at s c.loop-k.code) in
    let out = c.loop-k.out in
    let n = c.loop-k.n in
    tail_placed n out w _ c.loop-k.invariant.0.bytes.within
    (c.copy_obu-written.ensures.out_after ∙ ap (λ (p : Bytes). over (unescape p) (mid_of n (length out - n) out)) (lent))

pub slice_bounds-copy_obu-count : goal.slice_bounds-copy_obu-count
slice_bounds-copy_obu-count c = omega (arith, end_is (goal.at.slice_bounds-copy_obu-count c).In-loop-k)

pub slice_bounds-copy_obu-start : goal.slice_bounds-copy_obu-start
slice_bounds-copy_obu-start c = omega (arith, end_is (goal.at.slice_bounds-copy_obu-start c).In-loop-k)

pub slice_bounds-copy_obu-end : goal.slice_bounds-copy_obu-end
slice_bounds-copy_obu-end c = omega (
  arith,
  end_is (goal.at.slice_bounds-copy_obu-end c).In-loop-k,
  fits
      (goal.at.slice_bounds-copy_obu-end c).In-loop-k,
)

pub copy_obu-written-requires : goal.copy_obu-written-requires
copy_obu-written-requires c =
    let s = c.args.unit.now in
    let w = unescape (payload_at s c.loop-k.code) in (
      λ e.
          ap payload_dropped (lent (goal.at.copy_obu-written-requires c).In-loop-k)
          ∙ omega (
            arith,
            c.loop-k.invariant.1,
            c.requires.measured.drops,
            dropped_left s c.loop-k.code
                (passing_code c.loop-k.invariant.0.passing (left (goal.at.copy_obu-written-requires c).In-loop-k)),
          ),
      omega (
        arith,
        fitting (goal.at.copy_obu-written-requires c).In-loop-k,
        ap (λ (p : Bytes). length (unescape p)) (lent (goal.at.copy_obu-written-requires c).In-loop-k),
        ap length
            (tail_lent c.loop-k.n c.loop-k.out c.loop-k.invariant.0.bytes.within),
        length-drop c.loop-k.n c.loop-k.out,
      ),
    )

pub loop-k-preserved : goal.loop-k-preserved
loop-k-preserved c =
    let r = c.copy_obu-written.result in
    let s = c.args.unit.now in (
      subst₂ (λ (o : Bytes) (e : ℕ). Copying s c.args.notes.now c.args.out.now c.args.lens.now o
          (set c.loop-k.lens c.loop-k.k r) e (c.loop-k.n + r) (c.loop-k.k + 1))
          (sym (written (goal.at.loop-k-preserved c).After-copy_obu-written)) (sym (end_is (goal.at.loop-k-preserved c).In-loop-k))
          (copying_step c.loop-k.invariant.0 (left (goal.at.loop-k-preserved c).In-loop-k) c.requires.unit_in_bounds.0
          (omega (arith, c.requires.measured.obus, c.requires.unit_in_bounds.1)) r
          (called (goal.at.loop-k-preserved c).After-copy_obu-written)),
      subst (λ (e : ℕ). sum (map payload_dropped (payloads (drop e s))) ≤ dropped_in s)
          (sym (end_is (goal.at.loop-k-preserved c).In-loop-k))
          (omega (
            arith,
            c.loop-k.invariant.1,
            dropped_left s c.loop-k.code
                (passing_code c.loop-k.invariant.0.passing (left (goal.at.loop-k-preserved c).In-loop-k)),
          )),
    )

pub returns : goal.returns
returns c = record {
  out_after = (copying_done c.loop-k.invariant.0
      (omega (arith, c.requires.measured.obus, c.loop-k-test.false))).0;
  lens_after = (copying_done c.loop-k.invariant.0
      (omega (arith, c.requires.measured.obus, c.loop-k-test.false))).1;
}

pub overflow_add-n : goal.overflow_add-n
overflow_add-n c =
    omega (arith, called (goal.at.overflow_add-n c).After-copy_obu-written, fitting (goal.at.overflow_add-n c).In-loop-k)
