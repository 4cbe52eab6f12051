-- What can be written is written, and what a packet needs where it can be. Assumes nothing.
use Prim.Native.Nat.{ℕ, ◌+◌, ◌≤◌, ◌<◌}
use mathlib.Core.Bool.{Bool, true, false, not}
use mathlib.Core.Path.{◌≡◌, refl, sym, ap}
use mathlib.Core.List.{◌++◌}
use native.Mathlib.Omega.{arith}
use borrow.Author.Tests.{eq-eqb, le-ltb, lt-leb, ltb-false, leb-false, eqb-true, not-false}
use lib.Dec.{eqb, leb, ltb}
use lib.ListN.{length}
use Rattle.lists.specs.Lists.{Bytes, over}
use Rattle.lists.proofs.Picks.{by_false}
use Rattle.lists.proofs.Tests.{or_by_false, or_neither}
use Rattle.ticks.specs.declared.Ticks27.{Ticks27}
use Rattle.packet.specs.Writing.{most, carrying, pcr_packet, counter_before}
use Rattle.psi.specs.Writing.{section_payload, pat}
use Rattle.pmt.specs.Writing.{pmt}
use Rattle.pes.specs.Writing.{pes_header}
use Rattle.packet_writer.specs.declared.Start.{Start}
use Rattle.packet_writer.specs.Putting.{put, unfit, packet_unfit, packet_put, pat_unfit, pat_put, pmt_unfit, pmt_put, pcr_unfit, pcr_put}
use Rattle.packet_writer.specs.Putting.{head_size, start_unfit, start_put}

-- ---- what a packet needs
pub fit : (pid counter room : ℕ) → unfit pid counter room ≡ false → (pid < 8192) × (counter < 16) × (188 ≤ room)
unfolding unfit
fit pid counter room e =
    let a = or_neither (ltb 8191 pid) _ e in
    let b = or_neither (ltb 15 counter) _ a.1 in
    (omega (arith, ltb-false 8191 pid a.0), omega (arith, ltb-false 15 counter b.0), ltb-false room 188 b.1)

pub packet_fit : (pid counter n room : ℕ) → packet_unfit pid counter n room ≡ false
    → (n ≤ 184) × (pid < 8192) × (counter < 16) × (188 ≤ room)
unfolding packet_unfit
packet_fit pid counter n room e =
    let a = or_neither (ltb most n) _ e in
    let f = fit pid counter room a.1 in
    (ltb-false most n a.0, f.0, f.1, f.2)

pub pat_fit : (counter program map_pid room : ℕ) → pat_unfit counter program map_pid room ≡ false
    → (program < 65536) × (map_pid < 8192) × (counter < 16) × (188 ≤ room)
unfolding pat_unfit
pat_fit counter program map_pid room e =
    let a = or_neither (ltb 65535 program) _ e in
    let b = or_neither (ltb 8191 map_pid) _ a.1 in
    let f = fit 0 counter room b.1 in
    (omega (arith, ltb-false 65535 program a.0), omega (arith, ltb-false 8191 map_pid b.0), f.1, f.2)

pub pmt_fit : (map_pid counter program pid n room : ℕ) → pmt_unfit map_pid counter program pid n room ≡ false
    → (n ≡ 6) × (program < 65536) × (pid < 8192) × (map_pid < 8192) × (counter < 16) × (188 ≤ room)
unfolding pmt_unfit
pmt_fit map_pid counter program pid n room e =
    let d = or_neither (not (eqb n 6)) _ e in
    let a = or_neither (ltb 65535 program) _ d.1 in
    let b = or_neither (ltb 8191 pid) _ a.1 in
    let f = fit map_pid counter room b.1 in (
      eqb-true n 6 (not-false (eqb n 6) d.0),
      omega (arith, ltb-false 65535 program a.0),
      omega (arith, ltb-false 8191 pid b.0),
      f.0,
      f.1,
      f.2,
    )

pub pcr_fit : (pid counter : ℕ) (t : Ticks27) (room : ℕ) → pcr_unfit pid counter t room ≡ false
    → (t.0 < 2576980377600) × (pid < 8192) × (counter < 16) × (188 ≤ room)
unfolding pcr_unfit
pcr_fit pid counter t room e =
    let a = or_neither (leb 2576980377600 t.0) _ e in
    let f = fit pid counter room a.1 in
    (leb-false 2576980377600 t.0 a.0, f.0, f.1, f.2)

pub start_fit : (pid counter : ℕ) (s : Start) (n room : ℕ) → start_unfit pid counter s n room ≡ false
    → (s.pts.0 < 8589934592) × (s.dts.0 < 8589934592) × (head_size s.pts s.dts + n ≤ 184) × (pid < 8192) × (counter < 16)
    × (188 ≤ room)
unfolding start_unfit
start_fit pid counter s n room e =
    let a = or_neither (leb 8589934592 s.pts.0) _ e in
    let b = or_neither (leb 8589934592 s.dts.0) _ a.1 in
    let d = or_neither (ltb most (head_size s.pts s.dts + n)) _ b.1 in
    let f = fit pid counter room d.1 in (
      leb-false 8589934592 s.pts.0 a.0,
      leb-false 8589934592 s.dts.0 b.0,
      ltb-false most (head_size s.pts s.dts + n) d.0,
      f.0,
      f.1,
      f.2,
    )

-- ---- what can be written is written
fits : (pid counter room : ℕ) → pid < 8192 → counter < 16 → 188 ≤ room → false ≡ unfit pid counter room
unfolding unfit
fits pid counter room p c r =
    or_by_false (le-ltb 8191 pid (omega arith)) (or_by_false (le-ltb 15 counter (omega arith)) (sym (le-ltb room 188 r)))

put_over : (b : Bool) (w out : Bytes) → false ≡ b → put b w out ≡ over w out
unfolding put
put_over b w out e = sym (by_false _ (sym e) refl)

pub packet_written : (pid counter : ℕ) (part out : Bytes) → pid < 8192 → counter < 16 → length part ≤ 184 → 188 ≤ length out
    → packet_put pid counter part out ≡ over (carrying pid false counter 0 part) out
unfolding packet_put packet_unfit
packet_written pid counter part out p c n r =
    put_over _ _ out (or_by_false (le-ltb most (length part) n) (fits pid counter (length out) p c r))

pub pat_written : (counter program map_pid : ℕ) (out : Bytes) → program < 65536 → map_pid < 8192 → counter < 16 → 188 ≤ length out
    → pat_put counter program map_pid out ≡ over (carrying 0 true counter 0 (section_payload (pat program map_pid))) out
unfolding pat_put pat_unfit
pat_written counter program map_pid out n m c r =
    put_over _ _ out (or_by_false (le-ltb 65535 program (omega arith))
    (or_by_false (le-ltb 8191 map_pid (omega arith)) (fits 0 counter (length out) (omega arith) c r)))

pub pmt_written : (map_pid counter program pid : ℕ) (d out : Bytes) → length d ≡ 6 → program < 65536 → pid < 8192 → map_pid < 8192
    → counter < 16 → 188 ≤ length out
    → pmt_put map_pid counter program pid d out ≡ over (carrying map_pid true counter 0 (section_payload (pmt program pid d))) out
unfolding pmt_put pmt_unfit
pmt_written map_pid counter program pid d out l n p m c r =
    put_over _ _ out (or_by_false (ap not (eq-eqb (length d) 6 l)) (or_by_false (le-ltb 65535 program (omega arith))
    (or_by_false (le-ltb 8191 pid (omega arith)) (fits map_pid counter (length out) m c r))))

pub pcr_written : (pid counter : ℕ) (t : Ticks27) (out : Bytes) → t.0 < 2576980377600 → pid < 8192 → counter < 16 → 188 ≤ length out
    → pcr_put pid counter t out ≡ over (pcr_packet pid (counter_before counter) t) out
unfolding pcr_put pcr_unfit
pcr_written pid counter t out h p c r =
    put_over _ _ out (or_by_false (lt-leb 2576980377600 t.0 h) (fits pid counter (length out) p c r))

pub start_written : (pid counter : ℕ) (s : Start) (part out : Bytes) → s.pts.0 < 8589934592 → s.dts.0 < 8589934592
    → head_size s.pts s.dts + length part ≤ 184 → pid < 8192 → counter < 16 → 188 ≤ length out
    → start_put pid counter s part out ≡ over
    (carrying pid true counter s.flags (pes_header s.pts s.dts s.length ++ part)) out
unfolding start_put start_unfit
start_written pid counter s part out a b n p c r =
    put_over _ _ out (or_by_false (lt-leb 8589934592 s.pts.0 a) (or_by_false (lt-leb 8589934592 s.dts.0 b)
    (or_by_false (le-ltb most (head_size s.pts s.dts + length part) n) (fits pid counter (length out) p c r))))
