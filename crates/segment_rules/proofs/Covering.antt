-- No 8 where the outputs cover the whole: as many bytes as the segment has, 1,024 lengths and 2,048 times (`never_8`). The unit bytes of
-- the packets so far are no more than the bytes of those packets, and 34 comes before 8. Assumes nothing.
use Rattle.std.specs.Prelude.{Option}
use Prim.Native.Nat.{ℕ, ◌+◌, ◌*◌, ◌≤◌, ◌%◌}
use mathlib.Core.Bool.{Bool, true, false, not, ◌||◌}
use mathlib.Core.Path.{◌≡◌, refl, sym, ap, ◌∙◌, subst}
use mathlib.Core.List.{List, [], ◌∷◌, ◌++◌, flatten, append-nil}
use native.Mathlib.Omega.{arith}
use borrow.Author.Tests.{le-ltb, ltb-false, eqb-true, eqb-false, not-false}
use lib.Dec.{eqb}
use lib.ListN.{length, drop, length-append, length-drop}
use Rattle.lists.specs.Lists.{Bytes, pick}
use Rattle.lists.proofs.Tests.{case, or_neither, or_by_false}
use Rattle.refusal.specs.Verdict.{Verdict, passed, ◌>>◌, given, at_place}
use Rattle.refusal.proofs.Verdicts.{passed_same, passed_then, given_passed, at_passed}
use Rattle.refusal.proofs.Refusing.{refuses_given, refuses_at, refuses_pick, refuses_then, refuses_bind}
use Rattle.refusal.proofs.Turns.{Without}
use Rattle.descriptor.specs.Edition.{Edition}
use Rattle.packet.specs.Header.{pid, packet_length, packets, has_payload, header_length, payload, payload_unit_start_indicator}
use Rattle.packet.proofs.Packets.{flatten_packets}
use Rattle.pes.specs.Pes.{header_size, pes_data}
use Rattle.segment_rules.specs.State.{OpenPes, Extraction, State, Kind, Null, Pat, Map, Av1, Listed, Unlisted, kind_of}
use Rattle.segment_rules.specs.Rules.{Rooms, in_sequence, on_units, open_bytes, carried_units}
use Rattle.segment_rules.specs.Rules.{most_units, with_next, close_pes}
use Rattle.segment_rules.specs.Rules.{rules25to28, pes_rules, unless_repeat, packet_rules}
use Rattle.segment_rules.specs.Check.{Progress, segment_length_wrong, rule20, step, start, check_segment}
use Rattle.segment_rules.proofs.Sequence.{not_av1, no_payload, starts, opens, adds}
use Rattle.segment_rules.proofs.Moving.{Moved, stays, starting, adding}
use Rattle.segment_rules.proofs.Moving.{close_passed, units_after_24, units_after_28, packet_moves}
use Rattle.segment_rules.proofs.Fitting.{so_far, closed_same}
use Rattle.segment_rules.proofs.Running.{step_passed}
use Rattle.segment_rules.proofs.Numbers.{to_24_apart, sections_apart, close_apart, units_apart, end_apart, run_apart}

-- a payload is no longer than its packet, and the bytes behind a PES header no longer than the payload
payload_within : (p : Bytes) → length (payload p) ≤ length p
unfolding payload pick
payload_within p = go (has_payload p)
  where
    go : (b : Bool) → length (pick b (drop (header_length p) p) []) ≤ length p
    go true = omega (arith, length-drop (header_length p) p)
    go false = omega arith

data_within : (p : Bytes) → length (pes_data (payload p)) ≤ length p
data_within p = omega (arith, length-drop (header_size (payload p)) (payload p), payload_within p)

-- one packet adds no more bytes than it has
moved_more : (edition : Edition) (rooms : Rooms) (i : ℕ) (p : Bytes) (x x' : Extraction) → Moved edition rooms i p x x'
    → so_far x' ≤ so_far x + length p
moved_more edition rooms i p x x' (stays e) = omega (arith, ap so_far e)
moved_more edition rooms i p x x' (starting s) =
    let k = closed_same x s.closed (close_passed x s.closed s.closes) in
    let c : so_far s.closed ≡ length (carried_units s.closed.units) =
    ap (λ (z : Option OpenPes). length (carried_units s.closed.units ++ open_bytes z)) k.1
    ∙ ap length (append-nil (carried_units s.closed.units)) in
    omega (arith, ap so_far s.opens, length-append (carried_units s.closed.units) (pes_data (payload p)), c, k.0, data_within p)
moved_more edition rooms i p x x' (adding a) =
    let c : so_far x ≡ length (carried_units x.units ++ a.before.bytes) =
    ap (λ (z : Option OpenPes). length (carried_units x.units ++ open_bytes z)) a.there in
    omega (
      arith,
      ap so_far a.adds,
      length-append (carried_units x.units) (a.before.bytes ++ payload p),
      length-append a.before.bytes (payload p),
      c,
      length-append (carried_units x.units) a.before.bytes,
      payload_within p,
    )

-- ---- 8
whole_packets : (s : Bytes) → segment_length_wrong s ≡ false → length s % packet_length ≡ 0
unfolding segment_length_wrong
whole_packets s e =
    let k = or_neither (eqb (length s) 0 || not (eqb (length s % packet_length) 0)) _ e in
    eqb-true (length s % packet_length) 0 (not-false _ (or_neither (eqb (length s) 0) _ k.0).1)

apart : (n : ℕ) → eqb n 8 ≡ false → eqb n 30 ≡ false → n ≡ 8 → ⊥
apart n e8 e30 = eqb-false n 8 e8

module _ (edition : Edition) (rooms : Rooms) (lens : most_units ≤ rooms.lens) (times : 2 * most_units ≤ rooms.times) where
  module _ (i : ℕ) (p : Bytes) where
    -- a try that is not of 8, and what follows; one of 8 that does not hold
    try : {A : Type 0} (n : ℕ) (b : Bool) (v : Verdict A) → eqb n 8 ≡ false → (b ≡ false → Without 8 v)
        → Without 8 (at_place i (given n b) >> v)
    try n b v e h =
        refuses_then _ _ _ (refuses_at _ i _ (refuses_given _ n b (eqb-false n 8 e)))
        (λ _ k. h (given_passed n b (at_passed i (given n b) k)))

    not_8 : {A : Type 0} (b : Bool) (v : Verdict A) → b ≡ false → Without 8 v → Without 8 (at_place i (given 8 b) >> v)
    unfolding given pick at_place
    not_8 b v e h = refuses_then _ _ _ (rw e tt) (λ _ _. h)

    -- the rules of a PES, where the packet's bytes have room
    module _ (st : State) (room : so_far st.extraction + length p ≤ rooms.bytes) where
      start_apart : has_payload p ≡ true → payload_unit_start_indicator p ≡ true → Without 8
          (in_sequence (pes_rules edition rooms i p Av1) st)
      unfolding on_units
      start_apart h s =
          subst (Without 8) (sym (starts edition rooms i p st h s))
          (refuses_bind _ (on_units close_pes st) _ (units_apart 8 apart close_pes (close_apart 8 apart) st)
          (λ st1 e. let c = passed_then (close_pes st.extraction) _ st1 e in
          let at : st1.extraction ≡ c.0 = ap (λ (x : State). x.extraction) (sym (passed_same _ st1 c.2)) in
          let k = closed_same st.extraction c.0 (close_passed st.extraction c.0 c.1) in
          let same : so_far st1.extraction ≡ so_far st.extraction = ap so_far at ∙ k.0 in
          subst (Without 8) (sym (opens edition rooms i p st h s st1))
          (try 29 _ _ refl (λ _. try 30 _ _ refl (λ _. try 31 _ _ refl (λ _. try 34 _ _ refl (λ few.
          let most = ltb-false most_units (with_next st1.extraction) few in
          not_8 _ _
          (sym
          (or_by_false (le-ltb rooms.bytes (so_far st1.extraction + length (pes_data (payload p))) (omega (arith, same, data_within p)))
          (or_by_false (le-ltb rooms.lens (with_next st1.extraction) (omega arith))
          (sym (le-ltb rooms.times (2 * with_next st1.extraction) (omega arith))))))
          tt)))))))

      add_apart : has_payload p ≡ true → payload_unit_start_indicator p ≡ false → Without 8
          (in_sequence (pes_rules edition rooms i p Av1) st)
      add_apart h s =
          subst (Without 8) (sym (adds edition rooms i p st h s))
          (try 29 _ _ refl (λ _. try 31 _ _ refl (λ _.
          not_8 _ _ (le-ltb rooms.bytes (so_far st.extraction + length (payload p)) (omega (arith, payload_within p))) tt)))

      pes_apart : (kind : Kind) → Without 8 (in_sequence (pes_rules edition rooms i p kind) st)
      pes_apart Av1 =
          case (has_payload p) (λ h. case (payload_unit_start_indicator p) (start_apart h) (add_apart h))
          (λ h. subst (Without 8) (sym (no_payload edition rooms i p st h)) tt)
      pes_apart Null = subst (Without 8) (sym (not_av1 edition rooms i p st Null refl)) tt
      pes_apart Pat = subst (Without 8) (sym (not_av1 edition rooms i p st Pat refl)) tt
      pes_apart Map = subst (Without 8) (sym (not_av1 edition rooms i p st Map refl)) tt
      pes_apart Listed = subst (Without 8) (sym (not_av1 edition rooms i p st Listed refl)) tt
      pes_apart Unlisted = subst (Without 8) (sym (not_av1 edition rooms i p st Unlisted refl)) tt

    -- the whole packet
    packet_apart : (kind : Kind) (st : State) → so_far st.extraction + length p ≤ rooms.bytes
        → Without 8 (packet_rules edition rooms i p kind st)
    unfolding packet_rules unless_repeat in_sequence rules25to28
    packet_apart kind st room =
        refuses_bind _ _ _ (to_24_apart 8 apart i p st)
        (λ st1 e1. refuses_pick _ _ _ _ tt
        (refuses_bind _ _ _ (sections_apart 8 apart edition i p kind st1)
        (λ st2 e2. pes_apart st2
        (let at1 : st1.extraction ≡ st.extraction = units_after_24 i p st st1 e1 in
        let at2 : st2.extraction ≡ st1.extraction = units_after_28 edition i p kind st1 st2 e2 in
        omega (arith, ap so_far at1, ap so_far at2)) kind)))

  -- ---- the run
  -- the bytes so far and those of the packets still to come have room
  abbrev Roomy : Progress → List Bytes → Type 0
  Roomy g ps = so_far g.state.extraction + length (flatten ps) ≤ rooms.bytes

  steps : (g : Progress) (p : Bytes) (ps : List Bytes) → Roomy g (p ∷ ps)
      → Without 8 (step edition rooms g p) × ((g' : Progress) → step edition rooms g p ≡ passed g' → Roomy g' ps)
  unfolding step flatten
  steps g p ps room =
      let more = length-append p (flatten ps) in (
        refuses_bind _ _ _ (packet_apart g.index p (kind_of g.state.tables (pid p)) g.state (omega arith)) (λ _ _. tt),
        (λ g' e. let s = step_passed edition rooms g g' p e in
            let m = packet_moves edition rooms g.index p (kind_of g.state.tables (pid p)) g.state s.0 s.1 in
            omega (
              arith,
              more,
              ap (λ (x : Progress). so_far x.state.extraction) s.2,
              moved_more edition rooms g.index p
                  g.state.extraction s.0.extraction m,
            )),
      )

  -- the whole check
  pub never_8 : (s : Bytes) → length s ≤ rooms.bytes → Without 8 (check_segment edition rooms s)
  unfolding check_segment flatten
  never_8 s room =
      refuses_then _ (rule20 s) _ (refuses_given _ 20 _ (eqb-false 20 8 refl))
      (λ _ e. refuses_bind _ _ _
      (run_apart 8 apart edition rooms Roomy steps start (packets s)
      (omega (arith, ap length (flatten_packets s (whole_packets s (given_passed 20 _ e))))))
      (λ g _. end_apart 8 apart g))
