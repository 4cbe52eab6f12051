-- The run over the packets: in two parts, its index and its totals. Assumes nothing.
use Rattle.std.specs.Prelude.{Option, Some, None}
use Prim.Native.Nat.{ℕ, zero, suc, ◌+◌, ◌/◌}
use mathlib.Core.Path.{◌≡◌, refl, sym, ap, ◌∙◌}
use mathlib.Core.List.{List, [], ◌∷◌, ◌++◌}
use native.Mathlib.Omega.{arith}
use lib.ListN.{length, drop}
use Rattle.lists.specs.Lists.{Bytes}
use Rattle.refusal.specs.Verdict.{Verdict, passed, refused, ◌>>=◌}
use Rattle.refusal.proofs.Verdicts.{never, passed_same, passed_then, passed_after}
use Rattle.descriptor.specs.Edition.{Edition}
use Rattle.packet.specs.Header.{pid, packet_length, packets_of, packets}
use Rattle.segment_rules.specs.declared.Totals.{Totals}
use Rattle.segment_rules.specs.State.{FirstPat, FirstPmt, AccessUnit, State, Kind, Null, Pat}
use Rattle.segment_rules.specs.State.{Map, Av1, Listed, Unlisted, counting, packet_count, kind_of}
use Rattle.segment_rules.specs.Rules.{Rooms, packet_rules, close_pes}
use Rattle.segment_rules.specs.Check.{Progress, one_more, Accepted, step, run}
use Rattle.segment_rules.specs.Check.{start, rule20, accepted, ending, check_segment}

-- each packet is counted once
pub counting_one : (c : Kind) (t : Totals) → packet_count (counting c t) ≡ packet_count t + 1
unfolding counting
counting_one Null t = omega arith
counting_one Pat t = omega arith
counting_one Map t = omega arith
counting_one Av1 t = omega arith
counting_one Listed t = omega arith
counting_one Unlisted t = omega arith

pub length_packets : (n : ℕ) (s : Bytes) → length (packets_of n s) ≡ n
unfolding packets_of
length_packets zero s = refl
length_packets (suc n) s = ap suc (length_packets n (drop packet_length s))

module _ (edition : Edition) (rooms : Rooms) where
  -- ---- the packets in two parts
  -- the packets of two parts in order are those of the first, and then those of the second
  pub run_append : (g : Progress) (a b : List Bytes)
      → run edition rooms g (a ++ b) ≡ (run edition rooms g a >>= λ g'. run edition rooms g' b)
  unfolding run ◌>>=◌
  run_append g [] b = refl
  run_append g (p ∷ a) b = go (step edition rooms g p) (λ g'. run_append g' a b)
    where
      go : (v : Verdict Progress)
          → ((g' : Progress) → run edition rooms g' (a ++ b) ≡ (run edition rooms g' a >>= λ g''. run edition rooms g'' b))
          → (v >>= λ g'. run edition rooms g' (a ++ b)) ≡ ((v >>= λ g'. run edition rooms g' a) >>= λ g''. run edition rooms g'' b)
      go (passed g') e = e g'
      go (refused number place) e = refl

  -- ---- what a step does: the packet's rules, and one packet more
  pub step_passed : (g g' : Progress) (p : Bytes) → step edition rooms g p ≡ passed g'
      → (st : State) × (packet_rules edition rooms g.index p (kind_of g.state.tables (pid p)) g.state ≡ passed st)
      × (g' ≡ one_more (kind_of g.state.tables (pid p)) st g)
  unfolding step
  step_passed g g' p e =
      let k = passed_then (packet_rules edition rooms g.index p (kind_of g.state.tables (pid p)) g.state)
      (λ st. passed (one_more (kind_of g.state.tables (pid p)) st g)) g' e in
      (k.0, k.1, sym (passed_same _ g' k.2))

  -- ---- the index
  -- the index of the next packet is how many have passed
  pub run_index : (g g' : Progress) (ps : List Bytes) → run edition rooms g ps ≡ passed g' → g'.index ≡ g.index + length ps
  unfolding run
  run_index g g' [] e = ap (λ (x : Progress). x.index) (sym (passed_same g g' e)) ∙ omega arith
  run_index g g' (p ∷ ps) e =
      let k = passed_then (step edition rooms g p) (λ g''. run edition rooms g'' ps) g' e in
      let s = step_passed g k.0 p k.1 in
      let one : k.0.index ≡ g.index + 1 = ap (λ (x : Progress). x.index) s.2 in
      let rest = run_index k.0 g' ps k.2 in
      omega arith

  -- and it is the sum of the totals
  pub run_totals : (g g' : Progress) (ps : List Bytes) → run edition rooms g ps ≡ passed g' → g.index ≡ packet_count g.totals
      → g'.index ≡ packet_count g'.totals
  unfolding run
  run_totals g g' [] e h = ap (λ (x : Progress). x.index) (sym (passed_same g g' e)) ∙ h
      ∙ ap (λ (x : Progress). packet_count x.totals) (passed_same g g' e)
  run_totals g g' (p ∷ ps) e h =
      let k = passed_then (step edition rooms g p) (λ g''. run edition rooms g'' ps) g' e in
      let s = step_passed g k.0 p k.1 in
      run_totals k.0 g' ps k.2
      (ap (λ (x : Progress). x.index) s.2 ∙ ap (λ (n : ℕ). n + 1) h ∙ sym (counting_one (kind_of g.state.tables (pid p)) g.totals)
      ∙ ap (λ (x : Progress). packet_count x.totals) (sym s.2))

  -- of a whole segment: the index after the last packet is the packet count, and the totals add up to it
  pub index_totals : (ps : List Bytes) (g : Progress) → run edition rooms start ps ≡ passed g
      → (g.index ≡ length ps) × (g.index ≡ packet_count g.totals)
  index_totals ps g e = (run_index start g ps e ∙ omega arith, run_totals start g ps e refl)

  -- what acceptance gives are the totals of the run
  accepted_totals : (n : ℕ) (pat : Option FirstPat) (pmt : Option FirstPmt) (units : List AccessUnit) (t : Totals) (a : Accepted)
      → accepted n pat pmt units t ≡ passed a → a.totals ≡ t
  unfolding accepted
  accepted_totals n None pmt units t a e = never e
  accepted_totals n (Some pat) None units t a e = never e
  accepted_totals n (Some pat) (Some pmt) units t a e = ap (λ (x : Accepted). x.totals) (sym (passed_same _ a e))

  -- the totals of an accepted segment add up to its packet count
  pub totals_add_up : (s : Bytes) (a : Accepted) → check_segment edition rooms s ≡ passed a
      → packet_count a.totals ≡ length s / packet_length
  unfolding check_segment ending
  totals_add_up s a e =
      let k = passed_then (run edition rooms start (packets s)) ending a (passed_after (rule20 s) _ a e).1 in
      let g = k.0 in
      let l = passed_then (close_pes g.state.extraction)
      (λ x. accepted g.index g.state.tables.pat g.state.tables.pmt x.units g.totals) a k.2 in
      let t = accepted_totals g.index g.state.tables.pat g.state.tables.pmt l.0.units g.totals a l.2 in
      let n = index_totals (packets s) g k.1 in
      ap packet_count t ∙ sym n.1 ∙ n.0 ∙ length_packets (length s / packet_length) s
