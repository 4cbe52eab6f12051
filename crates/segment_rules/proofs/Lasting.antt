-- What holds of the tables, and is kept by each packet's PCR, counter and section, is kept by each packet and holds after every run;
-- something may be asked of the packets and their indices. Assumes nothing.
use Prim.Native.Nat.{ℕ, ◌+◌}
use mathlib.Core.Bool.{Bool}
use mathlib.Core.Path.{◌≡◌, refl, sym, subst}
use mathlib.Core.List.{List, [], ◌∷◌}
use Rattle.lists.specs.Lists.{Bytes}
use Rattle.refusal.specs.Verdict.{passed}
use Rattle.refusal.proofs.Verdicts.{All}
use Rattle.descriptor.specs.Edition.{Edition}
use Rattle.packet.specs.Header.{pid, payload, payload_unit_start_indicator}
use Rattle.segment_rules.specs.State.{Tables, State, Kind, kind_of}
use Rattle.segment_rules.specs.Rules.{Rooms, in_sequence, rule, section_read, clocked, checked}
use Rattle.segment_rules.specs.Rules.{pcr_counts, rule21, rule22, rule23, rule24}
use Rattle.segment_rules.specs.Rules.{rules25to28, closing, rule29, rule30, rule31, rule34}
use Rattle.segment_rules.specs.Rules.{rule8, carried, up_to24, after24, packet_rules}
use Rattle.segment_rules.specs.Check.{Progress, step, run}
use Rattle.segment_rules.proofs.Keeping.{Holds, holds_at, holds_pick, holds_after, Keeps, sequence_keeps, rule_keeps, repeat_keeps}
use Rattle.segment_rules.proofs.Keeping.{tables_kept, tables_step}

-- this holds of each of these packets and its index, where the first has this one
abbrev pub Each : (ℕ → Bytes → Type 0) → ℕ → List Bytes → Type 0
Each W i [] = Unit {0}
Each W i (p ∷ ps) = W i p × Each W (i + 1) ps

pub each_all : (W : Bytes → Type 0) (i : ℕ) (ps : List Bytes) → All W ps → Each (λ _ p. W p) i ps
each_all W i [] h = tt
each_all W i (p ∷ ps) h = (h.0, each_all W (i + 1) ps h.1)

module _ (edition : Edition) (rooms : Rooms) (P : Tables → Type 0) (W : ℕ → Bytes → Type 0)
    (clock : (i : ℕ) (p : Bytes) (t : Tables) → P t → P (clocked i p t))
    (count : (i : ℕ) (p : Bytes) (t : Tables) → W i p → P t → Holds P (checked i p t))
    (section : (i : ℕ) (p : Bytes) (kind : Kind) (t : Tables) → W i p → P t
    → Holds P (section_read edition kind i (payload_unit_start_indicator p) (payload p) t)) where
  abbrev In : State → Type 0
  In st = P st.tables

  abbrev By : Progress → Type 0
  By g = P g.state.tables

  -- ---- a packet
  module _ (i : ℕ) (p : Bytes) (w : W i p) where
    off : (number : ℕ) (given_when : State → Bool) → Keeps In (rule i p number given_when)
    off number given_when = rule_keeps In i p number given_when

    pub to_24 : Keeps In (in_sequence (up_to24 i p))
    unfolding rule21 rule22 rule23 pcr_counts rule24
    to_24 = sequence_keeps In (up_to24 i p)
        (off 21 _, (off 22 _, (off 23 _, (tables_step P _ (clock i p), (tables_step P _ (λ t h. count i p t w h), tt)))))

    module _ (kind : Kind) where
      from_25 : Keeps In (in_sequence (after24 edition rooms i p kind))
      unfolding rules25to28 closing rule29 rule30 rule31 rule34 rule8 carried
      from_25 =
          sequence_keeps In (after24 edition rooms i p kind) (
            tables_step P _ (λ t h. holds_pick P _ _ _ (holds_at P i _ (section i p kind t w h)) h),
            (tables_kept P _, (off 29 _, (off 30 _, (off 31 _, (off 34 _, (off 8 _, (tables_kept P _, tt))))))),
          )

      pub packet_lasts : Keeps In (packet_rules edition rooms i p kind)
      unfolding packet_rules
      packet_lasts st h = holds_after In In (in_sequence (up_to24 i p) st) _ (to_24 st h) (repeat_keeps In p _ from_25)

  -- ---- a run
  pub step_lasts : (g : Progress) (p : Bytes) → W g.index p → By g → Holds By (step edition rooms g p)
  unfolding step
  step_lasts g p w h =
      holds_after By In _ _ (packet_lasts g.index p w (kind_of g.state.tables (pid p)) g.state h) (λ st k. k)

  -- and the next index is one more
  abbrev Next : Progress → Progress → Type 0
  Next g g' = By g' × (g'.index ≡ g.index + 1)

  step_next : (g : Progress) (p : Bytes) → W g.index p → By g → Holds (Next g) (step edition rooms g p)
  unfolding step
  step_next g p w h =
      holds_after (Next g) In _ _ (packet_lasts g.index p w (kind_of g.state.tables (pid p)) g.state h) (λ st k. (k, refl))

  run_holds : (g : Progress) (ps : List Bytes) → Each W g.index ps → By g → Holds By (run edition rooms g ps)
  unfolding run
  run_holds g [] ws h = h
  run_holds g (p ∷ ps) ws h =
      holds_after By (Next g) (step edition rooms g p) _ (step_next g p ws.0 h)
      (λ g' k. run_holds g' ps (subst (λ (i : ℕ). Each W i ps) (sym k.1) ws.1) k.0)

  pub run_lasts : (g : Progress) (ps : List Bytes) (g' : Progress) → Each W g.index ps → By g → run edition rooms g ps ≡ passed g'
      → By g'
  run_lasts g ps g' ws h e = subst (Holds By) e (run_holds g ps ws h)

-- nothing is asked of the packets
abbrev pub AnyPacket : ℕ → Bytes → Type 0
AnyPacket i p = Unit {0}

pub any_packets : (i : ℕ) (ps : List Bytes) → Each AnyPacket i ps
any_packets i [] = tt
any_packets i (p ∷ ps) = (tt, any_packets (i + 1) ps)
