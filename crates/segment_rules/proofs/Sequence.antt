-- The table of a packet's rules, taken in parts: the header, the tables, the AV1 payload. Assumes nothing.
use Prim.Native.Nat.{ℕ, ◌+◌, ◌*◌}
use mathlib.Core.Bool.{Bool, true, false, not, ◌&&◌, ◌||◌, or-false}
use mathlib.Core.Path.{◌≡◌, refl, sym, ap, ◌∙◌}
use mathlib.Core.List.{List, [], ◌∷◌, ◌++◌}
use lib.Dec.{ltb}
use lib.ListN.{length}
use Rattle.lists.specs.Lists.{Bytes, pick}
use Rattle.lists.proofs.Tests.{case}
use Rattle.refusal.specs.Verdict.{Verdict, passed, refused, ◌>>=◌, ◌>>◌, given, at_place}
use Rattle.descriptor.specs.Edition.{Edition}
use Rattle.packet.specs.Header as packet
use Rattle.packet.specs.Header.{has_payload, payload, payload_unit_start_indicator}
use Rattle.packet.specs.declared.header.Header.{Header}
use Rattle.pes.specs.Pes as pes
use Rattle.pes.specs.Pes.{header_of, pes_data, no_times}
use Rattle.segment_rules.specs.State.{Tables, State, Kind, Av1, with_tables, with_extraction, with_pes}
use Rattle.segment_rules.specs.Rules.{Rooms, Rule, in_sequence, on_tables, on_units, rule, rule21, rule22, rule23}
use Rattle.segment_rules.specs.Rules.{pcr_counts, clocked, checked, rule24, closing, rule29, rule30, rule31, rule34}
use Rattle.segment_rules.specs.Rules.{rule8, carried, added_to, is_av1, is_open, is_pcr, carried_so_far, most_units, with_next}
use Rattle.segment_rules.specs.Rules.{close_pes, up_to24, payload_rules, pes_rules, is_repeat, unless_repeat}

-- ---- steps in turn
-- three steps in turn are the first, and then the other two
pub bind_assoc : {A B C : Type 0} (v : Verdict A) (f : A → Verdict B) (g : B → Verdict C) → ((v >>= f) >>= g) ≡ (v >>= λ a. f a >>= g)
unfolding ◌>>=◌
bind_assoc (passed a) f g = refl
bind_assoc (refused number place) f g = refl

pub bind_unit : {A : Type 0} (v : Verdict A) → (v >>= passed) ≡ v
unfolding ◌>>=◌
bind_unit (passed a) = refl
bind_unit (refused number place) = refl

-- two steps that go on alike, from the value that the first gave
pub bind_where : {A B : Type 0} (v : Verdict A) (f g : A → Verdict B) → ((a : A) → v ≡ passed a → f a ≡ g a) → (v >>= f) ≡ (v >>= g)
unfolding ◌>>=◌
bind_where (passed a) f g e = e a refl
bind_where (refused number place) f g e = refl

pub bind_same : {A B : Type 0} (v : Verdict A) (f g : A → Verdict B) → ((a : A) → f a ≡ g a) → (v >>= f) ≡ (v >>= g)
bind_same v f g e = bind_where v f g (λ a _. e a)

pub then_same : {A B : Type 0} (v : Verdict A) {w w' : Verdict B} → w ≡ w' → (v >> w) ≡ (v >> w')
then_same v e = ap (λ x. v >> x) e

-- ---- rules in sequence
-- the rules of two lists in sequence are those of the first, and then those of the second: `packet_rules` is the whole table in sequence,
-- of
-- a packet that is no repeat
pub sequence_append : (a b : List Rule) (st : State) → in_sequence (a ++ b) st ≡ (in_sequence a st >>= in_sequence b)
unfolding in_sequence ◌>>=◌
sequence_append [] b st = refl
sequence_append (r ∷ a) b st = bind_same (r st) _ _ (sequence_append a b) ∙ sym (bind_assoc (r st) (in_sequence a) (in_sequence b))

pub not_repeated : (p : Bytes) (rest : Rule) (st : State) → is_repeat p st ≡ false → unless_repeat p rest st ≡ rest st
unfolding unless_repeat pick
not_repeated p rest st e = rw e

pub repeated : (p : Bytes) (rest : Rule) (st : State) → is_repeat p st ≡ true → unless_repeat p rest st ≡ passed st
unfolding unless_repeat pick
repeated p rest st e = rw e

-- where the rest changes nothing it does not matter
pub either_way : (p : Bytes) (rest : Rule) (st : State) → rest st ≡ passed st → unless_repeat p rest st ≡ passed st
either_way p rest st e = case (is_repeat p st) (repeated p rest st) (λ k. not_repeated p rest st k ∙ e)

pub rest_same : (p : Bytes) (rest rest' : Rule) (st : State) → rest st ≡ rest' st → unless_repeat p rest st ≡ unless_repeat p rest' st
unfolding unless_repeat
rest_same p rest rest' st e = ap (λ (v : Verdict State). pick (is_repeat p st) (passed st) v) e

-- a rule that only may refuse, and what follows; where its condition does not hold, what follows alone
pub rule_then : (i number : ℕ) {b b' : Bool} (st : State) (f : Rule) → b ≡ b'
    → ((at_place i (given number b) >> passed st) >>= f) ≡ (at_place i (given number b') >> f st)
unfolding ◌>>=◌ ◌>>◌ at_place given pick
rule_then i number {b} {b'} st f e = rw e (go b')
  where
    go : (b : Bool) → ((at_place i (given number b) >> passed st) >>= f) ≡ (at_place i (given number b) >> f st)
    go true = refl
    go false = refl

pub rule_off : (i number : ℕ) {b : Bool} (st : State) (f : Rule) → b ≡ false → ((at_place i (given number b) >> passed st) >>= f) ≡ f st
unfolding ◌>>=◌ ◌>>◌ at_place given pick
rule_off i number st f e = rw e

-- ---- up to 24
-- 21, 22, 23 in turn are the reading of the header
header_parts : (i : ℕ) (a b c : Bool) (h : Header) (v : Verdict State)
    → (at_place i (given 21 a) >> (at_place i (given 22 b) >> (at_place i (given 23 c) >> v)))
    ≡ (at_place i (given 21 a >> (given 22 b >> (given 23 c >> passed h))) >> v)
unfolding ◌>>◌ at_place given pick
header_parts i true b c h v = refl
header_parts i false true c h v = refl
header_parts i false false true h v = refl
header_parts i false false false h v = refl

-- two rules on the tables are one
tables_twice : (f g : Tables → Verdict Tables) (st : State) → (on_tables f st >>= on_tables g) ≡ on_tables (λ t. f t >>= g) st
unfolding on_tables ◌>>=◌
tables_twice f g st = go (f st.tables)
  where
    go : (v : Verdict Tables)
        → ((v >>= λ t. passed (with_tables t st)) >>= λ st1. g st1.tables >>= λ t. passed (with_tables t st1))
        ≡ ((v >>= g) >>= λ t. passed (with_tables t st))
    go (passed t) = refl
    go (refused number place) = refl

module _ (i : ℕ) (p : Bytes) (st : State) where
  -- the header is read, its PCR counts, and its counter is checked
  pub up_to_24 : in_sequence (up_to24 i p) st ≡ (at_place i (packet.header_of p) >> on_tables (λ t. checked i p (clocked i p t)) st)
  unfolding in_sequence rule rule21 rule22 rule23 pcr_counts rule24 packet.header_of checked ◌>>=◌
  up_to_24 =
      rule_then i 21 st _ refl
      ∙ then_same _ (rule_then i 22 st _ refl
      ∙ then_same _ (rule_then i 23 st _ refl
      ∙ then_same _ (bind_same (pcr_counts i p st) _ _ (λ st1. bind_unit _) ∙ tables_twice (λ t. passed (clocked i p t)) (checked i p) st)))
      ∙ header_parts i _ _ _ _ _

-- ---- after 24
module _ (edition : Edition) (rooms : Rooms) (i : ℕ) (p : Bytes) (st : State) where
  -- no packet but one of the AV1 PID with payload has a part in the rules of a PES
  pub not_av1 : (kind : Kind) → is_av1 kind ≡ false → in_sequence (pes_rules edition rooms i p kind) st ≡ passed st
  unfolding in_sequence on_units ◌>>=◌ ◌>>◌ at_place given pick rule closing rule29 rule30 rule31 rule34 rule8 carried
  not_av1 kind e = rw e

  pub no_payload : has_payload p ≡ false → in_sequence (pes_rules edition rooms i p Av1) st ≡ passed st
  unfolding in_sequence on_units ◌>>=◌ ◌>>◌ at_place given pick rule closing rule29 rule30 rule31 rule34 rule8 carried
  no_payload h = rw h

  module _ (h : has_payload p ≡ true) where
    -- "A PES closes .. when its PID's next starting packet has passed 24"; then "29 comes before 30, then 31, 34, 8", and another PES opens
    module _ (s : payload_unit_start_indicator p ≡ true) where
      pub opens : (st1 : State)
          → in_sequence (payload_rules edition rooms i p Av1) st1
          ≡ (at_place i (given 29 (pes.header_wrong (payload p)))
          >> (at_place i (given 30 (edition.times_needed && no_times (payload p)))
          >> (at_place i (given 31 (not (is_pcr st1.tables.pcr)))
          >> (at_place i (given 34 (ltb most_units (with_next st1.extraction)))
          >> (at_place i
          (given 8
          (ltb rooms.bytes (length (carried_so_far st1.extraction) + length (pes_data (payload p)))
          || (ltb rooms.lens (with_next st1.extraction) || ltb rooms.times (2 * with_next st1.extraction))))
          >> passed
          (with_extraction (with_pes (record { first = i; header = header_of (payload p); bytes = pes_data (payload p) })
          st1.extraction) st1))))))
      unfolding in_sequence on_units ◌>>=◌ rule rule29 rule30 rule31 rule34 rule8 carried pick
      opens st1 =
          rw (h, s)
          (rule_then i 29 st1 _ (or-false _)
          ∙ then_same _ (rule_then i 30 st1 _ refl
          ∙ then_same _ (rule_then i 31 st1 _ refl
          ∙ then_same _ (rule_then i 34 st1 _ refl
          ∙ then_same _ (rule_then i 8 st1 _ refl
          ∙ then_same _ refl)))))

      pub starts : in_sequence (pes_rules edition rooms i p Av1) st
          ≡ (on_units close_pes st
          >>= in_sequence (payload_rules edition rooms i p Av1))
      unfolding in_sequence closing pick on_units
      starts = rw (h, s)

    -- 29, 31, 8 of a payload that goes on with the open PES
    module _ (s : payload_unit_start_indicator p ≡ false) where
      pub adds : in_sequence (pes_rules edition rooms i p Av1) st
          ≡ (at_place i (given 29 (not (is_open st.extraction.pes)))
          >> (at_place i (given 31 (not (is_pcr st.tables.pcr)))
          >> (at_place i (given 8 (ltb rooms.bytes (length (carried_so_far st.extraction) + length (payload p))))
          >> passed (with_extraction (added_to i p Av1 st.extraction.pes st.extraction) st))))
      unfolding in_sequence on_units ◌>>=◌ rule closing rule29 rule30 rule31 rule34 rule8 carried pick
      adds =
          rw (h, s)
          (rule_then i 29 st _ refl
          ∙ then_same _ (rule_off i 30 st _ refl
          ∙ rule_then i 31 st _ refl
          ∙ then_same _ (rule_off i 34 st _ refl
          ∙ rule_then i 8 st _ (or-false _)
          ∙ then_same _ refl)))
