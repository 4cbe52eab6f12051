-- A packet that counts on: what its header says, and that 21, 22 and 23 pass it; likewise a null packet. One that goes on counts on.
-- Assumes nothing.
use Rattle.std.specs.Prelude.{None}
use Prim.Native.Nat.{ℕ, ◌/◌, ◌%◌}
use mathlib.Core.Bool.{Bool, true, false, not, ◌&&◌, and-false}
use mathlib.Core.Path.{◌≡◌, refl, sym, ap, ap₂, ◌∙◌}
use native.Mathlib.Omega.{arith}
use borrow.Author.Tests.{eq-eqb, ne_eqb, eqb-true, not-true}
use lib.Dec.{eqb}
use lib.ListN.{drop}
use Rattle.lists.specs.Lists.{Bytes, pick}
use Rattle.lists.specs.Bytes.{byte, bits, bit}
use Rattle.lists.proofs.Tests.{and_both}
use Rattle.refusal.specs.Verdict.{passed}
use Rattle.refusal.proofs.Verdicts.{pass_on}
use Rattle.packet.specs.Header.{pid, null_pid, sync_lost, transport_error_indicator, payload_unit_start_indicator, pcr}
use Rattle.packet.specs.Header.{transport_scrambling_control, adaptation_field_control, continuity_counter}
use Rattle.packet.specs.Header.{has_adaptation_field, has_payload, adaptation_flags, discontinuity_indicator, pcr_flag}
use Rattle.packet.specs.Header.{clock_reference, header_length, payload, fields_wrong, fields, header_of}
use Rattle.lists.proofs.Picks.{either}
use Rattle.plain.specs.Runs.{is_null, next_counter, counts_on, goes_on}

-- ---- a null packet
module _ (p : Bytes) (h : is_null p ≡ true) where
  pub null_pid_lem : pid p ≡ null_pid
  null_pid_lem = eqb-true _ _ (and_both (not (transport_error_indicator p)) _ (and_both (not (sync_lost p)) _ h).1).1

  pub null_passes : header_of p ≡ passed (fields p)
  unfolding header_of
  null_passes =
      let a = and_both (not (sync_lost p)) _ h in
      let b = and_both (not (transport_error_indicator p)) _ a.1 in
      sym (pass_on 21 (not-true _ a.0)
      (pass_on 22 (not-true _ b.0)
      (pass_on 23 (ap (λ (x : Bool). not x && fields_wrong p) b.1) refl)))

-- ---- a packet that counts on
record Says (n last : ℕ) (p : Bytes) : Type 0 where
  pub sync : sync_lost p ≡ false
  pub error : transport_error_indicator p ≡ false
  pub named : pid p ≡ n
  pub clear : transport_scrambling_control p ≡ 0
  pub control : adaptation_field_control p ≡ 1
  pub counter : continuity_counter p ≡ next_counter last

module _ (n last : ℕ) (p : Bytes) (h : counts_on n last p ≡ true) where
  says : Says n last p
  says =
      let a = and_both (not (sync_lost p)) _ h in
      let b = and_both (not (transport_error_indicator p)) _ a.1 in
      let d = and_both (eqb (pid p) n) _ b.1 in
      let e = and_both (eqb (transport_scrambling_control p) 0) _ d.1 in
      let f = and_both (eqb (adaptation_field_control p) 1) _ e.1 in
      record {
        sync = not-true _ a.0;
        error = not-true _ b.0;
        named = eqb-true _ _ d.0;
        clear = eqb-true _ _ e.0;
        control = eqb-true _ _ f.0;
        counter = eqb-true _ _ f.1;
      }

  pub of_pid : pid p ≡ n
  of_pid = says.named

  pub counter_next : continuity_counter p ≡ next_counter last
  counter_next = says.counter

  control : adaptation_field_control p ≡ 1
  control = says.control

  pub with_payload : has_payload p ≡ true
  with_payload = eq-eqb (bits 4 4 (byte p 3)) 1 (omega (arith, control))

  no_field : has_adaptation_field p ≡ false
  no_field = ne_eqb (bits 5 5 (byte p 3)) 1 (λ z. absurd (omega (arith, control, z)))

  no_flags : adaptation_flags p ≡ 0
  unfolding adaptation_flags pick
  no_flags = rw no_field

  no_pcr_flag : pcr_flag p ≡ false
  no_pcr_flag = ap (bit 4) no_flags

  pub no_break : discontinuity_indicator p ≡ false
  no_break = ap (bit 7) no_flags

  pub no_pcr : pcr p ≡ None
  unfolding pcr pick
  no_pcr = ap (λ (x : Bool). pick (eqb (pid p) null_pid) None (pick x (clock_reference p) None)) no_pcr_flag
      ∙ either (eqb (pid p) null_pid) None

  -- the payload is all behind the header
  pub payload_behind : payload p ≡ drop 4 p
  unfolding payload header_length pick
  payload_behind = rw (with_payload, no_field)

  fields_right : fields_wrong p ≡ false
  unfolding fields_wrong
  fields_right = rw (says.clear, control, no_pcr_flag)

  -- 21, 22, 23
  pub plain_passes : header_of p ≡ passed (fields p)
  unfolding header_of
  plain_passes =
      sym (pass_on 21 says.sync
      (pass_on 22 says.error
      (pass_on 23 (ap (λ (x : Bool). not (eqb (pid p) null_pid) && x) fields_right ∙ and-false (not (eqb (pid p) null_pid))) refl)))

-- ---- a packet that goes on
module _ (n last : ℕ) (p : Bytes) (h : goes_on n last p ≡ true) where
  pub no_start : payload_unit_start_indicator p ≡ false
  no_start = not-true _ (and_both (not (payload_unit_start_indicator p)) (counts_on n last p) h).0

  pub counts_too : counts_on n last p ≡ true
  counts_too = (and_both (not (payload_unit_start_indicator p)) (counts_on n last p) h).1

-- ---- the tests of the code, by the values of the bytes that they look at
module _ (p : Bytes) where
  pub sync_lost_lem : {v : ℕ} → v ≡ byte p 0 → (v ≡ 0x47 → ⊥) → not (sync_lost p) ≡ false
  sync_lost_lem e t = ap (λ (x : Bool). not (not x)) (ne_eqb (byte p 0) 0x47 (λ z. t (e ∙ z)))

  pub sync_found : {v : ℕ} → v ≡ byte p 0 → v ≡ 0x47 → not (sync_lost p) ≡ true
  sync_found e t = ap (λ (x : Bool). not (not x)) (eq-eqb (byte p 0) 0x47 (sym e ∙ t))

  pub error_set : {v : ℕ} → v ≡ byte p 1 → v / 128 % 2 ≡ 1 → not (transport_error_indicator p) ≡ false
  error_set e t = ap not (eq-eqb (bits 7 7 (byte p 1)) 1 (ap (λ (n : ℕ). n / 128 % 2) (sym e) ∙ t))

  pub error_clear : {v : ℕ} → v ≡ byte p 1 → (v / 128 % 2 ≡ 1 → ⊥) → not (transport_error_indicator p) ≡ true
  error_clear e t = ap not (ne_eqb (bits 7 7 (byte p 1)) 1 (λ z. t (ap (λ (n : ℕ). n / 128 % 2) e ∙ z)))

  pub start_set : {v : ℕ} → v ≡ byte p 1 → v / 64 % 2 ≡ 1 → not (payload_unit_start_indicator p) ≡ false
  start_set e t = ap not (eq-eqb (bits 6 6 (byte p 1)) 1 (ap (λ (n : ℕ). n / 64 % 2) (sym e) ∙ t))

  pub start_clear : {v : ℕ} → v ≡ byte p 1 → (v / 64 % 2 ≡ 1 → ⊥) → not (payload_unit_start_indicator p) ≡ true
  start_clear e t = ap not (ne_eqb (bits 6 6 (byte p 1)) 1 (λ z. t (ap (λ (n : ℕ). n / 64 % 2) e ∙ z)))

  pub pid_other : (n : ℕ) {v : ℕ} → v ≡ pid p → (v ≡ n → ⊥) → eqb (pid p) n ≡ false
  pid_other n e t = ne_eqb (pid p) n (λ z. t (e ∙ z))

  pub pid_same : (n : ℕ) {v : ℕ} → v ≡ pid p → v ≡ n → eqb (pid p) n ≡ true
  pid_same n e t = eq-eqb (pid p) n (sym e ∙ t)

  pub scrambled : {v : ℕ} → v ≡ byte p 3 → (v / 64 % 4 ≡ 0 → ⊥) → eqb (transport_scrambling_control p) 0 ≡ false
  scrambled e t = ne_eqb (transport_scrambling_control p) 0 (λ z. t (ap (λ (n : ℕ). n / 64 % 4) e ∙ z))

  pub not_scrambled : {v : ℕ} → v ≡ byte p 3 → v / 64 % 4 ≡ 0 → eqb (transport_scrambling_control p) 0 ≡ true
  not_scrambled e t = eq-eqb (transport_scrambling_control p) 0 (ap (λ (n : ℕ). n / 64 % 4) (sym e) ∙ t)

  pub control_other : {v : ℕ} → v ≡ byte p 3 → (v / 16 % 4 ≡ 1 → ⊥) → eqb (adaptation_field_control p) 0b01 ≡ false
  control_other e t = ne_eqb (adaptation_field_control p) 1 (λ z. t (ap (λ (n : ℕ). n / 16 % 4) e ∙ z))

  pub control_01 : {v : ℕ} → v ≡ byte p 3 → v / 16 % 4 ≡ 1 → eqb (adaptation_field_control p) 0b01 ≡ true
  control_01 e t = eq-eqb (adaptation_field_control p) 1 (ap (λ (n : ℕ). n / 16 % 4) (sym e) ∙ t)

  pub counter_test : {v m : ℕ} → v ≡ byte p 3 → (n : ℕ) → m ≡ n → eqb (v % 16) m ≡ eqb (continuity_counter p) n
  counter_test {v} e n f =
      let k : v % 16 ≡ continuity_counter p = ap (λ (x : ℕ). x % 16) e ∙ omega arith in
      ap₂ eqb k f
