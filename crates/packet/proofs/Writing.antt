-- What the reading of a packet says of one that the segment writer writes: `carrying_reads`. Assumes nothing.
use Prim.Native.Nat.{ℕ, zero, suc, ◌+◌, ◌-◌, ◌*◌, ◌/◌, ◌%◌, ◌^◌, ◌≤◌, ◌<◌}
use mathlib.Core.Bool.{Bool, true, false, not, ◌&&◌}
use mathlib.Core.Path.{◌≡◌, refl, sym, ap, ◌∙◌}
use mathlib.Core.List.{◌∷◌, ◌++◌}
use native.Mathlib.Omega.{arith}
use borrow.Author.Tests.{eq-eqb, ne_eqb, le-ltb, lt-ltb}
use lib.Dec.{eqb}
use lib.ListN.{length, drop, length-append, length-replicate}
use lib.Seq.{drop-append_seam}
use Rattle.lists.specs.Lists.{Bytes, pick}
use Rattle.lists.specs.Bytes.{byte, bits}
use Rattle.lists.proofs.Picks.{by_true, by_false}
use Rattle.lists.proofs.Tests.{or_by_false, and_by_false, and_by_true}
use Rattle.refusal.specs.Verdict.{passed}
use Rattle.refusal.proofs.Verdicts.{pass_on}
use Rattle.packet.specs.Header as packet
use Rattle.packet.proofs.Headers.{control_11, control_other}
use Rattle.packet.specs.Header.{header_of, fields, null_pid, payload, adaptation_flags, header_length, fields_wrong}
use Rattle.packet.specs.Writing.{flag, stuffing, header, most, control, adaptation_field, carrying}

-- ---- the four bytes of the header
pub flag_lt : (b : Bool) → flag b < 2
unfolding flag pick
flag_lt true = omega arith
flag_lt false = omega arith

flag_back : (b : Bool) (n : ℕ) → n ≡ flag b → eqb n 1 ≡ b
unfolding flag pick
flag_back true n e = eq-eqb n 1 e
flag_back false n e = ne_eqb n 1 (λ h. omega arith)

-- what they say
pub record Head (p : Bytes) (q : ℕ) (start : Bool) (k n : ℕ) : Type 0 where
  pub sync : packet.sync_lost p ≡ false
  pub fine : packet.transport_error_indicator p ≡ false
  pub pid : packet.pid p ≡ q
  pub starts : packet.payload_unit_start_indicator p ≡ start
  pub clear : packet.transport_scrambling_control p ≡ 0
  pub control : packet.adaptation_field_control p ≡ k
  pub counter : packet.continuity_counter p ≡ n

pub head : (q : ℕ) (start : Bool) (k counter : ℕ) (rest : Bytes) → q < 8192 → k < 4 → counter < 16
    → Head (header q start k counter ++ rest) q start k counter
head q start k counter rest hq hk hc =
    let f = flag_lt start in
    let s : bits 6 6 (flag start * 2 ^ 6 + q / 256) ≡ flag start = omega arith in
    let e : bits 7 7 (flag start * 2 ^ 6 + q / 256) ≡ 0 = omega arith in
    record {
      sync = refl;
      fine = ne_eqb (bits 7 7 (flag start * 2 ^ 6 + q / 256)) 1 (λ h. omega arith);
      pid = omega arith;
      starts = flag_back start (bits 6 6 (flag start * 2 ^ 6 + q / 256)) s;
      clear = omega arith;
      control = omega arith;
      counter = omega arith;
    }

-- adaptation_field_control, bit by bit
control_bits : (x k : ℕ) → bits 5 4 x ≡ k → (bits 5 5 x ≡ k / 2) × (bits 4 4 x ≡ k % 2)
control_bits x k e = (omega arith, omega arith)

-- ---- the whole
-- a packet that reading accepts, and what it says: on which PID, whether it starts something, its counter, no discontinuity, whether it
-- has a PCR, and its payload
pub record Reads (p : Bytes) (q : ℕ) (start : Bool) (n : ℕ) (timed : Bool) : Type 0 where
  pub passes : header_of p ≡ passed (fields p)
  pub pid : packet.pid p ≡ q
  pub starts : packet.payload_unit_start_indicator p ≡ start
  pub counter : packet.continuity_counter p ≡ n
  pub steady : packet.discontinuity_indicator p ≡ false
  pub clock : packet.pcr_flag p ≡ timed

pub record Carries (p : Bytes) (part : Bytes) : Type 0 where
  pub has : packet.has_payload p ≡ true
  pub payload : packet.payload p ≡ part

-- 23 does not apply, from what the header and the field's flags say
module _ {p : Bytes} {q : ℕ} {start : Bool} {k counter : ℕ} (h : Head p q start k counter) where
  pub passing : (k ≡ 0 → ⊥) → packet.adaptation_length_wrong p ≡ false → packet.pcr_cut_short p ≡ false → packet.extension_wrong p ≡ false
      → header_of p ≡ passed (fields p)
  unfolding header_of fields_wrong
  passing nz a b c =
      let z : bits 7 6 (byte p 3) ≡ 0 = h.clear in
      let w : fields_wrong p ≡ false =
      sym (or_by_false (ap not (eq-eqb (bits 7 6 (byte p 3)) 0 z))
      (or_by_false (ne_eqb (bits 5 4 (byte p 3)) 0 (λ e. nz (sym h.control ∙ e))) (or_by_false a (or_by_false b (sym c))))) in
      sym (pass_on 21 h.sync (pass_on 22 h.fine (pass_on 23 (wrongly (not (eqb (packet.pid p) null_pid)) (fields_wrong p) w) refl)))
    where
      wrongly : (x y : Bool) → y ≡ false → x && y ≡ false
      wrongly true y e = e
      wrongly false y e = refl

  -- no adaptation field, or one whose flags are these
  module _ (hk : k < 4) where
    pub has_payload_lem : k % 2 ≡ 1 → packet.has_payload p ≡ true
    has_payload_lem e = eq-eqb (bits 4 4 (byte p 3)) 1 ((control_bits (byte p 3) k h.control).1 ∙ e)

    pub no_payload : k % 2 ≡ 0 → packet.has_payload p ≡ false
    no_payload e = ne_eqb (bits 4 4 (byte p 3)) 1 (λ z. let y = (control_bits (byte p 3) k h.control).1 in omega arith)

    pub has_field : k / 2 ≡ 1 → packet.has_adaptation_field p ≡ true
    has_field e = eq-eqb (bits 5 5 (byte p 3)) 1 ((control_bits (byte p 3) k h.control).0 ∙ e)

    pub no_field : k / 2 ≡ 0 → packet.has_adaptation_field p ≡ false
    no_field e = ne_eqb (bits 5 5 (byte p 3)) 1 (λ z. let y = (control_bits (byte p 3) k h.control).0 in omega arith)

-- ---- the flags of the adaptation field
flags_none : (p : Bytes) → packet.has_adaptation_field p ≡ false → adaptation_flags p ≡ 0
unfolding adaptation_flags
flags_none p e = sym (by_false _ (sym (and_by_false _ e refl)) refl)

flags_empty : (p : Bytes) → packet.has_adaptation_field p ≡ true → byte p 4 ≡ 0 → adaptation_flags p ≡ 0
unfolding adaptation_flags
flags_empty p e z = sym (by_false _ (sym (and_by_true e (sym (le-ltb 0 (byte p 4) (omega arith))))) refl)

pub flags_some : (p : Bytes) → packet.has_adaptation_field p ≡ true → 0 < byte p 4 → adaptation_flags p ≡ byte p 5
unfolding adaptation_flags
flags_some p e z = sym (by_true _ (sym (and_by_true e (sym (lt-ltb 0 (byte p 4) z)))) refl)

-- no discontinuity and no PCR
pub quiet : {p : Bytes} {q : ℕ} {start : Bool} {k n : ℕ} (x : ℕ) → Head p q start k n → adaptation_flags p ≡ x → bits 7 7 x ≡ 0
    → bits 4 4 x ≡ 0 → (k ≡ 0 → ⊥)
    → packet.adaptation_length_wrong p ≡ false → Reads p q start n false
quiet {p} {q} {start} {k} {n} x h f d c nz a =
    let clockless : packet.pcr_flag p ≡ false = ne_eqb (bits 4 4 (adaptation_flags p)) 1 (λ z. omega (arith, ap (bits 4 4) f)) in
    record {
      passes = passing h nz a (sym (and_by_false _ clockless refl)) (sym (and_by_false _ clockless refl));
      pid = h.pid;
      starts = h.starts;
      counter = h.counter;
      steady = ne_eqb (bits 7 7 (adaptation_flags p)) 1 (λ z. omega (arith, ap (bits 7 7) f));
      clock = clockless;
    }

-- the payload behind the header, and behind an adaptation field
bare : (p part : Bytes) → packet.has_payload p ≡ true → packet.has_adaptation_field p ≡ false → drop 4 p ≡ part → Carries p part
unfolding payload header_length
bare p part y f e = record { has = y; payload = sym (by_true _ y (sym (ap (λ (n : ℕ). drop n p) (sym (by_false _ f refl)) ∙ e))) }

behind : (p part : Bytes) (m : ℕ) → packet.has_payload p ≡ true → packet.has_adaptation_field p ≡ true → 5 + byte p 4 ≡ m → drop m p ≡ part
    → Carries p part
unfolding payload header_length
behind p part m y f l e = record { has = y; payload = sym (by_true _ y (sym (ap (λ (n : ℕ). drop n p) (sym (by_true _ f (sym l))) ∙ e))) }

-- ---- the field's length
no_length : {p : Bytes} {q : ℕ} {start : Bool} {n : ℕ} → Head p q start 1 n → packet.adaptation_length_wrong p ≡ false
no_length {p} h =
    let c : bits 5 4 (byte p 3) ≡ 1 = h.control in
    sym (control_other {control = bits 5 4 (byte p 3)} (byte p 4) (λ (e : bits 5 4 (byte p 3) ≡ 2). omega arith)
    (λ (e : bits 5 4 (byte p 3) ≡ 3). omega arith))

right_length : {p : Bytes} {q : ℕ} {start : Bool} {n : ℕ} → Head p q start 3 n → byte p 4 ≤ 182 → packet.adaptation_length_wrong p ≡ false
right_length {p} h l = sym (control_11 {control = bits 5 4 (byte p 3)} {n = byte p 4} h.control refl) ∙ le-ltb 182 (byte p 4) l

-- ---- a packet with payload
pub length_stuffing : (n : ℕ) → length (stuffing n) ≡ n
length_stuffing n = length-replicate n 0xFF

module _ (q : ℕ) (start : Bool) (counter flags : ℕ) (part : Bytes) (hq : q < 8192) (hc : counter < 16) (steady : bits 7 7 flags
    ≡ 0) (clockless : bits 4 4 flags ≡ 0) where
  -- of which the field takes n bytes
  abbrev filled : ℕ → Bytes
  filled n = header q start (control n) counter ++ (adaptation_field n flags ++ part)

  filled_reads : (n : ℕ) → n < 184 → Reads (filled n) q start counter false × Carries (filled n) part
  unfolding control adaptation_field pick
  filled_reads zero l =
      let h = head q start 1 counter part hq (omega arith) hc in
      let f = no_field h (omega arith) refl in (
        quiet 0 h (flags_none (filled 0) f) refl refl (λ e. omega arith) (no_length h),
        bare (filled 0) part
            (has_payload_lem h (omega arith) refl) f refl,
      )
  filled_reads (suc zero) l =
      let h = head q start 3 counter (0 ∷ part) hq (omega arith) hc in
      let f = has_field h (omega arith) refl in (
        quiet 0 h (flags_empty (filled 1) f refl) refl refl (λ e. omega arith) (right_length h (omega arith)),
        behind (filled 1) part 5
            (has_payload_lem h (omega arith) refl) f refl refl,
      )
  filled_reads (suc (suc n)) l =
      let h = head q start 3 counter (suc n ∷ flags ∷ stuffing n ++ part) hq (omega arith) hc in
      let f = has_field h (omega arith) refl in
      let m : length (header q start 3 counter ++ (suc n ∷ flags ∷ stuffing n)) ≡ 5 + suc n = omega (arith, length_stuffing n) in (
        quiet flags h (flags_some (filled (suc (suc n))) f (omega arith)) steady clockless (λ e. omega arith)
            (right_length h (omega arith)),
        behind (filled (suc (suc n))) part _ (has_payload_lem h (omega arith) refl) f (sym m)
            (drop-append_seam (header q start 3 counter ++ (suc n ∷ flags ∷ stuffing n)) part),
      )

  pub carrying_reads : length part ≤ 184 → 0 < length part
      → Reads (carrying q start counter flags part) q start counter false × Carries (carrying q start counter flags part) part
  unfolding carrying
  carrying_reads l z = filled_reads (most - length part) (omega arith)

-- ---- it has 188 bytes
pub length_field : (n flags : ℕ) → length (adaptation_field n flags) ≡ n
unfolding adaptation_field
length_field zero flags = refl
length_field (suc zero) flags = refl
length_field (suc (suc n)) flags = ap suc (ap suc (length_stuffing n))

pub length_carrying : (q : ℕ) (start : Bool) (counter flags : ℕ) (part : Bytes) → length part ≤ 184
    → length (carrying q start counter flags part) ≡ 188
unfolding carrying
length_carrying q start counter flags part l =
    omega (arith, length-append (adaptation_field (most - length part) flags) part, length_field (most - length part) flags)
