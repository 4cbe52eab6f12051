-- The packets of a segment from an index on, as the code takes them. Assumes nothing.
use Prim.Native.Nat.{ℕ, zero, suc, ◌+◌, ◌*◌, ◌/◌, ◌≤◌, ◌<◌}
use mathlib.Core.Path.{◌≡◌, refl, sym, ap, ◌∙◌}
use mathlib.Core.List.{List, [], ◌∷◌}
use native.Mathlib.Omega.{arith}
use native.Mathlib.Nat.{not-suc-le-zero, le_of_suc-le-suc}
use lib.ListN.{length, take, drop, length-drop}
use lib.Seq.{drop-drop, length-take-le}
use Rattle.lists.specs.Lists.{Bytes}
use Rattle.packet.specs.Header.{packet_length, packets_of, packets, packet_at}

next_of : (n k : ℕ) (s : Bytes) → k < n → drop k (packets_of n s) ≡ packet_at s k ∷ drop (suc k) (packets_of n s)
unfolding packets_of
next_of zero k s h = absurd (not-suc-le-zero h)
next_of (suc n) zero s h = refl
next_of (suc n) (suc k) s h =
    let j : 188 + k * 188 ≡ suc k * 188 = omega arith in
    next_of n k (drop packet_length s) (le_of_suc-le-suc h)
    ∙ ap (λ (p : Bytes). take packet_length p ∷ drop (suc k) (packets_of n (drop packet_length s)))
    (drop-drop (k * 188) 188 s ∙ ap (λ (m : ℕ). drop m s) j)

-- there is one more
pub next_packet : (s : Bytes) (k : ℕ) → k < length s / packet_length → drop k (packets s) ≡ packet_at s k ∷ drop (suc k) (packets s)
next_packet s k h = next_of (length s / packet_length) k s h

none_of : (n k : ℕ) (s : Bytes) → n ≤ k → drop k (packets_of n s) ≡ []
unfolding packets_of
none_of zero zero s h = refl
none_of zero (suc k) s h = refl
none_of (suc n) zero s h = absurd (not-suc-le-zero h)
none_of (suc n) (suc k) s h = none_of n k (drop packet_length s) (le_of_suc-le-suc h)

-- there is none
pub no_packet : (s : Bytes) (k : ℕ) → length s / packet_length ≤ k → drop k (packets s) ≡ []
no_packet s k h = none_of (length s / packet_length) k s h

-- of those from an index on
module _ (s : Bytes) (from n : ℕ) where
  pub next_from : from + n < length s / packet_length
      → drop n (drop from (packets s)) ≡ packet_at s (from + n) ∷ drop (suc n) (drop from (packets s))
  next_from h =
      let j : suc (from + n) ≡ from + suc n = omega arith in
      drop-drop n from (packets s) ∙ next_packet s (from + n) h
      ∙ ap (λ (l : List Bytes). packet_at s (from + n) ∷ l)
      (ap (λ (m : ℕ). drop m (packets s)) j ∙ back)
    where
      back : drop (from + suc n) (packets s) ≡ drop (suc n) (drop from (packets s))
      back = sym (drop-drop (suc n) from (packets s))

  pub none_from : length s / packet_length ≤ from + n → drop n (drop from (packets s)) ≡ []
  none_from h = drop-drop n from (packets s) ∙ no_packet s (from + n) h

pub packet_length_lem : (s : Bytes) (k : ℕ) → k < length s / packet_length → length (packet_at s k) ≡ packet_length
packet_length_lem s k h = length-take-le 188 (drop (k * 188) s) (omega (arith, length-drop (k * 188) s))
