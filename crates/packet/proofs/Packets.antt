-- The packets of a segment, and the segment of packets: a segment of whole packets is these packets one behind the other
-- (`flatten_packets`, `packet_lengths`), and the packets of such a segment are those that it was made of (`packets_flatten`). Assumes
-- nothing.
use Prim.Native.Nat.{ℕ, zero, suc, ◌*◌, ◌/◌, ◌%◌}
use mathlib.Core.Path.{◌≡◌, refl, ap, ap₂, ◌∙◌}
use mathlib.Core.List.{List, [], ◌∷◌, ◌++◌, flatten}
use native.Mathlib.Omega.{arith}
use lib.ListN.{length, take, drop, length-append, length-drop, take-append-drop}
use lib.Seq.{take_at, drop_at, length-take-le}
use Rattle.lists.specs.Lists.{Bytes}
use Rattle.refusal.proofs.Verdicts.{All}
use Rattle.packet.specs.Header.{packet_length, packets_of, packets}

-- ---- of a segment
abbrev pub Whole : Bytes → Type 0
Whole p = length p ≡ packet_length

flatten_of : (n : ℕ) (s : Bytes) → length s ≡ n * packet_length → flatten (packets_of n s) ≡ s
unfolding packets_of flatten
flatten_of zero [] e = refl
flatten_of zero (b ∷ s) e = absurd (omega arith)
flatten_of (suc n) s e =
    ap (λ (r : Bytes). take packet_length s ++ r) (flatten_of n (drop packet_length s) (omega (arith, length-drop packet_length s)))
    ∙ take-append-drop packet_length s

lengths_of : (n : ℕ) (s : Bytes) → length s ≡ n * packet_length → All Whole (packets_of n s)
unfolding packets_of
lengths_of zero s e = tt
lengths_of (suc n) s e =
    (length-take-le packet_length s (omega arith), lengths_of n (drop packet_length s) (omega (arith, length-drop packet_length s)))

module _ (s : Bytes) (e : length s % packet_length ≡ 0) where
  whole : length s ≡ (length s / packet_length) * packet_length
  whole = omega arith

  pub flatten_packets : flatten (packets s) ≡ s
  flatten_packets = flatten_of (length s / packet_length) s whole

  pub packet_lengths : All Whole (packets s)
  packet_lengths = lengths_of (length s / packet_length) s whole

-- ---- of packets
pub length_flatten : (ps : List Bytes) → All Whole ps → length (flatten ps) ≡ length ps * packet_length
unfolding flatten
length_flatten [] h = refl
length_flatten (p ∷ ps) h = omega (arith, length-append p (flatten ps), h.0, length_flatten ps h.1)

packets_of_lem : (ps : List Bytes) → All Whole ps → packets_of (length ps) (flatten ps) ≡ ps
unfolding packets_of flatten
packets_of_lem [] h = refl
packets_of_lem (p ∷ ps) h =
    ap₂ (λ (q : Bytes) (qs : List Bytes). q ∷ qs) (take_at p (flatten ps) packet_length h.0)
    (ap (packets_of (length ps)) (drop_at p (flatten ps) packet_length h.0) ∙ packets_of_lem ps h.1)

pub packets_flatten : (ps : List Bytes) → All Whole ps → packets (flatten ps) ≡ ps
packets_flatten ps h =
    let n : length (flatten ps) / packet_length ≡ length ps = omega (arith, length_flatten ps h) in
    ap (λ (k : ℕ). packets_of k (flatten ps)) n ∙ packets_of_lem ps h
