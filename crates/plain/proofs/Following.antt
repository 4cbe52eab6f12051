-- The loops over a run: n packets are counted, and so many more are to come. Assumes nothing.
use Prim.Native.Nat.{ℕ, zero, suc, ◌+◌, ◌-◌, ◌*◌, ◌/◌, ◌≤◌, ◌<◌}
use mathlib.Core.Bool.{true, false, not, and-false}
use mathlib.Core.Path.{◌≡◌, refl, sym, ap, ap₂, ◌∙◌}
use mathlib.Core.List.{List, [], ◌∷◌, ◌++◌, flatten, append-nil, append_assoc}
use native.Mathlib.Omega.{arith}
use borrow.Author.Tests.{lt-ltb, le-ltb, ltb-true, ltb-false}
use lib.Dec.{ltb}
use lib.ListN.{length, drop, length-append, length-drop}
use Rattle.lists.specs.Lists.{Bytes, pick, over, placed}
use Rattle.lists.proofs.Placed.{placed_twice}
use Rattle.lists.proofs.Tests.{case}
use Rattle.packet.specs.Header.{packet_length, packets, packet_at, payload}
use Rattle.lists.proofs.Writing.{length_over}
use Rattle.plain.specs.Runs.{is_null, nulls_in, next_counter, counts_on, counting_on, goes_on, payload_length, going_on, payloads}
use Rattle.plain.proofs.Places.{next_from, none_from, packet_length_lem}
use Rattle.plain.proofs.Plains.{counts_too, payload_behind}

-- ---- null packets
nulls_next : (p : Bytes) (l : List Bytes) → is_null p ≡ true → nulls_in (p ∷ l) ≡ suc (nulls_in l)
unfolding nulls_in pick
nulls_next p l e = rw e

nulls_stop : (p : Bytes) (l : List Bytes) → is_null p ≡ false → nulls_in (p ∷ l) ≡ 0
unfolding nulls_in pick
nulls_stop p l e = rw e

nulls_none : nulls_in [] ≡ 0
unfolding nulls_in
nulls_none = refl

module _ (s : Bytes) (from : ℕ) where
  abbrev rest : List Bytes
  rest = drop from (packets s)

  abbrev pub Counted : ℕ → Type 0
  Counted n = nulls_in rest ≡ n + nulls_in (drop n rest)

  module _ (n : ℕ) (inv : Counted n) where
    pub one_more : from + n < length s / packet_length → is_null (packet_at s (from + n)) ≡ true → Counted (n + 1)
    one_more h e =
        let j : suc n ≡ n + 1 = omega arith in
        let k = ap nulls_in (next_from s from n h) ∙ nulls_next _ _ e ∙ ap (λ (m : ℕ). suc (nulls_in (drop m rest))) j in
        omega (arith, inv, k)

    pub stops : from + n < length s / packet_length → is_null (packet_at s (from + n)) ≡ false → n ≡ nulls_in rest
    stops h e = omega (arith, inv, ap nulls_in (next_from s from n h) ∙ nulls_stop _ _ e)

    pub ends : length s / packet_length ≤ from + n → n ≡ nulls_in rest
    ends h = omega (arith, inv, ap nulls_in (none_from s from n h) ∙ nulls_none)

-- ---- packets that count on
module _ (n last : ℕ) where
  pub counting_none : counting_on n last [] ≡ 0
  unfolding counting_on
  counting_none = refl

  module _ (p : Bytes) (l : List Bytes) where
    pub counting_next : counts_on n last p ≡ true → counting_on n last (p ∷ l) ≡ suc (counting_on n (next_counter last) l)
    unfolding counting_on pick
    counting_next e = rw e

    pub counting_stop : counts_on n last p ≡ false → counting_on n last (p ∷ l) ≡ 0
    unfolding counting_on pick
    counting_stop e = rw e

-- they are among those there are
pub counting_bounded : (n last : ℕ) (l : List Bytes) → counting_on n last l ≤ length l
counting_bounded n last [] = omega (arith, counting_none n last)
counting_bounded n last (p ∷ l) =
    case (counts_on n last p)
    (λ e. omega (arith, counting_next n last p l e, counting_bounded n (next_counter last) l))
    (λ e. omega (arith, counting_stop n last p l e))

module _ (s : Bytes) (from q last : ℕ) where
  abbrev pub CountedOn : ℕ → ℕ → Type 0
  CountedOn n counter = counting_on q last (rest s from) ≡ n + counting_on q counter (drop n (rest s from))

  module _ (n counter : ℕ) (inv : CountedOn n counter) where
    pub counts_end : length s / packet_length ≤ from + n → n ≡ counting_on q last (rest s from)
    counts_end h = omega (arith, inv, ap (counting_on q counter) (none_from s from n h) ∙ counting_none q counter)

    module _ (h : from + n < length s / packet_length) (p : Bytes) (lent : p ≡ packet_at s (from + n)) where
      here : drop n (rest s from) ≡ p ∷ drop (suc n) (rest s from)
      here = next_from s from n h ∙ ap (λ (x : Bytes). x ∷ drop (suc n) (rest s from)) (sym lent)

      pub counts_one : counts_on q counter p ≡ true → (c : ℕ) → c ≡ next_counter counter → CountedOn (n + 1) c
      counts_one e c next =
          let j : suc n ≡ n + 1 = omega arith in
          let on = ap (counting_on q counter) here ∙ counting_next q counter p (drop (suc n) (rest s from)) e in
          let same = ap₂ (λ (x y : ℕ). counting_on q x (drop y (rest s from))) (sym next) j in
          omega (arith, inv, on, same)

      pub counts_stop : counts_on q counter p ≡ false → n ≡ counting_on q last (rest s from)
      counts_stop e = omega (arith, inv, ap (counting_on q counter) here ∙ counting_stop q counter p _ e)

-- ---- one list behind another in an output
-- ---- packets that go on
module _ (room n last : ℕ) where
  pub going_none : going_on room n last [] ≡ 0
  unfolding going_on
  going_none = refl

  module _ (p : Bytes) (l : List Bytes) where
    pub going_next : payload_length ≤ room → goes_on n last p ≡ true
        → going_on room n last (p ∷ l) ≡ suc (going_on (room - payload_length) n (next_counter last) l)
    unfolding going_on pick
    going_next h e = rw (le-ltb room payload_length h, e)

    pub going_full : room < payload_length → going_on room n last (p ∷ l) ≡ 0
    unfolding going_on pick
    going_full h = rw (lt-ltb room payload_length h)

    pub going_stop : goes_on n last p ≡ false → going_on room n last (p ∷ l) ≡ 0
    unfolding going_on pick
    going_stop e = rw (e, and-false (not (ltb room payload_length)))

-- they are among those there are, and have room
pub going_bounded : (room n last : ℕ) (l : List Bytes) → (going_on room n last l ≤ length l) ×
    (going_on room n last l * payload_length ≤ room)
going_bounded room n last [] = let z = going_none room n last in (omega (arith, z), omega (arith, z))
going_bounded room n last (p ∷ l) =
    case (ltb room payload_length)
    (λ t. none (going_full room n last p l (ltb-true room payload_length t)))
    (λ t. case (goes_on n last p)
    (λ g. one (ltb-false room payload_length t) g (going_bounded (room - payload_length) n (next_counter last) l))
    (λ g. none (going_stop room n last p l g)))
  where
    none : going_on room n last (p ∷ l) ≡ 0
        → (going_on room n last (p ∷ l) ≤ length (p ∷ l)) × (going_on room n last (p ∷ l) * payload_length ≤ room)
    none z = (omega (arith, z), omega (arith, z))

    one : payload_length ≤ room → goes_on n last p ≡ true
        → (going_on (room - payload_length) n (next_counter last) l ≤ length l)
        × (going_on (room - payload_length) n (next_counter last) l * payload_length ≤ room - payload_length)
        → (going_on room n last (p ∷ l) ≤ length (p ∷ l)) × (going_on room n last (p ∷ l) * payload_length ≤ room)
    one h g (a, b) = let z = going_next room n last p l h g in (omega (arith, z, a), omega (arith, z, b, h))

-- one payload more
payloads_more : (n : ℕ) (l : List Bytes) (p : Bytes) (m : List Bytes) → drop n l ≡ p ∷ m → payloads (suc n) l ≡ payloads n l ++ payload p
unfolding flatten
payloads_more zero l p m e = ap (payloads 1) e ∙ append-nil (payload p)
payloads_more (suc n) [] p m e = let z : ◌≡◌ {A = ℕ} 0 1 = cc in absurd (omega arith)
payloads_more (suc n) (x ∷ l) p m e =
    ap (λ (w : Bytes). payload x ++ w) (payloads_more n l p m e) ∙ sym (append_assoc (payload x) (payloads n l) (payload p))

module _ (s : Bytes) (from q last : ℕ) (out₀ : List ℕ) where
  abbrev left : List Bytes
  left = drop from (packets s)

  pub record Followed (out : List ℕ) (n counter written : ℕ) : Type 0 where
    pub counts : going_on (length out₀) q last left ≡ n + going_on (length out₀ - written) q counter (drop n left)
    pub stands : out ≡ over (payloads n left) out₀
    pub long : length (payloads n left) ≡ written
    pub room : written ≤ length out₀

  pub follows_none : Followed out₀ 0 last 0
  unfolding flatten
  follows_none =
      let z : length out₀ - 0 ≡ length out₀ = omega arith in
      record {
        counts = omega (arith, ap (λ (m : ℕ). going_on m q last left) z);
        stands = refl;
        long = refl;
        room = omega arith;
      }

  module _ (out : List ℕ) (n counter written : ℕ) (inv : Followed out n counter written) where
    pub kept : length out ≡ length out₀
    kept = ap length inv.stands ∙ length_over (payloads n left) out₀ (omega (arith, inv.long, inv.room))

    ended : going_on (length out₀ - written) q counter (drop n left) ≡ 0 → n ≡ going_on (length out₀) q last left
    ended e = omega (arith, inv.counts, e)

    pub at_end : length s / packet_length ≤ from + n → n ≡ going_on (length out₀) q last left
    at_end h = ended (ap (going_on (length out₀ - written) q counter) (none_from s from n h) ∙ going_none (length out₀ - written) q counter)

    module _ (h : from + n < length s / packet_length) where
      pub no_room : length out - written < payload_length → n ≡ going_on (length out₀) q last left
      no_room r =
          let k : length out₀ - written < payload_length = omega (arith, kept) in
          ended (ap (going_on (length out₀ - written) q counter) (next_from s from n h) ∙ going_full _ _ _ _ _ k)

      module _ (p : Bytes) (lent : p ≡ packet_at s (from + n)) where
        pub another : goes_on q counter p ≡ false → n ≡ going_on (length out₀) q last left
        another e =
            ended (ap (going_on (length out₀ - written) q counter) (next_from s from n h)
            ∙ going_stop _ _ _ _ _ (ap (goes_on q counter) (sym lent) ∙ e))

        -- its payload is 184 bytes
        pub payload_long : length (drop 4 p) ≡ payload_length
        payload_long = length-drop 4 p ∙ ap (λ (m : ℕ). m - 4) (ap length lent ∙ packet_length_lem s (from + n) h)

        pub follows_one : goes_on q counter p ≡ true → payload_length ≤ length out - written →
            (out' : List ℕ) → out' ≡ placed out written (drop 4 p)
            → (c : ℕ) → c ≡ next_counter counter → Followed out' (n + 1) c (written + payload_length)
        follows_one e r out' put c next =
            let here = next_from s from n h ∙ ap (λ (x : Bytes). x ∷ drop (suc n) left) (sym lent) in
            let more = payloads_more n left p _ here in
            let behind = payload_behind q counter p (counts_too q counter p e) in
            let j : suc n ≡ n + 1 = omega arith in
            let k : payload_length ≤ length out₀ - written = omega (arith, kept) in
            let m : length out₀ - written - payload_length ≡ length out₀ - (written + payload_length) = omega arith in
            let on = ap (going_on (length out₀ - written) q counter) here
            ∙ going_next (length out₀ - written) q counter p (drop (suc n) left) k e in
            let t : payloads (n + 1) left ≡ payloads n left ++ drop 4 p =
            ap (λ (x : ℕ). payloads x left) (sym j) ∙ more ∙ ap (λ (w : Bytes). payloads n left ++ w) behind in
            let size : length (payloads (n + 1) left) ≡ written + payload_length =
            ap length t ∙ length-append (payloads n left) (drop 4 p) ∙ ap₂ (λ (x y : ℕ). x + y) inv.long payload_long in
            let at : written ≡ 0 + length (payloads n left) = omega (arith, inv.long) in
            record {
              counts =
                  omega (
                    arith,
                    inv.counts,
                    on,
                    ap₂ (λ (x y : ℕ). going_on x q (next_counter counter) (drop y left)) m j
                        ∙ ap (λ (x : ℕ). going_on (length out₀ - (written + payload_length)) q x (drop (n + 1) left)) (sym next),
                  );
              stands =
                  put ∙ ap₂ (λ (l : List ℕ) (x : ℕ). placed l x (drop 4 p)) inv.stands at
                  ∙ placed_twice out₀ 0 (omega arith) (payloads n left) (drop 4 p) ∙ ap (λ (w : Bytes). over w out₀) (sym t);
              long = size;
              room = omega (arith, k);
            }
