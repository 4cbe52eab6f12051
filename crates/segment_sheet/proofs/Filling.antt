-- A string w put into an output from a place on, piece by piece: what is put, then the rest, is w (`Filling`). The bytes of rows of
-- numbers are those of the first row, then those of the others. Assumes nothing.
use Prim.Native.Nat.{ℕ, suc, ◌+◌, ◌*◌, ◌/◌, ◌%◌, ◌≤◌}
use mathlib.Core.Path.{◌≡◌, refl, sym, ap, ap₂, subst, subst₂, ◌∙◌}
use mathlib.Core.List.{List, [], ◌∷◌, ◌++◌, flatten, append-nil, append_assoc}
use native.Mathlib.Omega.{arith}
use lib.ListN.{length, take, drop, length-append}
use lib.Seq.{length-take-le, take-append-le, take-take, drop-drop, drop_at}
use Rattle.lists.specs.Lists.{Bytes, placed}
use Rattle.lists.proofs.Writing.{Part, counted, put_all, done}
use Rattle.sheet.specs.Sheet.{big_endian, numbers_of, section, in_bytes}
use Rattle.sheet.proofs.BigEndian.{bytes_long, eight_long}

-- ---- putting
pub record Filling (out₀ : Bytes) (at : ℕ) (w : Bytes) (n : ℕ) (rest out : Bytes) : Type 0 where
  pub part : Part out₀ (take at out₀ ++ w) n rest out
  pub fits : at + length w ≤ length out₀

pub filling_start : (out : Bytes) (at : ℕ) (w : Bytes) → at + length w ≤ length out → Filling out at w at w out
filling_start out at w h =
    record { part = record { front = refl; back = refl; long = refl; within = omega arith }; fits = h }

module _ {out₀ : Bytes} {at : ℕ} {w : Bytes} {n : ℕ} {rest out : Bytes} (f : Filling out₀ at w n rest out) where
  whole_long : length (take at out₀ ++ w) ≡ at + length w
  whole_long = let h = f.fits in omega (arith, length-append (take at out₀) w, length-take-le at out₀ (omega arith))

  pub filling_long : length out ≡ length out₀
  filling_long = f.part.long

  pub filling_place : n + length rest ≡ at + length w
  filling_place = counted f.part ∙ whole_long

  pub filling_as : (rest' : Bytes) → rest ≡ rest' → Filling out₀ at w n rest' out
  filling_as rest' e = subst (λ (r : Bytes). Filling out₀ at w n r out) e f

  pub filling_done : rest ≡ [] → out ≡ placed out₀ at w
  filling_done e =
      let h = f.fits in
      let l : length (take at out₀) ≡ at = length-take-le at out₀ (omega arith) in
      done (filling_as [] e).part ∙ append_assoc (take at out₀) w (drop (length (take at out₀ ++ w)) out₀)
      ∙ ap (λ (k : ℕ). take at out₀ ++ (w ++ drop k out₀)) whole_long
      ∙ ap (λ (x : Bytes). take at out₀ ++ (w ++ x)) (sym (drop-drop (length w) at out₀))

module _ {out₀ : Bytes} {at : ℕ} {w : Bytes} {n : ℕ} (v rest : Bytes) {out : Bytes} (f : Filling out₀ at w n (v ++ rest) out) where
  pub filling_room : n + length v ≤ length out
  filling_room = let h = f.fits in omega (arith, filling_place f, length-append v rest, filling_long f)

  pub filling_next : (n' : ℕ) (out' : Bytes) → n' ≡ n + length v → out' ≡ placed out n v → Filling out₀ at w n' rest out'
  filling_next n' out' e o =
      let h = f.fits in
      record {
        part =
            subst₂ (λ (k : ℕ) (x : Bytes). Part out₀ (take at out₀ ++ w) k rest x) (sym e) (sym o)
            (put_all v f.part (omega (arith, whole_long f)));
        fits = h;
      }

-- ---- the bytes of numbers
pub bytes_append : (xs ys : List ℕ) → in_bytes (xs ++ ys) ≡ in_bytes xs ++ in_bytes ys
unfolding flatten
bytes_append [] ys = refl
bytes_append (x ∷ xs) ys =
    ap (λ (l : Bytes). big_endian 8 x ++ l) (bytes_append xs ys) ∙ sym (append_assoc (big_endian 8 x) (in_bytes xs) (in_bytes ys))

module _ {A : Type 0} (numbers : A → List ℕ) where
  -- the bytes of rows
  abbrev pub row_bytes : List A → Bytes
  row_bytes l = in_bytes (numbers_of numbers l)

  pub row_none : row_bytes [] ≡ []
  unfolding numbers_of flatten
  row_none = refl

  pub row_next : (a : A) (l : List A) → row_bytes (a ∷ l) ≡ in_bytes (numbers a) ++ row_bytes l
  unfolding numbers_of flatten
  row_next a l = bytes_append (numbers a) (numbers_of numbers l)

  pub row_append : (l m : List A) → row_bytes (l ++ m) ≡ row_bytes l ++ row_bytes m
  unfolding numbers_of flatten
  row_append [] m = refl
  row_append (a ∷ l) m =
      row_next a (l ++ m) ∙ ap (λ (x : Bytes). in_bytes (numbers a) ++ x) (row_append l m)
      ∙ sym (append_assoc (in_bytes (numbers a)) (row_bytes l) (row_bytes m))
      ∙ ap (λ (x : Bytes). x ++ row_bytes m) (sym (row_next a l))

  pub section_is : (l : List A) → in_bytes (section numbers l) ≡ big_endian 8 (length l) ++ row_bytes l
  unfolding flatten
  section_is l = refl

  pub rows_long : (width : ℕ) → ((a : A) → length (numbers a) ≡ width) → (l : List A) → length (row_bytes l) ≡ 8 * width * length l
  unfolding numbers_of flatten
  rows_long width wide [] = omega arith
  rows_long width wide (a ∷ l) =
      let e : 8 * width * suc (length l) ≡ 8 * width + 8 * width * length l = omega arith in
      ap length (row_next a l) ∙ omega (
        arith,
        length-append (in_bytes (numbers a)) (row_bytes l),
        bytes_long (numbers a),
        wide a,
        rows_long width wide l,
        e,
      )

-- ---- two strings, one behind the other
pub then_placed : (out out1 out2 : Bytes) (at n : ℕ) (v w : Bytes) → at + length v + length w ≤ length out → n ≡ at + length v
    → out1 ≡ placed out at v → out2 ≡ placed out1 n w → out2 ≡ placed out at (v ++ w)
then_placed out out1 out2 at n v w h e o1 o2 =
    let f0 = filling_start out at (v ++ w) (omega (arith, length-append v w)) in
    let f1 = filling_as (filling_next v w f0 n out1 e o1) (w ++ []) (sym (append-nil w)) in
    filling_done (filling_next w [] f1 (n + length w) out2 refl o2) refl

-- and the first put behind the second
pub before_placed : (out out1 out2 : Bytes) (at n : ℕ) (v w : Bytes) → n ≡ at + length v → n ≤ length out → out1 ≡ placed out n w
    → out2 ≡ placed out1 at v → out2 ≡ placed out at (v ++ w)
before_placed out out1 out2 at n v w e h o1 o2 =
    let l : length (take n out) ≡ n = length-take-le n out h in
    let front : take at out1 ≡ take at out =
    ap (take at) o1 ∙ take-append-le at (take n out) _ (omega (arith, l)) ∙ take-take at n out (omega arith) in
    let back : drop (length v) (drop at out1) ≡ w ++ drop (length w) (drop n out) =
    drop-drop (length v) at out1 ∙ ap₂ (λ (k : ℕ) (x : Bytes). drop k x) (sym e) o1 ∙ drop_at (take n out) _ n l in
    let rest : drop (length w) (drop n out) ≡ drop (length (v ++ w)) (drop at out) =
    ap (λ (k : ℕ). drop (length w) (drop k out)) e ∙ ap (drop (length w)) (sym (drop-drop (length v) at out))
    ∙ drop-drop (length w) (length v) (drop at out) ∙ ap (λ (k : ℕ). drop k (drop at out)) (sym (length-append v w)) in
    o2 ∙ ap₂ (λ (x y : Bytes). x ++ (v ++ y)) front (back ∙ ap (λ (x : Bytes). w ++ x) rest)
    ∙ ap (λ (x : Bytes). take at out ++ x) (sym (append_assoc v w (drop (length (v ++ w)) (drop at out))))

pub two_placed : (out out1 out2 : Bytes) (at a b : ℕ) → at + 16 ≤ length out → out1 ≡ placed out at (big_endian 8 a)
    → out2 ≡ placed out1 (at + 8) (big_endian 8 b) → out2 ≡ placed out at (in_bytes (a ∷ b ∷ []))
unfolding flatten
two_placed out out1 out2 at a b h o1 o2 =
    then_placed out out1 out2 at (at + 8) (big_endian 8 a) (big_endian 8 b) (omega (arith, eight_long a, eight_long b)) (omega (
      arith,
      eight_long
          a,
    )) o1 o2
    ∙ ap (λ (x : Bytes). placed out at (big_endian 8 a ++ x)) (sym (append-nil (big_endian 8 b)))

pub four_placed : (out out1 out2 : Bytes) (at a b c d : ℕ) → at + 32 ≤ length out → out1 ≡ placed out at (in_bytes (a ∷ b ∷ []))
    → out2 ≡ placed out1 (at + 16) (in_bytes (c ∷ d ∷ [])) → out2 ≡ placed out at (in_bytes (a ∷ b ∷ c ∷ d ∷ []))
four_placed out out1 out2 at a b c d h o1 o2 =
    let l = bytes_long (a ∷ b ∷ []) in
    let m = bytes_long (c ∷ d ∷ []) in
    then_placed out out1 out2 at (at + 16) (in_bytes (a ∷ b ∷ [])) (in_bytes (c ∷ d ∷ [])) (omega (arith, l, m)) (omega (arith, l)) o1 o2
    ∙ ap (placed out at) (sym (bytes_append (a ∷ b ∷ []) (c ∷ d ∷ [])))

-- a number's bytes, as the code has them
pub eight_bytes : (n : ℕ)
    → n / 72057594037927936 % 256 ∷ n / 281474976710656 % 256 ∷ n / 1099511627776 % 256 ∷ n / 4294967296 % 256 ∷ n / 16777216 % 256
    ∷ n / 65536 % 256 ∷ n / 256 % 256 ∷ n % 256 ∷ []
    ≡ big_endian 8 n
unfolding big_endian
eight_bytes n =
    let e : n % 256 ≡ n / 1 % 256 = omega arith in
    ap (λ (x : ℕ). n / 72057594037927936 % 256 ∷ n / 281474976710656 % 256 ∷ n / 1099511627776 % 256 ∷ n / 4294967296 % 256
    ∷ n / 16777216 % 256 ∷ n / 65536 % 256 ∷ n / 256 % 256 ∷ x ∷ []) e
