-- What is written reads as the content's numbers. Assumes nothing.
use Prim.Native.Nat.{ℕ, ◌/◌, ◌%◌, ◌^◌, ◌<◌, ◌≤◌}
use mathlib.Core.Bool.{false}
use mathlib.Core.Path.{◌≡◌, refl, sym, ap, ◌∙◌}
use mathlib.Core.List.{flatten}
use native.Mathlib.Omega.{arith}
use lib.Pow.{shr-shr}
use lib.ListN.{drop}
use Rattle.lists.specs.Lists.{pick}
use Rattle.lists.specs.Bytes.{word}
use Rattle.refusal.specs.Verdict.{passed}
use Rattle.refusal.proofs.Verdicts.{passed_after, given_passed}
use Rattle.obu.specs.Leb128.{leb_of, leb128, leb_within, in_range}
use Rattle.mastering.specs.declared.numbers.Numbers.{Numbers}
use Rattle.mastering.specs.declared.steps.Steps.{Steps}
use Rattle.mastering.specs.Content.{bytes2, bytes4, content_of, body_wrong, numbers_of, numbers_in}
use Rattle.mastering.specs.Figures.{figures_of, reading}
use Rattle.mastering.specs.Steps.{greatest, numbers_from, steps_past, writing}
use Rattle.mastering.proofs.Bounds.{Widths, widths}
use Rattle.mastering.proofs.Readings.{numbers, figures}

bytes2_back : (n : ℕ) → n < 65536 → word (n / 2 ^ 8 % 256) (n % 256) ≡ n
bytes2_back n h = omega arith

joined : (x : ℕ) → word (x / 2 ^ 8) (x % 256) ≡ x
joined x = omega arith

top_byte : (n : ℕ) → n ≤ greatest → n / 2 ^ 8 / 2 ^ 8 / 2 ^ 8 % 256 ≡ n / 2 ^ 8 / 2 ^ 8 / 2 ^ 8
top_byte n h = omega arith

bytes4_back : (n : ℕ) → n ≤ greatest → word (word (word (n / 2 ^ 24 % 256) (n / 2 ^ 16 % 256)) (n / 2 ^ 8 % 256)) (n % 256) ≡ n
bytes4_back n h =
    let second : n / 2 ^ 16 ≡ n / 2 ^ 8 / 2 ^ 8 = sym (shr-shr n 8 8) in
    let third : n / 2 ^ 24 ≡ n / 2 ^ 8 / 2 ^ 8 / 2 ^ 8 = sym (shr-shr n 16 8) ∙ ap (λ (x : ℕ). x / 2 ^ 8) second in
    ap (λ (x : ℕ). word (word (word (x % 256) (n / 2 ^ 16 % 256)) (n / 2 ^ 8 % 256)) (n % 256)) third
    ∙ ap (λ (x : ℕ). word (word (word (n / 2 ^ 8 / 2 ^ 8 / 2 ^ 8 % 256) (x % 256)) (n / 2 ^ 8 % 256)) (n % 256)) second
    ∙ ap (λ (x : ℕ). word (word (word x (n / 2 ^ 8 / 2 ^ 8 % 256)) (n / 2 ^ 8 % 256)) (n % 256)) (top_byte n h)
    ∙ ap (λ (x : ℕ). word (word x (n / 2 ^ 8 % 256)) (n % 256)) (joined (n / 2 ^ 8 / 2 ^ 8))
    ∙ ap (λ (x : ℕ). word x (n % 256)) (joined (n / 2 ^ 8))
    ∙ joined n

module _ (n : Numbers) where
  type_back : leb128 (content_of n) ≡ leb_of 2 1
  unfolding leb128 leb_within in_range pick content_of flatten bytes2 bytes4
  type_back = refl

  body_right : body_wrong (drop 1 (content_of n)) ≡ false
  unfolding body_wrong content_of flatten bytes2 bytes4
  body_right = refl

  numbers_back : Widths n → numbers_of (drop 1 (content_of n)) ≡ n
  unfolding numbers_of content_of flatten bytes2 bytes4
  numbers_back w =
      rw (
        bytes2_back n.red_x w.red_x,
        bytes2_back n.red_y w.red_y,
        bytes2_back n.green_x w.green_x,
        bytes2_back n.green_y w.green_y,
        bytes2_back n.blue_x w.blue_x,
        bytes2_back n.blue_y w.blue_y,
        bytes2_back n.white_x w.white_x,
        bytes2_back n.white_y w.white_y,
        bytes4_back n.luminance_max w.luminance_max,
        bytes4_back n.luminance_min w.luminance_min,
      )

  -- the content of numbers within their bits reads as those numbers, and as their figures
  pub content_back : Widths n → numbers_in (content_of n) ≡ passed n
  content_back w = numbers (content_of n) _ type_back refl body_right ∙ ap passed (numbers_back w)

  pub figures_back : Widths n → reading (content_of n) ≡ passed (figures_of n)
  figures_back w = sym (figures (content_of n) _ type_back refl body_right) ∙ ap (λ m. passed (figures_of m)) (numbers_back w)

-- what is written reads as the numbers that were written, and as their figures
pub written_read : (s : Steps) (room count : ℕ) → writing s room ≡ passed count
    → (numbers_in (content_of (numbers_from s)) ≡ passed (numbers_from s))
    × (reading (content_of (numbers_from s)) ≡ passed (figures_of (numbers_from s)))
unfolding writing
written_read s room count e =
    let w = widths s (given_passed 49 (steps_past s) (passed_after _ _ count e).0) in
    (content_back (numbers_from s) w, figures_back (numbers_from s) w)
