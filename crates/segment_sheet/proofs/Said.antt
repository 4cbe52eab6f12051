-- Where the header from a place on says a size, the payload there has so many bytes, and a search behind them finds the same end. Assumes
-- nothing.
use Rattle.refusal.specs.declared.Refused.{Refused}
use Rattle.std.specs.Prelude.{Result, Ok, Some}
use Rattle.refusal.specs.Number.{says}
use Prim.Native.Nat.{ℕ, ◌+◌, ◌-◌, ◌≤◌}
use mathlib.Core.Path.{◌≡◌, sym, ap, ◌∙◌}
use native.Mathlib.Omega.{arith}
use lib.ListN.{length, take, drop, length-drop}
use Rattle.lists.specs.Lists.{Bytes}
use Rattle.lists.proofs.Parts.{to_end}
use Rattle.refusal.specs.Verdict.{passed}
use Rattle.obu.specs.declared.header.Header.{Header}
use Rattle.obu.specs.declared.leb128.Leb128.{Leb128}
use Rattle.obu.specs.Header.{header_of}
use Rattle.tsobu.specs.StartCodes.{payloads, split, code_from}
use Rattle.tsobu.specs.TsObu.{tsobu_refusal}
use Rattle.tsobu.proofs.Splits.{joined, split_whole}
use Rattle.tsobu.proofs.Places.{before, before_short}
use Rattle.tsobu.proofs.Sizes.{size_within, search_behind}

-- what was read from the place on is this header
pub record Says (s : Bytes) (start : ℕ) (h : Header) (l : Leb128) : Type 0 where
  pub within : start ≤ length s
  pub passes : tsobu_refusal (split (drop start s)).before ≡ passed tt
  pub read : header_of (drop start s) ≡ passed h
  pub size : h.size ≡ Some l

pub says_size : (s : Bytes) (start : ℕ) (q : Result Header Refused) (h : Header) (l : Leb128)
    → (start ≤ length s) × (tsobu_refusal (split (drop start s)).before ≡ passed tt)
    → says q ≡ header_of (take (length s - start) (drop start s)) → q ≡ Ok h → h.size ≡ Some l
    → Says s start h l
says_size s start q h l a e f z =
    record {
      within = a.0;
      passes = a.1;
      read = ap header_of (sym (to_end s start)) ∙ sym e ∙ ap says f;
      size = z;
    }

module _ {s : Bytes} {start : ℕ} {h : Header} {l : Leb128} (a : Says s start h l) where
  said_fits : h.content + l.value ≤ before (drop start s)
  said_fits =
      size_within (split (drop start s)).before (joined (payloads (drop start s))) a.passes h l
      (ap header_of (sym (split_whole (drop start s))) ∙ a.read) a.size

  pub said_room : start + h.content + l.value ≤ length s
  said_room = omega (arith, a.within, said_fits, before_short (drop start s), length-drop start s)

  pub said_end : code_from s (start + h.content + l.value) ≡ code_from s start
  said_end =
      let e : start + h.content + l.value ≡ start + (h.content + l.value) = omega arith in
      ap (code_from s) e ∙ search_behind (h.content + l.value) start s said_fits
