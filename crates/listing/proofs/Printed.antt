-- 01's printed case, with the widths of 2026-03: what the lister prints "for 00 00 01 12 00 00 00 01 30 AA 00 00". Assumes nothing.
use mathlib.Core.Path.{◌≡◌, refl}
use mathlib.Core.List.{[], ◌∷◌}
use Rattle.lists.specs.Lists.{pick, any}
use Rattle.refusal.specs.Verdict.{◌>>=◌, ◌>>◌, given, at_place, in_turn}
use Rattle.emulation.specs.Payload.{above3, forbidden, legal, unescape, dropped}
use Rattle.obu.specs.Leb128.{leb128, leb_within, low_first, in_range}
use Rattle.obu.specs.Header.{fixed_bytes, size_of, header_with, sized_header, header_of, judged}
use Rattle.obu.specs.Order.{kind_of_number, after_frame, at_frame, before_frame, order_refusal}
use Rattle.tsobu.specs.StartCodes.{at_start_code, split}
use Rattle.unit.specs.Unit.{sum, read_unit}
use Rattle.tsobu.specs.TsObu.{tsobu_refusal}
use Rattle.unit.specs.Answer.{checking}
use Rattle.tsobu.specs.TsObu.{tsobu_figures}
use Rattle.listing.specs.Text.{ascii, places_from, decimal}
use Rattle.listing.specs.Listing.{header_line, obu_line, payload_lines, judging_listed, list_text}

printed : list_text (0 ∷ 0 ∷ 1 ∷ 0x12 ∷ 0 ∷ 0 ∷ 0 ∷ 1 ∷ 0x30 ∷ 0xAA ∷ 0 ∷ 0 ∷ [])
    ≡ ascii "obus 2 removed 0\n0 type 2 size 2 removed 0 width 1\n1 type 6 size 4 removed 0 width 0\n"
unfolding pick any ◌>>=◌ ◌>>◌ given at_place in_turn above3 forbidden legal unescape dropped leb128 leb_within low_first in_range
    fixed_bytes size_of header_with sized_header header_of judged kind_of_number after_frame at_frame before_frame order_refusal
    at_start_code split
    sum tsobu_refusal read_unit checking tsobu_figures places_from decimal header_line obu_line payload_lines judging_listed list_text
printed = refl
