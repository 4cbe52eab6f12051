-- The register goes on over the chunks of sixteen bytes, those of four, and the bytes that are left.
use mathlib.Core.Path.{◌≡◌, ◌∙◌}
use Rattle.std.proofs.Common.{rules}
use Rattle.std.proofs.iter.runs.Made.{chains}
use Rattle.std.specs.List.{fold}
use Rattle.crc.specs.Crc.{byte_step, crc_from}
use Rattle.crc.proofs.Appending.{by_chunks, by_bytes}
use Rattle.crc.proofs.crc32.Goals as goal

pub returns : goal.returns
returns c =
    let s = c.args.bytes.now in
    let t = c.as_chunks.result.1.now in
    let sixteens : c.fold-register.result ≡ fold crc_from 0xFFFF_FFFF c.as_chunks.result.0.now = search (rules, chains) in
    let fours : c.fold-register-2.result ≡ fold crc_from c.fold-register.result c.as_chunks-2.result.0.now = search (rules, chains) in
    let bytes : c.fold.result ≡ fold byte_step c.fold-register-2.result c.as_chunks-2.result.1.now = search (rules, chains) in
    bytes ∙ by_bytes c.fold-register-2.result c.as_chunks-2.result.1.now
    ∙ by_chunks 4 c.fold-register.result c.fold-register-2.result c.as_chunks.result.1.now c.as_chunks-2.result.1.now
    c.as_chunks-2.result.0.now fours c.as_chunks-2.ensures.front c.as_chunks-2.ensures.back
    ∙ by_chunks 16 0xFFFF_FFFF c.fold-register.result c.args.bytes.now c.as_chunks.result.1.now c.as_chunks.result.0.now sixteens
    c.as_chunks.ensures.front c.as_chunks.ensures.back
