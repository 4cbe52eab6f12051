use native.Mathlib.Omega.{arith}
use Prim.Native.Nat.{◌<◌}
use mathlib.Core.Path.{refl, ap, ◌∙◌}
use mathlib.Core.List.{[], ◌∷◌}
use lib.ListN.{length-take}
use lib.Seq.{get_or-take}
use Rattle.lists.specs.Lists.{placed}
use Rattle.pmt.specs.Answer.{no_entry}
use Rattle.pmt.specs.declared.entries.Entry.{Entry}
use Rattle.sheet.specs.Sheet.{stream_numbers, in_bytes}
use Rattle.segment_sheet.specs.Parts.{stream_at}
use Rattle.segment_sheet.proofs.Rowing.{rowing_start, rowing_room, rowing_next, rowing_done, stream_size}
use Rattle.segment_sheet.proofs.sections.put_streams.Goals as goal

pub loop-entry-init : goal.loop-entry-init
loop-entry-init c =
    let a = c.args in
    rowing_start stream_numbers 16 stream_size (stream_at a.map.entries) a.map.count a.sheet.now a.at c.requires.1

pub put_two-requires : goal.put_two-requires
put_two-requires c =
    let a = c.args in
    let h : c.loop-entry.entry-index < a.map.count = omega (arith, length-take a.map.count a.map.entries) in
    rowing_room stream_numbers 16 stream_size (stream_at a.map.entries) a.map.count c.loop-entry.invariant h

pub loop-entry-preserved : goal.loop-entry-preserved
loop-entry-preserved c =
    let a = c.args in
    let i = c.loop-entry.entry-index in
    let h : i < a.map.count = omega (arith, length-take a.map.count a.map.entries) in
    rowing_next stream_numbers 16 stream_size (stream_at a.map.entries) a.map.count c.loop-entry.invariant h _ _ refl
    (c.put_two.ensures
    ∙ ap (λ (e : Entry). placed c.loop-entry.sheet c.loop-entry.to (in_bytes (e.pid ∷ e.stream_type ∷ [])))
    (get_or-take a.map.count a.map.entries i no_entry h))

pub returns : goal.returns
returns c =
    let a = c.args in
    rowing_done stream_numbers 16 stream_size (stream_at a.map.entries) a.map.count c.loop-entry.invariant
    (omega (arith, length-take a.map.count a.map.entries))
