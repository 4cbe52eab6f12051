-- The header is read; a packet that passed 21, 22 and 23 goes on with its counter and content.
use mathlib.Core.Bool.{false}
use mathlib.Core.Path.{◌≡◌, refl}
use lib.ListN.{length}
use Rattle.std.proofs.lemmas.Result.{err_from_is_err_and}
use Rattle.lists.proofs.Tests.{clash}
use Rattle.descriptor.specs.Naming.{edition_says}
use Rattle.packet.specs.Header.{packet_at}
use Rattle.segment_rules.specs.Check.{rooms_of}
use Rattle.extraction.specs.Packets.{no_packet}
use Rattle.extraction.proofs.Stepping.{header_refused, header_right, packet_refused, packet_passed, packet_there}
use Rattle.extraction.proofs.packets.State.step_at.Goals.{Else-segment-index}
use Rattle.extraction.proofs.packets.State.step_at.Goals as goal

inside : (c : Else-segment-index) → let a = c.args in no_packet (length a.segment.now) a.index ≡ false
inside c =
    let a = c.args in
    packet_there (length a.segment.now) a.index c.if-segment-index.false

pub returns-in_err-header : goal.returns-in_err-header
returns-in_err-header c =
    let a = c.args in
    let within = inside (goal.at.returns-in_err-header c).Else-segment-index in
    let x = err_from_is_err_and c.from_residual.result c.from_residual.ensures.1 in
    rw (x.1, x.2) (
      (λ there edition before st s.
          header_refused a.segment.now a.index (edition_says edition) (rooms_of before) st _ _ c.in_err-header.ensures),
      ((λ k. clash k within), ((λ k p. (refl, refl)), (λ q k. refl))),
    )

pub returns-in_err-step_read : goal.returns-in_err-step_read
returns-in_err-step_read c =
    let a = c.args in
    let p = packet_at a.segment.now a.index in
    let within = inside (goal.at.returns-in_err-step_read c).Else-segment-index in
    let x = err_from_is_err_and c.from_residual-in_err-step_read.result c.from_residual-in_err-step_read.ensures.1 in
    rw (x.1, x.2) (
      (λ there edition before st s.
          let right = header_right a.segment.now a.index _ c.in_ok-header.ensures in
          let says = c.kind_of-kind.ensures a.segment.now st.tables s.tables in
          packet_refused (edition_says edition) (rooms_of before) p a.index st _ c.kind_of-kind.result right says.0 _
          (c.in_err-step_read.ensures.0 edition before p st refl right says.1 s)),
      ((λ k. clash k within), c.in_err-step_read.ensures.1),
    )

pub returns : goal.returns
returns c =
    let a = c.args in
    let p = packet_at a.segment.now a.index in
    let within = inside (goal.at.returns c).Else-segment-index in (
      (λ there edition before st s.
          let right = header_right a.segment.now a.index _ c.in_ok-header.ensures in
          let says = c.kind_of-kind.ensures a.segment.now st.tables s.tables in
          packet_passed (edition_says edition) (rooms_of before) p a.index st _ c.kind_of-kind.result right says.0 _
          (c.in_ok-step_read.ensures.0 edition before p st refl right says.1 s)),
      ((λ k. clash k within), c.in_ok-step_read.ensures.1),
    )
