-- An AV1 payload goes to the PES, another to the sections.
use Rattle.std.proofs.Common.{rules}
use mathlib.Core.Path.{◌≡◌, refl, sym, ap, subst, ◌∙◌}
use Rattle.packet.specs.declared.header.Header.{Header}
use Rattle.packet.specs.Header.{payload}
use Rattle.descriptor.specs.Naming.{edition_says}
use Rattle.descriptor.specs.declared.edition.Edition.{Edition}
use Rattle.segment_rules.specs.Rules.{is_av1, is_pcr}
use Rattle.segment_rules.specs.Check.{outputs_of}
use Rattle.tables.specs.declared.state.Kind.{Kind}
use Rattle.tables.specs.Tables.{TablesResult, kind_says, placed_at}
use Rattle.tables.proofs.Refining.{never_passed}
use Rattle.units.specs.Extraction.{ExtractionResult, PayloadRefines}
use Rattle.extraction.proofs.Stepping.{pcr_here, pcr_known, of_another_kind, content_taken, content_read}
use Rattle.extraction.proofs.packets.State.take_content.Goals as goal

pub returns-in-Av1 : goal.returns-in-Av1
returns-in-Av1 c =
    let a = c.args in
    let k = a.packet in
    let taken = c.take_payload in
    let r : ExtractionResult = record { extraction = taken.new.self; outcome = taken.result } in
    let now = outputs_of a.out.now a.lens.now a.times.now in
    let after = outputs_of taken.new.out taken.new.lens taken.new.times in (
      (λ edition before p st same e h s.
          content_taken s k.index p h k.kind r after (ap (λ (x : Kind). is_av1 (kind_says x)) c.in-Av1.is)
          (subst (λ (x : Edition). PayloadRefines (edition_says x) k.header.start k.index c.payload-payload.result.now c.is_some.result
          a.self.now.extraction now r after) s.follows
          taken.ensures.0 before p st
          (record {
            carries = h;
            starts = sym (ap (λ (x : Header). x.start) e);
            same = c.payload-payload.ensures ∙ ap payload (c.packet_at.ensures ∙ sym same);
          })
          (ap is_pcr (pcr_here s) ∙ pcr_known a.self.now.tables.pcr ∙ sym c.is_some.ensures) s.extraction)),
      ((λ k p. never_passed _ (taken.ensures.1.0 k) p), (λ q k. (taken.ensures.1.1 q k).1)),
    )

pub returns : goal.returns
returns c =
    let a = c.args in
    let k = a.packet in
    let r : TablesResult = record { tables = c.read_section.new.self; outcome = c.read_section.result } in
    let placed : c.map_err.result ≡ placed_at k.index c.read_section.result = search rules in (
      (λ edition before p st same e h s.
          content_read s k.index p h k.kind r _ k.header.start c.payload-payload.result.now c.map_err.result
          (of_another_kind k.kind c.in_default.not-Av1) same
          (ap (λ (x : Header). x.start) e)
          (c.payload-payload.ensures ∙ ap payload (c.packet_at.ensures ∙ sym same))
          placed c.read_section.ensures.section_refines),
      ((λ k p. (refl, refl)), (λ q k. refl)),
    )
