-- What the code keeps of a state of the rules, and what the outputs then hold, is determined by that state, the edition and what the
-- outputs held at first (`state_determined`): so a promise of `StateKept` determines all that is handed back and left. Assumes nothing.
use mathlib.Core.Path.{◌≡◌, sym, ap, ap₂, ◌∙◌}
use Rattle.lists.specs.Lists.{Bytes}
use Rattle.descriptor.specs.declared.edition.Edition.{Edition}
use Rattle.packet.specs.declared.streams.Streams.{Streams}
use Rattle.segment_rules.specs.State as state
use Rattle.segment_rules.specs.Check.{Outputs}
use Rattle.tables.specs.declared.tables.Tables.{Tables}
use Rattle.tables.specs.Tables.{tables_kept}
use Rattle.units.specs.declared.units.Extraction.{Extraction}
use Rattle.units.proofs.Determined.{units_determined}
use Rattle.extraction.specs.declared.packets.State.{State}
use Rattle.extraction.specs.Packets.{StateKept}

module _ (edition : Edition) (segment : Bytes) (before now now' : Outputs) (c c' : State) (streams streams' : Streams) (st : state.State)
  where
    pub state_determined : StateKept edition segment before now c streams st → StateKept edition segment before now' c' streams' st
        → (c ≡ c') × ((streams ≡ streams') × (now ≡ now'))
    state_determined h k =
        let units = units_determined before now now' c.extraction c'.extraction st.extraction h.extraction k.extraction in
        let tables : c.tables ≡ c'.tables =
        (h.tables.tables ∙ ap (λ (e : Edition). tables_kept e st.tables) (h.follows ∙ sym k.follows)) ∙ sym k.tables.tables in (
          ap₂ (λ (t : Tables) (x : Extraction). record { tables = t; extraction = x }) tables units.0,
          (h.tables.records ∙ sym k.tables.records, units.1),
        )
