-- The blocks and the places after them are two passes, the second from where the first stopped; `Lawful` adds them up.
use Rattle.emulation.proofs.Judging.{lawful_then, lawful_first, lawful_dropped, lawful_behind}
use Rattle.emulation.proofs.unescaping.first_forbidden.Goals as goal

pub returns-then-s-from : goal.returns-then-s-from
returns-then-s-from c = record {
  place_value = (lawful_behind c.args.s.now c.args.from c.if-s-from.true).0;
  count_value =
      (lawful_behind c.args.s.now c.args.from c.if-s-from.true).1;
}

pub returns : goal.returns
returns c =
    let whole = lawful_then _ _ _ _ _ _ c.lawful_blocks-blocks.ensures
    c.lawful_places-rest.ensures.lawful in
    record {
      place_value = lawful_first _ _ _ _ whole c.lawful_places-rest.ensures.s_value;
      count_value = lawful_dropped _ _ _ _ whole
          c.lawful_places-rest.ensures.s_value;
    }
