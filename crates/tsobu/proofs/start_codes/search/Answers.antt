-- Up to the place that is found nearby nothing is forbidden and nothing dropped; what is forbidden there is the first forbidden sequence,
-- and what is found from there on is found from the front on.
use Rattle.tsobu.proofs.Scanning.{search_found, search_on}
use Rattle.tsobu.proofs.start_codes.search.Goals as goal

pub returns : goal.returns
returns c = record {
  place_value = (search_on _ _ _ _ _ c.near_pair-near.ensures c.first_forbidden-2.ensures.place_value
      c.first_forbidden-2.ensures.count_value).0;
  count_value = (search_on _ _ _ _ _ c.near_pair-near.ensures
      c.first_forbidden-2.ensures.place_value c.first_forbidden-2.ensures.count_value).1;
}

pub returns-then-forbidden_at : goal.returns-then-forbidden_at
returns-then-forbidden_at c = record {
  place_value = (search_found _ _ _ c.near_pair-near.ensures
      (c.forbidden_at.ensures c.if-forbidden_at.true)).0;
  count_value
      = (search_found _ _ _ c.near_pair-near.ensures (c.forbidden_at.ensures c.if-forbidden_at.true)).1;
}
