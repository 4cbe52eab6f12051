-- The header that was read is the definition's; the tries that follow are those of the definition, in its order.
use Rattle.std.proofs.Common.{rules}
use Rattle.lists.specs.Lists.{pick}
use Rattle.refusal.specs.Verdict.{◌>>=◌, ◌>>◌, given}
use Rattle.obu.specs.Header.{judged}
use Rattle.obu.proofs.header.judge.Goals as goal

pub returns-in_err-header : goal.returns-in_err-header
unfolding judged ◌>>=◌
returns-in_err-header c = search rules

pub returns-then-size_wrong : goal.returns-then-size_wrong
unfolding judged ◌>>=◌ ◌>>◌ given pick
returns-then-size_wrong c = search rules

pub returns-then-delimiter_with_content : goal.returns-then-delimiter_with_content
unfolding judged ◌>>=◌ ◌>>◌ given pick
returns-then-delimiter_with_content c = search rules

pub returns-then-header-eq-TILE_LIST : goal.returns-then-header-eq-TILE_LIST
unfolding judged ◌>>=◌ ◌>>◌ given pick
returns-then-header-eq-TILE_LIST c = search rules

pub returns-then-content_missing : goal.returns-then-content_missing
unfolding judged ◌>>=◌ ◌>>◌ given pick
returns-then-content_missing c = search rules

pub returns-then-reduced_still : goal.returns-then-reduced_still
unfolding judged ◌>>=◌ ◌>>◌ given pick
returns-then-reduced_still c = search rules

pub returns : goal.returns
unfolding judged ◌>>=◌ ◌>>◌ given pick
returns c = search rules
