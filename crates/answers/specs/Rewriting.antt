-- The C struct of a rewrite, for each verdict. Assumes nothing.
use Rattle.refusal.specs.Verdict.{Verdict, passed, refused}
use mir.Val.{bool_byte}
use Rattle.descriptor.specs.declared.rewriting.Outcome.{Outcome}
use Rattle.answers.specs.declared.rewriting.RewriteAnswer.{RewriteAnswer}

-- count: the bytes written; «dropped_delay» 1: a delay was dropped, 0: there was none
abbrev pub rewrite_answer : Verdict Outcome → RewriteAnswer
rewrite_answer (passed w) =
    record { number = 0; place = 0; count = w.bytes; dropped_delay = bool_byte w.dropped_delay }
rewrite_answer (refused number place) = record { number = number; place = place; count = 0; dropped_delay = 0 }
