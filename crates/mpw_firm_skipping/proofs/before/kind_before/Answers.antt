-- Answers to the goals of `kind_before` in `src/before.rt`.
use Rattle.std.proofs.Common.{◌∙◌, ◌≤◌, ◌<◌, sym, ap, subst}
use Rattle.mpw_records.specs.Records.{seen}
use Rattle.mpw_firm_skipping.specs.Before.{kind_until}
use Rattle.mpw_firm_skipping.proofs.Finding.{kind_end, kind_more, kind_there}
use Rattle.mpw_firm_skipping.proofs.before.kind_before.Goals as goal

pub returns-then-offset_of-offset : goal.returns-then-offset_of-offset
returns-then-offset_of-offset c =
    sym (kind_there c.args.offset c.loop-found.last c.loop-found.finds c.next.new.self
    (seen c.in-Some.found) c.in-Some.ensures.some
    (subst (λ n. c.args.offset ≤ n) c.offset_of.ensures c.if-offset_of-offset.true))
    ∙ c.loop-found.invariant

pub loop-found-preserved : goal.loop-found-preserved
loop-found-preserved c =
    ap (λ last. kind_until c.args.offset last c.next.new.self) c.kind_of-last.ensures
    ∙ sym (kind_more c.args.offset c.loop-found.last c.loop-found.finds c.next.new.self
    (seen c.in-Some.found) c.in-Some.ensures.some
    (subst (λ n. n < c.args.offset) c.offset_of.ensures c.if-offset_of-offset.false))
    ∙ c.loop-found.invariant

pub returns : goal.returns
returns c =
    sym (kind_end c.args.offset c.loop-found.last c.loop-found.finds c.in_default.ensures.none)
    ∙ c.loop-found.invariant
