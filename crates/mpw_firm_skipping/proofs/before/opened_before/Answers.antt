-- Answers to the goals of `opened_before` in `src/before.rt`.
use Rattle.std.proofs.Common.{◌∙◌, ◌≤◌, ◌<◌, sym, ap, subst}
use Rattle.mpw_records.specs.Records.{seen}
use Rattle.mpw_firm_skipping.specs.Before.{opened_until}
use Rattle.mpw_firm_skipping.proofs.Finding.{opened_end, opened_more, opened_there}
use Rattle.mpw_firm_skipping.proofs.before.opened_before.Goals as goal

pub returns-then-offset_of-offset : goal.returns-then-offset_of-offset
returns-then-offset_of-offset c =
    sym (opened_there c.args.offset c.loop-found.opened c.loop-found.finds c.next.new.self
    (seen c.in-Some.found) c.in-Some.ensures.some
    (subst (λ n. c.args.offset ≤ n) c.offset_of.ensures c.if-offset_of-offset.true))
    ∙ c.loop-found.invariant

pub loop-found-preserved : goal.loop-found-preserved
loop-found-preserved c =
    ap (λ o. opened_until c.args.offset o c.next.new.self) c.opened_after-opened.ensures
    ∙ sym (opened_more c.args.offset c.loop-found.opened c.loop-found.finds c.next.new.self
    (seen c.in-Some.found) c.in-Some.ensures.some
    (subst (λ n. n < c.args.offset) c.offset_of.ensures c.if-offset_of-offset.false))
    ∙ c.loop-found.invariant

pub returns : goal.returns
returns c =
    sym (opened_end c.args.offset c.loop-found.opened c.loop-found.finds c.in_default.ensures.none)
    ∙ c.loop-found.invariant
