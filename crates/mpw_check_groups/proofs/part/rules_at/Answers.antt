-- Answers to the goals of `rules_at` in `src/part.rt`.
use Rattle.std.proofs.Common.{◌∙◌, Some, ap, sym}
use Rattle.std.specs.Prelude.{option_copied}
use Rattle.mpw_check_groups.proofs.Ruled.{rules_more}
use Rattle.mpw_check_groups.proofs.part.rules_at.Goals as goal

pub loop-place-preserved : goal.loop-place-preserved
loop-place-preserved c =
    rules_more c.args.rules.now c.args.places.now c.loop-place.place-index _ c.loop-place.found.items
    c.push.new.self.items c.in_ok-copy-in-Some.field-0 c.loop-place-test.true
    c.in_ok-push-in-Some.ensures.items
    (sym c.rule_at.ensures ∙ ap option_copied c.in-Some.is
    ∙ ap (λ x. Some x) (sym c.in_ok-copy-in-Some.ensures))
    c.requires c.loop-place.invariant
