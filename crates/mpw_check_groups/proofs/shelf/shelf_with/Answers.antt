-- Answers to the goals of `shelf_with` in `src/shelf.rt`.
use Rattle.std.proofs.Common.{◌≡◌, [], subst}
use Rattle.std.specs.Prelude.{IfSome}
use Rattle.mpw_check_groups.proofs.Staying.{none_bound}
use Rattle.mpw_check_groups.proofs.shelf.shelf_with.Goals as goal

pub put-requires-clause-bound : goal.put-requires-clause-bound
put-requires-clause-bound c =
    none_bound c.new-shelf.result c.in-Some.outline.names c.args.submission.bound
    (subst (λ o. IfSome o (λ outline. outline.names ≡ [])) c.in-Some.is
    c.in_ok-outline.ensures.whole)
    c.requires.unbound
