-- Answers to the goals of `owner_of` in `src/joining.rt`.
use Rattle.std.proofs.Common.{rules, ◌≡◌, ℕ, List, Some, subst}
use Rattle.std.specs.Prelude.{slice_get, IfSome}
use Rattle.mpw_check_groups.proofs.Owning.{owner_at}
use Rattle.mpw_check_groups.proofs.joining.owner_of.Goals as goal

pub returns-in-Some : goal.returns-in-Some
returns-in-Some c =
    owner_at c.args.groups.now c.args.rule c.loop-group.group c.in-Some.place _ (search rules)
    (subst (λ (xs : List ℕ). slice_get xs c.in-Some.place ≡ Some c.args.rule)
    c.as_slice.ensures.value
    (subst (λ o. IfSome o (λ index. slice_get c.as_slice.result.now index ≡ Some c.args.rule))
    c.in-Some.is c.place_among.ensures))
