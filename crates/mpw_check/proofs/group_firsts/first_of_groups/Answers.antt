-- Answers to the goals of `first_of_groups` in `src/group_firsts.rt`.
use Rattle.std.proofs.Common.{◌∙◌, List, length, ap, subst}
use Rattle.std.specs.Prelude.{IfSome}
use Rattle.std.specs.List.{AllZip}
use Rattle.mpw_deck.specs.declared.rule.Rule.{Rule}
use Rattle.mpw_check_groups.specs.Joined.{AreOwners}
use Rattle.mpw_check.specs.Internal.Groups.{AreGroupFirsts}
use Rattle.mpw_check.proofs.GroupLemmas.{few_owners}
use Rattle.mpw_check.proofs.GroupFirsts.{firsts_are}
use Rattle.mpw_check.proofs.group_firsts.first_of_groups.Goals as goal

pub joined_firsts-requires : goal.joined_firsts-requires
joined_firsts-requires g c =
    few_owners c.args.sought.now.snapshot.now c.args.groups.now _ c.in-Some.owners.items
    c.as_slice.result.now c.is_snapshot.ensures
    (ap (λ (rs : List Rule). length rs)
    (c.as_slice-rules.ensures ∙ c.rules.ensures ∙ ap (λ d. d.rules) c.deck.ensures))
    c.as_slice.ensures.value
    (subst (λ o. IfSome o (λ v. AreOwners c.args.groups.now (length c.as_slice-rules.result.now)
    v.items)) c.in-Some.is c.in_ok-owners.ensures)

pub returns : goal.returns
returns g c =
    firsts_are c.groups_make_the_layout.ensures c.args.sought.now.most
    c.args.sought.now.snapshot.now c.args.groups.now _
    c.in-Some.owners.items c.as_slice.result.now c.in-Some-2.firsts.items c.as_slice-2.result.now
    c.in_ok-joined.joined c.requires
    (ap (λ (rs : List Rule). length rs)
    (c.as_slice-rules.ensures ∙ c.rules.ensures ∙ ap (λ d. d.rules) c.deck.ensures))
    c.as_slice.ensures.value c.as_slice-2.ensures.value
    (subst (λ o. IfSome o (λ v. AreOwners c.args.groups.now (length c.as_slice-rules.result.now)
    v.items)) c.in-Some.is c.in_ok-owners.ensures)
    (subst (λ o. IfSome o (λ v. AllZip (AreGroupFirsts c.args.sought.now.most
    c.args.sought.now.snapshot.now) c.args.groups.now v.items)) c.in-Some-2.is
    c.in_ok-firsts.ensures)
    c.in_ok-joined.ensures
