-- Answers to the goals of `check_groups` in `src/groups.rt`.
use Rattle.std.proofs.Common.{◌∙◌, List, length, ap, sym, subst}
use Rattle.std.specs.Prelude.{IfSome}
use Rattle.std.specs.List.{AllZip}
use Rattle.mpw_deck.specs.declared.rule.Rule.{Rule}
use Rattle.mpw_job.specs.Layout.{AreLayoutMarkers}
use Rattle.mpw_check_groups.specs.Joined.{AreGroupMarkers, AreOwners}
use Rattle.mpw_check.proofs.GroupLemmas.{few_owners, joined_are}
use Rattle.mpw_check.proofs.groups.check_groups.Goals as goal

pub joined-requires : goal.joined-requires
joined-requires g c =
    few_owners c.args.snapshot.now c.args.groups.now _ c.in-Some.owners.items
    c.as_slice.result.now c.is_snapshot.ensures
    (ap (λ (rs : List Rule). length rs)
    (c.as_slice-rules.ensures ∙ c.rules.ensures ∙ ap (λ d. d.rules) c.deck.ensures))
    c.as_slice.ensures.value
    (subst (λ o. IfSome o (λ v. AreOwners c.args.groups.now (length c.as_slice-rules.result.now)
    v.items)) c.in-Some.is c.in_ok-owners.ensures)

pub from_vec-requires : goal.from_vec-requires
from_vec-requires g c =
    (joined_are c.groups_make_the_layout.ensures c.args.snapshot.now c.args.groups.now _
    c.in-Some.owners.items c.as_slice.result.now c.in-Some-2.books.items c.as_slice-2.result.now
    c.in_ok-markers.markers.items c.requires
    (ap (λ (rs : List Rule). length rs)
    (c.as_slice-rules.ensures ∙ c.rules.ensures ∙ ap (λ d. d.rules) c.deck.ensures))
    c.as_slice.ensures.value c.as_slice-2.ensures.value
    (subst (λ o. IfSome o (λ v. AreOwners c.args.groups.now (length c.as_slice-rules.result.now)
    v.items)) c.in-Some.is c.in_ok-owners.ensures)
    (subst (λ o. IfSome o (λ v. AllZip (AreGroupMarkers c.args.snapshot.now) c.args.groups.now
    v.items)) c.in-Some-2.is c.in_ok-books.ensures)
    c.in_ok-markers.ensures).book

pub returns : goal.returns
returns g c =
    subst (AreLayoutMarkers c.args.snapshot.now) (sym c.in_ok-from_vec.ensures)
    (joined_are c.groups_make_the_layout.ensures c.args.snapshot.now c.args.groups.now _
    c.in-Some.owners.items c.as_slice.result.now c.in-Some-2.books.items c.as_slice-2.result.now
    c.in_ok-markers.markers.items c.requires
    (ap (λ (rs : List Rule). length rs)
    (c.as_slice-rules.ensures ∙ c.rules.ensures ∙ ap (λ d. d.rules) c.deck.ensures))
    c.as_slice.ensures.value c.as_slice-2.ensures.value
    (subst (λ o. IfSome o (λ v. AreOwners c.args.groups.now (length c.as_slice-rules.result.now)
    v.items)) c.in-Some.is c.in_ok-owners.ensures)
    (subst (λ o. IfSome o (λ v. AllZip (AreGroupMarkers c.args.snapshot.now) c.args.groups.now
    v.items)) c.in-Some-2.is c.in_ok-books.ensures)
    c.in_ok-markers.ensures)
