-- The slots of fewer grants are there.
use Rattle.std.proofs.Common.{◌≡◌, ◌∙◌, sym, ap, subst, not}
use Rattle.std.proofs.lemmas.Result.{MatchResult-weaker}
use Rattle.mpw_permissions.specs.Grant.{grant_eq, without_grant}
use Rattle.mpw_permissions.specs.Internal.Grants.{AreCovered}
use Rattle.mpw_permissions.proofs.BlockLemmas.{covered-less, without-none}
use Rattle.mpw_permissions.proofs.block.Block.without.Goals as goal

pub returns-then-not-contains : goal.returns-then-not-contains
returns-then-not-contains c =
    let none = without-none c.args.self.now c.args.grant.now
    (sym c.contains.ensures ∙ c.if-not-contains.true) in
    MatchResult-weaker c.clone.result c.clone.ensures.cases (λ same is. is ∙ none) (λ _ _. tt)

pub of-requires : goal.of-requires
of-requires c =
    let in' = c.self.inside in
    let grant = c.args.grant.now in
    let is : c.take_back.new.grants.items ≡ without_grant in'.grants.value.items grant =
    c.take_back.ensures ∙ ap (λ l. without_grant l grant)
    (c.in_ok-grants.ensures ∙ c.as_slice.ensures ∙ sym c.self.view_is) in
    subst (AreCovered in'.objects in'.roles) (sym is)
    (covered-less in'.objects in'.roles (λ other. not (grant_eq grant other)) in'.grants.value.items
    c.self.invariant)
