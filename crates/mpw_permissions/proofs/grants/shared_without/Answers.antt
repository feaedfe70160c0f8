-- If the grant isn't there, nothing is removed.
use Rattle.std.proofs.Common.{◌∙◌, ap, sym}
use Rattle.std.specs.List.{list_any, flat_map}
use Rattle.std.proofs.lemmas.Result.{MatchResult-weaker}
use Rattle.mpw_permissions.specs.Grant.{grant_eq}
use Rattle.mpw_permissions.proofs.BlockLemmas.{without-none}
use Rattle.mpw_permissions.proofs.grants.shared_without.Goals as goal

pub returns-then-not-is_among : goal.returns-then-not-is_among
returns-then-not-is_among c =
    let grant = c.args.grant.now in
    let old = c.args.blocks.now.value.items in
    let same = c.deref-2.ensures.value ∙ ap (λ t. t.items) c.deref.ensures in
    let none = without-none (flat_map (λ b. b) old) grant
    (ap (λ l. list_any (grant_eq grant) (flat_map (λ b. b) l)) (sym same)
    ∙ sym c.is_among.ensures ∙ c.if-not-is_among.true) in
    MatchResult-weaker c.clone.result c.clone.ensures.cases
    (λ left is. ap (λ t. flat_map (λ b. b) t.items) is ∙ none) (λ _ _. tt)
