-- The copy of the masks is joined.
use Rattle.std.proofs.Common.{◌≡◌, ◌∙◌, sym, ap, subst, true≢false, is_some, ℕ, ◌<◌, ◌||◌, ◌&&◌, ◌++◌, List, length, arith}
use Rattle.mpw_geom.specs.Names.{name_eq}
use Rattle.mpw_roles.specs.Hierarchy.{role_names, with_pair}
use Rattle.mpw_roles.specs.Mask.{has}
use Rattle.mpw_roles.specs.Places.{mask_at}
use Rattle.mpw_roles.specs.declared.mask.Mask.{Mask}
use Rattle.mpw_roles.proofs.PositionLemmas.{position-any}
use Rattle.mpw_roles.proofs.PlacesLemmas.{written-back}
use Rattle.mpw_rbac.specs.Masked.{AreBelow}
use Rattle.mpw_rbac.proofs.MaskedLemmas.{are-joined}
use Rattle.mpw_rbac.proofs.users.joined_masks.Goals as goal

pub returns-in_default : goal.returns-in_default
returns-in_default c = λ lists are. absurd (true≢false (sym (ap is_some c.in_default.ensures.place
    ∙ position-any (name_eq c.args.senior.now) (role_names c.args.roles.now) ∙ c.requires)))

pub returns : goal.returns
returns c = λ lists are.
    let new = c.join_masks.new.masks in
    let long = c.join_masks.ensures.long in
    let next = c.extend_from_slice.new.self in
    let copied = c.deref_mut.ensures.value ∙ c.in_ok-extend_from_slice.ensures.items
    ∙ (λ t. c.in_ok-next.ensures.items t ++ c.args.masks.now) in
    subst (λ l. AreBelow (with_pair c.args.roles.now c.args.senior.now c.args.junior.now) lists l)
    (sym (written-back new next.items next.len (omega arith) (omega arith)))
    (are-joined c.args.roles.now c.args.senior.now c.args.junior.now c.in-Some.place lists
    c.args.masks.now new c.mask.result c.requires c.in-Some.ensures.place c.mask.ensures are
    (long ∙ ap length copied)
    (subst (λ (old : List Mask). (p : ℕ) → p < length old → (q : ℕ) → has (mask_at new p) q
    ≡ (has (mask_at old p) q || (has (mask_at old p) c.in-Some.place && has c.mask.result q)))
    copied c.join_masks.ensures.joined))
