-- Which group has a rule.
use Rattle.std.proofs.Common.{◌≡◌, ◌∙◌, ℕ, ◌+◌, ◌<◌, List, [], ◌∷◌, ◌++◌, length, get_or, Some, None, inl, inr, refl, sym, ap, subst, arith}
use Rattle.std.specs.Prelude.{slice_get}
use Rattle.std.proofs.lemmas.Bool.{cases_lt}
use Rattle.std.proofs.lemmas.List.{get_or_append_left, get_or_push, length_push}
use Rattle.std.proofs.lemmas.Option.{get_or_from_slice_get, slice_get-get_or, slice_get_within}
use Rattle.mpw_check_groups.specs.declared.group.Group.{Group}
use Rattle.mpw_check_groups.specs.declared.joining.Owner.{Owner}
use Rattle.mpw_check_groups.specs.Joined.{AreOwners, IsOwner}

pub owner_at : (groups : List Group) (rule group place : ℕ) (d : Group) → group < length groups
    → slice_get (get_or groups group d).rules.items place ≡ Some rule
    → IsOwner groups rule (record { group = group; place = place })
owner_at groups rule group place d inside is = record {
  group = get_or groups group d;
  at = slice_get-get_or groups group d inside;
  place = is;
}

pub owners_none : (groups : List Group) (owners : List Owner) → owners ≡ []
    → AreOwners groups 0 owners
owners_none groups owners none = subst (AreOwners groups 0) (sym none) (record {
  long = refl;
  each = λ rule o e. absurd (let clash : None ≡ Some o = e in cc);
})

pub owners_more : (groups : List Group) (n : ℕ) (owners new : List Owner) (o : Owner)
    → IsOwner groups n o → new ≡ owners ++ o ∷ [] → AreOwners groups n owners
    → AreOwners groups (n + 1) new
owners_more groups n owners new o is pushed are = subst (AreOwners groups (n + 1)) (sym pushed)
    (record {
      long = length_push owners o ∙ ap (λ k. k + 1) are.long;
      each = λ rule other e.
          let within = slice_get_within (owners ++ o ∷ []) rule other e in
          let found = get_or_from_slice_get (owners ++ o ∷ []) rule other o e in
          let longer = length_push owners o in
          let long = are.long in
          elim (cases_lt rule (length owners)) as (λ t. IsOwner groups rule other) [
            | inl less ↦ are.each rule other
                (slice_get-get_or owners rule o less
                ∙ ap (λ x. Some x) (sym (get_or_append_left owners (o ∷ []) o rule less) ∙ found))
            | inr more ↦
                let last : length owners ≡ rule = omega (arith, more, within, longer) in
                let number : n ≡ rule = omega (arith, long, last) in
                subst (λ (r : ℕ). IsOwner groups r other) number
                (subst (IsOwner groups n) (sym (get_or_push owners o o rule last) ∙ found) is)
          ];
    })
