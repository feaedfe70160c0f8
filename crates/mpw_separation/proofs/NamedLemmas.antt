-- Sets with their names as keys.
use Rattle.std.proofs.Common.{◌≡◌, Bool, true, false, cond, not, ◌||◌, List, [], ◌∷◌, ◌++◌, filter, is_some, None, Some, refl, sym, ap, subst, ◌∙◌, true≢false}
use Rattle.std.specs.List.{list_any}
use Rattle.std.specs.Map.{lookup, values_of, remove_entry}
use Rattle.std.proofs.lemmas.Map.Entries.{lookup_tail}
use Rattle.indexmap.specs.IndexMap.{insert_entry}
use Rattle.mpw_geom.specs.Names.{name_eq}
use Rattle.mpw_roles.specs.Hierarchy.{Name}
use Rattle.mpw_separation.specs.Internal.{with_names}
use Rattle.mpw_separation.specs.Separation.{has_set}
use Rattle.mpw_separation.specs.Set.{SeparationSet}

pub values-with_names : (sets : List SeparationSet) → values_of (with_names sets) ≡ sets
values-with_names [] = refl
values-with_names (set ∷ sets) = ap (λ (l : List SeparationSet). set ∷ l) (values-with_names sets)

-- entries that are sets with their names are their own values with their names
pub with_names-values : (es : List (Name × SeparationSet)) (sets : List SeparationSet)
    → es ≡ with_names sets → es ≡ with_names (values_of es)
with_names-values es sets is = is ∙ ap with_names (sym (ap values_of is ∙ values-with_names sets))

-- a key is found if a set has that name
pub lookup-with_names : (test : Name → Bool) (sets : List SeparationSet)
    → is_some (lookup test (with_names sets))
    ≡ list_any (λ (set : SeparationSet). test set.name) sets
lookup-with_names test [] = refl
lookup-with_names test (set ∷ sets) =
    elim (test set.name) as (λ b. is_some (cond b (Some set) (lookup test (with_names sets)))
    ≡ (b || list_any (λ (other : SeparationSet). test other.name) sets)) [
      | true ↦ refl
      | false ↦ lookup-with_names test sets
    ]

-- a set of a new name is added at the end
pub insert-with_names : (sets : List SeparationSet) (set : SeparationSet)
    → has_set sets set.name ≡ false
    → insert_entry name_eq (with_names sets) set.name set ≡ with_names (sets ++ set ∷ [])
insert-with_names [] set new = refl
insert-with_names (other ∷ sets) set new =
    elim (name_eq set.name other.name) as (λ b. (b || has_set sets set.name) ≡ false
    → cond b ((other.name, set) ∷ with_names sets)
    ((other.name, other) ∷ insert_entry name_eq (with_names sets) set.name set)
    ≡ (other.name, other) ∷ with_names (sets ++ set ∷ [])) [
      | true ↦ λ is. absurd (true≢false is)
      | false ↦ λ is. ap (λ (l : List (Name × SeparationSet)). (other.name, other) ∷ l)
          (insert-with_names sets set is)
    ] new

module _ (test : Name → Bool) where
  -- the sets whose names don't pass
  abbrev left : List SeparationSet → List SeparationSet
  left sets = filter (λ (set : SeparationSet). not (test set.name)) sets

  -- if no name passes, all stay
  left-all : (sets : List SeparationSet) → lookup test (with_names sets) ≡ None → sets ≡ left sets
  left-all [] none = refl
  left-all (set ∷ sets) none =
      elim (test set.name) as (λ b. cond b (Some set) (lookup test (with_names sets)) ≡ None
      → set ∷ sets ≡ cond (not b) (set ∷ left sets) (left sets)) [
        | true ↦ λ is. absurd (true≢false (ap is_some is))
        | false ↦ λ is. ap (λ (l : List SeparationSet). set ∷ l) (left-all sets is)
      ] none

  -- the first set whose name passes is removed, if no other passes
  remove-with_names : (sets : List SeparationSet)
      → lookup test (remove_entry test (with_names sets)) ≡ None
      → remove_entry test (with_names sets) ≡ with_names (left sets)
  remove-with_names [] none = refl
  remove-with_names (set ∷ sets) none =
      let rest = remove_entry test (with_names sets) in
      elim (test set.name) as (λ b. test set.name ≡ b
      → lookup test (cond b (with_names sets) ((set.name, set) ∷ rest)) ≡ None
      → cond b (with_names sets) ((set.name, set) ∷ rest)
      ≡ with_names (cond (not b) (set ∷ left sets) (left sets))) [
        | true ↦ λ same is. ap with_names (left-all sets is)
        | false ↦ λ other is. ap (λ (l : List (Name × SeparationSet)). (set.name, set) ∷ l)
            (remove-with_names sets (sym (lookup_tail test (set.name, set) rest other) ∙ is))
      ] refl none

  -- the same of entries
  pub remove-entries : (es : List (Name × SeparationSet)) (sets : List SeparationSet)
      → es ≡ with_names sets → lookup test (remove_entry test es) ≡ None
      → remove_entry test es ≡ with_names (left sets)
  remove-entries es sets is none = ap (remove_entry test) is
      ∙ remove-with_names sets (subst (λ l. lookup test (remove_entry test l) ≡ None) is none)
