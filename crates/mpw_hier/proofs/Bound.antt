-- The bindings of the names from an index on.
use Rattle.std.proofs.Common.{◌≡◌, ℕ, ◌+◌, ◌<◌, Bool, true, false, cond, inl, inr, subst, arith, List, [], ◌∷◌, ◌++◌, length, get_or, drop, Option, Some, None, refl, sym, ap, ◌∙◌, append_assoc}
use Rattle.std.proofs.lemmas.List.{at_drop_more}
use Rattle.mpw_hier.specs.declared.bindings.Binding.{Binding}
use Rattle.mpw_hier.specs.declared.submission.Submission.{Submission}
use Rattle.mpw_geom.specs.Names.{name_eq, contains_name}
use Rattle.mpw_hier.specs.Shelf.{later, present_from, present, bound_before, bound_to}
use Rattle.mpw_hier.specs.Values.{bound_number}
use Rattle.mpw_hier.proofs.Linking.{same_name, name_itself, or_cases}

-- Bindings after others.
abbrev pub bound_behind : List Binding → Option (List Binding) → Option (List Binding)
bound_behind front None = None
bound_behind front (Some bindings) = Some (front ++ bindings)

pub bound_more : (ss : List Submission) (names : List (List ℕ)) (i : ℕ) (name : List ℕ)
    → i < length names → name ≡ get_or names i name
    → bound_to ss (drop i names) ≡ bound_before name (present ss name)
    (bound_to ss (drop (i + 1) names))
unfolding bound_to
bound_more ss names i name h is =
    at_drop_more (bound_to ss) names i name h ∙ ap (λ n. bound_to ss (n ∷ drop (i + 1) names))
    (sym is)

pub bound_one : (front : List Binding) (b : Binding) (rest : Option (List Binding))
    → bound_behind (front ++ b ∷ []) rest ≡ bound_behind front
    (bound_before b.name (Some b.submission) rest)
bound_one front b None = refl
bound_one front b (Some bs) = rw append_assoc refl

-- ---- what a bound name refers to

present_within : (k : ℕ) (ss : List Submission) (name : List ℕ) (n : ℕ)
    → present_from k ss name ≡ Some n → n < k + length ss
present_within k [] name n e = absurd cc
present_within k (s ∷ ss) name n e = go (present_from (k + 1) ss name) refl
    (λ m h. present_within (k + 1) ss name m h) (name_eq s.cell name) e
  where
    go : (o : Option ℕ) → o ≡ present_from (k + 1) ss name
        → ((m : ℕ) → present_from (k + 1) ss name ≡ Some m → m < (k + 1) + length ss) → (b : Bool)
        → later o (cond b (Some k) None) ≡ Some n → n < k + length (s ∷ ss)
    go (Some m) is more b e = let same : m ≡ n = cc in omega (arith, same, more m (sym is))
    go None is more true e = let same : k ≡ n = cc in omega (arith, same)
    go None is more false e = absurd cc

-- a name among those that were bound
pub bound_name : (ss : List Submission) (names : List (List ℕ)) (bs : List Binding) (name : List ℕ)
    → bound_to ss names ≡ Some bs → contains_name names name ≡ true
    → (n : ℕ) × (bound_number bs name ≡ Some n) × (n < length ss)
unfolding bound_to present
bound_name ss [] bs name e c = absurd cc
bound_name ss (m ∷ ms) bs name e c = go (present_from 0 ss m) refl (bound_to ss ms) refl
    (λ rest h d. bound_name ss ms rest name h d) e
  where
    other : (b : Binding) (rest : List Binding) → name_eq b.name name ≡ false
        → (n : ℕ) × (bound_number rest name ≡ Some n) × (n < length ss)
        → (n : ℕ) × (bound_number (b ∷ rest) name ≡ Some n) × (n < length ss)
    other b rest q h = (
      h.0,
      ap (λ t. cond t (Some b.submission) (bound_number rest name)) q
          ∙ h.1,
      h.2,
    )

    here : (b : Binding) (rest : List Binding) → name_eq b.name name ≡ true
        → b.submission < length ss → (n : ℕ) × (bound_number (b ∷ rest) name ≡ Some n)
        × (n < length ss)
    here b rest q h = (
      b.submission,
      ap (λ t. cond t (Some b.submission) (bound_number rest name))
          q,
      h,
    )

    tell : (k : ℕ) → present_from 0 ss m ≡ Some k → (rest : List Binding)
        → (contains_name ms name ≡ true → (n : ℕ) × (bound_number rest name ≡ Some n)
        × (n < length ss)) → (t : Bool) → name_eq m name ≡ t
        → (n : ℕ) × (bound_number (record { name = m; submission = k } ∷ rest) name ≡ Some n)
        × (n < length ss)
    tell k is rest more true q = let lt = present_within 0 ss m k is in
        here (record { name = m; submission = k }) rest q (omega (arith, lt))
    tell k is rest more false q = other (record { name = m; submission = k }) rest q
        (more (elim (or_cases (name_eq name m) (contains_name ms name) c) [
          | inl h ↦ absurd (let z = sym q ∙ ap (λ x. name_eq m x) (same_name name m h)
              ∙ name_itself m in cc)
          | inr h ↦ h
        ]))

    go : (o : Option ℕ) → present_from 0 ss m ≡ o → (r : Option (List Binding)) → bound_to ss ms ≡ r
        → ((rest : List Binding) → bound_to ss ms ≡ Some rest → contains_name ms name ≡ true
        → (n : ℕ) × (bound_number rest name ≡ Some n) × (n < length ss))
        → bound_before m o r ≡ Some bs → (n : ℕ) × (bound_number bs name ≡ Some n) × (n < length ss)
    go None is r at more e = absurd cc
    go (Some k) is None at more e = absurd cc
    go (Some k) is (Some rest) at more e =
        let same : record { name = m; submission = k } ∷ rest ≡ bs = cc in
        subst (λ xs. (n : ℕ) × (bound_number xs name ≡ Some n) × (n < length ss)) same
        (tell k is rest (more rest at) (name_eq m name) refl)
