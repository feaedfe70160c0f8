-- What the elements from an index on refer to.
use Rattle.std.proofs.Common.{◌≡◌, ℕ, ◌+◌, ◌<◌, Bool, true, false, not, List, [], ◌∷◌, ◌++◌, length, get_or, drop, Option, Some, None, is_some, refl, sym, ap, ◌∙◌, append_assoc}
use Rattle.std.proofs.lemmas.List.{at_drop_more}
use Rattle.mpw_structures.specs.declared.element.Element.{Element}
use Rattle.mpw_structures.specs.declared.element.Element.TheVariants as elements
use Rattle.mpw_structures.specs.declared.element.Reference.{Reference}
use Rattle.mpw_structures.specs.declared.structures.Structure.{Structure}
use Rattle.mpw_structures.specs.Places.{place_of}
use Rattle.mpw_hier.specs.Structures.{referenced_names}
use Rattle.mpw_hier.specs.Outside.{places_of, known_before, names_outside, unknown_before}

-- what an element alone refers to
abbrev pub own_places : List Structure → Element → List ℕ
own_places ss (elements.Boundary b) = []
own_places ss (elements.Path p) = []
own_places ss (elements.Reference r) = known_before (place_of ss r.name) []

abbrev pub own_outside : List Structure → Element → List (List ℕ)
own_outside ss (elements.Boundary b) = []
own_outside ss (elements.Path p) = []
own_outside ss (elements.Reference r) = unknown_before (place_of ss r.name) r.name []

first_places : (ss : List Structure) (e : Element) (es : List Element)
    → places_of ss (referenced_names (e ∷ es)) ≡ own_places ss e
    ++ places_of ss (referenced_names es)
unfolding places_of
first_places ss (elements.Boundary b) es = refl
first_places ss (elements.Path p) es = refl
first_places ss (elements.Reference r) es = go (place_of ss r.name)
  where
    go : (o : Option ℕ) → known_before o (places_of ss (referenced_names es)) ≡ known_before o []
        ++ places_of ss (referenced_names es)
    go None = refl
    go (Some i) = refl

first_outside : (ss : List Structure) (e : Element) (es : List Element)
    → names_outside ss (referenced_names (e ∷ es)) ≡ own_outside ss e
    ++ names_outside ss (referenced_names es)
unfolding names_outside
first_outside ss (elements.Boundary b) es = refl
first_outside ss (elements.Path p) es = refl
first_outside ss (elements.Reference r) es = go (place_of ss r.name)
  where
    go : (o : Option ℕ) → unknown_before o r.name (names_outside ss (referenced_names es))
        ≡ unknown_before o r.name [] ++ names_outside ss (referenced_names es)
    go None = refl
    go (Some i) = refl

pub places_more : (ss : List Structure) (es : List Element) (i : ℕ) (e : Element) → i < length es
    → e ≡ get_or es i e → places_of ss (referenced_names (drop i es)) ≡ own_places ss e
    ++ places_of ss (referenced_names (drop (i + 1) es))
places_more ss es i e h is =
    at_drop_more (λ left. places_of ss (referenced_names left)) es i e h
    ∙ ap (λ x. places_of ss (referenced_names (x ∷ drop (i + 1) es))) (sym is)
    ∙ first_places ss e (drop (i + 1) es)

pub outside_more : (ss : List Structure) (es : List Element) (i : ℕ) (e : Element) → i < length es
    → e ≡ get_or es i e → names_outside ss (referenced_names (drop i es)) ≡ own_outside ss e
    ++ names_outside ss (referenced_names (drop (i + 1) es))
outside_more ss es i e h is =
    at_drop_more (λ left. names_outside ss (referenced_names left)) es i e h
    ∙ ap (λ x. names_outside ss (referenced_names (x ∷ drop (i + 1) es))) (sym is)
    ∙ first_outside ss e (drop (i + 1) es)

pub no_places : (ss : List Structure) (e : Element)
    → ((r : Reference) → e ≡ elements.Reference r → ⊥) → own_places ss e ≡ []
no_places ss (elements.Boundary b) h = refl
no_places ss (elements.Path p) h = refl
no_places ss (elements.Reference r) h = absurd (h r refl)

pub none_outside : (ss : List Structure) (e : Element)
    → ((r : Reference) → e ≡ elements.Reference r → ⊥) → own_outside ss e ≡ []
none_outside ss (elements.Boundary b) h = refl
none_outside ss (elements.Path p) h = refl
none_outside ss (elements.Reference r) h = absurd (h r refl)

pub known_place : (ss : List Structure) (e : Element) (r : Reference) (i : ℕ)
    → e ≡ elements.Reference r → place_of ss r.name ≡ Some i → own_places ss e ≡ i ∷ []
known_place ss e r i is at = ap (own_places ss) is ∙ ap (λ o. known_before o []) at

pub unknown_place : (ss : List Structure) (e : Element) (r : Reference) → e ≡ elements.Reference r
    → place_of ss r.name ≡ None → own_places ss e ≡ []
unknown_place ss e r is at = ap (own_places ss) is ∙ ap (λ o. known_before o []) at

pub known_name : (ss : List Structure) (e : Element) (r : Reference) (i : ℕ)
    → e ≡ elements.Reference r → place_of ss r.name ≡ Some i → own_outside ss e ≡ []
known_name ss e r i is at = ap (own_outside ss) is ∙ ap (λ o. unknown_before o r.name []) at

pub unknown_name : (ss : List Structure) (e : Element) (r : Reference) → e ≡ elements.Reference r
    → place_of ss r.name ≡ None → own_outside ss e ≡ r.name ∷ []
unknown_name ss e r is at = ap (own_outside ss) is ∙ ap (λ o. unknown_before o r.name []) at

pub none_if : (o : Option ℕ) (b : Bool) → is_some o ≡ not b → b ≡ true → o ≡ None
none_if None b e h = refl
none_if (Some i) b e h = absurd (let q = e ∙ ap not h in cc)

pub some_if : (o : Option ℕ) (b : Bool) → is_some o ≡ not b → b ≡ false → (i : ℕ) × (o ≡ Some i)
some_if None b e h = absurd (let q = e ∙ ap not h in cc)
some_if (Some i) b e h = (i, refl)

-- one element further
pub places_on : (ss : List Structure) (es : List Element) (i : ℕ) (e : Element)
    (old new total : List ℕ) → i < length es → e ≡ get_or es i e → new ≡ old ++ own_places ss e
    → old ++ places_of ss (referenced_names (drop i es)) ≡ total
    → new ++ places_of ss (referenced_names (drop (i + 1) es)) ≡ total
places_on ss es i e old new total h is q inv =
    rw (q, append_assoc, ← places_more ss es i e h is) inv

pub outside_on : (ss : List Structure) (es : List Element) (i : ℕ) (e : Element)
    (old new total : List (List ℕ)) → i < length es → e ≡ get_or es i e
    → new ≡ old ++ own_outside ss e → old ++ names_outside ss (referenced_names (drop i es)) ≡ total
    → new ++ names_outside ss (referenced_names (drop (i + 1) es)) ≡ total
outside_on ss es i e old new total h is q inv =
    rw (q, append_assoc, ← outside_more ss es i e h is) inv
