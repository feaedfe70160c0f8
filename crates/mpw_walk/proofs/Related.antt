-- Three properties of a structure stay related from its targets up, and from the first submission on.
use Rattle.std.proofs.Common.{◌≡◌, ℕ, zero, suc, List, [], ◌∷◌, ◌++◌, length, get_or, Option, Some, None, refl, ap}
use Rattle.mpw_structures.specs.declared.structures.Structure.{Structure}
use Rattle.mpw_hier.specs.declared.submission.Submission.{Submission}
use Rattle.mpw_hier.specs.Structures.{structure_of}
use Rattle.mpw_hier.specs.Levels.{at_structure, by_levels}
use Rattle.mpw_hier.specs.Values.{from_first, at_number}

-- lists of one length whose elements are related index by index
pub data Related {A B C : Type 0} (R : A → B → C → Type 0) : List A → List B → List C → Type 0 where
  none : Related R [] [] []
  more : {a : A} {b : B} {c : C} {xs : List A} {ys : List B} {zs : List C} → R a b c
      → Related R xs ys zs → Related R (a ∷ xs) (b ∷ ys) (c ∷ zs)

pub related_push : {A B C : Type 0} {R : A → B → C → Type 0} {a : A} {b : B} {c : C} {xs : List A}
    {ys : List B} {zs : List C} → Related R xs ys zs → R a b c
    → Related R (xs ++ a ∷ []) (ys ++ b ∷ []) (zs ++ c ∷ [])
related_push none r = more r none
related_push (more s rest) r = more s (related_push rest r)

pub related_at : {A B C : Type 0} {R : A → B → C → Type 0} {xs : List A} {ys : List B} {zs : List C}
    → Related R xs ys zs → (d : A) (e : B) (f : C) → R d e f → (n : ℕ)
    → R (get_or xs n d) (get_or ys n e) (get_or zs n f)
related_at none d e f r n = r
related_at (more s rest) d e f r zero = s
related_at (more s rest) d e f r (suc n) = related_at rest d e f r n

pub related_lengths : {A B C : Type 0} {R : A → B → C → Type 0} {xs : List A} {ys : List B}
    {zs : List C} → Related R xs ys zs → length xs ≡ length ys
related_lengths none = refl
related_lengths (more s rest) = ap suc (related_lengths rest)

pub numbers_related : {A B C : Type 0} (R : A → B → C → Type 0) (xs : List A) (ys : List B)
    (zs : List C) (d : A) (e : B) (f : C) → R d e f → Related R xs ys zs → (number : Option ℕ)
    → R (at_number d xs number) (at_number e ys number) (at_number f zs number)
numbers_related R xs ys zs d e f r rest None = r
numbers_related R xs ys zs d e f r rest (Some n) = related_at rest d e f r n

module _ {A B C : Type 0} (R : A → B → C → Type 0) (f : Structure → (List ℕ → A) → A)
    (g : Structure → (List ℕ → B) → B) (h : Structure → (List ℕ → C) → C) (a : A) (b : B) (c : C)
    (oa : List ℕ → A) (ob : List ℕ → B) (oc : List ℕ → C)
    (step : (s : Structure) (x : List ℕ → A) (y : List ℕ → B) (z : List ℕ → C)
    → ((target : List ℕ) → R (x target) (y target) (z target)) → R (f s x) (g s y) (h s z))
    (base : R a b c) (outside : (name : List ℕ) → R (oa name) (ob name) (oc name)) where
  pub levels_related : (n : ℕ) (library : List Structure) (name : List ℕ)
      → R (by_levels f a oa n library name) (by_levels g b ob n library name)
      (by_levels h c oc n library name)
  unfolding by_levels
  levels_related zero library name = base
  levels_related (suc n) library name = go (λ target. levels_related n library target)
      (structure_of library name)
    where
      go : ((target : List ℕ)
          → R (by_levels f a oa n library target) (by_levels g b ob n library target)
          (by_levels h c oc n library target)) → (o : Option Structure)
          → R (at_structure (λ s. f s (λ target. by_levels f a oa n library target)) (oa name) o)
          (at_structure (λ s. g s (λ target. by_levels g b ob n library target)) (ob name) o)
          (at_structure (λ s. h s (λ target. by_levels h c oc n library target)) (oc name) o)
      go below None = outside name
      go below (Some s) = step s _ _ _ below

module _ {A B C : Type 0} (R : A → B → C → Type 0) (f : List A → Submission → A) (g : List B
    → Submission → B) (h : List C → Submission → C)
    (step : (xs : List A) (ys : List B) (zs : List C) (s : Submission) → Related R xs ys zs
    → R (f xs s) (g ys s) (h zs s)) where
  pub firsts_related : (xs : List A) (ys : List B) (zs : List C) → Related R xs ys zs
      → (ss : List Submission) → Related R (from_first f xs ss) (from_first g ys ss)
      (from_first h zs ss)
  unfolding from_first
  firsts_related xs ys zs r [] = r
  firsts_related xs ys zs r (s ∷ ss) =
      firsts_related (xs ++ f xs s ∷ []) (ys ++ g ys s ∷ []) (zs ++ h zs s ∷ [])
      (related_push r (step xs ys zs s r)) ss
