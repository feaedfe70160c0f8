-- The origins of the shapes of flat lists: the submission itself, or an earlier one.
use Rattle.std.proofs.Common.{◌≡◌, ℕ, zero, suc, ◌≤◌, inl, inr, List, [], ◌∷◌, ◌++◌, length, get_or, map, Option, Some, None, sym, subst, arith}
use Rattle.std.specs.Prelude.{All}
use Rattle.std.specs.List.{flat_map}
use Rattle.std.proofs.lemmas.Bool.{cases_lt}
use Rattle.std.proofs.lemmas.Bool.Decides.{eqb_tells}
use Rattle.std.proofs.lemmas.List.{get_or_past, get_or_append_left, length-append}
use Rattle.std.proofs.lemmas.List.Elements.{All-nil, All-append, All-map, All-weaker}
use Rattle.std.proofs.Math.Seq.{get_or-append_seam}
use Rattle.mpw_structures.specs.declared.element.Element.{Element}
use Rattle.mpw_structures.specs.declared.element.Reference.{Reference}
use Rattle.mpw_geom.specs.declared.placing.Placing.{Placing}
use Rattle.mpw_structures.specs.declared.structures.Structure.{Structure}
use Rattle.mpw_hier.specs.declared.submission.Submission.{Submission}
use Rattle.mpw_hier.specs.Structures.{references, shapes, structure_of}
use Rattle.mpw_hier.specs.Items.{Item, own_items, placed_item, placed_items, shown_items, instances}
use Rattle.mpw_hier.specs.Levels.{at_structure, by_levels, levels_of}
use Rattle.mpw_hier.specs.Values.{from_first, at_number, bound_number, flat_of, flats, flat}
use Rattle.mpw_hier.specs.Shelved.{IsOrigin, ShapesAreOfEarlier}
use Rattle.mpw_hier.proofs.Firsts.{firsts_length}

-- Shapes of submissions up to a number.
abbrev pub AreUpto : ℕ → List Item → Type 0
AreUpto number items = All (λ (i : Item). i.origin ≤ number) items

abbrev pub IsUpto : ℕ → Item → Type 0
IsUpto number i = i.origin ≤ number

all_flat : {A : Type 0} (number : ℕ) (f : A → List Item) → ((a : A) → AreUpto number (f a))
    → (xs : List A) → AreUpto number (flat_map f xs)
all_flat number f each [] = All-nil (IsUpto number)
all_flat number f each (x ∷ xs) =
    All-append (IsUpto number) (f x) (flat_map f xs) (each x) (all_flat number f each xs)

own_upto : (number : ℕ) (es : List Element) → AreUpto number (own_items number es)
own_upto number es =
    All-map (IsUpto number) _ (shapes es) (λ k d h. omega arith)

placed_upto : (number : ℕ) (r : Reference) (items : List Item) → AreUpto number items
    → AreUpto number (placed_items r items)
placed_upto number r items h =
    all_flat number (λ (t : Placing). map (placed_item t) items)
    (λ t. All-map (IsUpto number) (placed_item t) items h) (instances r)

shown_upto : (number : ℕ) (s : Structure) (below : List ℕ → List Item)
    → ((name : List ℕ) → AreUpto number (below name)) → AreUpto number (shown_items number s below)
shown_upto number s below each =
    All-append (IsUpto number) (own_items number s.elements) _ (own_upto number s.elements)
    (all_flat number (λ (r : Reference). placed_items r (below r.name))
    (λ r. placed_upto number r (below r.name) (each r.name)) (references s.elements))

levels_upto : (number : ℕ) (outside : List ℕ → List Item)
    → ((name : List ℕ) → AreUpto number (outside name))
    → (levels : ℕ) (library : List Structure) (name : List ℕ)
    → AreUpto number (by_levels (shown_items number) [] outside levels library name)
unfolding by_levels
levels_upto number outside each zero library name = All-nil (IsUpto number)
levels_upto number outside each (suc levels) library name =
    go (λ target. levels_upto number outside each levels library target) (structure_of library name)
  where
    go : ((target : List ℕ) → AreUpto number
        (by_levels (shown_items number) [] outside levels library target)) → (o : Option Structure)
        → AreUpto number (at_structure (λ s. shown_items number s
        (λ target. by_levels (shown_items number) [] outside levels library target)) (outside name)
        o)
    go below None = each name
    go below (Some s) = shown_upto number s
        (λ target. by_levels (shown_items number) [] outside levels library target) below

-- ---- one submission after another

-- The shapes of each submission of a list come from that one or from earlier ones.
abbrev AreEarlier : List (List Item) → Type 0
AreEarlier before = (k : ℕ) → AreUpto k (get_or before k [])

at_upto : (before : List (List Item)) → AreEarlier before → (o : Option ℕ)
    → AreUpto (length before) (at_number [] before o)
at_upto before h None = All-nil (IsUpto (length before))
at_upto before h (Some n) = elim (cases_lt n (length before)) [
  | inl lt ↦ All-weaker (IsUpto n) (IsUpto (length before)) (λ i le. omega (arith, le, lt))
      (get_or before n []) (h n)
  | inr past ↦ subst (AreUpto (length before)) (sym (get_or_past before n [] past))
      (All-nil (IsUpto (length before)))
]

one_upto : (before : List (List Item)) → AreEarlier before → (s : Submission)
    → AreUpto (length before) (flat_of before s)
one_upto before h s =
    levels_upto (length before) (λ outside. at_number [] before (bound_number s.bound outside))
    (λ outside. at_upto before h (bound_number s.bound outside)) (levels_of s.library) s.library
    s.top

more_earlier : (before : List (List Item)) (items : List Item) → AreEarlier before
    → AreUpto (length before) items → AreEarlier (before ++ items ∷ [])
more_earlier before items h last k = elim (cases_lt k (length before)) [
  | inl lt ↦ subst (AreUpto k) (sym (get_or_append_left before (items ∷ []) [] k lt)) (h k)
  | inr ge ↦ elim (eqb_tells k (length before)) [
    | inl e ↦ subst (λ n. AreUpto n (get_or (before ++ items ∷ []) n [])) (sym e.1)
        (subst (AreUpto (length before)) (sym (get_or-append_seam before items [] [])) last)
    | inr e ↦
        let past : length (before ++ items ∷ []) ≤ k =
        omega (arith, length-append before (items ∷ []), ge, e.1) in
        subst (AreUpto k) (sym (get_or_past (before ++ items ∷ []) k [] past)) (All-nil (IsUpto k))
  ]
]

firsts_earlier : (before : List (List Item)) (ss : List Submission) → AreEarlier before
    → AreEarlier (from_first flat_of before ss)
unfolding from_first
firsts_earlier before [] h = h
firsts_earlier before (s ∷ ss) h =
    firsts_earlier (before ++ flat_of before s ∷ []) ss
    (more_earlier before (flat_of before s) h (one_upto before h s))

pub shapes_earlier : ShapesAreOfEarlier
unfolding flats
shapes_earlier ss number =
    let all = firsts_earlier [] ss (λ k. All-nil (IsUpto k)) number in
    elim (cases_lt number (length ss)) [
      | inl lt ↦ All-weaker (IsUpto number) (IsOrigin ss number)
          (λ i le. record { earlier = le; within = omega (arith, le, lt) }) (flat ss number) all
      | inr past ↦
          let none : flat ss number ≡ [] = get_or_past (from_first flat_of [] ss) number []
          (omega (arith, firsts_length flat_of [] ss, past)) in
          subst (All (IsOrigin ss number)) (sym none) (All-nil (IsOrigin ss number))
    ]
