-- The contents of a library's structures, level by level. Without a cycle below it, a structure has the content that its targets make.
use Rattle.std.proofs.Common.{◌≡◌, ℕ, zero, suc, ◌≤◌, true, List, [], ◌∷◌, ◌++◌, length, map, Some, None, refl, sym, ap, ◌∙◌, arith}
use Rattle.std.specs.List.{flat_map}
use Rattle.mpw_geom.specs.Names.{name_eq, contains_name}
use Rattle.mpw_structures.specs.declared.element.Element.{Element}
use Rattle.mpw_structures.specs.declared.element.Element.TheVariants as elements
use Rattle.mpw_structures.specs.declared.element.Reference.{Reference}
use Rattle.mpw_structures.specs.declared.structures.Structure.{Structure}
use Rattle.mpw_hier.specs.Structures.{structure_of, references, referenced_names}
use Rattle.mpw_hier.specs.Items.{own_items, placed_items, shown_items}
use Rattle.mpw_hier.specs.Levels.{at_structure, by_levels, levels_of}
use Rattle.mpw_hier.specs.Values.{shown_height, greatest}
use Rattle.mpw_hier.proofs.Linking.{or_left, or_right, name_itself}

-- a limit on the number of levels below a name
pub data IsLow (library : List Structure) : ℕ → List ℕ → Type 0 where
  outside : {depth : ℕ} {name : List ℕ} → structure_of library name ≡ None
      → IsLow library depth name
  own : {depth : ℕ} {name : List ℕ} (s : Structure) → structure_of library name ≡ Some s
      → ((target : List ℕ) → contains_name (referenced_names s.elements) target ≡ true
      → IsLow library depth target) → IsLow library (suc depth) name

pub low_upto : {library : List Structure} {depth : ℕ} {name : List ℕ} → IsLow library depth name
    → (n : ℕ) → depth ≤ n → IsLow library n name
low_upto (outside none) n le = outside none
low_upto (own s is below) zero le = absurd (omega (arith, le))
low_upto (own s is below) (suc n) le =
    own s is (λ target c. low_upto (below target c) n (omega (arith, le)))

-- the content of a structure depends on the contents of its references' targets
abbrev pub IsByTargets : {V : Type 0} → (Structure → (List ℕ → V) → V) → Type 0
IsByTargets {V = V} shown = (s : Structure) (f g : List ℕ → V)
    → ((target : List ℕ) → contains_name (referenced_names s.elements) target ≡ true
    → f target ≡ g target) → shown s f ≡ shown s g

module _ {V : Type 0} (shown : Structure → (List ℕ → V) → V) (nothing : V) (outside_shown : List ℕ
    → V) (library : List Structure) (by_targets : IsByTargets shown) where
  level : ℕ → List ℕ → V
  level n name = by_levels shown nothing outside_shown n library name

  level_outside : (n : ℕ) (name : List ℕ) → structure_of library name ≡ None
      → by_levels shown nothing outside_shown (suc n) library name ≡ outside_shown name
  unfolding by_levels
  level_outside n name none = ap (at_structure
      (λ s. shown s (λ target. by_levels shown nothing outside_shown n library target))
      (outside_shown name)) none

  level_own : (n : ℕ) (name : List ℕ) (s : Structure) → structure_of library name ≡ Some s
      → by_levels shown nothing outside_shown (suc n) library name
      ≡ shown s (λ target. by_levels shown nothing outside_shown n library target)
  unfolding by_levels
  level_own n name s is = ap (at_structure
      (λ s. shown s (λ target. by_levels shown nothing outside_shown n library target))
      (outside_shown name)) is

  stable : {depth : ℕ} {name : List ℕ} → IsLow library depth name → (n m : ℕ) → depth ≤ n
      → depth ≤ m → by_levels shown nothing outside_shown (suc n) library name ≡ by_levels shown
      nothing outside_shown (suc m) library name
  stable {name = name} (outside none) n m l k = level_outside n name none
      ∙ sym (level_outside m name none)
  stable (own s is below) zero m l k = absurd (omega (arith, l))
  stable (own s is below) (suc n) zero l k = absurd (omega (arith, k))
  stable {name = name} (own {depth = depth} s is below) (suc n) (suc m) l k =
      level_own (suc n) name s is ∙ by_targets s _ _
      (λ target c. stable (below target c) n m (omega (arith, l)) (omega (arith, k)))
      ∙ sym (level_own (suc m) name s is)

  -- a structure with fewer levels below it than the library has structures
  pub unfolds : (depth : ℕ) (name : List ℕ) (s : Structure) → structure_of library name ≡ Some s
      → ((target : List ℕ) → contains_name (referenced_names s.elements) target ≡ true
      → IsLow library depth target) → suc depth ≤ length library
      → by_levels shown nothing outside_shown (levels_of library) library name
      ≡ shown s (λ target. by_levels shown nothing outside_shown (levels_of library) library target)
  unfolds depth name s is below few = go (length library) few
    where
      go : (n : ℕ) → suc depth ≤ n → by_levels shown nothing outside_shown (suc n) library name
          ≡ shown s (λ target. by_levels shown nothing outside_shown (suc n) library target)
      go zero h = absurd (omega (arith, h))
      go (suc n) h = level_own (suc n) name s is
          ∙ by_targets s _ _ (λ target c. stable (below target c) n (suc n) (omega (arith, h))
          (omega (arith, h)))

  pub unfolds_outside : (name : List ℕ) → structure_of library name ≡ None
      → by_levels shown nothing outside_shown (levels_of library) library name ≡ outside_shown name
  unfolds_outside name none = level_outside (length library) name none

-- ---- flat lists and heights

head_named : (r : Reference) (es : List Element)
    → contains_name (referenced_names (elements.Reference r ∷ es)) r.name ≡ true
head_named r es = or_left (name_eq r.name r.name) (contains_name (referenced_names es) r.name)
    (name_itself r.name)

pub references_by_targets : {V W : Type 0} (of : Reference → V → List W) (es : List Element)
    (f g : List ℕ → V) → ((target : List ℕ) → contains_name (referenced_names es) target ≡ true
    → f target ≡ g target) → flat_map (λ (r : Reference). of r (f r.name)) (references es)
    ≡ flat_map (λ (r : Reference). of r (g r.name)) (references es)
references_by_targets of [] f g same = refl
references_by_targets of (elements.Boundary b ∷ es) f g same = references_by_targets of es f g same
references_by_targets of (elements.Path p ∷ es) f g same = references_by_targets of es f g same
references_by_targets of (elements.Reference r ∷ es) f g same =
    rw (
      same r.name (head_named r es),
      references_by_targets of es f g
          (λ target c. same target (or_right (name_eq target r.name)
          (contains_name (referenced_names es) target) c)),
    ) refl

pub names_by_targets : {V : Type 0} (es : List Element) (f g : List ℕ → V)
    → ((target : List ℕ) → contains_name (referenced_names es) target ≡ true → f target ≡ g target)
    → map f (referenced_names es) ≡ map g (referenced_names es)
names_by_targets [] f g same = refl
names_by_targets (elements.Boundary b ∷ es) f g same = names_by_targets es f g same
names_by_targets (elements.Path p ∷ es) f g same = names_by_targets es f g same
names_by_targets (elements.Reference r ∷ es) f g same =
    rw (
      same r.name (head_named r es),
      names_by_targets es f g (λ target c. same target
          (or_right (name_eq target r.name) (contains_name (referenced_names es) target) c)),
    ) refl

pub items_by_targets : (number : ℕ) → IsByTargets (shown_items number)
items_by_targets number s f g same = ap (λ items. own_items number s.elements ++ items)
    (references_by_targets placed_items s.elements f g same)

pub heights_by_targets : IsByTargets shown_height
heights_by_targets s f g same = ap (λ ns. suc (greatest ns)) (names_by_targets s.elements f g same)
