-- What identifies a placement, and that a borrowed cell and label can be used for it in a map.
use Rattle.std.specs.Prelude.{◌≡◌, ℕ, Bool, true, false, ◌&&◌, List, ◌++◌, refl}
use Rattle.std.specs.Cmp.Lexicographic.{bytes_decides, nat_list_eq_equiv}
use Rattle.std.specs.Hash as fed
use Rattle.std.proofs.Common.{◌∙◌, ap, sym}
use Rattle.mpw_geom.specs.Names.{name_eq}
use Rattle.mpw_placings.specs.declared.name.PlacementName.{PlacementName}

-- whether the name is of that cell and that label
abbrev pub is_named : List ℕ → List ℕ → PlacementName → Bool
is_named cell label name = name_eq name.cell cell && name_eq name.label label

both_of : (a b : Bool) → (a && b) ≡ true → (a ≡ true) × (b ≡ true)
both_of true b e = (refl, e)
both_of false b e = absurd cc

pub named_parts : (cell label : List ℕ) (name : PlacementName) → is_named cell label name ≡ true
    → (name.cell ≡ cell) × (name.label ≡ label)
named_parts cell label name is =
    let both = both_of (name_eq name.cell cell) (name_eq name.label label) is in
    ((bytes_decides name.cell cell).0 both.0, (bytes_decides name.label label).0 both.1)

-- their hashes are equal
pub named_alike : (cell label : List ℕ) (name : PlacementName) → is_named cell label name ≡ true
    → fed.str cell ++ fed.str label ≡ fed.str name.cell ++ fed.str name.label
named_alike cell label name is =
    let parts = named_parts cell label name is in
    λ i. fed.str (sym parts.0 i) ++ fed.str (sym parts.1 i)

-- and they equal that name alone
pub named_once : (cell label : List ℕ) (x y : PlacementName) → is_named cell label x ≡ true
    → is_named cell label y ≡ (name_eq x.cell y.cell && name_eq x.label y.label)
named_once cell label x y is =
    let parts = named_parts cell label x is in
    λ i. (nat_list_eq_equiv.symm y.cell cell ∙ ap (λ c. name_eq c y.cell) (sym parts.0)) i
    && (nat_list_eq_equiv.symm y.label label ∙ ap (λ l. name_eq l y.label) (sym parts.1)) i
