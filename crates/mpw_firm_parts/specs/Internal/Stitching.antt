-- What private functions and proofs need of this: parts in order, and why they can't be put together.
use Rattle.std.specs.Prelude.{◌≡◌, ◌≤◌, ℕ, zero, suc, List, [], ◌∷◌, ◌++◌, map, nat_lt, Option, if◌then◌else◌}
use Rattle.std.specs.List.{AllPairs}
use Rattle.std.specs.List.Sorted.{IsPermutation}
use Rattle.mpw_geom.specs.declared.plane.Box2.{Box2}
use Rattle.mpw_edges.specs.declared.run.Axis.{Axis}
use Rattle.mpw_edges.specs.declared.run.Axis.TheVariants.{V, H}
use Rattle.mpw_markers.specs.declared.marker.Key.{Key}
use Rattle.mpw_markers.specs.declared.marker.Marker.{Marker}
use Rattle.mpw_markers.specs.Book.{IsBook}
use Rattle.mpw_columns_keys.specs.declared.column.Column.{Column}
use Rattle.mpw_firm_parts.specs.Parts.{Found}
use Rattle.mpw_columns_keys.specs.Keys.{together, of_first}
use Rattle.mpw_firm_parts.specs.Stitching.{FollowOn, CoverExtent, AreOfBoth, IsOfColumns, AreApart}
use Rattle.mpw_firm_parts.specs.declared.fault.PartsFault.{PartsFault}
use Rattle.mpw_firm_parts.specs.declared.fault.PartsFault.TheVariants as faults

-- Each part begins no later than those after it.
abbrev pub AreInOrder : List Found → Type 0
AreInOrder parts = AllPairs (λ (a b : Found). a.first ≤ b.first) parts

-- How many columns there are before the first of axis H.
abbrev pub count_on : Axis → ℕ → ℕ
count_on V n = suc n
count_on H n = zero

abbrev pub upright_count : List Column → ℕ
upright_count [] = zero
upright_count (c ∷ cs) = count_on c.axis (upright_count cs)

-- Why a part with columns, which begins at `first`, doesn't follow on at the column.
abbrev pub fault_at : ℕ → ℕ → PartsFault
fault_at column first = if nat_lt first column then faults.Doubled first else faults.Missing column

-- However the columns are divided, they don't follow on one another over the extent.
abbrev pub AreUndivided : Option Box2 → List Column → Type 0
AreUndivided extent columns = (upright across : List Column) → columns ≡ upright ++ across
    → CoverExtent extent upright across → ⊥

-- The lists of axis V and of axis H are those of parts in an order in which they have each of so many columns once, and these follow on
-- one another over the extent.
pub record AreListsOf (extent : Option Box2) (count : ℕ) (parts : List Found)
    (vs hs : List (List Key)) : Type 0 where
  pub ordered : List Found
  pub reordered : IsPermutation parts ordered
  pub once : FollowOn 0 ordered count
  pub upright : List Column
  pub across : List Column
  pub both : AreOfBoth extent ordered upright across vs hs

-- Why parts of one check aren't put together.
abbrev pub IsUnjoined : Option Box2 → ℕ → List Found → PartsFault → Type 0
IsUnjoined extent count parts faults.Memory = Unit {0}
IsUnjoined extent count parts faults.Apart = AreApart extent count parts
IsUnjoined extent count parts (faults.Missing column) =
    IsOfColumns count parts (faults.Missing column)
IsUnjoined extent count parts (faults.Doubled column) =
    IsOfColumns count parts (faults.Doubled column)
IsUnjoined extent count parts fault = ⊥

-- Why markers are no book.
abbrev pub IsUnbound : List Marker → PartsFault → Type 0
IsUnbound markers faults.Memory = Unit {0}
IsUnbound markers faults.NoBook = IsBook markers → ⊥
IsUnbound markers fault = ⊥

-- The book of parts of one check, under so many rules, and why there is none.
pub record IsJoinedBook (rules : ℕ) (extent : Option Box2) (count : ℕ) (parts : List Found)
    (book : List Marker) : Type 0 where
  pub vs : List (List Key)
  pub hs : List (List Key)
  pub are : AreListsOf extent count parts vs hs
  pub made : book ≡ map of_first (together rules vs hs)

abbrev pub IsUnput : ℕ → Option Box2 → ℕ → List Found → PartsFault → Type 0
IsUnput rules extent count parts faults.NoBook = (vs hs : List (List Key))
    × AreListsOf extent count parts vs hs × (IsBook (map of_first (together rules vs hs)) → ⊥)
IsUnput rules extent count parts faults.Memory = Unit {0}
IsUnput rules extent count parts faults.Apart = AreApart extent count parts
IsUnput rules extent count parts (faults.Missing column) =
    IsOfColumns count parts (faults.Missing column)
IsUnput rules extent count parts (faults.Doubled column) =
    IsOfColumns count parts (faults.Doubled column)
IsUnput rules extent count parts fault = ⊥
