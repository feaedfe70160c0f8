-- What holds of parts in order holds of them as they come.
use Rattle.std.proofs.Common.{◌≡◌, ℕ, List, Option, Some}
use Rattle.std.specs.Prelude.{slice_get}
use Rattle.std.specs.List.Sorted.{IsPermutation}
use Rattle.std.proofs.lemmas.List.Sorted.{IsPermutation-trans}
use Rattle.mpw_geom.specs.declared.plane.Box2.{Box2}
use Rattle.mpw_markers.specs.declared.marker.Key.{Key}
use Rattle.mpw_firm_parts.specs.Parts.{Found}
use Rattle.mpw_firm_parts.specs.Stitching.{AreAllOf, HaveRules, AreWhole, IsOfColumns, AreApart, IsFaultOf}
use Rattle.mpw_firm_parts.specs.Internal.Stitching.{AreListsOf, IsUnjoined, IsUnput}
use Rattle.mpw_firm_parts.specs.declared.fault.PartsFault.{PartsFault}
use Rattle.mpw_firm_parts.specs.declared.fault.PartsFault.TheVariants as faults
use Rattle.mpw_firm_parts.proofs.Faults.{of_columns_again}

pub lists_again : (extent : Option Box2) (count : ℕ) (parts ordered : List Found)
    (vs hs : List (List Key)) → IsPermutation parts ordered → AreListsOf extent count ordered vs hs
    → AreListsOf extent count parts vs hs
lists_again extent count parts ordered vs hs permuted h = record {
  ordered = h.ordered;
  reordered = IsPermutation-trans parts ordered h.ordered permuted h.reordered;
  once = h.once;
  upright = h.upright;
  across = h.across;
  both = h.both;
}

apart_again : (extent : Option Box2) (count : ℕ) (parts ordered : List Found)
    → IsPermutation parts ordered → AreApart extent count ordered → AreApart extent count parts
apart_again extent count parts ordered permuted h = record {
  ordered = h.ordered;
  reordered = IsPermutation-trans parts ordered h.ordered permuted h.reordered;
  once = h.once;
  apart = h.apart;
}

pub not_following : (extent : Option Box2) (count : ℕ) (parts ordered : List Found)
    (fault : PartsFault) → IsPermutation parts ordered → IsOfColumns count ordered fault
    → IsUnjoined extent count parts fault
not_following extent count parts ordered (faults.Missing column) permuted of =
    of_columns_again count parts ordered (faults.Missing column) permuted of
not_following extent count parts ordered (faults.Doubled column) permuted of =
    of_columns_again count parts ordered (faults.Doubled column) permuted of
not_following extent count parts ordered faults.Memory permuted of = absurd of
not_following extent count parts ordered faults.NoPart permuted of = absurd of
not_following extent count parts ordered (faults.Other place what) permuted of = absurd of
not_following extent count parts ordered (faults.NoRule place) permuted of = absurd of
not_following extent count parts ordered faults.Apart permuted of = absurd of
not_following extent count parts ordered faults.NoBook permuted of = absurd of

pub unjoined_again : (extent : Option Box2) (count : ℕ) (parts ordered : List Found)
    (fault : PartsFault) → IsPermutation parts ordered → IsUnjoined extent count ordered fault
    → IsUnjoined extent count parts fault
unjoined_again extent count parts ordered (faults.Missing column) permuted of =
    of_columns_again count parts ordered (faults.Missing column) permuted of
unjoined_again extent count parts ordered (faults.Doubled column) permuted of =
    of_columns_again count parts ordered (faults.Doubled column) permuted of
unjoined_again extent count parts ordered faults.Apart permuted of =
    apart_again extent count parts ordered permuted of
unjoined_again extent count parts ordered faults.Memory permuted of = of
unjoined_again extent count parts ordered faults.NoPart permuted of = absurd of
unjoined_again extent count parts ordered (faults.Other place what) permuted of = absurd of
unjoined_again extent count parts ordered (faults.NoRule place) permuted of = absurd of
unjoined_again extent count parts ordered faults.NoBook permuted of = absurd of

-- ---- of the first part's check

whole_from : (rules : ℕ) (parts : List Found) (first : Found) (vs hs : List (List Key))
    → slice_get parts 0 ≡ Some first → AreAllOf first.subject parts → HaveRules rules parts
    → AreListsOf first.subject.extent first.subject.columns parts vs hs → AreWhole rules parts vs hs
whole_from rules parts first vs hs at same ruled h = record {
  first = first;
  at = at;
  ruled = ruled;
  ordered = h.ordered;
  of = record { same = same; reordered = h.reordered; once = h.once };
  upright = h.upright;
  across = h.across;
  both = h.both;
}

pub fault_told : (rules : ℕ) (parts : List Found) (first : Found) (fault : PartsFault)
    → slice_get parts 0 ≡ Some first → AreAllOf first.subject parts → HaveRules rules parts
    → IsUnput rules first.subject.extent first.subject.columns parts fault
    → IsFaultOf rules parts fault
fault_told rules parts first faults.Memory at same ruled h = h
fault_told rules parts first (faults.Missing column) at same ruled h = (first, at, same, ruled, h)
fault_told rules parts first (faults.Doubled column) at same ruled h = (first, at, same, ruled, h)
fault_told rules parts first faults.Apart at same ruled h = (first, at, same, ruled, h)
fault_told rules parts first faults.NoBook at same ruled h =
    (h.0, h.1, whole_from rules parts first h.0 h.1 at same ruled h.2, h.3)
fault_told rules parts first faults.NoPart at same ruled h = absurd h
fault_told rules parts first (faults.Other place what) at same ruled h = absurd h
fault_told rules parts first (faults.NoRule place) at same ruled h = absurd h
