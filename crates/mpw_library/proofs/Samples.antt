-- Records of each type as a text may have them, with values that any unit and any counts allow.
use Rattle.std.proofs.Common.{◌≡◌, ◌≢◌, ℕ, ◌≤◌, false, ℤ, pos, List, [], ◌∷◌, Some, Ok, refl, arith}
use Rattle.std.specs.Prelude.{int_div}
use Rattle.std.specs.Ordering.{int_eq}
use Rattle.std.proofs.lemmas.Bool.{false_from_ne_true}
use Rattle.std.proofs.lemmas.Bool.Decides.{Decides-int_eq}
use Rattle.std.proofs.lemmas.Int.{ints}
use native.Mathlib.Nat.{zero-mod}
use Rattle.mpw_records.specs.declared.kind.TheConstants.{LAYER, DATATYPE, XY, ENDEL, SNAME, COLROW, BOXTYPE}
use Rattle.mpw_records.specs.Format.{data_fault}
use Rattle.mpw_records.specs.Records.{RawRecord}
use Rattle.mpw_elements.specs.declared.values.Grid.{Grid}
use Rattle.mpw_structures.specs.Coordinates.{scaled}
use Rattle.mpw_elements.specs.Values.{points_of, is_closing, without_closing, corners_of, centre_of, origin_of, name_of, without_nuls, counts_of, part_of, grid_of}
use Rattle.mpw_library.proofs.Fields.{IsSample}

-- a record of that type and data
abbrev pub sample : ℕ → ℕ → List ℕ → RawRecord
sample kind data_type bytes = record {
  offset = 0;
  kind = kind;
  data_type = data_type;
  bytes = bytes;
}

abbrev zeros4 : List ℕ → List ℕ
zeros4 more = 0 ∷ 0 ∷ 0 ∷ 0 ∷ more

abbrev pub layer : RawRecord
layer = sample LAYER 2 (0 ∷ 0 ∷ [])

abbrev pub datatype : RawRecord
datatype = sample DATATYPE 2 (0 ∷ 0 ∷ [])

abbrev pub boxtype : RawRecord
boxtype = sample BOXTYPE 2 (0 ∷ 0 ∷ [])

-- one point, the origin
abbrev pub dot : RawRecord
dot = sample XY 3 (zeros4 (zeros4 []))

-- the origin, and the point one unit to the right of it
abbrev pub segment : RawRecord
segment = sample XY 3 (zeros4 (zeros4 (0 ∷ 0 ∷ 0 ∷ 1 ∷ zeros4 [])))

-- three times the origin
abbrev pub corner : RawRecord
corner = sample XY 3 (zeros4 (zeros4 (zeros4 (zeros4 (zeros4 (zeros4 []))))))

abbrev pub last : RawRecord
last = sample ENDEL 0 []

-- the name AA
abbrev pub sname : RawRecord
sname = sample SNAME 6 (65 ∷ 65 ∷ [])

-- one column and one row
abbrev pub colrow : RawRecord
colrow = sample COLROW 2 (0 ∷ 1 ∷ 0 ∷ 1 ∷ [])

-- each is a record of its type
pub record AreSamples : Type 0 where
  pub layer_is : IsSample LAYER layer
  pub datatype_is : IsSample DATATYPE datatype
  pub boxtype_is : IsSample BOXTYPE boxtype
  pub dot_is : IsSample XY dot
  pub segment_is : IsSample XY segment
  pub corner_is : IsSample XY corner
  pub last_is : IsSample ENDEL last
  pub sname_is : IsSample SNAME sname
  pub colrow_is : IsSample COLROW colrow

pub samples : AreSamples
unfolding data_fault
samples = record {
  layer_is = record { kind_is = refl; formed = refl; inner = refl; kept = refl };
  datatype_is = record { kind_is = refl; formed = refl; inner = refl; kept = refl };
  boxtype_is = record { kind_is = refl; formed = refl; inner = refl; kept = refl };
  dot_is = record { kind_is = refl; formed = refl; inner = refl; kept = refl };
  segment_is = record { kind_is = refl; formed = refl; inner = refl; kept = refl };
  corner_is = record { kind_is = refl; formed = refl; inner = refl; kept = refl };
  last_is = record { kind_is = refl; formed = refl; inner = refl; kept = refl };
  sname_is = record { kind_is = refl; formed = refl; inner = refl; kept = refl };
  colrow_is = record { kind_is = refl; formed = refl; inner = refl; kept = refl };
}

-- ---- their values

zero_scaled : (unit : ℕ) (more : List ℕ) → scaled unit (zeros4 more) ≡ pos 0
unfolding scaled
zero_scaled unit more = omega (arith, ints)

one_scaled : (unit : ℕ) (more : List ℕ) → scaled unit (0 ∷ 0 ∷ 0 ∷ 1 ∷ more) ≡ pos unit
unfolding scaled
one_scaled unit more = omega (arith, ints)

pub dot_corners : (unit : ℕ) → corners_of unit dot ≡ Ok (record { x = pos 0; y = pos 0 } ∷ [])
unfolding corners_of without_closing is_closing points_of
dot_corners unit = rw (zero_scaled unit [], zero_scaled unit (zeros4 [])) refl

pub dot_place : (unit : ℕ) → origin_of unit dot ≡ Ok (record {
  x = scaled unit (zeros4 (zeros4 []));
  y = scaled unit (zeros4 []);
})
unfolding origin_of
dot_place unit = refl

ne_test : (a b : ℤ) → a ≢ b → int_eq a b ≡ false
ne_test a b h = false_from_ne_true (int_eq a b) (λ t. h ((Decides-int_eq a b).0 t))

pub segment_centre : (unit : ℕ) → 1 ≤ unit → centre_of unit segment ≡ Ok (record {
  x = pos 0;
  y = pos 0;
} ∷ record { x = pos unit; y = pos 0 } ∷ [])
unfolding centre_of points_of
segment_centre unit h =
    let apart : int_eq (pos unit) (pos 0) ≡ false =
    ne_test (pos unit) (pos 0) (λ k. omega (arith, ints, h, k)) in
    let level : int_eq (pos 0) (pos unit) ≡ false =
    ne_test (pos 0) (pos unit) (λ k. omega (arith, ints, h, k)) in
    rw (
      zero_scaled unit [],
      zero_scaled unit (zeros4 (0 ∷ 0 ∷ 0 ∷ 1 ∷ zeros4 [])),
      zero_scaled unit (0 ∷ 0 ∷ 0 ∷ 1 ∷ zeros4 []),
      one_scaled unit (zeros4 []),
      apart,
      level,
    ) refl

pub sname_name : name_of sname ≡ Ok (65 ∷ 65 ∷ [])
unfolding name_of without_nuls
sname_name = refl

pub colrow_counts : counts_of colrow ≡ Ok (1, 1)
unfolding counts_of
colrow_counts = refl

zero_part : (n : ℕ) → part_of n (pos 0) ≡ Some (int_div (pos 0) (pos n))
zero_part n = rw (zero-mod n) refl

-- a grid with any counts, whose points are all the origin
pub corner_grid : (unit columns rows : ℕ) → (g : Grid) × (grid_of unit columns rows corner ≡ Ok g)
unfolding grid_of
corner_grid unit columns rows = (
  record {
    origin = record { x = pos 0; y = pos 0 };
    column_step = record { x = int_div (pos 0) (pos columns); y = int_div (pos 0) (pos columns) };
    row_step = record { x = int_div (pos 0) (pos rows); y = int_div (pos 0) (pos rows) };
  },
  rw (
    zero_scaled unit [],
    zero_scaled unit (zeros4 []),
    zero_scaled unit (zeros4 (zeros4 [])),
    zero_scaled unit (zeros4 (zeros4 (zeros4 []))),
    zero_scaled unit (zeros4 (zeros4 (zeros4 (zeros4 [])))),
    zero_scaled unit (zeros4 (zeros4 (zeros4 (zeros4 (zeros4 []))))),
    zero_part columns,
    zero_part rows,
  ) refl,
)
