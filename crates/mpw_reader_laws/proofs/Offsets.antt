-- A fault of a record is reported at the record's offset.
use Rattle.std.proofs.Common.{◌≡◌, ℕ, Bool, true, false, cond, drop, Option, Some, None, Result, Ok, Err, sym, ap}
use Rattle.mpw_geom.specs.declared.plane.Point.{Point}
use Rattle.mpw_records.specs.declared.fault.Code.{Code}
use Rattle.mpw_records.specs.declared.fault.Code.TheVariants.{BadName, BadSize, Unit as BadUnit, Magnification, Angle, NotManhattan, RoundPath, OddWidth, PointPath, Columns, Pitch, Absolute}
use Rattle.mpw_records.specs.declared.fault.ReadFault.{ReadFault}
use Rattle.mpw_records.specs.Records.{RawRecord}
use Rattle.mpw_real8.specs.Real.{real_value, nanometres}
use Rattle.mpw_elements.specs.Reading.{fault_at}
use Rattle.mpw_elements.specs.Values.{corners_of, centre_of, origin_of, path_type_of, width_of, name_of, mirrored_of, magnification_of, turns, turns_or_fault, turns_of, counts_of, grid_or_fault, step_of, point_at, grid_of}
use Rattle.mpw_library.specs.Grammar.{unit_or_fault, unit_of}
use Rattle.mpw_reader_laws.specs.FirstFault.{IsFaultOf}

-- a test whose fault is at a record
abbrev IsAt : {W : Type 0} → RawRecord → Result W ReadFault → Type 0
IsAt h t = (f : ReadFault) → t ≡ Err f → f.offset ≡ h.offset

choice_at : {W : Type 0} (h : RawRecord) (b : Bool) (t u : Result W ReadFault) → IsAt h t
    → IsAt h u → IsAt h (cond b t u)
choice_at h true t u p q = p
choice_at h false t u p q = q

ok_at : {W : Type 0} (h : RawRecord) (w : W) → IsAt h (Ok w)
ok_at h w f e = absurd cc

err_at : {W : Type 0} (h : RawRecord) (code : Code) → IsAt {W = W} h (Err (fault_at code h))
err_at h code f e =
    let same : fault_at code h ≡ f = cc in ap (λ (g : ReadFault). g.offset) (sym same)

corners_at : (unit : ℕ) (r : RawRecord) → IsAt r (corners_of unit r)
unfolding corners_of
corners_at unit r = choice_at r _ _ _ (ok_at r _) (err_at r NotManhattan)

centre_at : (unit : ℕ) (r : RawRecord) → IsAt r (centre_of unit r)
unfolding centre_of
centre_at unit r = choice_at r _ _ _ (err_at r PointPath)
    (choice_at r _ _ _ (ok_at r _) (err_at r NotManhattan))

path_type_at : (r : RawRecord) → IsAt r (path_type_of r)
unfolding path_type_of
path_type_at r = choice_at r _ _ _ (ok_at r _) (err_at r RoundPath)

width_at : (unit : ℕ) (r : RawRecord) → IsAt r (width_of unit r)
unfolding width_of
width_at unit r = choice_at r _ _ _ (ok_at r _) (err_at r OddWidth)

name_at : (r : RawRecord) → IsAt r (name_of r)
unfolding name_of
name_at r = choice_at r _ _ _ (ok_at r _) (err_at r BadName)

origin_at : (unit : ℕ) (r : RawRecord) → IsAt r (origin_of unit r)
unfolding origin_of
origin_at unit r = choice_at r _ _ _ (ok_at r _) (err_at r BadSize)

mirrored_at : (r : RawRecord) → IsAt r (mirrored_of r)
unfolding mirrored_of
mirrored_at r = choice_at r _ _ _ (ok_at r _) (err_at r Absolute)

magnification_at : (r : RawRecord) → IsAt r (magnification_of r)
unfolding magnification_of
magnification_at r = choice_at r _ _ _ (ok_at r _) (err_at r Magnification)

unit_at : (r : RawRecord) → IsAt r (unit_of r)
unfolding unit_of
unit_at r = go (nanometres (real_value (drop 8 r.bytes)))
  where
    go : (o : Option ℕ) → IsAt r (unit_or_fault o r)
    go (Some u) = ok_at r u
    go None = err_at r BadUnit

turns_at : (r : RawRecord) → IsAt r (turns_of r)
turns_at r = go (turns (real_value r.bytes))
  where
    go : (o : Option ℕ) → IsAt r (turns_or_fault o r)
    go (Some n) = ok_at r n
    go None = err_at r Angle

counts_at : (r : RawRecord) → IsAt r (counts_of r)
unfolding counts_of
counts_at r = choice_at r _ _ _ (ok_at r _) (err_at r Columns)

grid_at : (unit columns rows : ℕ) (r : RawRecord) → IsAt r (grid_of unit columns rows r)
unfolding grid_of
grid_at unit columns rows r =
    choice_at r _ _ _ (go (point_at unit r.bytes 0)
    (step_of columns (point_at unit r.bytes 0) (point_at unit r.bytes 1))
    (step_of rows (point_at unit r.bytes 0) (point_at unit r.bytes 2))) (err_at r BadSize)
  where
    go : (origin : Point) (c d : Option Point) → IsAt r (grid_or_fault origin c d r)
    go origin (Some c) (Some d) = ok_at r _
    go origin (Some c) None = err_at r Pitch
    go origin None d = err_at r Pitch

pub fault_offset : (r : RawRecord) (f : ReadFault) → IsFaultOf r f → f.offset ≡ r.offset
fault_offset r f (IsFaultOf.misplaced e) = ap (λ (g : ReadFault). g.offset) e
fault_offset r f (IsFaultOf.unit k e) = unit_at r f e
fault_offset r f (IsFaultOf.name k e) = name_at r f e
fault_offset r f (IsFaultOf.taken name k n e) = ap (λ (g : ReadFault). g.offset) e
fault_offset r f (IsFaultOf.flags k e) = mirrored_at r f e
fault_offset r f (IsFaultOf.magnification k e) = magnification_at r f e
fault_offset r f (IsFaultOf.angle k e) = turns_at r f e
fault_offset r f (IsFaultOf.path_type k e) = path_type_at r f e
fault_offset r f (IsFaultOf.width unit k e) = width_at unit r f e
fault_offset r f (IsFaultOf.counts k e) = counts_at r f e
fault_offset r f (IsFaultOf.corners unit k e) = corners_at unit r f e
fault_offset r f (IsFaultOf.centre unit k e) = centre_at unit r f e
fault_offset r f (IsFaultOf.origin unit k e) = origin_at unit r f e
fault_offset r f (IsFaultOf.grid unit columns rows k e) = grid_at unit columns rows r f e
