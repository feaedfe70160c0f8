-- How long the parts of a check took.
use Rattle.std.specs.Prelude.{ℕ, ◌++◌, List, [], ◌∷◌, codes, Bool, Option, None, Some, if◌then◌else◌}
use Rattle.std.specs.Fmt.{decimal}
use Rattle.mpw_firm.specs.declared.laps.Lap.{Lap}
use Rattle.mpw_firm.specs.declared.laps.Lap.TheVariants as lap
use Rattle.mpw_firm.specs.declared.laps.Taken.{Taken}

-- With the time of a part, and those of the others as they were.
abbrev pub taken_with : Taken → Lap → (time : Option ℕ) → Taken
taken_with t lap.Read time =
    record { read = time; cut = t.cut; check = t.check; stitch = t.stitch; write = t.write }
taken_with t lap.Cut time =
    record { read = t.read; cut = time; check = t.check; stitch = t.stitch; write = t.write }
taken_with t lap.Check time =
    record { read = t.read; cut = t.cut; check = time; stitch = t.stitch; write = t.write }
taken_with t lap.Stitch time =
    record { read = t.read; cut = t.cut; check = t.check; stitch = time; write = t.write }
taken_with t lap.Write time =
    record { read = t.read; cut = t.cut; check = t.check; stitch = t.stitch; write = time }

-- The first time begins the line, and each other has a comma before it.
abbrev pub begun_by : List ℕ → List ℕ
begun_by [] = codes "times:"
begun_by (byte ∷ bytes) = codes ","

unfoldable pub lap_text : (before name : List ℕ) (time : ℕ) → List ℕ
lap_text before name time =
    before ++ (codes " " ++ (name ++ (codes " " ++ (decimal time ++ codes " ms"))))

-- The time of a part that is known comes after those before it.
abbrev pub with_lap : (text name : List ℕ) → (time : Option ℕ) → List ℕ
with_lap text name None = text
with_lap text name (Some time) = text ++ lap_text (begun_by text) name time

abbrev pub cut_name : Bool → List ℕ
cut_name by_columns = if by_columns then codes "halve" else codes "cut"

abbrev pub stitch_name : Bool → List ℕ
stitch_name by_columns = if by_columns then codes "join" else codes "stitch"

-- The times of all parts that are known, in order.
abbrev pub times_text : Taken → (by_columns : Bool) → List ℕ
times_text t by_columns =
    with_lap
    (with_lap
    (with_lap (with_lap (with_lap [] (codes "read") t.read) (cut_name by_columns) t.cut)
    (codes "check")
    t.check)
    (stitch_name by_columns)
    t.stitch)
    (codes "write")
    t.write
