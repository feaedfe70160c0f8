-- The files that a command reads, and those that it writes.
use Rattle.std.specs.Prelude.{ℕ, List, [], ◌∷◌, ◌++◌, codes, map, Option, None, Some, option_map, if◌then◌else◌}
use Rattle.std.specs.String.{string_bytes}
use Rattle.mpw_geom.specs.Names.{name_eq}
use Rattle.mpw_firm_options.specs.Given.{picture_file}
use Rattle.mpw_firm_options.specs.declared.options.Options.{Options}
use Rattle.mpw_firm_options.specs.declared.stitch_options.StitchOptions.{StitchOptions}

-- The name of a file that is read; `-` is the standard input.
abbrev pub input_name : List ℕ → List ℕ
input_name file = if name_eq file (codes "-") then codes "/dev/stdin" else file

abbrev pub one_or_none : Option (List ℕ) → List (List ℕ)
one_or_none None = []
one_or_none (Some name) = name ∷ []

-- The standard output, and then the files of the report and the picture that are wanted.
abbrev pub outputs_of : (report picture : Option (List ℕ)) → List (List ℕ)
outputs_of report picture =
    codes "/dev/stdout" ∷ (one_or_none report ++ one_or_none picture)

-- Of a check.
abbrev pub check_inputs : Options → List (List ℕ)
check_inputs options =
    input_name (string_bytes options.deck) ∷ (input_name (string_bytes options.file) ∷ [])

abbrev pub check_outputs : Options → List (List ℕ)
check_outputs options =
    outputs_of (option_map string_bytes options.report) (picture_file options.picture)

-- Of parts that are stitched.
abbrev pub stitch_inputs : StitchOptions → List (List ℕ)
stitch_inputs options = map (λ file. input_name (string_bytes file)) options.files.items

abbrev pub stitch_outputs : StitchOptions → List (List ℕ)
stitch_outputs options = outputs_of (option_map string_bytes options.report) None
