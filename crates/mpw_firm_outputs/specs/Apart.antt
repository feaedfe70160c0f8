-- Files with what they are used for.
use Rattle.std.specs.Prelude.{ℕ, List, ◌++◌, codes, map}
use Rattle.mpw_firm_outputs.specs.declared.uses.Use.{Use}

abbrev pub names_of : List Use → List (List ℕ)
names_of uses = map (λ u. u.name.now) uses

-- An output is a file that is used otherwise too.
unfoldable pub one_file_text : (out other : Use) → List ℕ
one_file_text out other =
    codes "error: "
    ++ (out.what.now
    ++ (codes " can't be written over "
    ++ (other.what.now
    ++ (codes ": "
    ++ (out.name.now ++ (codes " and " ++ (other.name.now ++ codes " are one file")))))))
