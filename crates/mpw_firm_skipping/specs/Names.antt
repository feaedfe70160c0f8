-- The names in a text's records, except those in texts and nodes.
use Rattle.std.specs.Prelude.{ℕ, ◌==◌, List, [], ◌∷◌, ◌++◌, Ok, Err, if◌then◌else◌}
use Rattle.mpw_records.specs.Records.{RawRecord, RecordOutcome}
use Rattle.mpw_firm_skipping.specs.Elements.{behind, is_inner, nothing_open}
use Rattle.mpw_firm_skipping.specs.Found.{found_in}
use Rattle.mpw_firm_skipping.specs.declared.span.Opened.{Opened}

-- The data of a record, if it has that type. In a text or a node no record names anything.
abbrev pub named_by : ℕ → RawRecord → Opened → List (List ℕ)
named_by kind r o =
    if is_inner r o.element then [] else if r.kind == kind then r.bytes ∷ [] else []

-- The names in a list of records, given what is open before them. A fault of a record's data names nothing.
unfoldable pub names_in : ℕ → Opened → List RecordOutcome → List (List ℕ)
names_in kind o [] = []
names_in kind o (Err fault ∷ rest) = names_in kind o rest
names_in kind o (Ok r ∷ rest) = named_by kind r o ++ names_in kind (behind r o) rest

abbrev pub names_of : ℕ → List ℕ → List (List ℕ)
names_of kind text = names_in kind nothing_open (found_in text)
