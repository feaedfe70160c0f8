-- Answers to the goals of `libraries_are_derived` in `src/laws.rt`.
use Rattle.mpw_library.proofs.DerivedLibrary as library
use Rattle.mpw_library.proofs.laws.libraries_are_derived.Goals as goal

pub returns-clause-derived : goal.returns-clause-derived
returns-clause-derived c = library.libraries_are_derived

pub returns-clause-once : goal.returns-clause-once
returns-clause-once c = library.derived_once
