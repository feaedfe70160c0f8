-- For private functions and proofs. No public contract refers to them.
use Rattle.std.specs.Prelude.{List, []}
use Rattle.mpw_structures.specs.declared.structures.Structure.{Structure}
use Rattle.mpw_hier.specs.declared.submission.Submission.{Submission}

-- The submission with another library, and without bindings.
abbrev pub submission_with : Submission → List Structure → Submission
submission_with s library = record {
  cell = s.cell;
  version = 0;
  submitter = s.submitter;
  library = library;
  top = s.top;
  bound = [];
}
