-- The invariants of the loops of `first_verb` in `src/table.rt`.
use Rattle.std.proofs.Common.{◌≡◌, drop}
use Rattle.mpw_requests.specs.Table.{verb_text}
use Rattle.mpw_requests.specs.Words.{first_of}
use Rattle.mpw_requests.proofs.table.first_verb.Given as goal

abbrev pub invariant-loop-verb : goal.invariant-loop-verb
invariant-loop-verb l = first_of verb_text l.fn.word l.fn.verbs
    ≡ first_of verb_text l.fn.word (drop l.verb-index l.fn.verbs)
