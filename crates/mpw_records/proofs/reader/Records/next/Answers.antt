-- Answers to the goals of `Records::next` in `src/reader.rt`.
use Rattle.std.proofs.Common.{sym, ap, ◌∙◌}
use Rattle.mpw_records.specs.Records.{raw, seen}
use Rattle.mpw_records.proofs.Fronts.{next_ok, next_err}
use Rattle.mpw_records.proofs.reader.Records.next.Goals as goal
use Rattle.mpw_records.proofs.reader.Records.next.Goals.{in-Ok, in-Err}

pub returns-clause-some : goal.returns-clause-some
returns-clause-some c =
    let old = c.self.inside in
    elim c.match-outcome.branch [
      | in-Ok w ↦
          let r = w.in-Ok.record in
          let n = next_ok old.ended old.bytes.now old.offset (raw r) c.args.self.now c.if-self.false
          c.self.view_is c.self.invariant (sym c.record_at-outcome.ensures.outcome
          ∙ ap seen w.in-Ok.is) in
          rw (w.in-Ok.is, w.self-is) n
      | in-Err w ↦
          let n = next_err old.ended old.bytes.now old.offset w.in-Err.field-0 c.args.self.now
          c.if-self.false c.self.view_is (sym c.record_at-outcome.ensures.outcome
          ∙ ap seen w.in-Err.is) in
          rw (w.in-Err.is, w.self-is) n
    ]
