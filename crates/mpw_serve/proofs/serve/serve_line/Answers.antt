-- Answers to the goals of `serve_line` in `src/serve.rt`.
use Rattle.std.proofs.Common.{rules, refl, subst, arith}
use Rattle.std.proofs.KnownBytes.{Appends-nil}
use Rattle.mpw_wire.specs.Reading.{Breaks, Reads}
use Rattle.mpw_serve.specs.Serving.{AnsweredLine, Stop}
use Rattle.mpw_serve.proofs.ServingLemmas.{serves_turn, serves_stop, handed_leaves, told_leaves}
use Rattle.mpw_serve.proofs.serve.serve_line.Goals as goal

pub returns-in-Ok-Request-clause-line : goal.returns-in-Ok-Request-clause-line
returns-in-Ok-Request-clause-line g c =
    let asked = subst (Reads (g.R.Source.remaining c.args.reader.now)
    (g.R.Source.remaining c.read_request.new.reader)) c.in-Ok-Request.field-0-is
    c.in-Ok-Request.ensures.asked in
    let answered = c.answer.ensures.answer in
    serves_turn g.A.Responder.told _ _ _ _ _ _ _ _
    (AnsweredLine.asked asked.0 c.in-Ok-Request.request answered.0)
    c.answer.result c.with_end.result c.with_end.ensures (asked.1, answered.1) answered.2

pub returns-in-Ok-Form-clause-line : goal.returns-in-Ok-Form-clause-line
returns-in-Ok-Form-clause-line g c =
    let asked = subst (Reads (g.R.Source.remaining c.args.reader.now)
    (g.R.Source.remaining c.read_request.new.reader)) c.in-Ok-Form.field-0-is
    c.in-Ok-Form.ensures.asked in
    serves_turn g.A.Responder.told _ _ _ _ _ _ _ _ (AnsweredLine.malformed asked.0)
    c.write_refusal.result
    c.with_end-in-Ok-Form.result c.with_end-in-Ok-Form.ensures (asked.1, asked.2, refl)
    c.write_refusal.ensures.text

pub returns-in-Ok-Long-clause-line : goal.returns-in-Ok-Long-clause-line
returns-in-Ok-Long-clause-line g c =
    let asked = subst (Reads (g.R.Source.remaining c.args.reader.now)
    (g.R.Source.remaining c.read_request.new.reader)) c.in-Ok-Long.field-0-is
    c.in-Ok-Long.ensures.asked in
    serves_stop g.A.Responder.told _ _ _ _ _ _ _ Stop.long _ c.write_refusal-in-Ok-Long.result
    c.with_end-in-Ok-Long.result c.with_end-in-Ok-Long.ensures (omega arith, asked, refl) refl
    tt
    c.write_refusal-in-Ok-Long.ensures.text

pub returns-in-Ok-Cut-clause-line : goal.returns-in-Ok-Cut-clause-line
returns-in-Ok-Cut-clause-line g c =
    let asked = subst (Reads (g.R.Source.remaining c.args.reader.now)
    (g.R.Source.remaining c.read_request.new.reader)) c.in-Ok-Cut.field-0-is
    c.in-Ok-Cut.ensures.asked in
    serves_stop g.A.Responder.told _ _ _ _ _ _ _ Stop.cut _ c.write_refusal-in-Ok-Cut.result
    c.with_end-in-Ok-Cut.result
    c.with_end-in-Ok-Cut.ensures (omega arith, asked, refl) refl tt
    c.write_refusal-in-Ok-Cut.ensures.text

pub returns-in-Ok-End-clause-line : goal.returns-in-Ok-End-clause-line
returns-in-Ok-End-clause-line g c =
    let asked = subst (Reads (g.R.Source.remaining c.args.reader.now)
    (g.R.Source.remaining c.read_request.new.reader)) c.in-Ok-End.field-0-is
    c.in-Ok-End.ensures.asked in
    record {
      stop = Stop.closed;
      stopped = (omega arith, asked, refl);
      tells = refl;
      written = Appends-nil (g.W.Sink.contents c.args.writer.now);
    }

pub returns-in-Err-Memory-clause-line : goal.returns-in-Err-Memory-clause-line
returns-in-Err-Memory-clause-line g c =
    serves_stop g.A.Responder.told _ _ _ _ _ _ _ Stop.starving _
    c.write_refusal-in-Err-Memory.result
    c.with_end-in-Err-Memory.result c.with_end-in-Err-Memory.ensures (
      omega arith,
      subst (Breaks (g.R.Source.remaining c.args.reader.now)
          (g.R.Source.remaining c.read_request.new.reader)) c.in-Err-Memory.field-0-is
          c.in-Err-Memory.ensures.fault,
      refl,
    ) refl tt c.write_refusal-in-Err-Memory.ensures.text

pub returns-in-Err-Read-clause-line : goal.returns-in-Err-Read-clause-line
returns-in-Err-Read-clause-line g c =
    record {
      stop = Stop.unreadable;
      stopped = (
        omega arith,
        subst (Breaks (g.R.Source.remaining c.args.reader.now)
            (g.R.Source.remaining c.read_request.new.reader)) c.in-Err-Read.field-0-is
            c.in-Err-Read.ensures.fault,
        refl,
      );
      tells = refl;
      written = Appends-nil (g.W.Sink.contents c.args.writer.now);
    }

pub returns-in-Err-Write : goal.returns-in-Err-Write
returns-in-Err-Write g c = absurd (search rules)

pub returns-in-Ok-Request-clause-handed : goal.returns-in-Ok-Request-clause-handed
returns-in-Ok-Request-clause-handed g c =
    told_leaves _ c.answer.result c.with_end.result _ _ c.with_end.ensures c.answer.ensures.handed

pub returns-in-Ok-Form-clause-handed : goal.returns-in-Ok-Form-clause-handed
returns-in-Ok-Form-clause-handed g c =
    told_leaves _ c.write_refusal.result c.with_end-in-Ok-Form.result _ _
    c.with_end-in-Ok-Form.ensures
    (handed_leaves _ _ _ _ _ c.write_refusal.result _ _ c.write_refusal.ensures.text
    c.write_refusal.ensures.handed)

pub returns-in-Ok-Long-clause-handed : goal.returns-in-Ok-Long-clause-handed
returns-in-Ok-Long-clause-handed g c =
    told_leaves _ c.write_refusal-in-Ok-Long.result c.with_end-in-Ok-Long.result _ _
    c.with_end-in-Ok-Long.ensures (handed_leaves _ _ _ _ _ c.write_refusal-in-Ok-Long.result _ _
    c.write_refusal-in-Ok-Long.ensures.text c.write_refusal-in-Ok-Long.ensures.handed)

pub returns-in-Ok-Cut-clause-handed : goal.returns-in-Ok-Cut-clause-handed
returns-in-Ok-Cut-clause-handed g c =
    told_leaves _ c.write_refusal-in-Ok-Cut.result c.with_end-in-Ok-Cut.result _ _
    c.with_end-in-Ok-Cut.ensures (handed_leaves _ _ _ _ _ c.write_refusal-in-Ok-Cut.result _ _
    c.write_refusal-in-Ok-Cut.ensures.text c.write_refusal-in-Ok-Cut.ensures.handed)

pub returns-in-Err-Memory-clause-handed : goal.returns-in-Err-Memory-clause-handed
returns-in-Err-Memory-clause-handed g c =
    told_leaves _ c.write_refusal-in-Err-Memory.result c.with_end-in-Err-Memory.result _ _
    c.with_end-in-Err-Memory.ensures (handed_leaves _ _ _ _ _
    c.write_refusal-in-Err-Memory.result _
    _ c.write_refusal-in-Err-Memory.ensures.text c.write_refusal-in-Err-Memory.ensures.handed)
