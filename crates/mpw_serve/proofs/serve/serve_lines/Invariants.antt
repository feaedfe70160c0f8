-- The invariants of the loops of `serve_lines` in `src/serve.rt`.
use Rattle.std.proofs.Common.{◌≡◌, false}
use Rattle.mpw_serve.proofs.ServingLemmas.{Progress}
use Rattle.mpw_serve.proofs.serve.serve_lines.Given as goal

abbrev pub invariant-loop : goal.invariant-loop
invariant-loop g l =
    Progress g.A.Responder.told (g.R.Source.remaining l.initial.reader)
    (g.R.Source.remaining l.reader) (g.W.Sink.contents l.initial.writer)
    (g.W.Sink.contents l.writer) l.initial.responder l.responder l.counter
    × (g.R.Source.failures l.reader ≡ g.R.Source.failures l.initial.reader)
    × (g.W.Sink.failures l.writer ≡ g.W.Sink.failures l.initial.writer)
    × (g.W.Sink.pending l.initial.writer ≡ false → g.W.Sink.pending l.writer ≡ false)
