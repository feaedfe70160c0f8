-- Answers to the goals of `read_request` in `src/read.rt`.
use Rattle.std.proofs.Common.{◌≡◌, sym, ap, subst, ◌∙◌}
use Rattle.mpw_wire.specs.declared.request.LineAsk.TheVariants as ask
use Rattle.mpw_wire.specs.Request.{ask_of}
use Rattle.mpw_wire.specs.Reading.{TakesLine, IsText}
use Rattle.mpw_wire.specs.Internal.Reading.{Takes}
use Rattle.mpw_wire.proofs.read.read_request.Goals as goal

pub returns-in-Request-clause-asked : goal.returns-in-Request-clause-asked
returns-in-Request-clause-asked g c =
    let old = g.R.Source.remaining c.args.reader.now in
    let new = g.R.Source.remaining c.take_line.new.reader in
    let taken : TakesLine old new c.in-Line.line.items = subst (Takes old new) c.in-Line.is
    c.in_ok-line.ensures.taken in
    let asks : ask_of c.in-Line.line.items ≡ ask.Request c.in-Request.request =
    ap ask_of (sym c.as_slice.ensures.value) ∙ sym c.in_ok-request-in-Line.ensures
    ∙ c.in-Request.is in
    (c.in-Line.line.items, IsText.alone taken asks)
