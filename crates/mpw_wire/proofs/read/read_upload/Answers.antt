-- Answers to the goals of `read_upload` in `src/read.rt`.
use Rattle.std.proofs.Common.{sym, subst, refl}
use Rattle.std.specs.Prelude.{option_map}
use Rattle.mpw_wire.specs.declared.request.LineAsk.TheVariants as ask
use Rattle.mpw_wire.specs.Reading.{TakesOffer, IsText}
use Rattle.mpw_wire.specs.Internal.Reading.{TakesBytes, TakesPayload}
use Rattle.mpw_wire.proofs.ReadingLemmas.{offer_breaks, offer_cut}
use Rattle.mpw_wire.proofs.read.read_upload.Goals as goal

pub returns-in_ok-shared-in-Some-clause-asked : goal.returns-in_ok-shared-in-Some-clause-asked
returns-in_ok-shared-in-Some-clause-asked g c = λ old line offer.
    let mid = g.R.Source.remaining c.args.reader.now in
    let new = g.R.Source.remaining c.take_bytes.new.reader in
    let taken : TakesPayload mid new c.args.length c.in-Some.bytes.items =
    subst (λ o. TakesBytes mid new c.args.length (option_map (λ b. b.items) o)) c.in-Some.is
    c.in_ok-bytes.ensures.taken in (
      line,
      rw (c.in_ok-shared-in-Some.ensures, c.in_ok-request-in-Some.ensures)
          (IsText.followed c.args.upload c.in-Some.bytes.items mid
          (subst (λ n. TakesOffer old mid line
          (ask.Upload c.args.upload n)) (sym taken.0) offer) taken.1),
    )

pub returns-in-None-clause-asked : goal.returns-in-None-clause-asked
returns-in-None-clause-asked g c = λ old line offer.
    let mid = g.R.Source.remaining c.args.reader.now in
    let new = g.R.Source.remaining c.take_bytes.new.reader in
    offer_cut old mid new line (ask.Upload c.args.upload c.args.length) c.args.length offer refl
    (subst (λ o. TakesBytes mid new c.args.length (option_map (λ b. b.items) o)) c.in-None.is
    c.in_ok-bytes.ensures.taken)

pub returns-in_err-bytes-clause-fault : goal.returns-in_err-bytes-clause-fault
returns-in_err-bytes-clause-fault g c = λ old line offer.
    offer_breaks c.from_residual.result c.in_err-bytes.field-0.0 old
    (g.R.Source.remaining c.args.reader.now) (g.R.Source.remaining c.take_bytes.new.reader) line _
    c.args.length
    c.from_residual.ensures.1 offer refl c.in_err-bytes.ensures.fault
