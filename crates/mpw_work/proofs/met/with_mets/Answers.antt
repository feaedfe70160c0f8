-- Answers to the goals of `with_mets` in `src/met.rt`.
use Rattle.std.proofs.Common.{◌∙◌, ◌++◌, [], ◌∷◌, map, ap, sym, arith}
use Rattle.std.proofs.lemmas.List.{take_all, take_more, map_push}
use Rattle.mpw_work.specs.Internal.Found.{met_of}
use Rattle.mpw_work.proofs.Adding.{keyed_more}
use Rattle.mpw_work.proofs.met.with_mets.Goals as goal

pub loop-place-preserved : goal.loop-place-preserved
loop-place-preserved c =
    let old = c.loop-place.markers.items in
    let place = c.loop-place.place in
    let added = c.in_ok-push.ensures.items in
    record {
      keys = keyed_more c.args.keys.now place _ _ old _ c.loop-place-test.true added
          c.loop-place.invariant.keys;
      mets = ap (map met_of) added ∙ map_push met_of old _
          ∙ (λ k. c.loop-place.invariant.mets k
          ++ (c.in_ok-met.ensures.same ∙ c.index-mets-place.is) k ∷ [])
          ∙ sym (take_more c.args.mets.now place c.index-mets-place.result
          (omega (arith, c.requires, c.loop-place-test.true)));
    }

pub returns-clause-keys : goal.returns-clause-keys
returns-clause-keys c =
    c.loop-place.invariant.keys
    ∙ take_all c.loop-place.place c.args.keys.now c.loop-place-test.false

pub returns-clause-mets : goal.returns-clause-mets
returns-clause-mets c =
    c.loop-place.invariant.mets ∙ take_all c.loop-place.place c.args.mets.now
    (omega (arith, c.requires, c.loop-place-test.false))
