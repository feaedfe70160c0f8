-- Answers to the goals of `with_origin` in `src/met.rt`.
use Rattle.std.proofs.Common.{◌≡◌, ◌∙◌, ◌++◌, [], ◌∷◌, map, ap, sym, subst}
use Rattle.std.specs.Prelude.{All}
use Rattle.std.proofs.lemmas.List.{take_all, take_more, map_push}
use Rattle.std.proofs.lemmas.List.Elements.{All-push}
use Rattle.mpw_work.proofs.Adding.{keyed_more}
use Rattle.mpw_markers.specs.declared.marker.Marker.{Marker}
use Rattle.mpw_work.proofs.met.with_origin.Goals as goal

pub loop-key-preserved : goal.loop-key-preserved
loop-key-preserved c =
    let old = c.loop-key.markers.items in
    let added = c.in_ok-push.ensures.items in
    let Meets = λ (m : Marker). m.met ≡ c.args.origin ∷ [] in
    record {
      keys = keyed_more c.args.keys.now c.loop-key.key-index _ _ old _ c.loop-key-test.true added
          c.loop-key.invariant.keys;
      mets = subst (All Meets) (sym added)
          (All-push Meets old _ c.loop-key.invariant.mets
          c.in_ok-met.ensures);
    }

pub returns-clause-keys : goal.returns-clause-keys
returns-clause-keys c =
    c.loop-key.invariant.keys
    ∙ take_all c.loop-key.key-index c.args.keys.now c.loop-key-test.false

pub returns-clause-mets : goal.returns-clause-mets
returns-clause-mets c = c.loop-key.invariant.mets
