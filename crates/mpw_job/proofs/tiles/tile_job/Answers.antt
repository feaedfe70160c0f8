-- Answers to the goals of `tile_job` in `src/tiles.rt`.
use Rattle.std.proofs.Common.{◌≡◌, List, length, sym, subst, ap, ◌∙◌, arith}
use Rattle.mpw_geom.specs.Plane.{IsBoxInPlane}
use Rattle.mpw_deck.specs.declared.rule.Rule.{Rule}
use Rattle.mpw_deck.specs.Decks.{Deck}
use Rattle.mpw_job.proofs.tiles.tile_job.Goals as goal

pub new-requires : goal.new-requires
new-requires c =
    let same : c.in_ok-rules.rules ≡ c.args.snapshot.now.deck.rules = c.in_ok-rules.ensures
    ∙ c.rules.ensures ∙ ap (λ (d : Deck). d.rules) c.deck.ensures in
    let few = c.is_snapshot.ensures.deck.few in
    record {
      plane = subst IsBoxInPlane (sym c.core-core.ensures.core)
          (c.cores_lie_in_plane.ensures c.args.snapshot.now c.args.plan.now c.args.tile
          c.is_snapshot.ensures c.requires.plan c.requires.tile);
      few = omega (arith, ap (λ (rs : List Rule). length rs) same);
    }
