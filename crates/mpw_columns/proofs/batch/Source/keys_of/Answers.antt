-- Answers to the goals of `Source::keys_of` in `src/batch.rt`.
use Rattle.std.proofs.Common.{subst, IfOk}
use Rattle.std.specs.Prelude.{Contains, ◌↔◌}
use Rattle.mpw_geom.specs.declared.plane.Box2.{Box2}
use Rattle.mpw_markers.specs.declared.marker.Key.{Key as KeyValue}
use Rattle.mpw_columns.specs.Found.{IsFound}
use Rattle.mpw_columns.specs.Internal.Pieces.{seen_layout}
use Rattle.mpw_columns.proofs.batch.Source.keys_of.Goals as goal

pub returns-in-Some : goal.returns-in-Some
returns-in-Some c =
    let l = c.args.layout.now in
    let axis = c.args.column.now.axis in
    subst (λ (b : Box2). IfOk c.runs_in.result (λ v. (k : KeyValue) → Contains v.items k
    ↔ IsFound l.snapshot.now.deck.rules axis (seen_layout l axis) b k)) c.core_of-core.ensures
    c.runs_in.ensures

pub returns : goal.returns
returns c =
    let l = c.args.layout.now in
    let axis = c.args.column.now.axis in
    subst (λ (b : Box2). IfOk c.keys_in.result (λ v. (k : KeyValue) → Contains v.items k
    ↔ IsFound l.snapshot.now.deck.rules axis (seen_layout l axis) b k)) c.core_of-core.ensures
    c.keys_in.ensures
