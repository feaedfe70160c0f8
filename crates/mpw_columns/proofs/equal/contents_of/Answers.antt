-- Answers to the goals of `contents_of` in `src/equal.rt`.
use Rattle.std.proofs.Common.{◌+◌, ◌∙◌, List, sym, ap}
use Rattle.mpw_geom.specs.declared.plane.Box2.{Box2}
use Rattle.mpw_hier.specs.declared.submission.Submission.{Submission}
use Rattle.mpw_hier.specs.Values.{flat}
use Rattle.mpw_walk.specs.Turns.{flat_roots}
use Rattle.mpw_columns_keys.specs.Columns.{seen_box, upright, across}
use Rattle.mpw_columns.proofs.Alike.{contents_tell}
use Rattle.mpw_columns.proofs.equal.contents_of.Goals as goal

pub returns : goal.returns
returns c =
    let l = c.args.layout.now in
    let s = l.snapshot.now in
    let column = c.args.column.now in
    contents_tell l column c.seen_box-window.result c.shelf.result.now c.contents_in.result
    (c.seen_box-window.ensures ∙ ap (seen_box column.axis) (c.window_of.ensures
    ∙ ap (λ (b : Box2). across b (l.distance + 1)) (c.upright-core.ensures
    ∙ ap (λ (b : Box2). upright b column) c.seen_box.ensures)))
    c.shelf.ensures
    (ap (λ (ss : List Submission). flat ss 0) c.shelf.ensures
    ∙ sym (ap (flat_roots s.shelf) c.requires.alone
    ∙ c.roots_at_origin_show_their_submission.ensures.shapes s.shelf 0))
    c.contents_in.ensures.whole c.contents_in.ensures.sound
