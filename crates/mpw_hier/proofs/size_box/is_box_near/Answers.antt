-- Answers to the goals of `is_box_near` in `src/size_box.rt`.
use Rattle.std.proofs.Common.{◌≡◌, rules, refl, ap, ◌∙◌}
use Rattle.mpw_hier.specs.Boxes.{is_near, is_box_near}
use Rattle.mpw_hier.proofs.Reaching.{as_wide}
use Rattle.mpw_hier.proofs.size_box.is_box_near.Goals as goal

pub returns : goal.returns
unfolding is_box_near
returns c =
    let b = c.args.b in
    let x0 : c.is_near.result ≡ is_near b.x0 = c.is_near.ensures
    ∙ ap is_near (as_wide b.x0 c.from.result (search rules) c.from.ensures) in
    let y0 : c.is_near-2.result ≡ is_near b.y0 = c.is_near-2.ensures
    ∙ ap is_near (as_wide b.y0 c.from-2.result (search rules) c.from-2.ensures) in
    let x1 : c.is_near-3.result ≡ is_near b.x1 = c.is_near-3.ensures
    ∙ ap is_near (as_wide b.x1 c.from-3.result (search rules) c.from-3.ensures) in
    let y1 : c.is_near-4.result ≡ is_near b.y1 = c.is_near-4.ensures
    ∙ ap is_near (as_wide b.y1 c.from-4.result (search rules) c.from-4.ensures) in
    rw (x0, y0, x1, y1) refl
