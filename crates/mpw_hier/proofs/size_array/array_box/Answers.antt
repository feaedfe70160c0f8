-- Answers to the goals of `array_box` in `src/size_array.rt`.
use Rattle.std.proofs.Common.{sym, ap, ◌∙◌, Some}
use Rattle.mpw_hier.proofs.Arrays.{array_made}
use Rattle.mpw_hier.proofs.size_array.array_box.Goals as goal

pub returns-then-is_near-clause-whole : goal.returns-then-is_near-clause-whole
returns-then-is_near-clause-whole c =
    let r = c.args.reference.now in
    let p = c.last_origin.ensures in
    let q = c.last_origin-2.ensures in
    let w = c.corners-whole.ensures in
    array_made r c.args.b c.first_box-first.result c.last_origin.result c.last_origin-2.result _ _
    c.corners-whole.result c.requires.reference.columns.least c.requires.reference.rows.least
    c.first_box-first.ensures p.x p.y q.x q.y c.origins-columns.ensures.made
    c.origins-rows.ensures.made w.x0 w.y0 w.x1 w.y1 ∙ sym (ap Some c.narrow.ensures)

pub returns-else-is_near-clause-far : goal.returns-else-is_near-clause-far
returns-else-is_near-clause-far c =
    let r = c.args.reference.now in
    let p = c.last_origin.ensures in
    let q = c.last_origin-2.ensures in
    let w = c.corners-whole.ensures in
    let whole = c.corners-whole.result in
    record {
      box = record { x0 = whole.x0; y0 = whole.y0; x1 = whole.x1; y1 = whole.y1 };
      is = array_made r c.args.b c.first_box-first.result c.last_origin.result
          c.last_origin-2.result _ _ c.corners-whole.result c.requires.reference.columns.least
          c.requires.reference.rows.least c.first_box-first.ensures p.x p.y q.x q.y
          c.origins-columns.ensures.made c.origins-rows.ensures.made w.x0 w.y0 w.x1 w.y1;
      far = sym c.is_near.ensures ∙ c.if-is_near.false;
    }
