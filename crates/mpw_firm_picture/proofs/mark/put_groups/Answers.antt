-- Answers to the goals of `put_groups` in `src/mark.rt`.
use Rattle.std.proofs.Common.{take, subst}
use Rattle.std.specs.List.{flat_map, enumerate_from}
use Rattle.std.specs.Io.KnownBytes.{Appends}
use Rattle.std.proofs.KnownBytes.{Appends-trans}
use Rattle.mpw_firm_picture.specs.Marked.{group_text}
use Rattle.mpw_firm_report.proofs.Rows.{rows_more, rows_all}
use Rattle.mpw_firm_picture.proofs.mark.put_groups.Goals as goal

pub loop-place-preserved : goal.loop-place-preserved
loop-place-preserved g c =
    let at = g.W.Write.contents in
    let i = c.loop-place.place in
    let rule = c.index-rules-place.result in
    subst (λ text. Appends (at c.args.writer.now) (at c.put_group.new.writer) text)
    (rows_more (group_text c.args.picture.now) c.args.rules.now i rule c.loop-place-test.true)
    (Appends-trans (at c.args.writer.now) (at c.loop-place.writer) (at c.put_group.new.writer)
    (flat_map (group_text c.args.picture.now) (take i (enumerate_from 0 c.args.rules.now))) _
    c.loop-place.invariant
    (subst (λ r. Appends (at c.loop-place.writer) (at c.put_group.new.writer)
    (group_text c.args.picture.now (i, r))) c.index-rules-place.is c.in_ok-put_group.ensures))

pub returns : goal.returns
returns g c =
    let at = g.W.Write.contents in
    subst (λ text. Appends (at c.args.writer.now) (at c.loop-place.writer) text)
    (rows_all (group_text c.args.picture.now) c.args.rules.now c.loop-place.place
    c.loop-place-test.false) c.loop-place.invariant
