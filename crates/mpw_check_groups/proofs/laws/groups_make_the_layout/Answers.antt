-- Answers to the goals of `groups_make_the_layout` in `src/laws.rt`.
use Rattle.mpw_check_groups.proofs.Grouped.{groups_make}
use Rattle.mpw_check_groups.proofs.laws.groups_make_the_layout.Goals as goal

pub returns : goal.returns
returns c = groups_make c.tests_tell_markers.ensures c.each_marker_meets_some.ensures
    c.shapes_come_from_the_shelf.ensures
