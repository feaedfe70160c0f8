-- Answers to the goals of `Way::begin` in `src/way.rt`.
use Rattle.std.proofs.Common.{length, arith}
use Rattle.mpw_walk.proofs.EnteredRoots.{ended, root_present, passes_root}
use Rattle.mpw_walk.proofs.Fronts.{found, none_within}
use Rattle.mpw_walk.proofs.way.Way.begin.Goals as goal

pub returns-in_default-clause-does : goal.returns-in_default-clause-does
returns-in_default-clause-does c =
    let v = c.args.self.now in
    ended v c.requires.empty (none_within c.get.result v.root (length v.roots.now) c.in_default.is
    c.get.ensures.lookup.0)

pub top-top-requires : goal.top-top-requires
top-top-requires c =
    let v = c.args.self.now in
    let root_is = found v.roots.now v.root c.get.result c.in-Some.root c.in-Some.is
    c.get.ensures.lookup.0 c.get.ensures.lookup.1 in
    root_present c.names_are_walked.ensures v c.requires.way c.requires.empty c.in-Some.root.now
    root_is

pub enter_root-requires-clause-next : goal.enter_root-requires-clause-next
enter_root-requires-clause-next c =
    let v = c.args.self.now in
    found v.roots.now v.root c.get.result c.in-Some.root c.in-Some.is c.get.ensures.lookup.0
    c.get.ensures.lookup.1

pub returns : goal.returns
returns c =
    let v = c.args.self.now in
    let root_is = found v.roots.now v.root c.get.result c.in-Some.root c.in-Some.is
    c.get.ensures.lookup.0 c.get.ensures.lookup.1 in
    let passed = passes_root c.names_are_walked.ensures v c.requires.way c.requires.empty
    c.in-Some.root.now root_is c.top-top.result c.top-top.ensures.shows c.top-top.ensures.low
    (omega (arith, c.if-top-gt0.false)) in
    record { way = passed.way; does = passed.does }
