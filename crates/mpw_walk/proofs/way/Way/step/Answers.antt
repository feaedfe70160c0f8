-- Answers to the goals of `Way::step` in `src/way.rt`.
use Rattle.std.proofs.Common.{◌≡◌, [], ◌∷◌, ◌++◌, List, Option, Some, None, sym, ap, subst, ◌∙◌}
use Rattle.std.specs.Prelude.{IfNone}
use Rattle.std.specs.Option.{option_to_list}
use Rattle.mpw_walk.specs.declared.frame.Frame.{Frame}
use Rattle.mpw_walk.specs.Way.{IsOnWay}
use Rattle.mpw_walk.specs.Internal.Way.{Does}
use Rattle.mpw_walk.proofs.way.Way.step.Goals as goal

popped_some : (xs ys : List Frame) (o : Option Frame) (f : Frame) → xs ≡ ys ++ option_to_list o
    → o ≡ Some f → xs ≡ ys ++ f ∷ []
popped_some xs ys o f e is = e ∙ ap (λ o. ys ++ option_to_list o) is

popped_none : (o : Option Frame) (P : Type 0) → o ≡ None → IfNone o P → P
popped_none o P is h = subst (λ x. IfNone x P) is h

pub go_on-requires : goal.go_on-requires
go_on-requires c =
    let v = c.args.self.now in
    let items = popped_some v.frames.items c.pop.new.self.items c.pop.result c.in-Some.frame
    c.pop.ensures.items c.in-Some.is in
    subst (λ (fs : List Frame). IsOnWay v.window v.shelf.now v.roots.now v.root v.turns fs) items
    c.requires

pub begin-requires-clause-way : goal.begin-requires-clause-way
begin-requires-clause-way c =
    let v = c.args.self.now in
    let none = popped_none c.pop.result _ c.in-None.is c.pop.ensures.none in
    subst (λ (fs : List Frame). IsOnWay v.window v.shelf.now v.roots.now v.root v.turns fs) none
    c.requires

pub returns-in-Some-clause-does : goal.returns-in-Some-clause-does
returns-in-Some-clause-does c =
    let v = c.args.self.now in
    let items = popped_some v.frames.items c.pop.new.self.items c.pop.result c.in-Some.frame
    c.pop.ensures.items c.in-Some.is in
    subst (λ (fs : List Frame). Does c.go_on.result v fs c.go_on.new.self) (sym items)
    c.go_on.ensures.does

pub returns-in-None-clause-does : goal.returns-in-None-clause-does
returns-in-None-clause-does c =
    let v = c.args.self.now in
    let none = popped_none c.pop.result _ c.in-None.is c.pop.ensures.none in
    subst (λ (fs : List Frame). Does c.begin.result v fs c.begin.new.self) (sym none)
    c.begin.ensures.does
