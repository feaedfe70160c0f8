-- Answers to the goals of `Frame::front` in `src/frame.rt`.
use Rattle.std.proofs.Common.{◌≡◌, ◌<◌, length, Option, Some, refl, sym, ap, subst, ◌∙◌}
use Rattle.std.proofs.Common.{rules}
use Rattle.std.specs.Prelude.{slice_get, option_copied}
use Rattle.std.specs.Borrow.{Bor}
use Rattle.mpw_hier.specs.declared.submission.Submission.{Submission}
use Rattle.mpw_walk.proofs.Fronts.{front_is, got, one, structure_within}
use Rattle.mpw_walk.proofs.frame.Frame.front.Goals as goal

from_is : (o : Option (Bor Submission)) (from : Bor Submission) (p : Option Submission)
    (s : Submission) → o ≡ Some from → option_copied o ≡ p → p ≡ Some s → s ≡ from.now
from_is o from p s is copied at = one p s from.now at (sym copied ∙ ap option_copied is)

pub unwrap-structure-requires : goal.unwrap-structure-requires
unwrap-structure-requires c =
    let w = c.requires.nodes in
    let node = c.unwrap-node.result.now in
    let at = got c.args.nodes.now c.args.place c.get-2.result c.unwrap-node.result
    c.unwrap-node.ensures c.get-2.ensures.lookup.1 c.requires.place in
    let same = from_is c.get.result c.unwrap-from.result _ w.submission c.unwrap-from.ensures
    c.get.ensures w.is in
    let within = structure_within c.args.shelf.now c.args.submission c.args.nodes.now c.args.place
    node w at in
    c.get-3.ensures.lookup.2 (subst (λ l. node.structure < length l)
    (ap (λ (s : Submission). s.library) same ∙ sym c.structures-structures.ensures) within)

pub returns : goal.returns
returns c =
    let w = c.requires.nodes in
    let node = c.unwrap-node.result.now in
    let at = got c.args.nodes.now c.args.place c.get-2.result c.unwrap-node.result
    c.unwrap-node.ensures c.get-2.ensures.lookup.1 c.requires.place in
    let same = from_is c.get.result c.unwrap-from.result _ w.submission c.unwrap-from.ensures
    c.get.ensures w.is in
    let within = structure_within c.args.shelf.now c.args.submission c.args.nodes.now c.args.place
    node w at in
    let library = ap (λ (s : Submission). s.library) same ∙ sym c.structures-structures.ensures in
    let here = subst (λ l. node.structure < length l) library within in
    let named = got c.structures-structures.result.now node.structure c.get-3.result
    c.unwrap-structure.result c.unwrap-structure.ensures c.get-3.ensures.lookup.1 here in
    front_is c.args.shelf.now c.args.submission c.args.nodes.now c.args.place _ w
    c.unwrap-structure.result.now at (subst
    (λ l. slice_get l node.structure ≡ Some c.unwrap-structure.result.now) (sym library) named)
    (search rules) refl refl c.as_slice.ensures refl refl refl refl
