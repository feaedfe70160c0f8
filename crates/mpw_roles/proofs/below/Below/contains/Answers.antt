-- The mark at the index of the role says whether it is among the marked ones.
use Rattle.std.proofs.Common.{◌≡◌, ◌∙◌, sym, arith, false, [], length}
use Rattle.std.proofs.lemmas.List.Quantifiers.{position-Some}
use Rattle.mpw_geom.specs.Names.{name_eq}
use Rattle.mpw_roles.specs.Hierarchy.{role_names, is_role}
use Rattle.mpw_roles.proofs.MarksLemmas.{read-first, is_marked-none, contains-marked_names, length-names}
use Rattle.mpw_roles.specs.Places.{marks_from}
use Rattle.mpw_roles.proofs.BitLemmas.{mark-at, length-marks_from}
use Rattle.mpw_roles.proofs.NamedLemmas.{names-apart}
use Rattle.mpw_roles.proofs.below.Below.contains.Goals as goal

pub returns-in-Some : goal.returns-in-Some
returns-in-Some c =
    let h = c.self.inside.table.now in
    let ms = marks_from 0 (length h) c.self.inside.mask in
    let r = c.args.role.now in
    let found =
    position-Some (name_eq r) (role_names h) c.in-Some.place [] (sym c.in-Some.ensures.place) in
    let long = length-marks_from 0 (length h) c.self.inside.mask in
    let inside = found.0 in
    rw (← c.self.view_is)
    (c.contains.ensures
    ∙ sym (mark-at (length h) c.self.inside.mask c.in-Some.place (omega (arith, length-names h)))
    ∙ read-first h ms r c.in-Some.place inside (omega (arith, length-names h)) found.1 found.2
    ∙ contains-marked_names h ms r (names-apart (role_names h) c.in-Some.ensures.once)
    (omega arith))

pub returns-in-None : goal.returns-in-None
returns-in-None c =
    let h = c.self.inside.table.now in
    let ms = marks_from 0 (length h) c.self.inside.mask in
    let r = c.args.role.now in
    let long = length-marks_from 0 (length h) c.self.inside.mask in
    let none : is_role h r ≡ false = sym c.in-None.ensures.found in
    rw (← c.self.view_is) (sym (is_marked-none h ms r none)
    ∙ contains-marked_names h ms r (names-apart (role_names h) c.in-None.ensures.once)
    (omega arith))
