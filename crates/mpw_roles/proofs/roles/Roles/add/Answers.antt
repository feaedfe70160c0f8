-- The tests of a new role.
use Rattle.std.proofs.Common.{◌≡◌, ◌∙◌, sym, arith, false}
use Rattle.mpw_roles.specs.Hierarchy.{is_role}
use Rattle.mpw_roles.proofs.TableLemmas.{add-ok}
use Rattle.mpw_roles.proofs.roles.Roles.add.Goals as goal

pub returns-clause-ok : goal.returns-clause-ok
returns-clause-ok c =
    let h = c.args.self.now in
    let new : is_role h c.args.role ≡ false = sym c.contains.ensures ∙ c.if-contains.false in
    add-ok h c.add_new.new.self c.args.role new (omega arith) c.in_ok-add_new.ensures.ok
