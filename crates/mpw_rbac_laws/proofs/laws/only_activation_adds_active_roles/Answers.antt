-- Answers to the goals of `only_activation_adds_active_roles` in `src/laws.rt`.
use Rattle.mpw_rbac_laws.proofs.ActiveLemmas as active
use Rattle.mpw_rbac.proofs.RowTests.{AddUser, DeleteUser, AddRole, DeleteRole, Assign, Deassign, AddGrant, Revoke, Inherit, Uninherit, MakeStatic, MakeDynamic, RemoveStatic, RemoveDynamic}
use Rattle.mpw_rbac_laws.proofs.laws.only_activation_adds_active_roles.Goals as goal

pub returns : goal.returns
returns c = record {
  end_session = active.adds-end_session;
  end_sessions = active.adds-end_sessions;
  adduser = λ user digest. active.adds-administration (AddUser user digest);
  deluser = λ user. active.adds-administration (DeleteUser user);
  addrole = λ role. active.adds-administration (AddRole role);
  delrole = λ role. active.adds-administration (DeleteRole role);
  assign = λ user role. active.adds-administration (Assign user role);
  deassign = λ user role. active.adds-administration (Deassign user role);
  grant = λ grant. active.adds-administration (AddGrant grant);
  revoke = λ grant. active.adds-administration (Revoke grant);
  inherit =
      λ senior junior. active.adds-administration (Inherit senior junior);
  uninherit =
      λ senior junior. active.adds-administration (Uninherit senior junior);
  ssd = λ set. active.adds-administration (MakeStatic set);
  dsd = λ set. active.adds-administration (MakeDynamic set);
  unssd = λ name. active.adds-administration (RemoveStatic name);
  undsd = λ name. active.adds-administration (RemoveDynamic name);
}
