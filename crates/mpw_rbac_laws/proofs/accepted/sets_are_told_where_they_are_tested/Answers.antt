-- Answers to the goals of `sets_are_told_where_they_are_tested` in `src/accepted.rt`.
use Rattle.std.proofs.Common.{refl}
use Rattle.mpw_separation.specs.declared.set.Kind.TheVariants.{Static, Dynamic}
use Rattle.mpw_rbac_laws.proofs.AcceptedLemmas as lemma
use Rattle.mpw_rbac.proofs.RowTests.{AddUser, DeleteUser, AddRole, DeleteRole, Assign, Deassign, AddGrant, Revoke, Uninherit, MakeStatic, MakeDynamic, RemoveStatic, RemoveDynamic}
use Rattle.mpw_rbac_laws.proofs.accepted.sets_are_told_where_they_are_tested.Goals as goal

pub returns : goal.returns
returns c = record {
  open_session_static = lemma.no_static-open_session;
  open_session_dynamic = lemma.no_dynamic-open_session;
  activate_static = lemma.no_static-activate;
  drop_role_static = lemma.no_static-drop_role;
  drop_role_dynamic = lemma.no_dynamic-drop_role;
  adduser_static =
      λ user digest. lemma.no_sets Static (AddUser user digest) refl;
  adduser_dynamic =
      λ user digest. lemma.no_sets Dynamic (AddUser user digest) refl;
  deluser_static = λ user. lemma.no_sets Static (DeleteUser user) refl;
  deluser_dynamic = λ user. lemma.no_sets Dynamic (DeleteUser user) refl;
  addrole_static = λ role. lemma.no_sets Static (AddRole role) refl;
  addrole_dynamic = λ role. lemma.no_sets Dynamic (AddRole role) refl;
  delrole_static = λ role. lemma.no_sets Static (DeleteRole role) refl;
  delrole_dynamic = λ role. lemma.no_sets Dynamic (DeleteRole role) refl;
  assign_dynamic = λ user role. lemma.no_sets Dynamic (Assign user role) refl;
  deassign_static =
      λ user role. lemma.no_sets Static (Deassign user role) refl;
  deassign_dynamic =
      λ user role. lemma.no_sets Dynamic (Deassign user role) refl;
  grant_static = λ grant. lemma.no_sets Static (AddGrant grant) refl;
  grant_dynamic = λ grant. lemma.no_sets Dynamic (AddGrant grant) refl;
  revoke_static = λ grant. lemma.no_sets Static (Revoke grant) refl;
  revoke_dynamic = λ grant. lemma.no_sets Dynamic (Revoke grant) refl;
  uninherit_static =
      λ senior junior. lemma.no_sets Static (Uninherit senior junior) refl;
  uninherit_dynamic =
      λ senior junior. lemma.no_sets Dynamic (Uninherit senior junior) refl;
  ssd_dynamic = λ set. lemma.no_sets Dynamic (MakeStatic set) refl;
  dsd_static = λ set. lemma.no_sets Static (MakeDynamic set) refl;
  unssd_static = λ name. lemma.no_sets Static (RemoveStatic name) refl;
  unssd_dynamic = λ name. lemma.no_sets Dynamic (RemoveStatic name) refl;
  undsd_static = λ name. lemma.no_sets Static (RemoveDynamic name) refl;
  undsd_dynamic = λ name. lemma.no_sets Dynamic (RemoveDynamic name) refl;
}
