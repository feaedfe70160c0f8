-- Answers to the goals of `each_request_keeps_the_tables` in `src/tables.rt`.
use Rattle.mpw_rbac_laws.proofs.KeptSessions as sessions
use Rattle.mpw_rbac_laws.proofs.KeptTables as kept
use Rattle.mpw_rbac_laws.proofs.tables.each_request_keeps_the_tables.Goals as goal

pub returns : goal.returns
returns c = record {
  new_desk = sessions.kept-new_desk;
  end_session = sessions.kept-end_session;
  end_sessions = sessions.kept-end_sessions;
  open_session = sessions.kept-open_session;
  activate = sessions.kept-activate;
  drop_role = sessions.kept-drop_role;
  adduser = kept.kept-adduser;
  deluser = kept.kept-deluser;
  addrole = kept.kept-addrole;
  delrole = kept.kept-delrole;
  assign = kept.kept-assign;
  deassign = kept.kept-deassign;
  grant = kept.kept-grant;
  revoke = kept.kept-revoke;
  inherit = kept.kept-inherit;
  uninherit = kept.kept-uninherit;
  ssd = kept.kept-ssd;
  dsd = kept.kept-dsd;
  unssd = kept.kept-unssd;
  undsd = kept.kept-undsd;
}
