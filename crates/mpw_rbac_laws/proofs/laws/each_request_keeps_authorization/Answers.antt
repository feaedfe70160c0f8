-- Answers to the goals of `each_request_keeps_authorization` in `src/laws.rt`.
use Rattle.mpw_rbac_laws.proofs.LawLemmas as law
use Rattle.mpw_rbac_laws.proofs.laws.each_request_keeps_authorization.Goals as goal

pub returns : goal.returns
returns c = record {
  new_desk = law.keeps-new_desk;
  end_session = law.keeps-end_session;
  end_sessions = law.keeps-end_sessions;
  open_session = law.keeps-open_session;
  activate = law.keeps-activate;
  adduser = law.keeps-adduser;
  addrole = law.keeps-addrole;
  assign = law.keeps-assign;
  grant = law.keeps-grant;
  revoke = law.keeps-revoke;
  drop_role = law.keeps-drop_role;
  deluser = law.keeps-deluser;
  delrole = law.keeps-delrole;
  deassign = law.keeps-deassign;
  inherit = law.keeps-inherit;
  uninherit = law.keeps-uninherit;
  ssd = law.keeps-ssd;
  dsd = law.keeps-dsd;
  unssd = law.keeps-unssd;
  undsd = law.keeps-undsd;
}
