-- Answers to the goals of `each_request_keeps_separation` in `src/laws.rt`.
use Rattle.mpw_rbac_laws.proofs.SoundRows as law
use Rattle.mpw_rbac_laws.proofs.laws.each_request_keeps_separation.Goals as goal

pub returns : goal.returns
returns c = record {
  new_desk = law.sound-new_desk;
  end_session = law.sound-end_session;
  end_sessions = law.sound-end_sessions;
  open_session = law.sound-open_session;
  activate = law.sound-activate_row;
  drop_role = law.sound-drop_role;
  adduser = law.sound-adduser_row;
  deluser = law.sound-deluser;
  addrole = law.sound-addrole_row;
  delrole = law.sound-delrole;
  assign = law.sound-assign_row;
  deassign = law.sound-deassign;
  grant = law.sound-grant;
  revoke = law.sound-revoke;
  inherit = law.sound-inherit;
  uninherit = law.sound-uninherit;
  ssd = law.sound-ssd;
  dsd = law.sound-dsd;
  unssd = law.sound-unssd;
  undsd = law.sound-undsd;
}
