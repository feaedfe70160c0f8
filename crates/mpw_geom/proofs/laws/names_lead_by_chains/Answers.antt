-- Answers to the goals of `names_lead_by_chains` in `src/laws.rt`.
use Rattle.mpw_geom.specs.Links.{same}
use Rattle.mpw_geom.proofs.Linked.{leads-sound, leads-complete, leads-trans}
use Rattle.mpw_geom.proofs.laws.names_lead_by_chains.Goals as goal

pub returns : goal.returns
returns c = record {
  chains = λ h a b. (leads-sound h a b, leads-complete h a b);
  reflexive = λ h a. leads-complete h a a same;
  transitive = leads-trans;
}
