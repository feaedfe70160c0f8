-- Answers to the goals of `layers_look_unlike` in `src/laws.rt`.
use Rattle.mpw_firm_picture.proofs.Unlike as unlike
use Rattle.mpw_firm_picture.proofs.laws.layers_look_unlike.Goals as goal

pub returns-clause-places : goal.returns-clause-places
returns-clause-places c = unlike.places_look_unlike

pub returns-clause-layers : goal.returns-clause-layers
returns-clause-layers c = unlike.layers_look_unlike
