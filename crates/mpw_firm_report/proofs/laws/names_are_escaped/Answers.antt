-- Answers to the goals of `names_are_escaped` in `src/laws.rt`.
use Rattle.mpw_firm_report.proofs.Escaped.{name_stands, path_stands}
use Rattle.mpw_firm_report.proofs.laws.names_are_escaped.Goals as goal

pub returns : goal.returns
returns c = λ name. (name_stands name, path_stands name)
