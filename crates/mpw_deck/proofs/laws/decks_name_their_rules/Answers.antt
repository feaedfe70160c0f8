-- Answers to the goals of `decks_name_their_rules` in `src/laws.rt`.
use Rattle.mpw_deck.proofs.Named.{text_named, text_faulty}
use Rattle.mpw_deck.proofs.laws.decks_name_their_rules.Goals as goal

pub returns-clause-named : goal.returns-clause-named
returns-clause-named c = text_named

pub returns-clause-faults : goal.returns-clause-faults
returns-clause-faults c = text_faulty
