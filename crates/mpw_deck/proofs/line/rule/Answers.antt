-- Answers to the goals of `rule` in `src/line.rt`.
use Rattle.std.proofs.Common.{Some, None, subst, sym}
use Rattle.mpw_deck.specs.Internal.Reads.{Reads}
use Rattle.mpw_deck.proofs.Words.{by_one, by_two}
use Rattle.mpw_deck.proofs.line.rule.Goals as goal

pub returns-in-Some-clause-reads : goal.returns-in-Some-clause-reads
returns-in-Some-clause-reads c =
    subst (Reads c.one_layer.result)
    (sym (by_one c.args.words.now (Some c.in-Some.key) c.in-len4.len_at_least c.in-len4.len_below
    c.in-Some.ensures)) c.one_layer.ensures.reads

pub returns-in-None-clause-reads : goal.returns-in-None-clause-reads
returns-in-None-clause-reads c =
    by_one c.args.words.now None c.in-len4.len_at_least c.in-len4.len_below c.in-None.ensures

pub returns-in-Some-of-clause-reads : goal.returns-in-Some-of-clause-reads
returns-in-Some-of-clause-reads c =
    subst (Reads c.two_layers.result)
    (sym (by_two c.args.words.now (Some c.in-Some-of.key) c.in-len5.len_at_least
    c.in-len5.len_below c.in-Some-of.ensures)) c.two_layers.ensures.reads

pub returns-in-None-of-clause-reads : goal.returns-in-None-of-clause-reads
returns-in-None-of-clause-reads c =
    by_two c.args.words.now None c.in-len5.len_at_least c.in-len5.len_below c.in-None-of.ensures
