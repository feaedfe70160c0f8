-- Answers to the goals of `rank_of` in `src/met.rt`.
use Rattle.mpw_replies.proofs.RankLemmas.{rank_found, rank_none}
use Rattle.mpw_replies.proofs.met.rank_of.Goals as goal

pub returns-in-Ok : goal.returns-in-Ok
returns-in-Ok c = rank_found c.requires.0 c.args.cells.now c.args.name.now c.in-Ok.rank c.requires.1
    c.in-Ok.ensures.bound c.in-Ok.ensures.position

pub returns-in-Err : goal.returns-in-Err
returns-in-Err c = rank_none c.requires.0 c.args.cells.now c.args.name.now c.in-Err.field-0
    c.requires.1 c.in-Err.ensures.position
