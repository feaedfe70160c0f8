-- Answers to the goals of `exchange_exchanges_axes` in `src/laws.rt`.
use Rattle.mpw_edges.proofs.Window.{exchange}
use Rattle.mpw_edges.proofs.laws.exchange_exchanges_axes.Goals as goal

pub returns : goal.returns
returns c = exchange
