-- Answers to the goals of `add_pairs` in `src/pair.rt`.
use Rattle.std.proofs.Common.{inl, inr, arith, length-drop}
use Rattle.std.proofs.lemmas.List.{take_rest, length-take}
use Rattle.mpw_edges.specs.declared.pair.Edge.{Edge}
use Rattle.mpw_edges.specs.Internal.Pairs.{IsPairOf}
use Rattle.mpw_edges.proofs.Pairing.{Moves-on, Moves-all}
use Rattle.mpw_edges.proofs.pair.add_pairs.Goals as goal

pub returns-then-j-tos : goal.returns-then-j-tos
returns-then-j-tos c = Moves-all c.args.runs.now.items c.loop-i.runs.items c.args.side
    c.args.limits.now c.args.froms.now c.args.tos.now c.loop-i.i c.loop-i.j c.loop-i.invariant.moves
    (inr c.if-j-tos.true)

pub loop-i-preserved : goal.loop-i-preserved
loop-i-preserved c =
    let froms = c.args.froms.now in
    let tos = c.args.tos.now in
    let i = c.loop-i.i in
    let j = c.loop-i.j in
    record {
      moves = Moves-on c.args.runs.now.items c.loop-i.runs.items c.add_bands.new.runs.items
          (IsPairOf c.args.side c.args.limits.now froms tos) c.args.side c.args.limits.now froms tos
          _ _ i j c.in_ok-m.m c.in_ok-m.n (take_rest froms i) (take_rest tos j)
          c.loop-i.invariant.moves c.in_ok-m.ensures.moves;
      from = omega (
        arith,
        c.in_ok-m.ensures.from_within,
        length-take {A = Edge},
        length-drop {A = Edge},
      );
      to = omega (
        arith,
        c.in_ok-m.ensures.to_within,
        length-take {A = Edge},
        length-drop {A = Edge},
      );
    }

pub returns : goal.returns
returns c = Moves-all c.args.runs.now.items c.loop-i.runs.items c.args.side c.args.limits.now
    c.args.froms.now c.args.tos.now c.loop-i.i c.loop-i.j c.loop-i.invariant.moves
    (inl c.loop-i-test.false)
