-- Answers to the goals of `add_rule` in `src/find.rt`.
use Rattle.std.proofs.Common.{◌≡◌, ◌++◌, List, map, subst}
use Rattle.mpw_edges.specs.declared.run.Piece.{Piece}
use Rattle.mpw_job.specs.Answers.{key_at}
use Rattle.mpw_work.specs.Internal.Shared.{squares_on}
use Rattle.mpw_work.proofs.Serving.{found_on}
use Rattle.mpw_work.proofs.find.add_rule.Goals as goal

pub returns : goal.returns
returns c = λ core on is.
    let shared = c.args.shared.now in
    let rule = c.args.rule.now in
    record {
      runs = c.in_ok-runs.runs.items;
      exact = λ p.
          let told = c.in_ok-runs.ensures.exact shared.distance (on shared.first)
          (squares_on on shared.second) core is c.requires.0 p in
          let same = found_on rule on shared.first shared.second core c.requires.1 p in
          (λ h. same.0 (told.0 h), λ h. told.1 (same.1 h));
      ordered = c.in_ok-runs.ensures.ordered;
      is = subst (λ (ps : List Piece). c.add_keys.new.keys.items ≡ c.args.keys.now.items
          ++ map (key_at c.args.place) ps) c.as_slice.ensures.value c.in_ok-add_keys.ensures;
    }
