-- Answers to the goals of `runs` in `src/edges.rt`.
use Rattle.std.proofs.Common.{sym, subst, List, ℤ, ◌≡◌}
use Rattle.std.specs.Prelude.{IfOk, Result}
use Rattle.mpw_geom.specs.declared.plane.Box2.{Box2}
use Rattle.mpw_region.specs.declared.runs.Line.{Line}
use Rattle.mpw_region.specs.declared.runs.Run.{Run}
use Rattle.mpw_region.specs.Internal.Runs.{Finds}
use Rattle.mpw_region.specs.Squares.{covers}
use Rattle.mpw_deck.specs.declared.rule.Check.{Check}
use Rattle.mpw_deck.specs.declared.rule.Rule.{Rule}
use Rattle.mpw_edges.specs.Steps.{IsPairStep}
use Rattle.mpw_edges.specs.Pieces.{IsInCore}
use Rattle.mpw_edges.proofs.edges.runs.Goals as goal

-- the steps that the check finds, in the core
abbrev StepsBy : Check → Rule → List Box2 → List Box2 → Box2 → Line → ℤ → Type 0
StepsBy check rule first second core line j = IsPairStep check rule.distance (covers first)
    (covers second) line.side line.first line.second j × IsInCore core line.first j

-- what a check finds, for the rule that has it
by_check : {A E : Type 0} (found : Result A E) (items : A → List Run) (rule : Rule)
    (first second : List Box2) (core : Box2) (own check : Check) → own ≡ check
    → IfOk found (λ v. Finds (items v) (StepsBy check rule first second core))
    → IfOk found (λ v. Finds (items v) (StepsBy own rule first second core))
by_check found items rule first second core own check e h =
    subst (λ (k : Check). IfOk found (λ v. Finds (items v) (StepsBy k rule first second core)))
    (sym e) h

pub returns-in-Width : goal.returns-in-Width
returns-in-Width c = by_check c.widths.result (λ v. v.items) c.args.rule.now c.args.first.now
    c.args.second.now c.args.core _ _ c.in-Width.is c.widths.ensures

pub returns-in-Space : goal.returns-in-Space
returns-in-Space c = by_check c.spaces.result (λ v. v.items) c.args.rule.now c.args.first.now
    c.args.second.now c.args.core _ _ c.in-Space.is c.spaces.ensures

pub returns-in-Separation : goal.returns-in-Separation
returns-in-Separation c = by_check c.between.result (λ v. v.items) c.args.rule.now
    c.args.first.now c.args.second.now c.args.core _ _ c.in-Separation.is
    (rw c.separation.ensures at c.between.ensures)

pub returns-in-Enclosing : goal.returns-in-Enclosing
returns-in-Enclosing c = by_check c.between-in-Enclosing.result (λ v. v.items) c.args.rule.now
    c.args.first.now c.args.second.now c.args.core _ _ c.in-Enclosing.is
    (rw c.enclosing.ensures at c.between-in-Enclosing.ensures)
