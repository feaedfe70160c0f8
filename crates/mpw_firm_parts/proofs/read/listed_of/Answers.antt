-- Answers to the goals of `listed_of` in `src/read.rt`.
use Rattle.std.proofs.Common.{◌≡◌, ℕ, ap, map, subst, take, Bor, List, None, Option}
use Rattle.std.specs.Prelude.{IfOk, MatchOption}
use Rattle.mpw_firm_parts.specs.declared.line.Listed.{Listed}
use Rattle.mpw_firm_parts.specs.Internal.Reading.{AreOf}
use Rattle.mpw_firm_parts.specs.Reading.{all_of, column_of}
use Rattle.mpw_firm_parts.proofs.Ending.{front_lines}
use Rattle.mpw_firm_parts.proofs.read.listed_of.Goals as goal

pub returns-clause-columns : goal.returns-clause-columns
returns-clause-columns c =
    let lines = c.args.lines.now in
    let told = subst (λ (n : ℕ). IfOk c.columns.result (λ o. MatchOption o
    (all_of column_of (map (λ (x : Bor (List ℕ)). x.now) (take n lines)) ≡ None)
    (λ l. AreOf (all_of column_of (map (λ (x : Bor (List ℕ)). x.now) (take n lines)))
    l.columns.items l.lists.items))) c.saturating_sub.ensures c.columns.ensures.columns in
    subst (λ (found : Option (List Listed)).
    IfOk c.columns.result (λ o. MatchOption o (found ≡ None)
    (λ l. AreOf found l.columns.items l.lists.items)))
    (ap (all_of column_of) (front_lines lines)) told
