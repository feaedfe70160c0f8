-- Answers to the goals of `part_of` in `src/part.rt`.
use Rattle.std.proofs.Common.{◌≡◌, ◌∙◌, ◌+◌, ◌-◌, ℕ, List, length, take, drop, Option, Some, ap, sym, subst, arith}
use Rattle.mpw_columns_keys.specs.declared.column.Column.{Column}
use Rattle.mpw_firm_spread.specs.Ranges.{IsSpanOf}
use Rattle.mpw_firm_spread.specs.declared.range.Span.{Span}
use Rattle.mpw_firm.proofs.part.part_of.Goals as goal

-- A span by its first column and how many there are.
span_by : (span : Span) (first many : ℕ) → first ≡ span.first → span.first + many ≡ span.end
    → span ≡ record { first = first; end = first + many }
span_by span first many a b =
    let end : span.end ≡ first + many = omega (arith, a, b) in
    λ i. record { first = sym a i; end = end i }

pub returns-clause-asked : goal.returns-clause-asked
returns-clause-asked g c =
    let columns = c.in_ok-columns.columns.items in
    let part = c.in_ok-part.field-0 in
    let span = c.in-Some.span in
    let all : c.count-total.result ≡ length columns =
    c.count-total.ensures ∙ ap (λ (cs : List Column). length cs) c.as_slice-columns.ensures.value in
    let many : length part.lists ≡ span.end - span.first =
    omega (arith, c.in_ok-part.ensures.count) in
    record {
      columns = columns;
      cut = c.in_ok-columns.ensures.columns;
      told = ap (λ subject. subject.columns) (c.in_ok-part.ensures.subject ∙ c.subject_of-subject.ensures) ∙ all;
      span = subst (λ (cs : List Column). IsSpanOf c.args.range (length cs) (Some (record {
        first = part.first;
        end = part.first + length part.lists;
      }))) c.as_slice-columns.ensures.value
          (subst (λ s. IsSpanOf c.args.range (length c.as_slice-columns.result.now) (Some s))
          (span_by span part.first (length part.lists) c.in_ok-part.ensures.first
          c.in_ok-part.ensures.count)
          (subst (IsSpanOf c.args.range (length c.as_slice-columns.result.now)) c.in-Some.is
          c.in_ok-found.ensures.span));
      own = subst (λ n. part.columns ≡ take n (drop part.first columns)) (sym many)
          (subst (λ n. part.columns ≡ take (span.end - span.first) (drop n columns))
          (sym c.in_ok-part.ensures.first)
          (subst (λ (cs : List Column).
          part.columns ≡ take (span.end - span.first) (drop span.first cs))
          c.as_slice-columns.ensures.value c.in_ok-part.ensures.columns));
    }
