-- Which columns are asked for.
use Rattle.std.specs.Prelude.{◌≡◌, ◌==◌, ◌≤◌, ◌+◌, ◌-◌, ◌*◌, ◌&&◌, ℕ, zero, suc, nat_le, nat_lt, List, [], ◌∷◌, length, take, drop, sum, All, Option, None, Some, option_map, option_and_then, if◌then◌else◌}
use Rattle.std.specs.List.{slice_split}
use Rattle.mpw_text.specs.Text.{number_of}
use Rattle.mpw_firm_spread.specs.declared.range.Span.{Span}
use Rattle.mpw_firm_spread.specs.declared.range.ColumnRange.{ColumnRange}
use Rattle.mpw_firm_spread.specs.declared.range.ColumnRange.TheVariants as ranges

-- ---- the columns of a layout, of which each has an estimated cost

-- how many of the first columns it takes until their costs, each `count` times, reach so much
unfoldable pub reach_of : (count wanted : ℕ) → List ℕ → ℕ
reach_of count zero costs = 0
reach_of count (suc wanted) [] = 0
reach_of count (suc wanted) (cost ∷ costs) =
    suc (reach_of count (suc wanted - count * cost) costs)

-- the first column before which the costs reach so many of `count` equal shares of all
abbrev pub border_of : (shares count : ℕ) → List ℕ → ℕ
border_of shares count costs = reach_of count (shares * sum costs) costs

-- a share, counted from 1
unfoldable pub share_of : (number count : ℕ) → List ℕ → Option Span
share_of number count costs =
    if nat_le 1 number && nat_le number count
    then Some (record {
      first = border_of (number - 1) count costs;
      end = border_of number count costs;
    })
    else None

-- the columns from one to another, both included, if all are there
unfoldable pub columns_from : (first last total : ℕ) → Option Span
columns_from first last total =
    if nat_le first last && nat_lt last total then Some (record { first = first; end = last + 1 })
    else None

abbrev pub span_of : ColumnRange → List ℕ → Option Span
span_of (ranges.Columns first last) costs = columns_from first last (length costs)
span_of (ranges.Share number count) costs = share_of number count costs

-- The columns of a range, of so many that each cost something.
pub record IsSpanOf (range : ColumnRange) (total : ℕ) (span : Option Span) : Type 0 where
  pub costs : List ℕ
  pub each : length costs ≡ total
  pub some : All (λ cost. 1 ≤ cost) costs
  pub span_is : span_of range costs ≡ span

-- The shares of one number begin at column 0, each where the one before ends, up to the last column if each column costs something.
-- None costs more than an equal share of all and the dearest column together.
pub record SharesFollowOn : Type 0 where
  pub begin : (count : ℕ) (costs : List ℕ) (one : Span)
      → span_of (ranges.Share 1 count) costs ≡ Some one → one.first ≡ 0
  pub follow : (number count : ℕ) (costs : List ℕ) (one next : Span)
      → span_of (ranges.Share number count) costs ≡ Some one
      → span_of (ranges.Share (number + 1) count) costs ≡ Some next
      → next.first ≡ one.end
  pub finish : (count : ℕ) (costs : List ℕ) (one : Span) → All (λ cost. 1 ≤ cost) costs
      → span_of (ranges.Share count count) costs ≡ Some one → one.end ≡ length costs
  pub even : (number count most : ℕ) (costs : List ℕ) (one : Span)
      → All (λ cost. cost ≤ most) costs
      → span_of (ranges.Share number count) costs ≡ Some one
      → count * sum (take (one.end - one.first) (drop one.first costs))
      ≤ sum costs + count * most

-- ---- what a text names

unfoldable pub share_by : List (List ℕ) → Option ColumnRange
share_by (number ∷ count ∷ []) =
    option_and_then (λ n. option_map (λ k. ranges.Share k n) (number_of 1 n number))
    (number_of 1 4096 count)
share_by _ = None

unfoldable pub columns_by : List (List ℕ) → Option ColumnRange
columns_by (first ∷ last ∷ []) =
    option_and_then (λ b. option_map (λ a. ranges.Columns a b) (number_of 0 b first))
    (number_of 0 4194303 last)
columns_by _ = None

abbrev pub else_by : Option ColumnRange → Option ColumnRange → Option ColumnRange
else_by None other = other
else_by (Some range) other = Some range

-- `A-B`, or `K/N` for a share
unfoldable pub range_of : List ℕ → Option ColumnRange
range_of text =
    else_by (columns_by (slice_split (λ b. b == 45) text))
    (share_by (slice_split (λ b. b == 47) text))
