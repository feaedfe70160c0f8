-- Answers to the goals of `markers_of` in `src/first.rt`.
use Rattle.std.proofs.Common.{◌≡◌, ◌∙◌, ◌*◌, ℕ, List, length, length-append, map, sum_by, take, drop, ap, sym, subst, arith}
use Rattle.std.specs.List.{AllZip, range_with_len}
use Rattle.mpw_columns_keys.specs.declared.column.Column.{Column}
use Rattle.mpw_columns_keys.specs.declared.first.Firsts.{Firsts}
use Rattle.mpw_columns_keys.specs.declared.placed.Placed.{Placed}
use Rattle.mpw_columns_keys.specs.Firsts.{capped, first_placed, rule_counted, IsListed}
use Rattle.mpw_columns_keys.specs.Keys.{of_first, together}
use Rattle.mpw_columns.specs.Lists.{IsColumnList}
use Rattle.mpw_columns.proofs.ListingMade.{have_sides, same_first, zip_drop, zip_take}
use Rattle.mpw_columns.proofs.Zipped.{zip_front, zip_length}
use Rattle.mpw_columns.proofs.first.markers_of.Goals as goal

pub split_at-requires : goal.split_at-requires
split_at-requires c =
    let h = c.requires.listing in
    let plan = h.plan.plan in
    let s = c.args.snapshot.now in
    let lists = h.listing.lists in
    let first = zip_length (IsColumnList s) h.columns lists h.listing.each in
    let second = zip_length (IsListed c.args.most (2 * length s.deck.rules) c.args.listing.now.firsts.items)
    c.args.listing.now.placed.items lists h.listing.are in
    let parts = length-append plan.upright plan.across in
    let are = ap length plan.are in
    let counted = h.plan.counted in
    let same = ap length c.as_slice-2.ensures.value in
    omega (arith, first, second, parts, are, counted, same)

pub returns : goal.returns
returns c =
    let s = c.args.snapshot.now in
    let most = c.args.most in
    let h = c.requires.listing in
    let plan = h.plan.plan in
    let count = length plan.upright in
    let lists = h.listing.lists in
    let rules = length s.deck.rules in
    let Is = IsColumnList s in
    let both = zip_front Is plan.upright plan.across lists
    (subst (λ (cs : List Column). AllZip Is cs lists) plan.are h.listing.each) in
    let vs = take count lists in
    let hs = drop count lists in
    let firsts = c.as_slice-3.result.now in
    let Li = IsListed most (2 * rules) firsts in
    let are = subst (λ (fs : List Firsts). AllZip (IsListed most (2 * rules) fs) c.args.listing.now.placed.items lists)
    (sym c.as_slice-3.ensures.value) h.listing.are in
    let front = subst (λ (ps : List Placed). AllZip Li ps vs)
    (sym (c.split_at.ensures.front ∙ ap (take c.args.upright) c.as_slice-2.ensures.value
    ∙ ap (λ (n : ℕ). take n c.args.listing.now.placed.items) h.plan.counted))
    (zip_take Li count c.args.listing.now.placed.items lists are) in
    let back = subst (λ (ps : List Placed). AllZip Li ps hs)
    (sym (c.split_at.ensures.back ∙ ap (drop c.args.upright) c.as_slice-2.ensures.value
    ∙ ap (λ (n : ℕ). drop n c.args.listing.now.placed.items) h.plan.counted))
    (zip_drop Li count c.args.listing.now.placed.items lists are) in
    let law = c.test_decides_pair_steps.ensures in
    let count_is : c.rule_count-rules.result ≡ rules =
    c.rule_count-rules.ensures ∙ ap length (c.as_slice.ensures ∙ c.rules.ensures ∙ ap (λ d. d.rules) c.deck.ensures) in
    let upright = c.split_at.result.0.now in
    let across = c.split_at.result.1.now in
    let made = c.shared_lists_have_the_first.ensures most rules firsts upright across
    vs hs front back (have_sides law s plan.upright vs both.0) (have_sides law s plan.across hs both.1) in record {
      book = map of_first (together rules vs hs);
      markers = c.lists_make_the_layout.ensures s plan.upright plan.across vs hs c.requires.alone plan.cover both.0 both.1;
      are = same_first most rules (map of_first (together rules vs hs))
          (map of_first (first_placed most firsts upright across rules)) c.in_ok-first_markers.field-0.items
          (map (λ rule. capped (rule_counted firsts upright across rule)) (range_with_len 0 rules)) c.in_ok-counts.field-0.items
          (capped (sum_by (rule_counted firsts upright across) (range_with_len 0 rules))) c.count.result
          (c.in_ok-first_markers.ensures ∙ ap (λ (n : ℕ). map of_first (first_placed most firsts upright across n)) count_is)
          (c.in_ok-counts.ensures ∙ ap (λ (n : ℕ). map (λ rule. capped (rule_counted firsts upright across rule)) (range_with_len 0 n)) count_is)
          (c.count.ensures ∙ ap (λ (n : ℕ). capped (sum_by (rule_counted firsts upright across) (range_with_len 0 n))) count_is)
          made;
    }
