-- Answers to the goals of `markers_of` in `src/check.rt`.
use Rattle.std.proofs.Common.{◌∙◌, ℕ, List, length, length-append, take, drop, map, ap, sym, subst, arith}
use Rattle.std.specs.List.{AllZip}
use Rattle.std.proofs.lemmas.Result.{IfOk-weaker}
use Rattle.mpw_job.specs.Layout.{AreLayoutMarkers}
use Rattle.mpw_columns_keys.specs.declared.column.Column.{Column}
use Rattle.mpw_columns_keys.specs.Keys.{together, of_first}
use Rattle.mpw_columns.specs.Lists.{IsColumnList}
use Rattle.mpw_columns.proofs.Zipped.{zip_length, zip_front}
use Rattle.mpw_columns.proofs.check.markers_of.Goals as goal

pub split_at-requires : goal.split_at-requires
split_at-requires c =
    let h = c.requires.lists in
    let plan = h.plan.plan in
    let long = zip_length (IsColumnList c.args.snapshot.now) h.columns c.args.lists.now h.each in
    let parts = length-append plan.upright plan.across in
    let are = ap length plan.are in
    let counted = h.plan.counted in
    omega (arith, long, parts, are, counted)

pub returns : goal.returns
returns c =
    let s = c.args.snapshot.now in
    let Is = IsColumnList s in
    let h = c.requires.lists in
    let plan = h.plan.plan in
    let lists = c.args.lists.now in
    let both = zip_front Is plan.upright plan.across lists
    (subst (λ (cs : List Column). AllZip Is cs lists) plan.are h.each) in
    let first = c.split_at.result.0.now in
    let second = c.split_at.result.1.now in
    let made = c.lists_make_the_layout.ensures s plan.upright plan.across first second
    c.requires.alone plan.cover
    (subst (AllZip Is plan.upright)
    (sym (c.split_at.ensures.front ∙ ap (λ (n : ℕ). take n lists) h.plan.counted)) both.0)
    (subst (AllZip Is plan.across)
    (sym (c.split_at.ensures.back ∙ ap (λ (n : ℕ). drop n lists) h.plan.counted)) both.1) in
    IfOk-weaker c.together.result _ _
    (λ v e. subst (AreLayoutMarkers s)
    (sym (e ∙ ap (λ (n : ℕ). map of_first (together n first second))
    (c.rule_count-rules.ensures ∙ ap length (c.as_slice.ensures ∙ c.rules.ensures
    ∙ ap (λ d. d.rules) c.deck.ensures)))) made) c.together.ensures
