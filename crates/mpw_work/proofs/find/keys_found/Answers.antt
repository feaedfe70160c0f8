-- Answers to the goals of `keys_found` in `src/find.rt`.
use Rattle.std.proofs.Common.{◌≡◌, List, length, refl, sym, ap, ◌∙◌, arith, rules}
use Rattle.std.specs.Prelude.{slice_get}
use Rattle.std.proofs.lemmas.Option.{slice_get_read}
use Rattle.mpw_deck.specs.declared.rule.Rule.{Rule}
use Rattle.mpw_job.specs.Answers.{listed_on}
use Rattle.mpw_work.proofs.ByLayer.{same_on}
use Rattle.mpw_work.proofs.Adding.{no_keys, keys_more, all_keys}
use Rattle.mpw_work.proofs.find.keys_found.Goals as goal

pub loop-place-init : goal.loop-place-init
loop-place-init c = (rw c.new-keys.ensures.items (no_keys c.args.job.now), search rules)

pub loop-place-preserved : goal.loop-place-preserved
loop-place-preserved c =
    let same : c.as_slice-rules.result.now ≡ c.args.job.now.rules = c.as_slice-rules.ensures
    ∙ c.rules.ensures in (
      keys_more c.args.job.now c.loop-place.place c.core-core.result
          (listed_on c.as_slice-rectangles.result.now) c.index-rules-place.result
          c.loop-place.keys.items c.add_rule.new.keys.items c.core-core.ensures
          (ap listed_on c.as_slice-rectangles.ensures.value
          ∙ sym (same_on c.as_slice.result.now c.in_ok-sorted.sorted.items
          c.in_ok-sorted.ensures.same) ∙ ap listed_on (c.as_slice.ensures ∙ c.window.ensures))
          (sym (ap (λ (rs : List Rule). slice_get rs c.loop-place.place) same)
          ∙ slice_get_read c.as_slice-rules.result.now (length c.as_slice-rules.result.now)
          c.loop-place.place c.index-rules-place.result refl c.loop-place-test.true
          c.index-rules-place.is)
          c.loop-place.invariant.0 (c.in_ok-add_rule.ensures c.core-core.result
          (listed_on c.as_slice-rectangles.result.now) c.in_ok-shared.ensures.shared),
      c.in_ok-shared.ensures.shared,
    )

pub returns : goal.returns
returns c =
    let same : c.as_slice-rules.result.now ≡ c.args.job.now.rules = c.as_slice-rules.ensures
    ∙ c.rules.ensures in
    let many = c.loop-place-test.false in
    all_keys c.args.job.now c.loop-place.place c.loop-place.keys.items
    (omega (arith, ap (λ (rs : List Rule). length rs) same)) c.loop-place.invariant.0

pub shared_for-requires-clause-ordered : goal.shared_for-requires-clause-ordered
shared_for-requires-clause-ordered c =
    rw c.as_slice-rectangles.ensures.value c.in_ok-sorted.ensures.ordered
