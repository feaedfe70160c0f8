-- Answers to the goals of `marks_from` in `src/marks.rt`.
use Rattle.std.proofs.Common.{◌≡◌, ◌-◌, ◌<◌, List, length, Bool, refl, sym, subst, ap, ◌∙◌, arith, rules}
use Rattle.std.specs.Prelude.{slice_get}
use Rattle.std.proofs.lemmas.Option.{slice_get_read}
use Rattle.mpw_hier.specs.declared.submission.Submission.{Submission}
use Rattle.mpw_hier.specs.declared.bindings.Binding.{Binding}
use Rattle.mpw_seen.specs.Internal.Marks.{AreMarked, AreReached}
use Rattle.mpw_seen.proofs.Reaching.{mark_is, reached_none, reached_more, all_written}
use Rattle.mpw_seen.proofs.marks.marks_from.Goals as goal

pub loop-place-preserved-then-index : goal.loop-place-preserved-then-index
loop-place-preserved-then-index c =
    let ss = c.args.shelf.now in
    let from = c.loop-place.place in
    let s = c.index-submissions-place.result in
    let old = c.loop-place.marks.items in
    let new = c.mark_bound.new.marks in
    let shelf = c.submissions-submissions.ensures in
    let many = ap length shelf in
    let within : from - 1 < length c.submissions-submissions.result.now =
    omega (arith, many, c.requires, c.loop-place.auto.place, c.loop-place-test.true) in
    let at = slice_get_read c.submissions-submissions.result.now _ (from - 1) s refl within
    c.index-submissions-place.is in
    let bindings : c.as_slice.result.now ≡ s.bound = c.as_slice.ensures
    ∙ ap (λ (x : Submission). x.bound) (sym c.index-submissions-place.is) in
    let full : length old ≡ c.loop-place.marks.len = search rules in
    let marked : AreMarked s.bound (length s.bound) (from - 1) old new =
    subst (λ (bs : List Binding). AreMarked bs (length bs) (from - 1) old new) bindings
    (subst (λ (ms : List Bool). AreMarked c.as_slice.result.now (length c.as_slice.result.now)
    (from - 1) ms new) c.deref_mut.ensures.value c.mark_bound.ensures) in
    subst (AreReached ss c.args.number (from - 1))
    (sym (all_written old new c.loop-place.marks.len full marked.more.many))
    (reached_more ss c.args.number from old new s c.loop-place.invariant
    (ap (λ xs. slice_get xs (from - 1)) (sym shelf) ∙ at) marked)

pub loop-place-preserved : goal.loop-place-preserved
loop-place-preserved c =
    let within : c.loop-place.place - 1 < length c.loop-place.marks.items =
    omega (arith, c.loop-place.invariant.many, c.loop-place.auto.place, c.loop-place-test.true) in
    reached_none c.args.shelf.now c.args.number c.loop-place.place _ c.loop-place.invariant
    (mark_is c.loop-place.marks.items (c.loop-place.place - 1) _ _ within c.index.ensures
    c.if-index.false)

pub returns : goal.returns
returns c =
    let e : c.loop-place.place ≡ 0 = omega arith in
    subst (λ n. AreReached c.args.shelf.now c.args.number n c.loop-place.marks.items) e
    c.loop-place.invariant
