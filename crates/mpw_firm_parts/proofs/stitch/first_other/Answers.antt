-- Answers to the goals of `first_other` in `src/stitch.rt`.
use Rattle.std.proofs.Common.{◌≡◌, ◌∙◌, sym, subst, List}
use Rattle.std.specs.Prelude.{All}
use Rattle.std.proofs.lemmas.List.{take_all}
use Rattle.std.proofs.lemmas.List.Elements.{All-more}
use Rattle.mpw_firm_parts.specs.Parts.{Found}
use Rattle.mpw_firm_parts.proofs.Subjects.{same_checked}
use Rattle.mpw_firm_parts.proofs.stitch.first_other.Goals as goal

pub loop-place-preserved : goal.loop-place-preserved
loop-place-preserved c =
    let part = c.index-parts-place.result in
    let same = sym c.subject.ensures ∙ same_checked c.args.first.now c.subject.result.now
    (sym c.difference.ensures ∙ c.in_default.is) in
    All-more (λ (p : Found). p.subject ≡ c.args.first.now) c.args.parts.now c.loop-place.place part
    c.loop-place-test.true c.loop-place.invariant
    (subst (λ (p : Found). p.subject ≡ c.args.first.now) c.index-parts-place.is same)

pub returns : goal.returns
returns c =
    subst (λ (ps : List Found). All (λ (p : Found). p.subject ≡ c.args.first.now) ps)
    (take_all c.loop-place.place c.args.parts.now c.loop-place-test.false)
    c.loop-place.invariant
