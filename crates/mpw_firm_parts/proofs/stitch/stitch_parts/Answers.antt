-- Answers to the goals of `stitch_parts` in `src/stitch.rt`.
use Rattle.std.proofs.Common.{◌≡◌, ◌∙◌, ap, subst, refl, Some, List, Option, ℕ, length, arith}
use Rattle.std.specs.Prelude.{slice_get}
use Rattle.std.proofs.lemmas.Option.{slice_get_read}
use Rattle.std.proofs.lemmas.Result.{IfErr-weaker}
use Rattle.mpw_geom.specs.declared.plane.Box2.{Box2}
use Rattle.mpw_firm_parts.specs.Parts.{Checked, Found}
use Rattle.mpw_firm_parts.specs.Stitching.{AreAllOf, HaveRules, IsFaultOf}
use Rattle.mpw_firm_parts.specs.Internal.Stitching.{IsUnput}
use Rattle.mpw_firm_parts.proofs.Joining.{fault_told}
use Rattle.mpw_firm_parts.proofs.stitch.stitch_parts.Goals as goal

pub returns-clause-faults : goal.returns-clause-faults
returns-clause-faults c =
    let parts = c.args.parts.items in
    let rules = c.args.rules in
    let first = c.first-item.result in
    let some = c.in-len1-up.len_at_least in
    let at : slice_get parts 0 ≡ Some first =
    subst (λ (ps : List Found). slice_get ps 0 ≡ Some first) c.as_slice.ensures.value
    (slice_get_read c.as_slice.result.now (length c.as_slice.result.now) 0 first refl
    (omega (arith, some)) c.first-item.is) in
    let same : AreAllOf first.subject parts =
    subst (λ (s : Checked). AreAllOf s parts) c.subject-3.ensures
    (subst (λ (ps : List Found). AreAllOf c.subject-3.result.now ps) c.as_slice-2.ensures.value
    c.in_default-first_other.ensures) in
    let ruled : HaveRules rules parts =
    subst (λ (ps : List Found). HaveRules rules ps) c.as_slice-3.ensures.value
    c.in_default-first_unruled.ensures in
    let extent = c.extent-extent.ensures ∙ ap (λ (s : Checked). s.extent) c.subject.ensures in
    let columns = c.columns.ensures.columns ∙ ap (λ (s : Checked). s.columns) c.subject-2.ensures in
    IfErr-weaker c.put_together.result
    (IsUnput rules c.extent-extent.result c.columns.result parts) (IsFaultOf rules parts)
    (λ fault h. fault_told rules parts first fault at same ruled
    (subst (λ (e : Option Box2). IsUnput rules e first.subject.columns parts fault) extent
    (subst (λ (n : ℕ). IsUnput rules c.extent-extent.result n parts fault) columns h)))
    c.put_together.ensures.fault
