-- Answers to the goals of `write_all` in `src/asked.rt`.
use Rattle.std.proofs.Common.{List, length, map, option_map, subst}
use Rattle.std.proofs.lemmas.Result.{IfOk-weaker}
use Rattle.std.specs.String.{string_bytes}
use Rattle.mpw_markers.specs.declared.marker.Marker.{Marker}
use Rattle.mpw_firm_outputs.proofs.Growth.{grows_named}
use Rattle.mpw_firm_picture.specs.Drawn.{IsDrawnWith}
use Rattle.mpw_firm.specs.Held.{enough_listed}
use Rattle.mpw_firm.specs.Keys.{IsViewOf}
use Rattle.mpw_firm.specs.Shown.{areas_of, most_of}
use Rattle.mpw_firm_report.specs.Content.{fault_of}
use Rattle.mpw_firm.proofs.HeldTexts.{all_for, all_of, all_wanted}
use Rattle.mpw_firm.proofs.asked.write_all.Goals as goal

pub returns : goal.returns
returns g c = λ book is.
    let checked = c.args.checked.now in
    let report = option_map string_bytes c.args.options.now.report in
    let rules = length checked.rules.now in
    let layout = c.args.layout.now in
    let found = checked.found.now in
    let faults = map fault_of checked.faults.now in
    let all =
    all_wanted _ _ report checked.summary checked.limit rules found book c.in-Some.is is in
    let same = all_of rules found book all in
    let view = c.in_ok-view.view in
    let enough =
    all_for (enough_listed report checked.summary checked.limit) rules found book all in
    let listed = c.in_ok-write_listed.ensures.kept book enough in
    let seen = subst (λ (ms : List Marker). IsViewOf
    (option_map string_bytes c.in-Some.wanted.key) checked.parts.now checked.rules.now layout ms (most_of checked.limit)
    view) same c.in_ok-view.ensures.view in
    let picture = c.in_ok-drawn.drawn in
    IfOk-weaker c.put_picture.result _ _
    (λ x p. rw c.in-Some.is (
      view,
      picture,
      seen,
      subst (λ (ms : List Marker). IsDrawnWith layout ms (areas_of faults) (length faults) view picture)
          same c.in_ok-drawn.ensures,
      grows_named _ _ _ _ _ _ _ c.as_str.ensures.value listed p,
    ))
    c.put_picture.ensures.kept
