-- Answers to the goals of `stitch_apart` in `src/apart.rt`.
use Rattle.std.proofs.Common.{◌≡◌, ◌∙◌, map, ap, subst}
use Rattle.std.specs.Prelude.{IfOk}
use Rattle.std.specs.String.{string_bytes}
use Rattle.mpw_firm_outputs.specs.Outputs.{AreApart}
use Rattle.mpw_firm.specs.Uses.{input_name, stitch_inputs, stitch_outputs}
use Rattle.mpw_firm_outputs.specs.Apart.{names_of}
use Rattle.mpw_firm.proofs.apart.stitch_apart.Goals as goal

pub returns-clause-apart : goal.returns-clause-apart
returns-clause-apart g c =
    let files = g.O.Outputs.files c.args.outputs.now in
    let inputs : names_of c.as_slice-2.result.now ≡ stitch_inputs c.args.options.now =
    ap names_of c.as_slice-2.ensures.value ∙ c.in_ok-inputs.ensures
    ∙ ap (map (λ file. input_name (string_bytes file))) c.as_slice.ensures.value in
    let outs : names_of c.as_slice-3.result.now ≡ stitch_outputs c.args.options.now =
    ap names_of c.as_slice-3.ensures.value ∙ c.in_ok-outs.ensures in
    subst (λ names. IfOk c.apart.result
    (λ x. AreApart files (stitch_inputs c.args.options.now) names))
    outs
    (subst (λ names. IfOk c.apart.result
    (λ x. AreApart files names (names_of c.as_slice-3.result.now)))
    inputs c.apart.ensures.apart)
