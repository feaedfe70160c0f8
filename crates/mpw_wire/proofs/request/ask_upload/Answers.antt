-- Answers to the goals of `ask_upload` in `src/request.rt`.
use Rattle.std.proofs.Common.{◌≡◌, ◌∙◌, ◌-◌, [], None, map, length, take, get_or, sym, ap}
use Rattle.mpw_requests.specs.Parts.{upload_of}
use Rattle.mpw_requests.specs.Table.{verb_shape}
use Rattle.mpw_wire.specs.Names.{◌>>=◌}
use Rattle.mpw_wire.specs.Request.{operands_of, offered}
use Rattle.mpw_wire.proofs.LastWord.{words_before}
use Rattle.mpw_wire.proofs.request.ask_upload.Goals as goal

pub returns-in-None : goal.returns-in-None
returns-in-None c =
    let words = map (λ word. word.now) c.args.words.now in
    let before = length words - 1 in
    let found : operands_of c.args.origin (verb_shape c.args.verb) (take before words) ≡ None =
    ap (λ shape. operands_of c.args.origin shape (take before words)) (sym c.form_of.ensures.shape)
    ∙ ap (operands_of c.args.origin c.form_of.result.shape) (words_before c.args.words.now)
    ∙ sym c.in_ok-operands.ensures ∙ c.in-None.is in
    sym (ap (λ o. offered c.args.origin (o >>= upload_of c.args.verb) (get_or words before []))
    found)
