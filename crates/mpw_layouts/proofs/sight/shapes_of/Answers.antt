-- Answers to the goals of `shapes_of` in `src/sight.rt`.
use Rattle.std.proofs.Common.{◌≡◌, ap, ◌∙◌}
use Rattle.std.proofs.lemmas.Result.{IfOk-weaker}
use Rattle.mpw_hier.specs.Values.{flat}
use Rattle.mpw_layouts.proofs.SightLemmas.{all_readable}
use Rattle.mpw_replies.specs.Listing.{seen_lines}
use Rattle.mpw_access.specs.Seen.{seen_by}
use Rattle.mpw_layouts.proofs.sight.shapes_of.Goals as goal

pub returns : goal.returns
returns c =
    let ss = c.args.shelf.now in
    let policy = c.args.policy.now in
    let seen : c.in_ok-seen.seen.items ≡ seen_by policy c.args.connection ss = c.in_ok-seen.ensures
    ∙ ap (seen_by policy c.args.connection) c.submissions.ensures in
    let lines = ap (λ shelf. seen_lines shelf c.in_ok-seen.seen.items (flat shelf c.args.number))
    c.in_ok-copy.ensures
    ∙ all_readable policy ss c.args.connection c.in_ok-seen.seen.items (flat ss c.args.number) seen
    in
    IfOk-weaker c.new.result _ _ (λ listing is. is ∙ lines) c.new.ensures
