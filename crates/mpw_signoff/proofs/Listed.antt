-- The listing of waivers, one more marker at a time.
use Rattle.std.proofs.Common.{◌≡◌, ◌∙◌, ℕ, ◌+◌, Bool, List, ◌∷◌, ◌++◌, ◌<◌, ◌≤◌, length, drop, get_or, Option, sym, ap}
use Rattle.std.proofs.lemmas.List.{append-nil, append_assoc, drop_all, drop_more}
use Rattle.mpw_deck.specs.declared.rule.Rule.{Rule}
use Rattle.mpw_markers.specs.declared.marker.Marker.{Marker}
use Rattle.mpw_replies.specs.declared.reply.Line.{Line}
use Rattle.mpw_waiver.specs.declared.waiver.Waiver.{Waiver}
use Rattle.mpw_waiver.specs.Waivers.{waiver_at}
use Rattle.mpw_signoff.specs.WaiverLines.{shown_line, lines_from}

-- ---- the loop

-- the lines so far, with those that are left
pub one_more : (rules : List Rule) (seen : List Bool) (waivers : List (Option Waiver))
    (book : List Marker) (place : ℕ) (m : Marker) (before after : List Line)
    → place < length book → m ≡ get_or book place m
    → after ≡ before ++ shown_line rules seen m (waiver_at waivers place)
    → after ++ lines_from rules seen waivers (place + 1) (drop (place + 1) book) ≡ before
    ++ lines_from rules seen waivers place (drop place book)
unfolding lines_from
one_more rules seen waivers book place m before after within at e =
    let rest = lines_from rules seen waivers (place + 1) (drop (place + 1) book) in
    let next : drop place book ≡ m ∷ drop (place + 1) book = drop_more book place m within
    ∙ ap (λ x. x ∷ drop (place + 1) book) (sym at) in
    ap (λ l. l ++ rest) e ∙ (append_assoc before (shown_line rules seen m (waiver_at waivers place))
    rest ∙ sym (ap (λ b. before ++ lines_from rules seen waivers place b) next))

pub at_end : (rules : List Rule) (seen : List Bool) (waivers : List (Option Waiver))
    (book : List Marker) (place : ℕ) (lines : List Line)
    → length book ≤ place → lines ++ lines_from rules seen waivers place (drop place book) ≡ lines
unfolding lines_from
at_end rules seen waivers book place lines past =
    ap (λ b. lines ++ lines_from rules seen waivers place b) (drop_all place book past)
    ∙ append-nil lines
