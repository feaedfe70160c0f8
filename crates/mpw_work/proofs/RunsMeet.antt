-- A run in a core touches a rectangle of the window.
use Rattle.std.proofs.Common.{ℕ, ◌&&◌, List, get_or, refl, arith}
use Rattle.std.specs.Prelude.{ℤ, All}
use Rattle.std.proofs.lemmas.Bool.{and_parts}
use Rattle.std.proofs.lemmas.Int.{ints}
use Rattle.std.proofs.lemmas.List.Elements.{Contains-get_or}
use Rattle.mpw_geom.specs.declared.plane.Box2.{Box2}
use Rattle.mpw_geom.specs.Plane.{Square, has_square}
use Rattle.mpw_deck.specs.declared.rule.Rule.{Rule}
use Rattle.mpw_edges.specs.declared.run.Axis.{Axis}
use Rattle.mpw_edges.specs.declared.run.Axis.TheVariants.{V, H}
use Rattle.mpw_edges.specs.Edges.{Squares}
use Rattle.mpw_edges.specs.Pieces.{HasStep, IsStepOn}
use Rattle.mpw_tiles.specs.declared.listing.Rectangle.{Rectangle}
use Rattle.mpw_markers.specs.declared.marker.Key.{Key}
use Rattle.mpw_geom.specs.Layers.{same_layer}
use Rattle.mpw_job.specs.Layers.{first_squares, second_squares}
use Rattle.mpw_tiles.specs.Listing.{HasListed}
use Rattle.mpw_job.specs.Answers.{TileJob, listed_on, IsFoundIn}
use Rattle.mpw_work.specs.Internal.Found.{AreKeys, MeetsSome}
use Rattle.mpw_job.proofs.Tests.{some_passes}
use Rattle.mpw_job.proofs.Edges.{TellsSeen, some_met}

listed_seen : (listed : List Rectangle) → TellsSeen (listed_on listed) (HasListed listed)
listed_seen listed layer i j e =
    let s : Square = record { column = i; row = j } in
    let p =
    some_passes (λ (r : Rectangle). same_layer r.layer layer && has_square r.area s) listed e in
    (p.0.origin, (p.0, p.1, refl, (and_parts _ _ p.2).1))

-- a pair step within a core is one of the whole plane
anywhere : (rule : Rule) (a b : Squares) (core : Box2) (axis : Axis) (side : ℕ) (x1 x2 j : ℤ)
    → HasStep rule a b core axis side x1 x2 j → IsStepOn rule a b axis side x1 x2 j
anywhere rule a b core V side x1 x2 j h = h.0
anywhere rule a b core H side x1 x2 j h = h.0

run_met : (core : Box2) (listed : List Rectangle) (rule : Rule) (k : Key)
    → IsFoundIn core (listed_on listed) rule k.piece → MeetsSome listed k
run_met core listed rule k h =
    some_met rule (listed_on listed) (HasListed listed) (listed_seen listed) k.piece.axis
    k.piece.side k.piece.x1 k.piece.x2
    k.piece.y0 k.piece.y1 h.filled
    (anywhere rule (first_squares rule.check (listed_on listed))
    (second_squares rule.check (listed_on listed)) core k.piece.axis k.piece.side k.piece.x1
    k.piece.x2 k.piece.y0
    (h.steps k.piece.y0 (omega (arith, ints)) h.filled))

pub keys_meet : (job : TileJob) (keys : List Key) → AreKeys job keys
    → All (MeetsSome job.window) keys
keys_meet job keys h k d lt =
    let s = (h.sound (get_or keys k d) (Contains-get_or keys k d lt)).1 in
    run_met job.core job.window s.rule (get_or keys k d) s.run
