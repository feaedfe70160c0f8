-- Answers to the goals of `one_view_is_answered_alike` in `src/views.rt`.
use Rattle.mpw_listing_laws.proofs.Alike.{alike}
use Rattle.mpw_listing_laws.proofs.views.one_view_is_answered_alike.Goals as goal

pub returns : goal.returns
returns c =
    let first = c.args.first.now in
    let second = c.args.second.now in
    let places = c.every_state_has_a_place_for_each_marker.ensures in
    alike c.equal_views_give_equal_answers.ensures.lists first second
    (record {
      run = c.run_is_sound.ensures.run;
      places = places first.officer first.digest
          first.history;
    })
    (record {
      run = c.run_is_sound-2.ensures.run;
      places = places second.officer second.digest
          second.history;
    })
