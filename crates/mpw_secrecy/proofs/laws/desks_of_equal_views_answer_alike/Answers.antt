-- Answers to the goals of `desks_of_equal_views_answer_alike` in `src/laws.rt`.
use Rattle.mpw_events.specs.History.{state_of}
use Rattle.mpw_secrecy.proofs.laws.desks_of_equal_views_answer_alike.Goals as goal

pub returns : goal.returns
returns c = λ connection requests same are.
    let first = c.args.first.now in
    let second = c.args.second.now in
    let places = c.every_state_has_a_place_for_each_marker.ensures in
    c.equal_views_give_equal_answers.ensures.lists connection (state_of first) (state_of second)
    requests
    (record {
      run = c.run_is_sound.ensures.run;
      places = places first.officer first.digest
          first.history;
    })
    (record {
      run = c.run_is_sound-2.ensures.run;
      places = places second.officer second.digest
          second.history;
    }) same are
