-- Answers to the goals of `Book::place` in `src/book.rt`.
use Rattle.std.proofs.Common.{Ok, Err, rules}
use Rattle.mpw_markers.proofs.Found.{search_is, place_ok, place_none}
use Rattle.mpw_markers.proofs.book.Book.place.Goals as goal

pub returns-in-Ok : goal.returns-in-Ok
returns-in-Ok c =
    place_ok c.args.self.now c.as_slice-markers.result.now c.args.key.now c.place-place.result
    c.in-Ok.i c.as_slice-markers.ensures.markers c.as_slice-markers.ensures.book
    c.place-place.ensures c.in-Ok.ensures.bound
    (search_is c.as_slice-markers.result.now c.place-place.result (Ok c.in-Ok.i)
    c.in-Ok.ensures.position (λ a r q k. search rules))

pub returns-in-Err : goal.returns-in-Err
returns-in-Err c =
    place_none c.args.self.now c.as_slice-markers.result.now c.args.key.now c.place-place.result
    c.in-Err.field-0 c.as_slice-markers.ensures.markers c.as_slice-markers.ensures.book
    c.place-place.ensures
    (search_is c.as_slice-markers.result.now c.place-place.result (Err c.in-Err.field-0)
    c.in-Err.ensures.position (λ a r q k. search rules))
