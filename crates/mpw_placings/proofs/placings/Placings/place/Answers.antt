-- Answers to the goals of `Placings::place` in `src/placings.rt`.
use Rattle.std.proofs.Common.{◌∙◌, ◌++◌, [], ◌∷◌, Ok, ap, sym}
use Rattle.mpw_walk.specs.declared.root.Root.{Root}
use Rattle.mpw_placings.specs.Placements.{is_taken}
use Rattle.mpw_placings.proofs.Placing.{without_cell, is_new, has_room, placed, refused}
use Rattle.mpw_placings.proofs.placings.Placings.place.Goals as goal

pub refusal-requires : goal.refusal-requires
refusal-requires c =
    (c.shelves_have_their_numbers.ensures.cells _ _ _ (sym c.in-Some.ensures)).within

pub returns-in_default : goal.returns-in_default
returns-in_default c =
    without_cell c.args.shelf.now c.args.self.now c.args.cell.now c.args.label.now c.args.placing
    c.in_default.ensures

pub returns-in-Some-refusal : goal.returns-in-Some-refusal
returns-in-Some-refusal c =
    refused c.args.shelf.now c.args.self.now c.args.cell.now c.args.label.now c.args.placing
    c.in-Some.submission c.in-Some-refusal.fault c.in-Some.ensures c.in-Some-refusal.ensures

pub returns : goal.returns
returns c =
    let root : Root = record { submission = c.in-Some.submission; placing = c.args.placing } in
    placed c.args.shelf.now c.args.self.now c.args.cell.now c.args.label.now c.args.placing
    c.in-Some.submission c.in-Some.ensures c.in_default-refusal.ensures
    ∙ ap Ok (sym (c.in_ok-with.ensures ∙ (λ k. c.args.self.now ++ record {
      cell = c.in_ok-copy.ensures k;
      label = c.in_ok-copy-2.ensures k;
      root = root;
    } ∷ [])))

pub with-requires : goal.with-requires
with-requires c =
    let shelf = c.args.shelf.now in
    let ps = c.args.self.now in
    let cell = c.args.cell.now in
    let label = c.args.label.now in
    let number = c.in-Some.submission in
    let none = c.in_default-refusal.ensures in
    record {
      new = (λ i. is_taken ps (c.in_ok-copy.ensures i) (c.in_ok-copy-2.ensures i))
          ∙ is_new shelf ps cell label c.args.placing number none;
      room = has_room shelf ps cell label c.args.placing number none;
    }
