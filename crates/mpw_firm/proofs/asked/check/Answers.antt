-- Answers to the goals of `check` in `src/asked.rt`.
use Rattle.std.proofs.Common.{◌≡◌, ◌∙◌, ◌+◌, ◌-◌, ◌^◌, min, List, ℕ, Option, Some, ap, length, map, subst, sym}
use Rattle.std.proofs.lemmas.List.{length-map}
use Rattle.std.specs.String.{string_bytes}
use Rattle.mpw_deck.specs.Decks.{Deck}
use Rattle.mpw_deck.specs.declared.rule.Rule.{Rule}
use Rattle.mpw_firm_outputs.specs.Outputs.{Kept}
use Rattle.mpw_firm_report.specs.Content.{Noted, Told, fault_of, note_of}
use Rattle.mpw_firm_sources.specs.Notes.{notes_of}
use Rattle.mpw_firm_sources.specs.Seen.{told_seen}
use Rattle.mpw_tiles.specs.Snapshots.{Snapshot}
use Rattle.mpw_firm.specs.Came.{PutsAll, shown_by}
use Rattle.mpw_firm.specs.Held.{IsFoundOf}
use Rattle.mpw_firm.proofs.Flat.{flat_of}
use Rattle.mpw_firm.proofs.Capped.{capped_more}
use Rattle.mpw_firm.proofs.asked.check.Goals as goal

pub found_in-requires-clause-alone : goal.found_in-requires-clause-alone
found_in-requires-clause-alone g c = λ κs l.
    ap (λ (s : Snapshot). length s.shelf) c.in_ok-drawn.ensures.read.2.by.from.drawn.snapshot_is

pub returns : goal.returns
returns g c =
    let read = c.in_ok-drawn.ensures.read.2 in
    let drawn = c.in_ok-drawn.drawn in
    let is = c.in_ok-found.ensures in
    let book = is.0 in
    let choices = c.args.choices.now in
    let options = c.args.options.now in
    let begun = g.O.Outputs.kept c.drawn_by.new.outputs in
    let new = g.O.Outputs.kept c.write_all.new.outputs in
    let told = map note_of c.as_slice-told.result.now in
    let faults = map fault_of c.as_slice-faults.result.now in
    let left_out = map told_seen drawn.left_out.items in
    let same = ap (map fault_of) c.as_slice-faults.ensures.value ∙ c.in_ok-left_out.ensures
    ∙ ap (map told_seen) c.as_slice.ensures.value in
    let many = sym (length-map c.as_slice-faults.result.now fault_of)
    ∙ ap (λ (ts : List Told). length ts) same
    ∙ length-map drawn.left_out.items told_seen in
    let rules = c.as_slice-rules.result.now in
    let given : rules ≡ drawn.layout.deck.rules =
    c.as_slice-rules.ensures ∙ c.rules.ensures ∙ ap (λ (d : Deck). d.rules) c.deck.ensures in
    let held = subst (λ (rs : List Rule). IsFoundOf c.enough_for.result (length rs)
    c.in_ok-found.field-0 book) (sym given) is.2 in
    let enough = subst (λ (e : Option ℕ). IsFoundOf e (length rules) c.in_ok-found.field-0 book)
    c.enough_for.ensures held in
    let ruled = subst (λ (rs : List Rule). PutsAll options drawn.layout
    (record {
      original = Some c.as_str-file.result.now;
      top = drawn.top;
      rules = rs;
      parts = drawn.parts;
      book = book;
      limit = choices.limit;
      notes = told;
      summary = choices.summary;
      faults = faults;
    }) begun new) given (c.in_ok-write_all.ensures book enough) in
    let written = subst (λ (file : List ℕ). PutsAll options drawn.layout
    (record {
      original = Some file;
      top = drawn.top;
      rules = drawn.layout.deck.rules;
      parts = drawn.parts;
      book = book;
      limit = choices.limit;
      notes = told;
      summary = choices.summary;
      faults = faults;
    }) begun new) c.as_str-file.ensures.value ruled in
    let noted = subst (λ (notes : List Noted). PutsAll options drawn.layout
    (record {
      original = Some (string_bytes options.file);
      top = drawn.top;
      rules = drawn.layout.deck.rules;
      parts = drawn.parts;
      book = book;
      limit = choices.limit;
      notes = notes;
      summary = choices.summary;
      faults = faults;
    }) begun new)
    (ap (map note_of) c.as_slice-told.ensures.value ∙ c.in_ok-notes.ensures) written in
    let left = subst (λ (ts : List Told). PutsAll options drawn.layout
    (record {
      original = Some (string_bytes options.file);
      top = drawn.top;
      rules = drawn.layout.deck.rules;
      parts = drawn.parts;
      book = book;
      limit = choices.limit;
      notes = notes_of drawn.layout;
      summary = choices.summary;
      faults = ts;
    }) begun new) same noted in
    record {
      deck = c.in_ok-drawn.ensures.read.0;
      library = c.in_ok-drawn.ensures.read.1;
      drawn = drawn;
      book = book;
      read = read;
      looked = c.in_ok-look_at.ensures;
      markers = is.1;
      flat = flat_of c.markers_are_flat.ensures options.top choices c.in_ok-drawn.ensures.read.0
          c.in_ok-drawn.ensures.read.1 drawn book read is.1;
      count = capped_more (length book) (length drawn.left_out.items) c.in_ok-found.field-0.all _
          is.2.all (c.saturating_add.ensures
          ∙ ap (λ (n : ℕ). min (c.in_ok-found.field-0.all + n) (2 ^ 64 - 1)) many);
      kept = subst (λ (old : Option (List Kept)). PutsAll options drawn.layout
          (shown_by options choices drawn book) old new) c.in_ok-drawn.ensures.kept left;
    }
