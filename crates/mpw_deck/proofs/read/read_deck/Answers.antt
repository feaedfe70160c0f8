-- Answers to the goals of `read_deck` in `src/read.rt`.
use Rattle.std.proofs.Common.{map, ◌∙◌, sym, ap, Bor, List, ℕ, [], arith}
use Rattle.std.proofs.lemmas.Result.{err_from_is_err_and}
use Rattle.std.proofs.lemmas.List.{nil_from_length}
use Rattle.mpw_deck.proofs.Lines.{first_and_rest, deck_none, deck_read, deck_side_fault, deck_rules_fault}
use Rattle.mpw_deck.proofs.read.read_deck.Goals as goal

abbrev no_line : Bor (List ℕ)
no_line = record { ref_ptr = (0, 0); now = [] }

abbrev bytes_of : List (Bor (List ℕ)) → List (List ℕ)
bytes_of lines = map (λ x. x.now) lines

pub returns-in_default-as_slice-clause-fault : goal.returns-in_default-as_slice-clause-fault
returns-in_default-as_slice-clause-fault c = λ n.
    let none = nil_from_length c.in-Ok.lines.items (omega arith) in
    deck_none _ (sym c.in-Ok.ensures ∙ ap bytes_of none)

pub returns-in_err-tile-clause-fault : goal.returns-in_err-tile-clause-fault
returns-in_err-tile-clause-fault c =
    let p = err_from_is_err_and c.from_residual.result c.from_residual.ensures.1 in
    let lines = sym c.in-Ok.ensures ∙ ap bytes_of (sym c.as_slice.ensures.value)
    ∙ first_and_rest c.as_slice.result.now no_line c.in-len1-up.len_at_least in
    rw (p.1, p.2) (λ n. deck_side_fault _ _ _ c.in_err-tile.field-0.0 lines
    (c.in_err-tile.ensures.fault n))

pub returns-in_err-rules-clause-fault : goal.returns-in_err-rules-clause-fault
returns-in_err-rules-clause-fault c =
    let p = err_from_is_err_and c.from_residual-in_err-rules.result
    c.from_residual-in_err-rules.ensures.1 in
    let lines = sym c.in-Ok.ensures ∙ ap bytes_of (sym c.as_slice.ensures.value)
    ∙ first_and_rest c.as_slice.result.now no_line c.in-len1-up.len_at_least in
    rw (p.1, p.2) (λ n. deck_rules_fault _ _ _ c.in_ok-tile.tile c.in_err-rules.field-0.0 lines
    c.in_ok-tile.ensures.ok (c.in_err-rules.ensures.fault n))

pub returns-in-Ok-from_vec-clause-ok : goal.returns-in-Ok-from_vec-clause-ok
returns-in-Ok-from_vec-clause-ok c =
    let lines = sym c.in-Ok.ensures ∙ ap bytes_of (sym c.as_slice.ensures.value)
    ∙ first_and_rest c.as_slice.result.now no_line c.in-len1-up.len_at_least in
    rw (c.new.ensures, c.in-Ok-from_vec.ensures)
    (deck_read _ _ _ c.in_ok-tile.tile c.in_ok-rules.rules.items lines c.in_ok-tile.ensures.ok
    c.in_ok-rules.ensures.ok)
