-- Answers to the goals of `rules` in `src/read.rt`.
use Rattle.std.proofs.Common.{get_or, map, ◌∙◌, sym, Bor, List, ℕ, [], arith}
use Rattle.std.proofs.lemmas.List.{length-append}
use Rattle.std.proofs.lemmas.List.Elements.{All-push}
use Rattle.mpw_deck.specs.Decks.{IsRule}
use Rattle.mpw_deck.proofs.Lines.{rules_next, rules_fault, told_from_refuses, line_at, inside}
use Rattle.mpw_deck.proofs.read.rules.Goals as goal

abbrev no_line : Bor (List ℕ)
no_line = record { ref_ptr = (0, 0); now = [] }

pub returns-in-Err-clause-fault : goal.returns-in-Err-clause-fault
returns-in-Err-clause-fault c = λ n.
    let lines = c.args.lines.now in
    let i = c.loop-i.i in
    let told = told_from_refuses _ _ c.in-Err.ensures.reads n in
    sym c.loop-i.invariant.read ∙ rules_fault c.loop-i.rules.items (map (λ x. x.now) lines) i
    (get_or lines i no_line).now c.in-Err.kind (inside lines i c.loop-i-test.true)
    (line_at lines i no_line c.loop-i-test.true) (rw c.as_slice.ensures.value at told)

pub loop-i-preserved : goal.loop-i-preserved
loop-i-preserved c =
    let lines = c.args.lines.now in
    let i = c.loop-i.i in
    let told = c.in-Ok.ensures.reads in
    let seen = rw c.as_slice.ensures.value at told in
    let next = rules_next c.loop-i.rules.items (map (λ x. x.now) lines) i
    (get_or lines i no_line).now c.in-Ok.rule (inside lines i c.loop-i-test.true)
    (line_at lines i no_line c.loop-i-test.true) seen in
    record {
      read = rw c.in-Ok-push.ensures.items (next ∙ c.loop-i.invariant.read);
      few = rw c.in-Ok-push.ensures.items
          (let room = c.in-Ok.ensures.room in simp length-append (omega arith));
      rules = rw c.in-Ok-push.ensures.items
          (All-push IsRule c.loop-i.rules.items c.in-Ok.rule c.loop-i.invariant.rules
          c.in-Ok.ensures.rule);
    }
