-- Answers to the goals of `Finds::next` in `src/found.rt`.
use Rattle.std.proofs.Common.{◌≡◌, ◌∙◌, ◌+◌, ◌-◌, ◌∷◌, [], drop, suc, sym, ap, arith, refl, true, false}
use Rattle.mpw_records.specs.Records.{front, seen, told_length}
use Rattle.mpw_firm_skipping.specs.Found.{found_from, goes_on}
use Rattle.mpw_firm_skipping.proofs.Finding.{found_last, found_more, found_none}
use Rattle.mpw_firm_skipping.proofs.found.Finds.next.Goals as goal
use Rattle.mpw_firm_skipping.proofs.found.Finds.next.Goals.{then-goes_on, else-goes_on}

pub returns-then-self-eq0-clause-none : goal.returns-then-self-eq0-clause-none
returns-then-self-eq0-clause-none c =
    let s = c.self.inside in
    sym c.self.view_is ∙ found_none s.left s.text.now s.at c.if-self-eq0.true

pub returns-clause-some : goal.returns-clause-some
returns-clause-some c =
    let s = c.self.inside in
    let text = s.text.now in
    let one : s.left ≡ suc (s.left - 1) = omega arith in
    let is : front text s.at ≡ seen c.record_at-found.result = sym c.record_at-found.ensures.outcome in
    elim c.if-goes_on.branch [
      | then-goes_on w ↦
          let more : goes_on (front text s.at) ≡ true =
          ap goes_on is ∙ sym c.goes_on.ensures ∙ w.if-goes_on.true in
          rw w.self-is
          (sym c.self.view_is ∙ found_more s.left (s.left - 1) text s.at one more
          ∙ ap (λ o. o ∷ found_from (s.left - 1) text (s.at + told_length (drop s.at text))) is
          ∙ ap (λ n. seen c.record_at-found.result ∷ found_from (s.left - 1) text (s.at + n))
          (sym w.length_at.ensures))
      | else-goes_on w ↦
          let ends : goes_on (front text s.at) ≡ false =
          ap goes_on is ∙ sym c.goes_on.ensures ∙ w.if-goes_on.false in
          rw w.self-is
          (sym c.self.view_is ∙ found_last s.left (s.left - 1) text s.at one ends
          ∙ ap (λ o. o ∷ []) is
          ∙ ap (λ rs. seen c.record_at-found.result ∷ rs) (sym (found_none 0 text s.at refl)))
    ]
