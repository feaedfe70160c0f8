-- Answers to the goals of `text_of` in `src/record.rt`.
use Rattle.std.proofs.Common.{ℕ, ◌+◌, Vec, Global, ◌||◌, [], map, drop, sym, ap, ◌∙◌, append_assoc, append-nil}
use Rattle.std.proofs.lemmas.List.{at_drop_all}
use Rattle.std.proofs.lemmas.Result.{err_from_is_err_and}
use Rattle.gate_samples.specs.Text.{raw, text_of, has_too_long}
use Rattle.gate_samples.proofs.Texts.{text_more, too_long_more, gives_err, found_too_long}
use Rattle.gate_samples.proofs.record.text_of.Goals as goal

pub returns-in_err-add : goal.returns-in_err-add
returns-in_err-add c =
    let rs = c.args.records.now in
    let p = err_from_is_err_and c.from_residual.result c.from_residual.ensures.1 in
    rw (p.1, p.2) (gives_err {X = Vec ℕ Global} (λ text. text.items) [] (map raw rs)
    c.in_err-add.field-0.0 (λ e. found_too_long rs c.loop-new.new-index _ c.loop-new-test.true
    c.loop-new.invariant.fits (c.in_err-add.ensures.too_long e)))

pub loop-new-preserved : goal.loop-new-preserved
loop-new-preserved c =
    let rs = c.args.records.now in
    let i = c.loop-new.new-index in
    record {
      same = rw (c.in_ok-add.ensures.ok, append_assoc, ← text_more rs i _ c.loop-new-test.true)
          c.loop-new.invariant.same;
      fits = sym (too_long_more rs i _ c.loop-new-test.true
          ∙ ap (λ b. b || has_too_long (map raw (drop (i + 1) rs))) c.in_ok-add.ensures.fits)
          ∙ c.loop-new.invariant.fits;
    }

pub returns : goal.returns
unfolding text_of has_too_long
returns c =
    let rs = c.args.records.now in
    let i = c.loop-new.new-index in
    let text = at_drop_all (λ left. text_of (map raw left)) rs i c.loop-new-test.false in
    let long = at_drop_all (λ left. has_too_long (map raw left)) rs i c.loop-new-test.false in
    (sym c.loop-new.invariant.fits ∙ long, rw append-nil at (rw text at c.loop-new.invariant.same))
