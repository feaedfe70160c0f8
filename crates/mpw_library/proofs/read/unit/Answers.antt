-- Answers to the goals of `unit` in `src/read.rt`.
use Rattle.std.proofs.Common.{◌≡◌, ℕ, ◌-◌, List, length, take, drop, Err, sym, ap, ◌∙◌, arith}
use Rattle.std.proofs.lemmas.List.{take_all, length-drop}
use Rattle.mpw_records.specs.Records.{raw}
use Rattle.mpw_real8.specs.Real.{real_value, nanometres}
use Rattle.mpw_library.specs.Grammar.{unit_of, unit_or_fault}
use Rattle.mpw_library.proofs.read.unit.Goals as goal

second_real : (xs : List ℕ) → drop 8 xs ≡ take (length xs - 8) (drop 8 xs)
second_real xs = sym (take_all (length xs - 8) (drop 8 xs) (omega (arith, length-drop 8 xs)))

pub returns-in-Some-clause-unit : goal.returns-in-Some-clause-unit
unfolding unit_of
returns-in-Some-clause-unit c =
    let value = ap (λ xs. nanometres (real_value xs)) (second_real c.args.from.bytes.now)
    ∙ ap nanometres (sym c.read.ensures) ∙ sym c.nanometres.ensures.value in
    sym (ap (λ o. unit_or_fault o (raw c.args.from)) (value ∙ c.in-Some.is))

pub returns-in-None-clause-unit : goal.returns-in-None-clause-unit
unfolding unit_of
returns-in-None-clause-unit c =
    let value = ap (λ xs. nanometres (real_value xs)) (second_real c.args.from.bytes.now)
    ∙ ap nanometres (sym c.read.ensures) ∙ sym c.nanometres.ensures.value in
    sym (ap (λ o. unit_or_fault o (raw c.args.from)) (value ∙ c.in-None.is)
    ∙ ap (λ fault. Err fault) (sym c.fault_of.ensures))
