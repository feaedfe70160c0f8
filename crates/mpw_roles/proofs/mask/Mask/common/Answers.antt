-- Each turn adds the indexes of a word.
use Rattle.std.proofs.Common.{◌≡◌, ◌∙◌, ◌+◌, ◌*◌, ◌^◌, ◌<◌, sym, ap, arith, get_or}
use Rattle.std.specs.Prelude.{bit_and, count_ones}
use Rattle.std.proofs.lemmas.Nat.{and_le_l}
use lib.Count.{ones-le}
use Rattle.mpw_roles.proofs.CommonLemmas.{common_upto, common-word, common-le, common-all}
use Rattle.mpw_roles.proofs.mask.Mask.common.Goals as goal

pub overflow_add-count : goal.overflow_add-count
overflow_add-count c =
    let a = c.args.self.now in
    let b = c.args.other.now in
    let k = c.words.k in
    let word = bit_and (get_or a.words k 0) (get_or b.words k 0) in
    let fits : word < 2 ^ 64 = omega (arith, and_le_l (get_or a.words k 0) (get_or b.words k 0)) in
    let most = ones-le 64 word fits in
    let so_far = common-le a b (k * 64) in
    omega (arith, c.words.invariant, most, so_far)

pub words-preserved : goal.words-preserved
words-preserved c =
    let a = c.args.self.now in
    let b = c.args.other.now in
    let k = c.words.k in
    let word = bit_and (get_or a.words k 0) (get_or b.words k 0) in
    let fits : word < 2 ^ 64 = omega (arith, and_le_l (get_or a.words k 0) (get_or b.words k 0)) in
    let next : k * 64 + 64 ≡ (k + 1) * 64 = omega arith in
    ap (λ n. n + count_ones word) c.words.invariant
    ∙ sym (common-word a b k (omega arith) fits) ∙ ap (common_upto a b) next

pub returns : goal.returns
returns c =
    let end : c.words.k * 64 ≡ 512 = omega arith in
    c.words.invariant ∙ ap (common_upto c.args.self.now c.args.other.now) end
    ∙ common-all c.args.self.now c.args.other.now
