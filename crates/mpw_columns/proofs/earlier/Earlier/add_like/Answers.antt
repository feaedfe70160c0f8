-- Answers to the goals of `Earlier::add_like` in `src/earlier.rt`.
use Rattle.std.proofs.Common.{◌≡◌, ◌∙◌, ◌++◌, ℕ, refl, sym, ap, arith}
use Rattle.std.proofs.lemmas.List.{append-nil}
use Rattle.mpw_columns.specs.Internal.Like.{places_from}
use Rattle.mpw_columns.proofs.Blocked.{places_more}
use Rattle.mpw_columns.proofs.earlier.Earlier.add_like.Goals as goal

pub loop-k-init : goal.loop-k-init
loop-k-init c = record { likes = sym (append-nil c.args.self.now.likes.items); kept = refl }

pub loop-k-preserved : goal.loop-k-preserved
loop-k-preserved c = record {
  likes = places_more c.args.self.now.likes.items c.loop-k.self.likes.items c.push.new.self.items
      c.args.earlier c.loop-k.k c.loop-k.invariant.likes c.in_ok-push.ensures.items;
  kept = c.loop-k.invariant.kept;
}

pub returns-clause-likes : goal.returns-clause-likes
returns-clause-likes c =
    let low = c.loop-k-test.false in
    let high = c.loop-k.auto.k-end in
    let all : c.loop-k.k ≡ c.args.count = omega (arith, low, high) in
    c.loop-k.invariant.likes ∙ ap (λ (n : ℕ). c.args.self.now.likes.items ++ places_from c.args.earlier n) all

pub returns-clause-kept : goal.returns-clause-kept
returns-clause-kept c = c.loop-k.invariant.kept
