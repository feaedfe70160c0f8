-- Lexicographic orders.
use Rattle.std.proofs.Common.{◌≡◌, ℤ, ◌≤ℤ◌, false, sym, refl, ap, ◌∙◌, inl, inr, ◌⊎◌, arith}
use Rattle.std.proofs.lemmas.Int.{ints}
use Rattle.std.specs.Cmp.{IsTotalOrder}
use Rattle.std.specs.Ordering.{int_cmp, ordering_then, is_lt, ordering_reverse}
use Rattle.std.specs.declared.cmp.Ordering.{Ordering}
use Rattle.std.specs.declared.cmp.Ordering.TheVariants.{Less, Equal, Greater}
use Rattle.std.proofs.lemmas.Cmp.{tied_itself}

pub then_first : (o p : Ordering) → ordering_then o p ≡ Equal → o ≡ Equal
then_first Less p e = cc
then_first Equal p e = refl
then_first Greater p e = cc

pub then_second : (o p : Ordering) → ordering_then o p ≡ Equal → p ≡ Equal
then_second Less p e = cc
then_second Equal p e = e
then_second Greater p e = cc

pub reversed : (o : Ordering) → ordering_reverse o ≡ Greater → o ≡ Less
reversed Less e = refl
reversed Equal e = cc
reversed Greater e = cc

pub not_after : (x y : ℤ) → is_lt (int_cmp y x) ≡ false → x ≤ℤ y
not_after x y e = grind (arith, ints)

pub then_not_less : (o p : Ordering) → is_lt (ordering_then o p) ≡ false
    → (o ≡ Greater) ⊎ ((o ≡ Equal) × (is_lt p ≡ false))
then_not_less Less p e = cc
then_not_less Equal p e = inr (refl, e)
then_not_less Greater p e = inl refl

pub first_not_less : (o p : Ordering) → is_lt (ordering_then o p) ≡ false → is_lt o ≡ false
first_not_less Less p f = f
first_not_less Equal p f = refl
first_not_less Greater p f = refl

module _ {L : Type 0} (cmp : L → L → Ordering) (total : IsTotalOrder cmp) where
  -- nothing comes before itself
  pub before_itself : (a b : L) → cmp a b ≡ Less → a ≡ b → ⊥
  before_itself a b less e =
      let tied : cmp a a ≡ Equal = tied_itself total a in
      let also : cmp a a ≡ Less = ap (cmp a) e ∙ less in
      let clash : Less ≡ Equal = sym also ∙ tied in
      cc

  -- along lines in order, and on one line along P and Q
  pub chain : {P Q S : Type 0} (a b c : L) → (P → Q → S) → (cmp a b ≡ Less) ⊎ ((a ≡ b) × P)
      → (cmp b c ≡ Less) ⊎ ((b ≡ c) × Q) → (cmp a c ≡ Less) ⊎ ((a ≡ c) × S)
  chain a b c on (inl p) (inl q) = inl (total.trans a b c p q)
  chain a b c on (inl p) (inr q) = inl (ap (cmp a) (sym q.0) ∙ p)
  chain a b c on (inr p) (inl q) = inl (ap (λ l. cmp l c) p.0 ∙ q)
  chain a b c on (inr p) (inr q) = inr (p.0 ∙ q.0, on p.1 q.1)
