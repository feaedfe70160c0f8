-- The results of look-ups.
use Rattle.std.proofs.Common.{◌≡◌, Bool, true, false, Option, Some, None, refl, sym, ap, ◌∙◌}
use Rattle.std.specs.Prelude.{option_copied, MatchBool}
use Rattle.std.specs.Borrow.{Bor}

pub copied_none : {X : Type 0} (o : Option (Bor X)) (p : Option X) → o ≡ None → option_copied o ≡ p
    → p ≡ None
copied_none o p is copied = sym copied ∙ ap option_copied is

pub copied_some : {X : Type 0} (o : Option (Bor X)) (b : Bor X) (p : Option X) → o ≡ Some b
    → option_copied o ≡ p → p ≡ Some b.now
copied_some o b p is copied = sym copied ∙ ap option_copied is

-- what a test decides
pub decided : (b : Bool) (P Q : Type 0) → (b ≡ true → P) → (b ≡ false → Q) → MatchBool b P Q
decided true P Q f g = f refl
decided false P Q f g = g refl
