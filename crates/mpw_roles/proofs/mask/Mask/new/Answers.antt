-- Answers to the goals of `Mask::new` in `src/mask.rt`.
use Rattle.std.proofs.Common.{◌≡◌, ℕ, zero, suc, get_or, [], ◌∷◌, refl}
use Rattle.mpw_roles.proofs.MaskLemmas.{has-none}
use Rattle.mpw_roles.proofs.mask.Mask.new.Goals as goal

zeros : (k : ℕ) → ◌≡◌ {A = ℕ} (get_or (0 ∷ 0 ∷ 0 ∷ 0 ∷ 0 ∷ 0 ∷ 0 ∷ 0 ∷ []) k 0) 0
zeros zero = refl
zeros (suc zero) = refl
zeros (suc (suc zero)) = refl
zeros (suc (suc (suc zero))) = refl
zeros (suc (suc (suc (suc zero)))) = refl
zeros (suc (suc (suc (suc (suc zero))))) = refl
zeros (suc (suc (suc (suc (suc (suc zero)))))) = refl
zeros (suc (suc (suc (suc (suc (suc (suc zero))))))) = refl
zeros (suc (suc (suc (suc (suc (suc (suc (suc k)))))))) = refl

pub returns : goal.returns
returns c = has-none _ zeros
