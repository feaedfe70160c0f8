-- Whether the receipts have a connection's end, by how many calls the pass counts.
use Rattle.std.proofs.Common.{◌≡◌, ◌≢◌, ◌∙◌, ◌==◌, ℕ, Bool, true, false, Result, Ok, Err, refl, sym, ap, ⊎_elim, IfOk, arith}
use Rattle.std.specs.Prelude.{not, OnErr}
use Rattle.std.proofs.lemmas.Bool.Decides.{nat_tests}
use Rattle.mpw_events.specs.declared.event.Event.TheVariants as event
use Rattle.mpw_events.specs.declared.event.Response.{Response}
use Rattle.mpw_events.specs.GoingOn.{IsEnded}
use Rattle.mpw_desk.specs.Passes.{Grows}
use Rattle.mpw_desk.specs.Serving.{IsParted}
use Rattle.mpw_desk.specs.Steps.{Records}
use Rattle.mpw_desk.specs.Values.{PassView}

-- the counts differ exactly if the call was recorded
by-counts : (p p' : PassView) (response : Response) (m n : ℕ) → m ≡ p'.count → n ≡ p.count
    → Grows p (event.Gone p.connection) response p' → IsParted p (not (m == n)) p'
by-counts p p' response m n behind before grows = go (m == n) refl
  where
    go : (b : Bool) → (m == n) ≡ b → IsParted p (not b) p'
    go false is =
        let apart : m ≢ n = grind (arith, nat_tests) in
        ⊎_elim (λ (left : (p' ≡ p) × IsEnded (event.Gone p.connection) response).
        absurd (apart (behind ∙ (ap (λ (x : PassView). x.count) left.0 ∙ sym before))))
        (λ (one : (kept : Bool) × Records (event.Gone p.connection) response kept p p').
        (response, one)) grows
    go true is =
        let same : m ≡ n = grind (arith, nat_tests) in
        ⊎_elim (λ (left : (p' ≡ p) × IsEnded (event.Gone p.connection) response). left.0)
        (λ (one : (kept : Bool) × Records (event.Gone p.connection) response kept p p').
        absurd (omega (arith, same, behind, before, one.1.count))) grows

left-by-counts : (p p' : PassView) (m n : ℕ) → m ≡ p'.count → n ≡ p.count → p' ≡ p
    → IsParted p (not (m == n)) p'
left-by-counts p p' m n behind before left = go (m == n) refl
  where
    go : (b : Bool) → (m == n) ≡ b → IsParted p (not b) p'
    go false is =
        let apart : m ≢ n = grind (arith, nat_tests) in
        absurd (apart (behind ∙ (ap (λ (x : PassView). x.count) left ∙ sym before)))
    go true is = left

pub parted-by-counts : {E : Type 0} (p p' : PassView) (result : Result Response E) (m n : ℕ)
    → m ≡ p'.count → n ≡ p.count
    → IfOk result (λ response. Grows p (event.Gone p.connection) response p')
    → OnErr result (p' ≡ p) → IsParted p (not (m == n)) p'
parted-by-counts p p' (Ok response) m n behind before grows left =
    by-counts p p' response m n behind before grows
parted-by-counts p p' (Err e) m n behind before grows left =
    left-by-counts p p' m n behind before left
