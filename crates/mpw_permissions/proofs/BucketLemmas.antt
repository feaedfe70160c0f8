-- Masks in buckets: if the mask of one object is set, those of the others stay.
use Rattle.std.proofs.Common.{◌≡◌, ℕ, zero, suc, ◌&&◌, Bool, true, false, cond, not, List, [], ◌∷◌, ◌++◌, filter, get_or, replicate, Option, None, Some, refl, sym, ap, ◌∙◌, true≢false, append-nil}
use Rattle.std.specs.Option.{option_map_or}
use Rattle.mpw_roles.specs.declared.mask.Mask.{Mask}
use Rattle.mpw_roles.specs.Mask.{has}
use Rattle.mpw_permissions.specs.Grant.{object_eq}
use Rattle.mpw_permissions.specs.Internal.Holders.{holds_in, mask_in}
use Rattle.mpw_permissions.specs.declared.bucket.Held.{Held}
use Rattle.mpw_permissions.specs.declared.permission.Object.{Object}
use Rattle.mpw_permissions.proofs.ObjectLemmas.{same_object, other_way}

-- the others, and after them what is made for the object
mask-put : (object : Object) (made : Option Mask) (tail : List Held)
    → ((other : Object) → mask_in tail other ≡ cond (object_eq object other) made None)
    → (es : List Held) (other : Object)
    → mask_in (filter (λ (held : Held). not (object_eq object held.object)) es
    ++ tail) other ≡ cond (object_eq object other) made (mask_in es other)
mask-put object made tail only [] other = only other
mask-put object made tail only (e ∷ es) other =
    let rest = mask-put object made tail only es other in
    let left = filter (λ (held : Held). not (object_eq object held.object)) es in
    elim (object_eq object e.object) as (λ b. object_eq object e.object ≡ b
    → mask_in (cond (not b) (e ∷ left) left ++ tail) other
    ≡ cond (object_eq object other) made
    (cond (object_eq other e.object) (Some e.mask) (mask_in es other))) [
      | true ↦ λ here. rest ∙ elim (object_eq object other) as (λ b. object_eq object other ≡ b
          → cond b made (mask_in es other) ≡ cond b made
          (cond (object_eq other e.object) (Some e.mask) (mask_in es other))) [
            | true ↦ λ _. refl
            | false ↦ λ apart. ap (λ b. cond b (Some e.mask) (mask_in es other))
                (sym (ap (object_eq other) (sym (same_object object e.object here))
                ∙ sym (other_way object other) ∙ apart))
          ] refl
      | false ↦ λ away. ap (λ (o : Option Mask). cond (object_eq other e.object) (Some e.mask) o) rest
          ∙ elim (object_eq object other) as (λ b. object_eq object other ≡ b
          → cond (object_eq other e.object) (Some e.mask) (cond b made (mask_in es other))
          ≡ cond b made (cond (object_eq other e.object) (Some e.mask) (mask_in es other))) [
            | true ↦ λ here. ap (λ b. cond b (Some e.mask) made)
                (ap (λ o. object_eq o e.object) (sym (same_object object other here)) ∙ away)
            | false ↦ λ _. refl
          ] refl
    ] refl

held-put : (object : Object) (mask : Mask) (v : Option Mask) (b : Bool) (q : ℕ)
    → option_map_or (λ m. has m q) (cond b (Some mask) v) false ≡ cond b (has mask q)
    (option_map_or (λ m. has m q) v false)
held-put object mask v true q = refl
held-put object mask v false q = refl

held-none : (mask : Mask) (v : Option Mask) (b : Bool) (q : ℕ) → has mask q ≡ false
    → option_map_or (λ m. has m q) (cond b None v) false ≡ cond b (has mask q)
    (option_map_or (λ m. has m q) v false)
held-none mask v true q none = sym none
held-none mask v false q none = refl

-- a bucket with another mask of an object
pub in-put : (object key : Object) (mask : Mask) (es : List Held) → key ≡ object
    → (other : Object) (q : ℕ)
    → holds_in (filter (λ (held : Held). not (object_eq object held.object)) es ++ record { object = key; mask = mask }
    ∷ []) other q ≡ cond (object_eq object other) (has mask q) (holds_in es other q)
in-put object key mask es at other q =
    ap (λ o. option_map_or (λ m. has m q) o false)
    (mask-put object (Some mask) (record { object = key; mask = mask } ∷ [])
    (λ o. ap (λ k. cond (object_eq o k) (Some mask) None) at
    ∙ ap (λ b. cond b (Some mask) None) (other_way o object)) es other)
    ∙ held-put object mask (mask_in es other) (object_eq object other) q

-- and one without a mask, which would be empty
pub in-gone : (object : Object) (mask : Mask) (es : List Held)
    → ((q : ℕ) → has mask q ≡ false) → (other : Object) (q : ℕ)
    → holds_in (filter (λ (held : Held). not (object_eq object held.object)) es) other q
    ≡ cond (object_eq object other) (has mask q) (holds_in es other q)
in-gone object mask es none other q =
    let left = filter (λ (held : Held). not (object_eq object held.object)) es in
    ap (λ l. holds_in l other q) (sym (append-nil left))
    ∙ ap (λ o. option_map_or (λ m. has m q) o false)
    (mask-put object None [] (λ o. nothing (object_eq object o) None) es other)
    ∙ held-none mask (mask_in es other) (object_eq object other) q (none q)
  where
    nothing : (b : Bool) (n : Option Mask) → n ≡ cond b n n
    nothing true n = refl
    nothing false n = refl

pub both-false : (b : Bool) → (b && b) ≡ false → b ≡ false
both-false true is = absurd (true≢false is)
both-false false is = refl

-- what holds of none and of one bucket or group holds of each if all are that one
pub replicated-each : {X : Type 0} (P : List X → Type 0) → P [] → (x : List X) → P x → (n k : ℕ)
    → P (get_or (replicate n x) k [])
replicated-each P none x here zero k = none
replicated-each P none x here (suc n) zero = here
replicated-each P none x here (suc n) (suc k) = replicated-each P none x here n k
