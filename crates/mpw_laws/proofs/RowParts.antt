-- What holds of a decision table by its parts: of what it gives, and of what ends it.
use Rattle.std.proofs.Common.{◌≡◌, Bool, true, false, cond, List, map, Option, None, Some, Result, Ok, Err, IfOk, IfErr, refl}
use Rattle.mpw_replies.specs.Listing.{Listed, stored}
use Rattle.mpw_replies.specs.Rows.{◌>>=◌, changing, listing, needed}
use Rattle.mpw_replies.specs.declared.reply.Line.{Line}
use Rattle.mpw_replies.specs.declared.row.Done.{Done}
use Rattle.mpw_replies.specs.declared.row.Done.TheVariants.{Lists, Changes}

-- ---- what a table gives

pub if_ok : {A E : Type 0} (Of : A → Type 0) (row : Result A E)
    → ((x : A) → row ≡ Ok x → Of x) → IfOk row Of
if_ok Of (Ok x) each = each x refl
if_ok Of (Err e) each = tt

pub if_weaker : {A E : Type 0} {Of More : A → Type 0} (row : Result A E) → IfOk row Of
    → ((x : A) → Of x → More x) → IfOk row More
if_weaker (Ok x) holds more = more x holds
if_weaker (Err e) holds more = tt

pub if_behind : {A B E : Type 0} (Of : B → Type 0) (x : Result A E) (f : A → Result B E)
    → ((a : A) → x ≡ Ok a → IfOk (f a) Of) → IfOk (x >>= f) Of
if_behind Of (Ok a) f each = each a refl
if_behind Of (Err e) f each = tt

pub if_listed : {A E P : Type 0} (Of : Done P → Type 0) (lines : A → List Listed)
    (row : Result A E) → IfOk row (λ x. Of (Lists (lines x))) → IfOk (listing lines row) Of
if_listed Of lines (Ok x) holds = holds
if_listed Of lines (Err e) holds = tt

pub if_changed : {A E P : Type 0} (Of : Done P → Type 0) (part : A → P) (lines : A → List Line)
    (row : Result A E)
    → ((x : A) → row ≡ Ok x → Of (Changes (part x) (map stored (lines x))))
    → IfOk (changing part lines row) Of
if_changed Of part lines (Ok x) each = each x refl
if_changed Of part lines (Err e) each = tt

-- ---- what ends a table

pub ends_behind : {A B E : Type 0} (Of : E → Type 0) (x : Result A E) (f : A → Result B E)
    → IfErr x Of → ((a : A) → x ≡ Ok a → IfErr (f a) Of) → IfErr (x >>= f) Of
ends_behind Of (Ok a) f first rest = rest a refl
ends_behind Of (Err e) f first rest = first

pub ends_tested : {A E : Type 0} (Of : E → Type 0) (test : Bool) (row : Result A E) (e : E)
    → Of e → IfErr row Of → IfErr (cond test row (Err e)) Of
ends_tested Of true row e here rest = rest
ends_tested Of false row e here rest = here

pub ends_needed : {A E : Type 0} (Of : E → Type 0) (e : E) (o : Option A) → Of e
    → IfErr (needed e o) Of
ends_needed Of e None here = here
ends_needed Of e (Some x) here = tt

pub ends_listed : {A E : Type 0} (P : Type 0) (Of : E → Type 0) (lines : A → List Listed)
    (row : Result A E) → IfErr row Of → IfErr (listing {P = P} lines row) Of
ends_listed P Of lines (Ok x) holds = tt
ends_listed P Of lines (Err e) holds = holds

pub ends_changed : {A E P : Type 0} (Of : E → Type 0) (part : A → P) (lines : A → List Line)
    (row : Result A E) → IfErr row Of → IfErr (changing part lines row) Of
ends_changed Of part lines (Ok x) holds = tt
ends_changed Of part lines (Err e) holds = holds
