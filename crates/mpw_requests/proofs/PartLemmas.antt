-- A request and its parts. No request needs a line here: the lines of a lemma split the requests, or the verbs, of
-- each group, and the last one is checked at all of them.
use Rattle.std.proofs.Common.{◌≡◌, ℕ, List, Option, Some, None, IfSome, option_map, is_some, refl, ap, sym, ◌∙◌, subst}
use Rattle.mpw_requests.specs.declared.request.Request.{Request}
use Rattle.mpw_requests.specs.declared.request.Request.TheVariants as group
use Rattle.mpw_requests.specs.declared.policy.PolicyRequest.TheVariants as policy
use Rattle.mpw_requests.specs.declared.policy.PolicyVerb.{PolicyVerb}
use Rattle.mpw_requests.specs.declared.policy.PolicyVerb.TheVariants as policy_verb
use Rattle.mpw_requests.specs.declared.layouts.LayoutRequest.TheVariants as layout
use Rattle.mpw_requests.specs.declared.layouts.LayoutVerb.{LayoutVerb}
use Rattle.mpw_requests.specs.declared.layouts.LayoutVerb.TheVariants as layout_verb
use Rattle.mpw_requests.specs.declared.wafer.WaferRequest.TheVariants as wafer
use Rattle.mpw_requests.specs.declared.wafer.WaferVerb.{WaferVerb}
use Rattle.mpw_requests.specs.declared.wafer.WaferVerb.TheVariants as wafer_verb
use Rattle.mpw_requests.specs.declared.run.RunRequest.TheVariants as run
use Rattle.mpw_requests.specs.declared.run.RunVerb.{RunVerb}
use Rattle.mpw_requests.specs.declared.run.RunVerb.TheVariants as run_verb
use Rattle.mpw_requests.specs.declared.sign_off.SignOffRequest.TheVariants as sign_off
use Rattle.mpw_requests.specs.declared.sign_off.SignOffVerb.{SignOffVerb}
use Rattle.mpw_requests.specs.declared.sign_off.SignOffVerb.TheVariants as sign_off_verb
use Rattle.mpw_requests.specs.declared.parts.Operands.{Operands}
use Rattle.mpw_requests.specs.declared.parts.Operands.TheVariants.{Alone, Pair}
use Rattle.mpw_requests.specs.declared.table.Verb.{Verb}
use Rattle.mpw_requests.specs.declared.table.Verb.TheVariants as verb
use Rattle.mpw_requests.specs.Table.{verb_form, verb_text, verb_shape, has_payload, verb_of}
use Rattle.mpw_requests.specs.Parts.{shape_of, parts_of, payload_of, request_of, upload_of, uploaded, put_together, RequestsHaveTheirParts}

-- each verb is that of its word
pub verb_read : (v : Verb) → verb_of (verb_text v) ≡ Some v
unfolding verb_of verb_form
verb_read (verb.Policy policy_verb.Close) = refl
verb_read (verb.Layout layout_verb.Cells) = refl
verb_read (verb.Wafer wafer_verb.Deck) = refl
verb_read (verb.Run run_verb.Run) = refl
verb_read (verb.SignOff sign_off_verb.Waivers) = refl
verb_read v = refl

-- a request is that of its parts, and these are as the table says
fits : (request : Request)
    → (put_together (parts_of request).0 (parts_of request).1 (payload_of request) ≡ Some request)
    × ((shape_of (parts_of request).1 ≡ verb_shape (parts_of request).0)
    × (is_some (payload_of request) ≡ has_payload (parts_of request).0))
unfolding parts_of payload_of request_of upload_of verb_form has_payload
fits (group.Policy policy.Close) = (refl, (refl, refl))
fits (group.Layout layout.Cells) = (refl, (refl, refl))
fits (group.Wafer (wafer.Deck text)) = (refl, (refl, refl))
fits (group.Run run.Run) = (refl, (refl, refl))
fits (group.SignOff sign_off.Waivers) = (refl, (refl, refl))
fits request = (refl, (refl, refl))

pub again : (request : Request)
    → put_together (parts_of request).0 (parts_of request).1 (payload_of request) ≡ Some request
again request = (fits request).0

pub shaped : (request : Request)
    → shape_of (parts_of request).1 ≡ verb_shape (parts_of request).0
shaped request = (fits request).1.0

pub loaded : (request : Request)
    → is_some (payload_of request) ≡ has_payload (parts_of request).0
loaded request = (fits request).1.1

-- ---- the other way

abbrev AreParts : Verb → Operands → Option (List ℕ) → Request → Type 0
AreParts v operands payload request =
    (parts_of request ≡ (v, operands)) × (payload_of request ≡ payload)

of : (v : Verb) (operands : Operands) (payload : Option (List ℕ)) (made request : Request)
    → Some made ≡ Some request → parts_of made ≡ (v, operands) → payload_of made ≡ payload
    → AreParts v operands payload request
of v operands payload made request is parts loads =
    let same : made ≡ request = cc is in
    subst (AreParts v operands payload) same (parts, loads)

nobodys : {A : Type 0} (request : Request) → None ≡ Some request → A
nobodys request is = absurd (cc is)

-- what a verb and its operands make has them for its parts
abbrev Makes : Verb → Operands → Type 0
Makes v operands = IfSome (request_of v operands) (AreParts v operands None)

policy_makes : (asked : PolicyVerb) (operands : Operands) → Makes (verb.Policy asked) operands
unfolding parts_of payload_of request_of
policy_makes policy_verb.Close operands =
    elim operands as (λ o. Makes (verb.Policy policy_verb.Close) o) [ Alone ↦ search | _ ↦ search ]
policy_makes asked operands =
    elim operands as (λ o. Makes (verb.Policy asked) o) [ Alone ↦ search | _ ↦ search ]

layout_makes : (asked : LayoutVerb) (operands : Operands) → Makes (verb.Layout asked) operands
unfolding parts_of payload_of request_of
layout_makes layout_verb.Cells operands =
    elim operands as (λ o. Makes (verb.Layout layout_verb.Cells) o) [ Alone ↦ search | _ ↦ search ]
layout_makes asked operands =
    elim operands as (λ o. Makes (verb.Layout asked) o) [ Alone ↦ search | _ ↦ search ]

wafer_makes : (asked : WaferVerb) (operands : Operands) → Makes (verb.Wafer asked) operands
unfolding parts_of payload_of request_of
wafer_makes wafer_verb.Deck operands =
    elim operands as (λ o. Makes (verb.Wafer wafer_verb.Deck) o) [ Alone ↦ search | _ ↦ search ]
wafer_makes asked operands =
    elim operands as (λ o. Makes (verb.Wafer asked) o) [ Alone ↦ search | _ ↦ search ]

run_makes : (asked : RunVerb) (operands : Operands) → Makes (verb.Run asked) operands
unfolding parts_of payload_of request_of
run_makes run_verb.Run operands =
    elim operands as (λ o. Makes (verb.Run run_verb.Run) o) [ Alone ↦ search | _ ↦ search ]
run_makes asked operands =
    elim operands as (λ o. Makes (verb.Run asked) o) [ Alone ↦ search | _ ↦ search ]

sign_off_makes : (asked : SignOffVerb) (operands : Operands) → Makes (verb.SignOff asked) operands
unfolding parts_of payload_of request_of
sign_off_makes sign_off_verb.Waivers operands =
    elim operands as (λ o. Makes (verb.SignOff sign_off_verb.Waivers) o)
    [ Alone ↦ search | _ ↦ search ]
sign_off_makes asked operands =
    elim operands as (λ o. Makes (verb.SignOff asked) o) [ Alone ↦ search | _ ↦ search ]

makes : (v : Verb) (operands : Operands) → Makes v operands
unfolding parts_of payload_of request_of
makes (verb.Policy asked) operands = policy_makes asked operands
makes verb.Whoami operands =
    elim operands as (λ o. Makes verb.Whoami o) [ Alone ↦ search | _ ↦ search ]
makes (verb.Layout asked) operands = layout_makes asked operands
makes (verb.Wafer asked) operands = wafer_makes asked operands
makes (verb.Run asked) operands = run_makes asked operands
makes (verb.SignOff asked) operands = sign_off_makes asked operands
makes verb.Trail operands =
    elim operands as (λ o. Makes verb.Trail o) [ Alone ↦ search | _ ↦ search ]

request_apart : (v : Verb) (operands : Operands) (request : Request)
    → request_of v operands ≡ Some request → AreParts v operands None request
request_apart v operands request is = go (request_of v operands) (makes v operands) is
  where
    go : (made : Option Request) → IfSome made (AreParts v operands None) → made ≡ Some request
        → AreParts v operands None request
    go None holds none = nobodys request none
    go (Some made) holds same = of v operands None made request same holds.0 holds.1

upload_apart : (v : Verb) (operands : Operands) (payload : List ℕ) (request : Request)
    → option_map (λ upload. uploaded upload payload) (upload_of v operands) ≡ Some request
    → AreParts v operands (Some payload) request
unfolding parts_of payload_of upload_of
upload_apart (verb.Layout layout_verb.Submit) (Pair cell top) payload request is =
    of _ _ _ _ request is refl refl
upload_apart (verb.Wafer wafer_verb.Deck) Alone payload request is =
    of _ _ _ _ request is refl refl
upload_apart v operands payload request is = nobodys request is

pub apart : (v : Verb) (operands : Operands) (payload : Option (List ℕ)) (request : Request)
    → put_together v operands payload ≡ Some request → AreParts v operands payload request
apart v operands None request is = request_apart v operands request is
apart v operands (Some payload) request is = upload_apart v operands payload request is

together : (v : Verb) (operands : Operands) (payload : Option (List ℕ)) (request : Request)
    → AreParts v operands payload request → put_together v operands payload ≡ Some request
together v operands payload request are =
    ap (λ p. put_together p.0 p.1 payload) (sym are.0)
    ∙ ap (λ p. put_together (parts_of request).0 (parts_of request).1 p) (sym are.1)
    ∙ again request

pub have_their_parts : RequestsHaveTheirParts
have_their_parts v operands payload request =
    (apart v operands payload request, together v operands payload request)
