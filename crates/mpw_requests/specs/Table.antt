-- The table of requests: each verb with its word, the shape of its operands, whether a payload follows, and whether it
-- only lists. The file of each group has the lines of its verbs.
use Rattle.std.specs.Prelude.{ℕ, Bool, true, false, List, codes, Option}
use Rattle.mpw_requests.specs.declared.table.TheConstants.{ALL}
use Rattle.mpw_requests.specs.declared.table.Shape.{Shape}
use Rattle.mpw_requests.specs.declared.table.Shape.TheVariants.{Alone}
use Rattle.mpw_requests.specs.declared.table.Verb.{Verb}
use Rattle.mpw_requests.specs.declared.table.Verb.TheVariants as verb
use Rattle.mpw_requests.specs.declared.layouts.LayoutVerb.TheVariants.{Submit}
use Rattle.mpw_requests.specs.declared.wafer.WaferVerb.TheVariants.{Deck}
use Rattle.mpw_requests.specs.Layouts.{layout_form, layout_lists}
use Rattle.mpw_requests.specs.Policy.{policy_form}
use Rattle.mpw_requests.specs.Run.{run_form, run_lists}
use Rattle.mpw_requests.specs.SignOff.{sign_off_form, sign_off_lists}
use Rattle.mpw_requests.specs.Wafer.{wafer_form, wafer_lists}
use Rattle.mpw_requests.specs.Words.{first_of}

-- the word of a verb, and the shape of its operands
unfoldable pub verb_form : Verb → List ℕ × Shape
verb_form (verb.Policy asked) = policy_form asked
verb_form verb.Whoami = (codes "whoami", Alone)
verb_form (verb.Layout asked) = layout_form asked
verb_form (verb.Wafer asked) = wafer_form asked
verb_form (verb.Run asked) = run_form asked
verb_form (verb.SignOff asked) = sign_off_form asked
verb_form verb.Trail = (codes "trail", Alone)

abbrev pub verb_text : Verb → List ℕ
verb_text verb = (verb_form verb).0

abbrev pub verb_shape : Verb → Shape
verb_shape verb = (verb_form verb).1

-- whether a payload comes after the line, whose last word is then the payload's number of bytes
unfoldable pub has_payload : Verb → Bool
has_payload (verb.Layout Submit) = true
has_payload (verb.Wafer Deck) = true
has_payload verb = false

-- whether a request of the verb only lists
unfoldable pub lists : Verb → Bool
lists (verb.Policy asked) = false
lists (verb.Layout asked) = layout_lists asked
lists (verb.Wafer asked) = wafer_lists asked
lists (verb.Run asked) = run_lists asked
lists (verb.SignOff asked) = sign_off_lists asked
lists verb = true

-- the verb of a word. That the constant `ALL` has each verb follows from the law that stored requests are
-- read again (`StoredAreRead` of mpw_store_text)
unfoldable pub verb_of : List ℕ → Option Verb
verb_of word = first_of verb_text word ALL
