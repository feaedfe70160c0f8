-- A walk at its beginning, and over many steps.
use Rattle.std.proofs.Common.{◌≡◌, ◌+◌, ◌*◌, ◌≤◌, ◌^◌, List, [], ◌∷◌, length, Option, Some, None, refl, sym, ap, subst, ◌∙◌, arith}
use Rattle.std.specs.Prelude.{All}
use Rattle.std.specs.List.{flat_map}
use Rattle.std.proofs.Math.Nat.{mul-le-mul}
use Rattle.std.proofs.lemmas.List.{length-append, length-map}
use Rattle.std.proofs.lemmas.List.Elements.{All-nil, All-head, All-tail, All-append}
use Rattle.mpw_geom.specs.declared.plane.Box2.{Box2}
use Rattle.mpw_hier.specs.declared.submission.Submission.{Submission}
use Rattle.mpw_hier.specs.Items.{Item, placed_item}
use Rattle.mpw_hier.specs.Values.{flat, height}
use Rattle.mpw_walk.specs.declared.root.Root.{Root}
use Rattle.mpw_walk.specs.declared.root.Placed.{Placed}
use Rattle.mpw_walk.specs.Turns.{Turn, enter, give, given, flat_root, flat_roots, root_turns, roots_turns, Walked, behind_first}
use Rattle.mpw_walk.specs.Internal.Turns.{first_given}
use Rattle.mpw_walk.specs.Near.{IsCloseItem}
use Rattle.mpw_walk.specs.Window.{items_met, taken}
use Rattle.mpw_walk.specs.Way.{AreRead, left_of, left_in, IsOnWay, item_of}
use Rattle.mpw_walk.specs.Internal.Way.{GoesOn, GivesFirst, IsOver}
use Rattle.mpw_walk.specs.Walk.{IsRoot}
use Rattle.mpw_walk.proofs.Close.{placed_close}
use Rattle.mpw_walk.proofs.Drawn.{number_drawn}
use Rattle.mpw_walk.proofs.Kept.{IsKept}
use Rattle.mpw_walk.proofs.Given.{roots_given, root_few}
use Rattle.mpw_walk.proofs.Taken.{taken_few, taken_all, given_met}

pub start_left : (ss : List Submission) (roots : List Root)
    → left_of ss roots 0 [] ≡ roots_turns ss roots
unfolding left_of
start_left ss roots = refl

pub start_taken : (window : Option Box2) (ss : List Submission) (roots : List Root)
    → left_in window ss roots 0 [] ≡ taken window (roots_turns ss roots)
start_taken window ss roots = ap (taken window) (start_left ss roots)

-- all turns are taken without a window; with one, those that touch it
pub all_given : (ss : List Submission) (roots : List Root)
    → given (taken None (roots_turns ss roots)) ≡ flat_roots ss roots
all_given ss roots = ap given (taken_all (roots_turns ss roots)) ∙ roots_given ss roots

pub met_given : (w : Box2) (ss : List Submission) (roots : List Root)
    → given (taken (Some w) (roots_turns ss roots)) ≡ items_met w (flat_roots ss roots)
met_given w ss roots = given_met w (roots_turns ss roots) ∙ ap (items_met w) (roots_given ss roots)

root_close : (ss : List Submission) → AreRead ss → (root : Root) → IsRoot ss root
    → All IsCloseItem (flat_root ss root)
root_close ss read root h =
    placed_close root.placing (flat ss root.submission) (number_drawn ss root.submission read)
    h.near

roots_close : (ss : List Submission) → AreRead ss → (roots : List Root) → All (IsRoot ss) roots
    → All IsCloseItem (flat_roots ss roots)
unfolding flat_roots
roots_close ss read [] h = All-nil IsCloseItem
roots_close ss read (root ∷ roots) h =
    All-append IsCloseItem (flat_root ss root) (flat_map (flat_root ss) roots)
    (root_close ss read root (All-head (IsRoot ss) root roots h))
    (roots_close ss read roots (All-tail (IsRoot ss) root roots h))

roots_few : (ss : List Submission) → IsKept ss → (roots : List Root)
    → length (roots_turns ss roots) ≤ length roots * (65 * 2 ^ 40)
unfolding roots_turns
roots_few ss kept [] = omega arith
roots_few ss kept (root ∷ roots) =
    let one = root_few ss root in
    let n = root.submission in
    let items : length (flat_root ss root) ≤ 2 ^ 40 =
    omega (arith, length-map (flat ss n) (placed_item root.placing), kept.counts n) in
    let levels : height ss n + 1 ≤ 65 = omega (arith, kept.heights n) in
    let most : (height ss n + 1) * length (flat_root ss root) ≤ 65 * 2 ^ 40 =
    mul-le-mul levels items in
    let long : length (root_turns ss root) ≤ 65 * 2 ^ 40 = omega (arith, one, most) in
    omega (
      arith,
      long,
      roots_few ss kept roots,
      length-append (root_turns ss root)
          (flat_map (root_turns ss) roots),
    )

pub start_way : (window : Option Box2) (ss : List Submission) (roots : List Root) → IsKept ss
    → All (IsRoot ss) roots → length roots ≤ 2 ^ 16 → IsOnWay window ss roots 0 0 []
start_way window ss roots kept near few =
    let left = start_left ss roots in record {
      read = kept.read;
      present = λ k d lt. (near k d lt).present;
      begun = omega arith;
      each = λ k f is. absurd cc;
      close = subst (λ turns. All IsCloseItem (given turns)) (sym left)
          (subst (All IsCloseItem) (sym (roots_given ss roots))
          (roots_close ss kept.read roots near));
      few = omega (
        arith,
        taken_few window (left_of ss roots 0 []),
        ap length left,
        roots_few ss kept roots,
        few,
      );
    }

-- ---- many steps

pub stays : (w : Walked) → GoesOn w w
stays w = record { first = refl; behind = refl; count = refl }

pub further : (a b c : Walked) → GoesOn a b → GoesOn b c → GoesOn a c
further a b c h l =
    record { first = h.first ∙ l.first; behind = h.behind ∙ l.behind; count = h.count ∙ l.count }

pub last_gives : (a b c : Walked) (placed : Placed) → GoesOn a b → GivesFirst b c placed
    → GivesFirst a c placed
last_gives a b c placed h l = record {
  placeable = l.placeable;
  first = h.first
      ∙ l.first;
  behind = h.behind ∙ l.behind;
  count = h.count ∙ l.count;
}

first_is : (turns : List Turn) (item : Item) → first_given turns ≡ Some item
    → given turns ≡ item ∷ given (behind_first turns)
first_is [] item e = absurd cc
first_is (enter x ∷ turns) item e = first_is turns item e
first_is (give i ∷ turns) item e = let same : i ≡ item = cc in ap (λ i. i ∷ given turns) same

pub gives_item : (a b : Walked) (placed : Placed) → GivesFirst a b placed
    → given a.left ≡ item_of placed ∷ given b.left
gives_item a b placed h =
    first_is a.left (item_of placed) h.first ∙ ap (λ turns. item_of placed ∷ given turns) h.behind

none_given : (turns : List Turn) → first_given turns ≡ None → given turns ≡ []
none_given [] e = refl
none_given (enter x ∷ turns) e = none_given turns e
none_given (give i ∷ turns) e = absurd cc

-- nothing is left, and what went before gave nothing
pub record IsEnd (a c : Walked) : Type 0 where
  pub none : given a.left ≡ []
  pub behind : c.left ≡ behind_first a.left
  pub count : c.turns + length c.left ≡ a.turns + length a.left

pub last_ends : (a b c : Walked) → GoesOn a b → IsOver b c → IsEnd a c
last_ends a b c h over = record {
  none = none_given a.left (h.first ∙ ap first_given over.none);
  behind = ap (λ (w : Walked). w.left) over.same ∙ over.none
      ∙ sym (h.behind ∙ ap behind_first over.none);
  count = ap (λ (w : Walked). w.turns + length w.left) over.same ∙ sym h.count;
}
