-- The effect of a step: it skips the turns in front, or takes the first of them.
use Rattle.std.proofs.Common.{◌≡◌, ℕ, suc, ◌+◌, ◌-◌, ◌*◌, ◌<◌, ◌≤◌, ◌^◌, true, List, [], ◌∷◌, ◌++◌, length, Option, sym, ap, subst, ◌∙◌, arith}
use Rattle.std.specs.Prelude.{All}
use Rattle.std.proofs.lemmas.List.{length-append}
use Rattle.std.proofs.lemmas.List.Elements.{All-tail}
use Rattle.mpw_geom.specs.declared.plane.Box2.{Box2}
use Rattle.mpw_walk.specs.declared.frame.Frame.{Frame}
use Rattle.mpw_walk.specs.declared.root.Placed.{Placed}
use Rattle.mpw_walk.specs.declared.way.Way.{Way}
use Rattle.mpw_walk.specs.declared.way.Step.{Step}
use Rattle.mpw_walk.specs.declared.way.Step.TheVariants as steps
use Rattle.mpw_walk.specs.Turns.{Turn, enter, give, given, behind_first}
use Rattle.mpw_walk.specs.Internal.Turns.{first_given}
use Rattle.mpw_walk.specs.Internal.Stack.{Stack}
use Rattle.mpw_walk.specs.Internal.Named.{NamesAreWalked}
use Rattle.mpw_walk.specs.Frames.{IsFrame}
use Rattle.mpw_walk.specs.Near.{IsCloseItem}
use Rattle.mpw_walk.specs.Window.{is_in, is_taken, taken}
use Rattle.mpw_walk.specs.Way.{left_of, IsOnWay, IsWay, IsPlaceable, item_of}
use Rattle.mpw_walk.specs.Internal.Way.{Does}
use Rattle.mpw_walk.proofs.Given.{given_append}
use Rattle.mpw_walk.proofs.Depth.{frame_high}
use Rattle.mpw_walk.proofs.Reach.{all_right}
use Rattle.mpw_walk.proofs.Taken.{taken_in, taken_append}
use Rattle.mpw_walk.proofs.FrameStacks.{IsEach, each_last}

-- the path after a step, and the result of the step
pub record Comes (step : Step) (v : Way) (frames : List Frame) (n : Way) : Type 0 where
  pub way : IsWay n n.frames.items
  pub does : Does step v frames n

-- all remaining turns of a path with these frames
abbrev pub ahead : Way → List Frame → List Turn
ahead v frames = left_of v.shelf.now v.roots.now v.root frames

-- the same path at another root, with other frames
abbrev pub gone : Way → ℕ → List Frame → Way
gone v root frames = record v { root = root; frames = record { items = frames } }

landed : (step : Step) (v n : Way) (frames behind : List Frame) → n.frames.items ≡ behind
    → Comes step v frames (gone n n.root behind) → Comes step v frames n
landed step v n frames behind is h =
    subst (λ fs. Comes step v frames (gone n n.root fs)) (sym is) h

close_behind : (turn : Turn) (turns : List Turn) → All IsCloseItem (given (turn ∷ turns))
    → All IsCloseItem (given turns)
close_behind (enter e) turns h = h
close_behind (give i) turns h = All-tail IsCloseItem i (given turns) h

module _ (v : Way) (frames : List Frame) (w : IsWay v frames) (root : ℕ) (behind : List Frame)
    (begun : root ≤ length v.roots.now) (each : IsEach v.shelf.now behind) (stack : Stack)
    (is : stack.items ≡ behind) where
  pub passes : (shown : List Turn) → ahead v frames ≡ shown ++ ahead (gone v root behind) behind
      → taken v.window shown ≡ []
      → length behind + (length v.roots.now - root)
      < 2 * length shown + (length frames + (length v.roots.now - v.root))
      → Comes steps.On v frames (record v { root = root; frames = stack })
  passes shown whole none less =
      let there = ahead (gone v root behind) behind in
      let same : taken v.window (ahead v frames) ≡ taken v.window there =
      ap (taken v.window) whole ∙ taken_append v.window shown there
      ∙ ap (λ turns. turns ++ taken v.window there) none in
      let items : given (ahead v frames) ≡ given shown ++ given there =
      ap given whole ∙ given_append shown there in
      let all : length (ahead v frames) ≡ length (shown ++ there) = ap length whole in
      landed steps.On v (record v { root = root; frames = stack }) frames behind is
      (record {
        way = record {
          read = w.read;
          present = w.present;
          begun = begun;
          each = each;
          close =
              all_right IsCloseItem (given shown) (given there)
              (subst (All IsCloseItem) items w.close);
          few = subst (λ left. v.turns + length left < 2 ^ 64) same w.few;
        };
        does = (
          record {
            first = ap first_given same;
            behind = ap behind_first same;
            count = ap (λ left. v.turns + length left) same;
          },
          omega (arith, all, length-append shown there, less),
        );
      })

  module _ (turn : Turn) (whole : ahead v frames ≡ turn ∷ ahead (gone v root behind) behind)
      (met : is_taken v.window turn ≡ true) where
    taken_first : taken v.window (ahead v frames)
        ≡ turn ∷ taken v.window (ahead (gone v root behind) behind)
    taken_first =
        ap (taken v.window) whole
        ∙ taken_in v.window turn (ahead (gone v root behind) behind) met

    counted : length (taken v.window (ahead v frames))
        ≡ suc (length (taken v.window (ahead (gone v root behind) behind)))
    counted = ap length taken_first

    way_behind : IsOnWay v.window v.shelf.now v.roots.now root (v.turns + 1) behind
    way_behind = record {
      read = w.read;
      present = w.present;
      begun = begun;
      each = each;
      close =
          close_behind turn (ahead (gone v root behind) behind)
          (subst (λ turns. All IsCloseItem (given turns)) whole w.close);
      few = omega (arith, w.few, counted);
    }

  pub enters : (extent : Option Box2)
      → ahead v frames ≡ enter extent ∷ ahead (gone v root behind) behind
      → is_in v.window extent ≡ true
      → length behind + (length v.roots.now - root)
      < 2 + (length frames + (length v.roots.now - v.root))
      → Comes steps.On v frames (record v { root = root; frames = stack; turns = v.turns + 1 })
  enters extent whole met less =
      let same = taken_first (enter extent) whole met in
      let all : length (ahead v frames) ≡ suc (length (ahead (gone v root behind) behind)) =
      ap length whole in
      landed steps.On v (record v { root = root; frames = stack; turns = v.turns + 1 }) frames
      behind is
      (record {
        way = way_behind (enter extent) whole met;
        does = (
          record {
            first = ap first_given same;
            behind = ap behind_first same;
            count = omega (arith, counted (enter extent) whole met);
          },
          omega (arith, all, less),
        );
      })

  pub gives : (placed : Placed) → IsPlaceable placed
      → ahead v frames ≡ give (item_of placed) ∷ ahead (gone v root behind) behind
      → is_taken v.window (give (item_of placed)) ≡ true
      → Comes (steps.Given placed) v frames
      (record v { root = root; frames = stack; turns = v.turns + 1 })
  gives placed placeable whole met =
      let same = taken_first (give (item_of placed)) whole met in
      landed (steps.Given placed) v
      (record v { root = root; frames = stack; turns = v.turns + 1 }) frames behind is
      (record {
        way = way_behind (give (item_of placed)) whole met;
        does = record {
          placeable = placeable;
          first = ap first_given same;
          behind = ap behind_first same;
          count = omega (arith, counted (give (item_of placed)) whole met);
        };
      })

-- ---- the last frame

module _ (v : Way) (f : Frame) (w : IsWay v (v.frames.items ++ f ∷ [])) where
  pub last_frame : IsFrame v.shelf.now f
  last_frame = (each_last v.shelf.now v.frames.items f w.each).0

  pub last_low : length v.frames.items + f.node.now.size.height ≤ 64
  last_low = (each_last v.shelf.now v.frames.items f w.each).1

pub few_frames : NamesAreWalked → (v : Way) (f : Frame) → IsWay v (v.frames.items ++ f ∷ [])
    → length v.frames.items < 64
few_frames law v f w =
    omega (arith, last_low v f w, frame_high law v.shelf.now f (last_frame v f w))
