-- The rest of the marked names begins with the role, if it is marked.
use Rattle.std.proofs.Common.{◌≡◌, ◌++◌, ◌+◌, ◌∙◌, sym, ap, cond, drop, [], ◌∷◌, append_assoc, arith, length}
use Rattle.mpw_roles.specs.Marks.{marked_names}
use Rattle.mpw_roles.proofs.MarksLemmas.{marked_names-drop}
use Rattle.mpw_roles.specs.Places.{marks_from}
use Rattle.mpw_roles.proofs.BitLemmas.{mark-at, length-marks_from}
use Rattle.mpw_roles.proofs.below.push_marked.Goals as goal

pub returns-then-not-contains : goal.returns-then-not-contains
returns-then-not-contains c =
    let h = c.args.table.now in
    let ms = marks_from 0 (length h) c.args.mask.now in
    let i = c.args.index in
    let e = marked_names-drop h ms i c.in-Some.role.now (sym c.in-Some.ensures) (omega
    (arith, length-marks_from 0 (length h) c.args.mask.now)) in
    let mark = mark-at (length h) c.args.mask.now i (omega arith) in
    let rest = marked_names (drop (i + 1) h) (drop (i + 1) ms) in
    ap (λ l. c.args.names.now ++ l) (sym
    (e ∙ ap (λ b. cond b (c.in-Some.role.now ∷ rest) rest) (mark ∙ sym c.contains.ensures
    ∙ c.if-not-contains.true)))

pub returns : goal.returns
returns c =
    let h = c.args.table.now in
    let ms = marks_from 0 (length h) c.args.mask.now in
    let i = c.args.index in
    let e = marked_names-drop h ms i c.in-Some.role.now (sym c.in-Some.ensures) (omega
    (arith, length-marks_from 0 (length h) c.args.mask.now)) in
    let mark = mark-at (length h) c.args.mask.now i (omega arith) in
    let rest = marked_names (drop (i + 1) h) (drop (i + 1) ms) in
    let more : c.push.new.self ≡ c.args.names.now ++ c.in-Some.role.now
    ∷ [] = c.in_ok-push.ensures.ok ∙ ap (λ n. c.args.names.now ++ n ∷ [])
    c.in_ok-copy.ensures in
    ap (λ l. l ++ rest) more
    ∙ append_assoc c.args.names.now (c.in-Some.role.now ∷ []) rest
    ∙ ap (λ l. c.args.names.now ++ l) (sym
    (e ∙ ap (λ b. cond b (c.in-Some.role.now ∷ rest) rest) (mark ∙ sym c.contains.ensures
    ∙ c.if-not-contains.false)))
