use Rattle.std.proofs.Common.{rules, ◌≡◌, codes, ap}
use Rattle.model_shapes.specs.Sorts.{shape}
use Rattle.model_formulas.specs.Formulas.{hole_left, hole_right, node_formula, one_tree, one_root, concatenation, grove_sum_hole}
use Rattle.assistant_laws.specs.Ways.{itself}
use Rattle.dom_terms.specs.Terms.{term_of}
use Rattle.formula_syntax.specs.Formulas.{formula_of}
use Rattle.step_filler.specs.Layers.{way_of, layer_sort, changing, changed, inner_plan, passed, plan_of}
use Rattle.step_filler.proofs.Layering.{crossing, one-last, two-first, two-second, two-last, onward-layer, backward-layer, inside-node, inside-tree, inside-root, beside-left, beside-right, beside-sum}
use Rattle.step_filler.proofs.layers.+fill.Goals as goal

pub fill_layer-returns-in_err-first-in-Onward : goal.fill_layer-returns-in_err-first-in-Onward
fill_layer-returns-in_err-first-in-Onward t c =
    let of = c.args.filling.now in
    let p = formula_of c.args.context.now in
    two-first (codes "cut") (crossing of p) (inner_plan of p) (passed of p) (plan_of of p)
    (onward-layer of p c.requires.layer (ap way_of c.in-Onward.is)) c.args.draft.now
    c.cross.new.draft c.in_err-first-in-Onward.field-0.0 c.from_residual.result
    c.from_residual.ensures.1 c.in_err-first-in-Onward.ensures

pub fill_layer-returns-in_err-second-in-Onward : goal.fill_layer-returns-in_err-second-in-Onward
fill_layer-returns-in_err-second-in-Onward t c =
    let of = c.args.filling.now in
    let p = formula_of c.args.context.now in
    two-second (codes "cut") (crossing of p) (inner_plan of p) (passed of p) (plan_of of p)
    (onward-layer of p c.requires.layer (ap way_of c.in-Onward.is)) c.args.draft.now
    c.cross.new.draft c.fill_inside.new.draft c.in_ok-first-in-Onward.first
    c.in_err-second-in-Onward.field-0.0 c.from_residual-in_err-second-in-Onward.result
    c.from_residual-in_err-second-in-Onward.ensures.1 c.in_ok-first-in-Onward.ensures
    c.in_err-second-in-Onward.ensures

pub fill_layer-returns-in_err-first-in-Backward : goal.fill_layer-returns-in_err-first-in-Backward
fill_layer-returns-in_err-first-in-Backward t c =
    let of = c.args.filling.now in
    let p = formula_of c.args.context.now in
    two-first (codes "cut") (inner_plan of p) (crossing of p) (passed of p) (plan_of of p)
    (backward-layer of p c.requires.layer (ap way_of c.in-Backward.is)) c.args.draft.now
    c.fill_inside-in-Backward.new.draft c.in_err-first-in-Backward.field-0.0
    c.from_residual-in_err-first-in-Backward.result
    c.from_residual-in_err-first-in-Backward.ensures.1 c.in_err-first-in-Backward.ensures

pub fill_layer-returns-in_err-second-in-Backward :
    goal.fill_layer-returns-in_err-second-in-Backward
fill_layer-returns-in_err-second-in-Backward t c =
    let of = c.args.filling.now in
    let p = formula_of c.args.context.now in
    two-second (codes "cut") (inner_plan of p) (crossing of p) (passed of p) (plan_of of p)
    (backward-layer of p c.requires.layer (ap way_of c.in-Backward.is)) c.args.draft.now
    c.fill_inside-in-Backward.new.draft c.cross-in-Backward.new.draft
    c.in_ok-first-in-Backward.first c.in_err-second-in-Backward.field-0.0
    c.from_residual-in_err-second-in-Backward.result
    c.from_residual-in_err-second-in-Backward.ensures.1 c.in_ok-first-in-Backward.ensures
    c.in_err-second-in-Backward.ensures

pub fill_layer-returns-in_ok-second-in-Onward : goal.fill_layer-returns-in_ok-second-in-Onward
fill_layer-returns-in_ok-second-in-Onward t c =
    let of = c.args.filling.now in
    let p = formula_of c.args.context.now in
    two-last (codes "cut") (crossing of p) (inner_plan of p) (passed of p) (plan_of of p)
    (onward-layer of p c.requires.layer (ap way_of c.in-Onward.is)) c.args.draft.now
    c.cross.new.draft c.fill_inside.new.draft c.pass.new.draft c.in_ok-first-in-Onward.first
    c.in_ok-second-in-Onward.second c.pass.result c.in_ok-first-in-Onward.ensures
    c.in_ok-second-in-Onward.ensures c.pass.ensures

pub fill_layer-returns-in_ok-second-in-Backward : goal.fill_layer-returns-in_ok-second-in-Backward
fill_layer-returns-in_ok-second-in-Backward t c =
    let of = c.args.filling.now in
    let p = formula_of c.args.context.now in
    two-last (codes "cut") (inner_plan of p) (crossing of p) (passed of p) (plan_of of p)
    (backward-layer of p c.requires.layer (ap way_of c.in-Backward.is)) c.args.draft.now
    c.fill_inside-in-Backward.new.draft c.cross-in-Backward.new.draft
    c.pass-in-Backward.new.draft c.in_ok-first-in-Backward.first
    c.in_ok-second-in-Backward.second c.pass-in-Backward.result
    c.in_ok-first-in-Backward.ensures c.in_ok-second-in-Backward.ensures
    c.pass-in-Backward.ensures

pub fill_inside-returns-in_ok-inner-in-Node : goal.fill_inside-returns-in_ok-inner-in-Node
fill_inside-returns-in_ok-inner-in-Node t c =
    let of = c.args.filling.now in
    let p = formula_of c.args.context.now in
    let q = formula_of c.deref.result.now in
    let is : p ≡ node_formula (term_of c.in-Node.field-0) (term_of c.in-Node.field-1) q
    (term_of c.in-Node.field-3) =
    cc (ap formula_of c.in-Node.is, c.deref.ensures) in
    one-last (changing p) (plan_of of q) (changed of p) (inner_plan of p)
    (inside-node of p q (term_of c.in-Node.field-0) (term_of c.in-Node.field-1)
    (term_of c.in-Node.field-3) is) c.args.draft.now
    c.fill.new.draft c.change.new.draft c.in_ok-inner-in-Node.inner
    c.change.result c.in_ok-inner-in-Node.ensures c.change.ensures

pub fill_inside-returns-in_ok-inner-in-One : goal.fill_inside-returns-in_ok-inner-in-One
fill_inside-returns-in_ok-inner-in-One t c =
    let of = c.args.filling.now in
    let p = formula_of c.args.context.now in
    let q = formula_of c.deref-in-One.result.now in
    let is : p ≡ one_tree q =
    cc (ap formula_of c.in-One.is, c.deref-in-One.ensures) in
    one-last (changing p) (plan_of of q) (changed of p) (inner_plan of p)
    (inside-tree of p q is) c.args.draft.now
    c.fill-in-One.new.draft c.change-in-One.new.draft c.in_ok-inner-in-One.inner
    c.change-in-One.result c.in_ok-inner-in-One.ensures c.change-in-One.ensures

pub fill_inside-returns-in_ok-inner-in-Root : goal.fill_inside-returns-in_ok-inner-in-Root
fill_inside-returns-in_ok-inner-in-Root t c =
    let of = c.args.filling.now in
    let p = formula_of c.args.context.now in
    let q = formula_of c.deref-in-Root.result.now in
    let is : p ≡ one_root q =
    cc (ap formula_of c.in-Root.is, c.deref-in-Root.ensures) in
    one-last (changing p) (plan_of of q) (changed of p) (inner_plan of p)
    (inside-root of p q is) c.args.draft.now
    c.fill-in-Root.new.draft c.change-in-Root.new.draft c.in_ok-inner-in-Root.inner
    c.change-in-Root.result c.in_ok-inner-in-Root.ensures c.change-in-Root.ensures

pub fill_inside-returns-in_ok-second-in-Join-HoleRight-default-default :
    goal.fill_inside-returns-in_ok-second-in-Join-HoleRight-default-default
fill_inside-returns-in_ok-second-in-Join-HoleRight-default-default t c =
    let of = c.args.filling.now in
    let p = formula_of c.args.context.now in
    let k = formula_of c.deref-in-Join-HoleRight-default-default-2.result.now in
    let q = formula_of c.deref-in-Join-HoleRight-default-default.result.now in
    let is : p ≡ concatenation hole_right q k = search rules in
    two-last (changing p) (itself q (shape (layer_sort p))) (plan_of of k) (changed of p)
    (inner_plan of p) (beside-right of p k q is) c.args.draft.now
    c.keep.new.draft
    c.fill-in-Join-HoleRight-default-default.new.draft
    c.change-in-Join-HoleRight-default-default.new.draft
    c.in_ok-first-in-Join-HoleRight-default-default.first
    c.in_ok-second-in-Join-HoleRight-default-default.second
    c.change-in-Join-HoleRight-default-default.result
    c.in_ok-first-in-Join-HoleRight-default-default.ensures
    c.in_ok-second-in-Join-HoleRight-default-default.ensures
    c.change-in-Join-HoleRight-default-default.ensures

pub fill_inside-returns-in_err-second-in-Join-HoleLeft-default-default :
    goal.fill_inside-returns-in_err-second-in-Join-HoleLeft-default-default
fill_inside-returns-in_err-second-in-Join-HoleLeft-default-default t c =
    let of = c.args.filling.now in
    let p = formula_of c.args.context.now in
    let k = formula_of c.deref-in-Join-HoleLeft-default-default.result.now in
    let q = formula_of c.deref-in-Join-HoleLeft-default-default-2.result.now in
    let is : p ≡ concatenation hole_left k q = search rules in
    two-second (changing p) (plan_of of k) (itself q (shape (layer_sort p))) (changed of p)
    (inner_plan of p) (beside-left of p k q is) c.args.draft.now
    c.fill-in-Join-HoleLeft-default-default.new.draft
    c.keep-in-Join-HoleLeft-default-default.new.draft
    c.in_ok-first-in-Join-HoleLeft-default-default.first
    c.in_err-second-in-Join-HoleLeft-default-default.field-0.0
    c.from_residual-in_err-second-in-Join-HoleLeft-default-default.result
    c.from_residual-in_err-second-in-Join-HoleLeft-default-default.ensures.1
    c.in_ok-first-in-Join-HoleLeft-default-default.ensures
    c.in_err-second-in-Join-HoleLeft-default-default.ensures

pub fill_inside-returns-in_ok-second-in-Join-HoleLeft-default-default :
    goal.fill_inside-returns-in_ok-second-in-Join-HoleLeft-default-default
fill_inside-returns-in_ok-second-in-Join-HoleLeft-default-default t c =
    let of = c.args.filling.now in
    let p = formula_of c.args.context.now in
    let k = formula_of c.deref-in-Join-HoleLeft-default-default.result.now in
    let q = formula_of c.deref-in-Join-HoleLeft-default-default-2.result.now in
    let is : p ≡ concatenation hole_left k q = search rules in
    two-last (changing p) (plan_of of k) (itself q (shape (layer_sort p))) (changed of p)
    (inner_plan of p) (beside-left of p k q is) c.args.draft.now
    c.fill-in-Join-HoleLeft-default-default.new.draft
    c.keep-in-Join-HoleLeft-default-default.new.draft
    c.change-in-Join-HoleLeft-default-default.new.draft
    c.in_ok-first-in-Join-HoleLeft-default-default.first
    c.in_ok-second-in-Join-HoleLeft-default-default.second
    c.change-in-Join-HoleLeft-default-default.result
    c.in_ok-first-in-Join-HoleLeft-default-default.ensures
    c.in_ok-second-in-Join-HoleLeft-default-default.ensures
    c.change-in-Join-HoleLeft-default-default.ensures

pub fill_inside-returns-in_err-second-in-PlusHole :
    goal.fill_inside-returns-in_err-second-in-PlusHole
fill_inside-returns-in_err-second-in-PlusHole t c =
    let of = c.args.filling.now in
    let p = formula_of c.args.context.now in
    let k = formula_of c.deref-in-PlusHole.result.now in
    let q = formula_of c.deref-in-PlusHole-2.result.now in
    let is : p ≡ grove_sum_hole k q =
    cc (
      ap formula_of c.in-PlusHole.is,
      c.deref-in-PlusHole.ensures,
      c.deref-in-PlusHole-2.ensures,
    ) in
    two-second (changing p) (plan_of of k) (itself q (shape (layer_sort p))) (changed of p)
    (inner_plan of p) (beside-sum of p k q is) c.args.draft.now
    c.fill-in-PlusHole.new.draft
    c.keep-in-PlusHole.new.draft
    c.in_ok-first-in-PlusHole.first
    c.in_err-second-in-PlusHole.field-0.0
    c.from_residual-in_err-second-in-PlusHole.result
    c.from_residual-in_err-second-in-PlusHole.ensures.1
    c.in_ok-first-in-PlusHole.ensures
    c.in_err-second-in-PlusHole.ensures

pub fill_inside-returns-in_ok-second-in-PlusHole :
    goal.fill_inside-returns-in_ok-second-in-PlusHole
fill_inside-returns-in_ok-second-in-PlusHole t c =
    let of = c.args.filling.now in
    let p = formula_of c.args.context.now in
    let k = formula_of c.deref-in-PlusHole.result.now in
    let q = formula_of c.deref-in-PlusHole-2.result.now in
    let is : p ≡ grove_sum_hole k q =
    cc (
      ap formula_of c.in-PlusHole.is,
      c.deref-in-PlusHole.ensures,
      c.deref-in-PlusHole-2.ensures,
    ) in
    two-last (changing p) (plan_of of k) (itself q (shape (layer_sort p))) (changed of p)
    (inner_plan of p) (beside-sum of p k q is) c.args.draft.now
    c.fill-in-PlusHole.new.draft
    c.keep-in-PlusHole.new.draft
    c.change-in-PlusHole.new.draft
    c.in_ok-first-in-PlusHole.first
    c.in_ok-second-in-PlusHole.second
    c.change-in-PlusHole.result
    c.in_ok-first-in-PlusHole.ensures
    c.in_ok-second-in-PlusHole.ensures
    c.change-in-PlusHole.ensures
