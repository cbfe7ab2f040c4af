-- Needn't be believed: contracts of private functions alone speak of it. A context formula that
-- shows its hole, layer by layer, and what is written for each.
use Rattle.std.specs.Prelude.{Bool, true, false, codes}
use Rattle.model_shapes.specs.Sorts.{DataSort, shape, tree, forest, grove}
use Rattle.model_shapes.specs.Values.{Name}
use Rattle.model_formulas.specs.Formulas.{Named, whole, hole_left, hole_right, node_formula, one_tree, one_root, concatenation, grove_sum, grove_sum_hole, application}
use Rattle.model_commands.specs.Theories.{JudgementOf, entails}
use Rattle.assistant_laws.specs.Fillings as model
use Rattle.assistant_laws.specs.FillingPlans as plans
use Rattle.assistant_laws.specs.Plans.{Plan}
use Rattle.assistant_laws.specs.Ways as ways
use Rattle.assistant_laws.specs.Ways.{turned, itself, inside, beside}
use Rattle.dom_terms.specs.Sorts.{data_sort_of, sort_of}
use Rattle.formula_syntax.specs.Formulas.{formula_of}
use Rattle.formula_syntax.specs.declared.entailments.Entailment.{Entailment}
use Rattle.step_filler.specs.declared.layers.Way.{Way}
use Rattle.step_filler.specs.declared.layers.Way.TheVariants as w
use Rattle.step_filler.specs.declared.layers.Filling.{Filling}

-- the outermost part of a context formula is a layer around another one
abbrev pub is_layer : Named → Bool
is_layer (node_formula name number c list) = true
is_layer (one_tree c) = true
is_layer (one_root c) = true
is_layer (concatenation hole_left c q) = true
is_layer (concatenation hole_right q c) = true
is_layer (grove_sum_hole c q) = true
is_layer c = false

-- the layer around another part, which isn't a context
abbrev pub around : Named → Named → Named
around (node_formula name number c list) p = node_formula name number p list
around (one_tree c) p = one_tree p
around (one_root c) p = one_root p
around (concatenation hole_left c q) p = concatenation whole p q
around (concatenation hole_right q c) p = concatenation whole q p
around (grove_sum_hole c q) p = grove_sum p q
around c p = p

-- the sort of what a layer gives
abbrev pub layer_sort : Named → DataSort
layer_sort (one_tree c) = forest
layer_sort (one_root c) = grove
layer_sort (concatenation side p q) = forest
layer_sort (grove_sum_hole c q) = grove
layer_sort c = tree

-- the rule by which an application goes into the layer
abbrev pub entering : Named → Name
entering (node_formula name number c list) = codes "app_node"
entering (one_tree c) = codes "app_tree"
entering (one_root c) = codes "app_root"
entering (concatenation hole_left c q) = codes "app_star_left"
entering (concatenation hole_right q c) = codes "app_star_right"
entering (grove_sum_hole c q) = codes "app_plus"
entering c = codes "hole_left"

-- the rule by which the part of a layer is changed
abbrev pub changing : Named → Name
changing (one_tree c) = codes "mono_tree"
changing (one_root c) = codes "mono_root"
changing (concatenation side p q) = codes "mono_star"
changing (grove_sum_hole c q) = codes "mono_plus"
changing c = codes "mono_node"

-- the layer with the application inside
abbrev pub moved_in : DataSort → Named → Named → Named
moved_in h b (node_formula name number c list) =
    node_formula name number (application h c b) list
moved_in h b (one_tree c) = one_tree (application h c b)
moved_in h b (one_root c) = one_root (application h c b)
moved_in h b (concatenation hole_left c q) = concatenation whole (application h c b) q
moved_in h b (concatenation hole_right q c) = concatenation whole q (application h c b)
moved_in h b (grove_sum_hole c q) = grove_sum (application h c b) q
moved_in h b c = c

-- the way of the program
abbrev pub way_of : Way → ways.Way
way_of w.Onward = ways.onward
way_of w.Backward = ways.backward

-- what an entailment says
abbrev pub said : Entailment → JudgementOf Named
said asked = entails (formula_of asked.left) (formula_of asked.right) (sort_of asked.sort)

module _ (of : Filling) (c : Named) where
  -- the application of the context to what fills its hole
  abbrev pub applied : Named
  applied = application (data_sort_of of.hole) c (formula_of of.filler)

  -- its filling
  abbrev pub filled : Named
  filled = model.filling (formula_of of.filler) c

  -- the application inside its outermost layer
  abbrev pub between : Named
  between = moved_in (data_sort_of of.hole) (formula_of of.filler) c

  -- the plan from the application to the filling, or back
  abbrev pub plan_of : Plan
  plan_of = plans.filling_plan (way_of of.way) (data_sort_of of.hole) (formula_of of.filler) c

  -- the application to a hole becomes what fills it, or the other way round
  abbrev pub in_hole : JudgementOf Named
  in_hole = turned (way_of of.way) applied (formula_of of.filler) (shape (data_sort_of of.hole))

  -- the application goes in, or out
  abbrev pub entered : JudgementOf Named
  entered = turned (way_of of.way) applied between (shape (layer_sort c))

  -- what is inside becomes the filling there, or the other way round
  abbrev pub changed : JudgementOf Named
  changed = turned (way_of of.way) between filled (shape (layer_sort c))

  -- both
  abbrev pub passed : JudgementOf Named
  passed = turned (way_of of.way) applied filled (shape (layer_sort c))

-- the plan for what is inside the outermost layer
abbrev pub inner_plan : Filling → Named → Plan
inner_plan of (node_formula name number c list) =
    inside (way_of of.way) (codes "mono_node") (plan_of of c)
    (between of (node_formula name number c list)) (filled of (node_formula name number c list))
    (shape tree)
inner_plan of (one_tree c) =
    inside (way_of of.way) (codes "mono_tree") (plan_of of c) (between of (one_tree c))
    (filled of (one_tree c)) (shape forest)
inner_plan of (one_root c) =
    inside (way_of of.way) (codes "mono_root") (plan_of of c) (between of (one_root c))
    (filled of (one_root c)) (shape grove)
inner_plan of (concatenation hole_left c q) =
    beside (way_of of.way) (codes "mono_star") (plan_of of c) (itself q (shape forest))
    (between of (concatenation hole_left c q)) (filled of (concatenation hole_left c q))
    (shape forest)
inner_plan of (concatenation hole_right q c) =
    beside (way_of of.way) (codes "mono_star") (itself q (shape forest)) (plan_of of c)
    (between of (concatenation hole_right q c)) (filled of (concatenation hole_right q c))
    (shape forest)
inner_plan of (grove_sum_hole c q) =
    beside (way_of of.way) (codes "mono_plus") (plan_of of c) (itself q (shape grove))
    (between of (grove_sum_hole c q)) (filled of (grove_sum_hole c q)) (shape grove)
inner_plan of c = itself c (shape tree)
