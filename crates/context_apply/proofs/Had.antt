-- Each plain context is one of the program's, up to the order of the roots of a grove.
use Rattle.std.proofs.Common.{◌≡◌, List, [], ◌∷◌, sym, refl, ap, arith, ◌∙◌}
use denote.RawPtr.{null_ptr}
use Rattle.model_shapes.specs.Sorts.{DataSort, tree, forest, grove, context}
use Rattle.model_shapes.specs.Trees.{Trees, none, node, hole, beside, root_uses}
use Rattle.model_shapes.specs.Shapes.{holes, SameAt, Shaped}
use Rattle.model_shapes.specs.Contexts as model
use Rattle.model_shapes.proofs.ByConstruction.{in_tree, from_forest, in_grove}
use Rattle.grove_data.specs.Trees.{forest_of, tree_step}
use Rattle.grove_data.specs.declared.trees.Tree.{Tree}
use Rattle.grove_data.specs.declared.trees.Tree.TheViews.{roll-Tree}
use Rattle.grove_data.specs.declared.trees.Tree.TheFolds.{fold-roll-Tree}
use Rattle.context_apply.specs.declared.contexts.TreeContext.{TreeContext}
use Rattle.context_apply.specs.declared.contexts.TreeContext.TheVariants as t
use Rattle.context_apply.specs.declared.contexts.ForestInner.{ForestInner}
use Rattle.context_apply.specs.declared.contexts.ForestInner.TheVariants as i
use Rattle.context_apply.specs.declared.contexts.ForestContext.{ForestContext}
use Rattle.context_apply.specs.declared.contexts.GroveContext.{GroveContext}
use Rattle.context_apply.specs.declared.contexts.GroveInner.TheVariants as g
use Rattle.context_apply.specs.declared.contexts.Context.{Context}
use Rattle.context_apply.specs.declared.contexts.Context.TheVariants as c
use Rattle.context_apply.specs.Contexts.{tree_context_of, forest_inner_of, forest_context_of, grove_context_of, context_thing, hole_sort_of, outer_sort_of}

-- a forest of the program
abbrev HasForest : Trees → Type 0
HasForest r = (f : List Tree) × (forest_of f ≡ r)

-- each list of roots without holes is one
had-forest : (r : Trees) → holes r ≡ 0 → HasForest r
had-forest none z = ([], refl)
had-forest (hole r) z = absurd (omega (arith, z))
had-forest (node s n k l r) z =
    let kids : HasForest k = had-forest k (omega (arith, z)) in
    let rest : HasForest r = had-forest r (omega (arith, z)) in (
      roll-Tree (record { name = s; id = n; kids = kids.0; list = l }) ∷ rest.0,
      ap (λ x. beside x (forest_of rest.0)) (fold-roll-Tree Trees tree_step _)
          ∙ (λ j. node s n (kids.1 j) l (rest.1 j)),
    )

mutual
  -- each context by construction with bare surroundings is one of the program
  had-tree : (x : model.TreeContext) → model.TreeBare x
      → (y : TreeContext) × (tree_context_of y ≡ x)
  had-tree model.tree_hole b = (t.Hole, refl)
  had-tree (model.around_node s n (model.between a x r) l) b =
      let left : HasForest a = had-forest a b.0 in
      let inside : (y : ForestInner) × (forest_inner_of y ≡ x) = had-inner x b.1 in
      let right : HasForest r = had-forest r b.2 in (
        t.Node' s n (record {
          ptr = null_ptr;
          alloc =
              record { memory = record { seal = tt } };
          value = tt;
        }) left.0 inside.0 right.0 l,
        (λ j. model.around_node s n (model.between (left.1 j) (inside.1 j) (right.1 j)) l),
      )

  had-inner : (x : model.ForestInner) → model.InnerBare x
      → (y : ForestInner) × (forest_inner_of y ≡ x)
  had-inner model.forest_hole b = (i.Hole, refl)
  had-inner (model.one_context x) b =
      let y : (y : TreeContext) × (tree_context_of y ≡ x) = had-tree x b in
      (i.One y.0, ap model.one_context y.1)

had-forest-context : (x : model.ForestContext) → model.ForestBare x
    → (y : ForestContext) × (forest_context_of y ≡ x)
had-forest-context (model.between a x r) b =
    let left : HasForest a = had-forest a b.0 in
    let inside : (y : ForestInner) × (forest_inner_of y ≡ x) = had-inner x b.1 in
    let right : HasForest r = had-forest r b.2 in (
      record { left = left.0; inner = inside.0; right = right.0 },
      (λ j. model.between (left.1 j) (inside.1 j) (right.1 j)),
    )

had-grove-context : (x : model.GroveContext) → model.GroveBare x
    → (y : GroveContext) × (grove_context_of y ≡ x)
had-grove-context (model.grove_hole rest) b =
    let others : HasForest rest = had-forest rest b in
    (record { inner = g.Hole; rest = others.0 }, ap model.grove_hole others.1)
had-grove-context (model.root_context x rest) b =
    let root : (y : TreeContext) × (tree_context_of y ≡ x) = had-tree x b.0 in
    let others : HasForest rest = had-forest rest b.1 in (
      record { inner = g.Root root.0; rest = others.0 },
      (λ j. model.root_context (root.1 j) (others.1 j)),
    )

-- each plain context is had
pub had : (h k : DataSort) (r : Trees) → Shaped (context h k) r
    → (x : Context) × SameAt k r (context_thing x) × (hole_sort_of x ≡ h) × (outer_sort_of x ≡ k)
had h tree r w = let x = in_tree h r w in let y = had-tree x.0 x.3 in
    (c.Tree y.0, sym (ap model.tree_thing y.1 ∙ x.1), ap model.tree_hole_sort y.1 ∙ x.2, refl)
had h forest r w = let x = from_forest h r w in let y = had-forest-context x.0 x.3 in
    (c.Forest y.0, sym (ap model.forest_thing y.1 ∙ x.1), ap model.forest_hole_sort y.1 ∙ x.2, refl)
had h grove r w = let x = in_grove h r w in let y = had-grove-context x.0 x.3 in (
  c.Grove y.0,
  (λ t. x.1 t ∙ ap (λ z. root_uses t (model.grove_thing z)) (sym y.1)),
  ap model.grove_hole_sort y.1 ∙ x.2,
  refl,
)
