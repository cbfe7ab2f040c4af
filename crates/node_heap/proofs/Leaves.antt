-- A leaf that is put at the end of a row, and then is given its children.
use Rattle.std.proofs.Common.{◌≡◌, ◌-◌, List, [], ◌∷◌, ◌++◌, Ok, Err, length, get_or, set, ap, ◌∙◌, arith, length-append}
use Rattle.std.proofs.Math.Seq.{get_or-append_seam, set-append_seam}
use Rattle.std.specs.Prelude.{OnOk, Result}
use Rattle.model_shapes.specs.Trees.{Trees, none, node, beside}
use Rattle.grove_data.specs.Trees.{forest_of, tree_step}
use Rattle.grove_data.specs.declared.trees.Tree.{Tree, out-Tree, roll-Tree}
use Rattle.grove_data.specs.declared.trees.Tree.TheOpen.{Tree-F}
use Rattle.grove_data.specs.declared.trees.Tree.TheFolds.{fold-roll-Tree}
use Rattle.grove_data.proofs.Walks.{root_at_end}
use Rattle.node_heap.specs.declared.records.Record.{Record}
use Rattle.node_heap.specs.Writing.{EndsWithLeaf}

pub on_ok : {A E P Q : Type 0} (r : Result A E) → (P → Q) → OnOk r P → OnOk r Q
on_ok (Ok x) f p = f p
on_ok (Err x) f p = tt

-- the tree with other children
abbrev pub with_kids : Tree → List Tree → Tree-F Tree
with_kids tree kids = record {
  name = (out-Tree tree).name;
  id = (out-Tree tree).id;
  kids = kids;
  list = (out-Tree tree).list;
}

pub kids_put : (r : Record) (trees row kids : List Tree) (last : Tree) → EndsWithLeaf r trees row
    → last ≡ get_or row (length row - 1) last
    → forest_of (set row (length row - 1) (roll-Tree (with_kids last kids)))
    ≡ beside (forest_of trees) (node r.name r.number (forest_of kids) r.list none)
kids_put r trees row kids last w is =
    let put : Tree = roll-Tree (with_kids last kids) in
    let len : length row - 1 ≡ length trees =
    omega (arith, ap length w.at_end, length-append trees (w.leaf ∷ [])) in
    let same : last ≡ w.leaf =
    is ∙ ap (λ k. get_or row k last) len ∙ ap (λ ts. get_or ts (length trees) last) w.at_end
    ∙ get_or-append_seam trees w.leaf [] last in
    let after : set row (length row - 1) put ≡ trees ++ put ∷ [] =
    ap (λ k. set row k put) len ∙ ap (λ ts. set ts (length trees) put) w.at_end
    ∙ set-append_seam trees w.leaf [] put in
    let own : (out-Tree last).name ≡ r.name = ap (λ t. (out-Tree t).name) same ∙ w.name in
    let id : (out-Tree last).id ≡ r.number = ap (λ t. (out-Tree t).id) same ∙ w.id in
    let list : (out-Tree last).list ≡ r.list = ap (λ t. (out-Tree t).list) same ∙ w.list in
    ap forest_of after ∙ root_at_end trees put
    ∙ ap (beside (forest_of trees)) (fold-roll-Tree Trees tree_step (with_kids last kids)
    ∙ (λ i. node (own i) (id i) (forest_of kids) (list i) none))
