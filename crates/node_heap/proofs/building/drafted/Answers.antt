use Rattle.std.proofs.Common.{◌≡◌, ◌∙◌, [], ◌∷◌, ◌++◌, map, drop, take, ◌-◌, length, Some, sym, ap, subst, arith}
use Rattle.grove_data.specs.Trees.{forest_of}
use Rattle.grove_data.specs.declared.trees.Tree.{Tree, out-Tree}
use Rattle.model_shapes.specs.Trees.{none}
use Rattle.model_heap.specs.Growing.{completing}
use Rattle.node_heap.specs.Records.{IsNew}
use Rattle.node_heap.specs.Drafts.{KnowsAll, frame_of}
use Rattle.node_heap.proofs.Empty.{links_none}
use Rattle.node_heap.proofs.Turns.{frames-last, all-last, all-but_last, frame, read_parent, read_near, next_part, none_left, popped, behind, fewer_left, fewer_then}
use Rattle.node_heap.proofs.building.drafted.Goals as goal

pub loop-siblings-init : goal.loop-siblings-init
loop-siblings-init c =
    rw (c.new-nodes.ensures.items, c.new-lists.ensures.items) (record {
      grove = none;
      draft = record {
        links = links_none c.new-records.result c.new-records.ensures.empty;
        nodes_once = λ n. omega arith;
        lists_once = λ n. omega arith;
      };
      completes = rw (c.in_ok-push.ensures.items, c.new-rest.ensures.items)
          (ap forest_of c.as_slice.ensures);
      knows = rw (c.in_ok-push.ensures.items, c.new-rest.ensures.items) (tt, tt);
    })

pub loop-siblings-preserved-in_default-trees : goal.loop-siblings-preserved-in_default-trees
loop-siblings-preserved-in_default-trees c =
    none_left c.loop-siblings.records c.loop-siblings.nodes.items c.loop-siblings.lists.items
    c.pop.new.self.items c.in-Some.siblings (forest_of c.args.grove.now)
    (popped c.loop-siblings.records c.loop-siblings.nodes.items c.loop-siblings.lists.items
    c.loop-siblings.rest.items c.pop.new.self.items c.in-Some.siblings
    (forest_of c.args.grove.now) c.in-Some.ensures.items c.loop-siblings.invariant)
    c.in_default-trees.len_below

pub attach_under-requires-clause-parent : goal.attach_under-requires-clause-parent
attach_under-requires-clause-parent c =
    let p = popped c.loop-siblings.records c.loop-siblings.nodes.items c.loop-siblings.lists.items
    c.loop-siblings.rest.items c.pop.new.self.items c.in-Some.siblings
    (forest_of c.args.grove.now) c.in-Some.ensures.items c.loop-siblings.invariant in
    let k = all-but_last c.loop-siblings.nodes.items c.pop.new.self.items c.in-Some.siblings
    p.knows in
    let completes = ap (λ fs. completing fs p.grove)
    (sym (frames-last c.pop.new.self.items c.in-Some.siblings)) ∙ p.completes in
    read_parent c.in-Some.siblings.trees.now c.tree-item.result
    (omega (arith, c.in-len1-up.len_at_least))
    c.tree-item.is c.loop-siblings.records c.loop-siblings.nodes.items c.loop-siblings.lists.items
    p.grove p.draft (forest_of c.args.grove.now) c.requires c.pop.new.self.items
    c.in-Some.siblings.parent k.1 k.0 completes c.insert.new.self c.in_ok-key.key c.new.result
    c.in_ok-key.ensures.was_vacant c.in_ok-key.ensures.updates
    (subst (λ name. IsNew (out-Tree c.tree-item.result).id (out-Tree c.tree-item.result).list name
    c.new.result) c.in_ok-name.ensures c.new.ensures)
    c.in_ok-key.ensures.len

pub attach_under-requires-clause-neighbours : goal.attach_under-requires-clause-neighbours
attach_under-requires-clause-neighbours c =
    let p = popped c.loop-siblings.records c.loop-siblings.nodes.items c.loop-siblings.lists.items
    c.loop-siblings.rest.items c.pop.new.self.items c.in-Some.siblings
    (forest_of c.args.grove.now) c.in-Some.ensures.items c.loop-siblings.invariant in
    let k = all-but_last c.loop-siblings.nodes.items c.pop.new.self.items c.in-Some.siblings
    p.knows in
    let completes = ap (λ fs. completing fs p.grove)
    (sym (frames-last c.pop.new.self.items c.in-Some.siblings)) ∙ p.completes in
    read_near c.in-Some.siblings.trees.now c.tree-item.result
    (omega (arith, c.in-len1-up.len_at_least))
    c.tree-item.is c.loop-siblings.records c.loop-siblings.nodes.items c.loop-siblings.lists.items
    p.grove p.draft (forest_of c.args.grove.now) c.requires c.pop.new.self.items
    c.in-Some.siblings.parent k.1 k.0 completes c.insert.new.self c.in_ok-key.key c.new.result
    c.in_ok-key.ensures.was_vacant c.in_ok-key.ensures.updates
    (subst (λ name. IsNew (out-Tree c.tree-item.result).id (out-Tree c.tree-item.result).list name
    c.new.result) c.in_ok-name.ensures c.new.ensures)
    c.in_ok-key.ensures.len

pub loop-siblings-preserved : goal.loop-siblings-preserved
loop-siblings-preserved c =
    let p = popped c.loop-siblings.records c.loop-siblings.nodes.items c.loop-siblings.lists.items
    c.loop-siblings.rest.items c.pop.new.self.items c.in-Some.siblings
    (forest_of c.args.grove.now) c.in-Some.ensures.items c.loop-siblings.invariant in
    let k = all-but_last c.loop-siblings.nodes.items c.pop.new.self.items c.in-Some.siblings
    p.knows in
    let completes = ap (λ fs. completing fs p.grove)
    (sym (frames-last c.pop.new.self.items c.in-Some.siblings)) ∙ p.completes in
    let t : Tree = c.tree-item.result in
    let behind_it : map frame_of c.push-in-Some-3.new.self.items ≡ map frame_of c.pop.new.self.items
    ++ frame c.in-Some.siblings.parent (forest_of
    (take (length c.in-Some.siblings.trees.now - 1) (drop 1 c.in-Some.siblings.trees.now)))
    ∷ []
    = ap (map frame_of) c.in_ok-push-4.ensures.items ∙ frames-last _ _ in
    let below_it : map frame_of c.push-in-Some-4.new.self.items
    ≡ map frame_of c.push-in-Some-3.new.self.items
    ++ frame (Some (record { number = (out-Tree t).id; key = c.in_ok-key.key }))
    (forest_of c.as_slice-in-Some.result.now) ∷ []
    = ap (map frame_of) c.in_ok-push-5.ensures.items ∙ frames-last _ _ in
    let frames : map frame_of c.push-in-Some-4.new.self.items ≡ (map frame_of c.pop.new.self.items
    ++ frame c.in-Some.siblings.parent (forest_of (drop 1 c.in-Some.siblings.trees.now)) ∷ [])
    ++ frame (Some (record { number = (out-Tree t).id; key = c.in_ok-key.key }))
    (forest_of (out-Tree t).kids) ∷ []
    = below_it ∙ ap (λ kids. map frame_of c.push-in-Some-3.new.self.items
    ++ frame (Some (record { number = (out-Tree t).id; key = c.in_ok-key.key }))
    (forest_of kids) ∷ []) c.as_slice-in-Some.ensures
    ∙ ap (λ fs. fs ++ frame (Some (record { number = (out-Tree t).id; key = c.in_ok-key.key }))
    (forest_of (out-Tree t).kids) ∷ [])
    (behind_it ∙ ap (λ trees. map frame_of c.pop.new.self.items
    ++ frame c.in-Some.siblings.parent (forest_of trees) ∷ [])
    (behind c.in-Some.siblings.trees.now)) in
    next_part c.in-Some.siblings.trees.now c.tree-item.result
    (omega (arith, c.in-len1-up.len_at_least))
    c.tree-item.is c.loop-siblings.records c.loop-siblings.nodes.items c.loop-siblings.lists.items
    p.grove p.draft (forest_of c.args.grove.now) c.requires c.pop.new.self.items
    c.in-Some.siblings.parent k.1 k.0 completes c.insert.new.self c.in_ok-key.key c.new.result
    c.in_ok-key.ensures.was_vacant c.in_ok-key.ensures.updates
    (subst (λ name. IsNew (out-Tree c.tree-item.result).id (out-Tree c.tree-item.result).list name
    c.new.result) c.in_ok-name.ensures c.new.ensures)
    c.in_ok-key.ensures.len
    c.attach_under.new.records c.attach_under.ensures.puts c.attach_under.ensures.size
    c.push-in-Some.new.self.items c.push-in-Some-2.new.self.items c.in_ok-push-2.ensures.items
    c.in_ok-push-3.ensures.items c.push-in-Some-4.new.self.items frames
    (λ ns h k o. subst (KnowsAll ns) (sym c.in_ok-push-5.ensures.items)
    (all-last ns _ _ (subst (KnowsAll ns) (sym c.in_ok-push-4.ensures.items) (all-last ns _ _ h k))
    o))

pub loop-siblings-smaller-in_default-trees : goal.loop-siblings-smaller-in_default-trees
loop-siblings-smaller-in_default-trees c =
    fewer_left c.loop-siblings.rest.items c.pop.new.self.items c.in-Some.siblings
    c.in-Some.ensures.items

pub loop-siblings-smaller : goal.loop-siblings-smaller
loop-siblings-smaller c =
    let t : Tree = c.tree-item.result in
    let behind_it : map frame_of c.push-in-Some-3.new.self.items ≡ map frame_of c.pop.new.self.items
    ++ frame c.in-Some.siblings.parent (forest_of
    (take (length c.in-Some.siblings.trees.now - 1) (drop 1 c.in-Some.siblings.trees.now)))
    ∷ []
    = ap (map frame_of) c.in_ok-push-4.ensures.items ∙ frames-last _ _ in
    let below_it : map frame_of c.push-in-Some-4.new.self.items
    ≡ map frame_of c.push-in-Some-3.new.self.items
    ++ frame (Some (record { number = (out-Tree t).id; key = c.in_ok-key.key }))
    (forest_of c.as_slice-in-Some.result.now) ∷ []
    = ap (map frame_of) c.in_ok-push-5.ensures.items ∙ frames-last _ _ in
    let frames : map frame_of c.push-in-Some-4.new.self.items ≡ (map frame_of c.pop.new.self.items
    ++ frame c.in-Some.siblings.parent (forest_of (drop 1 c.in-Some.siblings.trees.now)) ∷ [])
    ++ frame (Some (record { number = (out-Tree t).id; key = c.in_ok-key.key }))
    (forest_of (out-Tree t).kids) ∷ []
    = below_it ∙ ap (λ kids. map frame_of c.push-in-Some-3.new.self.items
    ++ frame (Some (record { number = (out-Tree t).id; key = c.in_ok-key.key }))
    (forest_of kids) ∷ []) c.as_slice-in-Some.ensures
    ∙ ap (λ fs. fs ++ frame (Some (record { number = (out-Tree t).id; key = c.in_ok-key.key }))
    (forest_of (out-Tree t).kids) ∷ [])
    (behind_it ∙ ap (λ trees. map frame_of c.pop.new.self.items
    ++ frame c.in-Some.siblings.parent (forest_of trees) ∷ [])
    (behind c.in-Some.siblings.trees.now)) in
    fewer_then c.loop-siblings.rest.items c.pop.new.self.items c.push-in-Some-4.new.self.items
    c.in-Some.siblings t (record { number = (out-Tree t).id; key = c.in_ok-key.key })
    c.in-Some.ensures.items (omega (arith, c.in-len1-up.len_at_least)) c.tree-item.is frames
