-- The empty heap.
use Rattle.std.proofs.Common.{◌≡◌, [], refl, ap, arith, count_by}
use Rattle.std.specs.Option.{is_some}
use Rattle.model_shapes.specs.Trees.{none}
use Rattle.slab.specs.Slab.{Slab}
use Rattle.node_heap.specs.declared.records.Record.{Record}
use Rattle.node_heap.specs.Heap.{Linking}

pub links_none : (s : Slab Record) → s.slots ≡ [] → Linking s [] [] none
links_none s e = record {
  well_formed = record {
    nodes_once = λ n. omega arith;
    lists_once = λ n. omega arith;
    no_node_zero = refl;
    no_list_zero = refl;
  };
  once = λ n. omega arith;
  whole = refl;
  sized = refl;
  stands = record { apart = λ n m hn hm x. absurd (cc); fits = λ n e h. absurd (cc) };
  indexed = λ n. refl;
  listed = λ n e h. absurd (cc);
  listed_only = λ l k h. absurd (cc);
  records_len = ap (count_by is_some) e;
  lists_len = refl;
}
