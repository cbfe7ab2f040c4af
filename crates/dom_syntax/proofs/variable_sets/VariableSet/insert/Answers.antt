-- One more variable, of each sort.
use Rattle.std.proofs.Common.{refl, ap}
use Rattle.model_shapes.specs.Sorts.{node_sort, list_sort, int_sort, str_sort, bool_sort}
use Rattle.dom_terms.specs.Sorts.{value_sort_of}
use Rattle.dom_syntax.proofs.VariableSetLaws.{inserted}
use Rattle.dom_syntax.proofs.variable_sets.VariableSet.insert.Goals as goal

pub returns-in-Node : goal.returns-in-Node
returns-in-Node c =
    inserted c.declare.result c.args.self.now
    (record {
      nodes = c.declare.new.self;
      lists = c.args.self.now.lists;
      ints = c.args.self.now.ints;
      strs = c.args.self.now.strs;
      bools = c.args.self.now.bools;
    }) node_sort (elim [
      | node_sort ↦ λ e. absurd (cc)
      | list_sort ↦ λ e. refl
      | int_sort ↦ λ e. refl
      | str_sort ↦ λ e. refl
      | bool_sort ↦ λ e. refl
    ]) c.args.variable.now (ap value_sort_of c.in-Node.is) c.as_str-name.result.now
    c.as_str-name.ensures c.declare.ensures

pub returns-in-List : goal.returns-in-List
returns-in-List c =
    inserted c.declare-in-List.result c.args.self.now
    (record {
      nodes = c.args.self.now.nodes;
      lists = c.declare-in-List.new.self;
      ints = c.args.self.now.ints;
      strs = c.args.self.now.strs;
      bools = c.args.self.now.bools;
    }) list_sort (elim [
      | node_sort ↦ λ e. refl
      | list_sort ↦ λ e. absurd (cc)
      | int_sort ↦ λ e. refl
      | str_sort ↦ λ e. refl
      | bool_sort ↦ λ e. refl
    ]) c.args.variable.now (ap value_sort_of c.in-List.is) c.as_str-name.result.now
    c.as_str-name.ensures c.declare-in-List.ensures

pub returns-in-Int : goal.returns-in-Int
returns-in-Int c =
    inserted c.declare-in-Int.result c.args.self.now
    (record {
      nodes = c.args.self.now.nodes;
      lists = c.args.self.now.lists;
      ints = c.declare-in-Int.new.self;
      strs = c.args.self.now.strs;
      bools = c.args.self.now.bools;
    }) int_sort (elim [
      | node_sort ↦ λ e. refl
      | list_sort ↦ λ e. refl
      | int_sort ↦ λ e. absurd (cc)
      | str_sort ↦ λ e. refl
      | bool_sort ↦ λ e. refl
    ]) c.args.variable.now (ap value_sort_of c.in-Int.is) c.as_str-name.result.now
    c.as_str-name.ensures c.declare-in-Int.ensures

pub returns-in-Str : goal.returns-in-Str
returns-in-Str c =
    inserted c.declare-in-Str.result c.args.self.now
    (record {
      nodes = c.args.self.now.nodes;
      lists = c.args.self.now.lists;
      ints = c.args.self.now.ints;
      strs = c.declare-in-Str.new.self;
      bools = c.args.self.now.bools;
    }) str_sort (elim [
      | node_sort ↦ λ e. refl
      | list_sort ↦ λ e. refl
      | int_sort ↦ λ e. refl
      | str_sort ↦ λ e. absurd (cc)
      | bool_sort ↦ λ e. refl
    ]) c.args.variable.now (ap value_sort_of c.in-Str.is) c.as_str-name.result.now
    c.as_str-name.ensures c.declare-in-Str.ensures

pub returns-in-Bool : goal.returns-in-Bool
returns-in-Bool c =
    inserted c.declare-in-Bool.result c.args.self.now
    (record {
      nodes = c.args.self.now.nodes;
      lists = c.args.self.now.lists;
      ints = c.args.self.now.ints;
      strs = c.args.self.now.strs;
      bools = c.declare-in-Bool.new.self;
    }) bool_sort (elim [
      | node_sort ↦ λ e. refl
      | list_sort ↦ λ e. refl
      | int_sort ↦ λ e. refl
      | str_sort ↦ λ e. refl
      | bool_sort ↦ λ e. absurd (cc)
    ]) c.args.variable.now (ap value_sort_of c.in-Bool.is) c.as_str-name.result.now
    c.as_str-name.ensures c.declare-in-Bool.ensures
