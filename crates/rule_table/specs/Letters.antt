-- The letters of the tables of rules, and the things that a choice gives to them.
use Rattle.std.specs.Prelude.{List, Option, Some, None}
use Rattle.model_shapes.specs.Values.{Name}
use Rattle.model_shapes.specs.Sorts.{Sort, shape, context, DataSort}
use Rattle.model_terms.specs.Variables.{Var, logic}
use Rattle.model_terms.specs.Terms.{Term, variable}
use Rattle.model_formulas.specs.Formulas.{Formula, node_formula}
use Rattle.model_terms.specs.Stores.{ProgVar}
use Rattle.model_commands.specs.Commands.{Command, Block}
use Rattle.model_terms.specs.Conditions.{Cond}
use Rattle.model_commands.specs.Theories.{Procedure}
use Rattle.rule_table.specs.Linear.{Weighed}

-- a logic variable: its name and its sort
pub record LogicVar : Type 0 where
  pub name : Name
  pub sort : Sort

-- as a variable of formulas
abbrev pub as_logic : LogicVar → Var
as_logic x = logic x.name x.sort

-- as a term
abbrev pub as_term : LogicVar → Term
as_term x = variable (as_logic x)

-- a data sort, or a context sort with that hole
abbrev pub sort_at : Option DataSort → DataSort → Sort
sort_at None k = shape k
sort_at (Some h) k = context h k

-- A command, and the formula that holds behind it.
pub record Link : Type 0 where
  pub command : Command
  pub behind : Formula

-- One thing for each letter. Formulas stand without the names of bound variables.
pub record Letters : Type 0 where
  -- formulas
  pub P : Formula
  pub Q : Formula
  pub R : Formula
  pub A : Formula
  pub B : Formula
  -- formulas at context sorts
  pub K : Formula
  pub H : Formula
  -- terms
  pub E : Term
  pub F : Term
  pub S : Term
  pub I : Term
  pub L : Term
  pub T : Term
  pub J : Term
  pub M : Term
  pub G : Term
  pub V : Term
  pub Y : Term
  pub N : Term
  -- the logic variable, written $x in the rows
  pub x : LogicVar
  -- comparisons, each with the number that it is multiplied by
  pub W : Weighed
  -- the program variable of a command, written x in the rows
  pub v : ProgVar
  -- a command; a condition and two blocks of others; the commands of a block behind its first
  pub C : Command
  pub c : Cond
  pub b : Block
  pub b' : Block
  pub links : List Link
  -- of a call: the procedure, the variables that take the results, and the arguments
  pub f : Procedure
  pub rs : List ProgVar
  pub es : List Term
  -- any sort; a hole or none; data sorts
  pub s : Sort
  pub o : Option DataSort
  pub h : DataSort
  pub k : DataSort
  pub j : DataSort

-- S#I[p]%L, the one node of the rows that speak of nodes
abbrev pub one_node : Letters → Formula → Formula
one_node l p = node_formula l.S l.I p l.L

-- T#J[Q]%M, the other
abbrev pub other_node : Letters → Formula
other_node l = node_formula l.T l.J l.Q l.M

-- Y#V[A]%N, a third
abbrev pub third_node : Letters → Formula
third_node l = node_formula l.Y l.V l.A l.N
