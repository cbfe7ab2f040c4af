-- Needn't be believed: the program's promise doesn't speak of it. The variables and terms of the
-- definitions that those of the program stand for. Terms are those of PODS 2008, with sums,
-- differences and texts; a variable is its name and its sort.
use Rattle.model_shapes.specs.Values as values
use Rattle.model_terms.specs.Variables as model
use Rattle.model_terms.specs.Terms as terms
use Rattle.model_terms.specs.Stores as stores
use Rattle.dom_terms.specs.declared.terms.ProgVar.{ProgVar}
use Rattle.dom_terms.specs.declared.terms.LogicVar.{LogicVar}
use Rattle.dom_terms.specs.declared.terms.Term.{Term}
use Rattle.dom_terms.specs.declared.terms.Term.TheVariants as t
use Rattle.dom_terms.specs.Sorts.{value_sort_of, sort_of}

-- the program variable, as stores have it
abbrev pub prog_var_of : ProgVar → stores.ProgVar
prog_var_of variable = stores.named variable.name (value_sort_of variable.sort)

-- the program variable, as formulas have it
abbrev pub var_of : ProgVar → model.Var
var_of variable = stores.as_var (prog_var_of variable)

-- the logic variable, as formulas have it
abbrev pub logic_var_of : LogicVar → model.Var
logic_var_of variable = model.logic variable.name (sort_of variable.sort)

-- the term
abbrev pub term_of : Term → terms.Term
term_of t.NullNode = terms.literal values.null
term_of t.NullList = terms.literal values.nolist
term_of (t.Int number) = terms.literal (values.int number)
term_of (t.Str text) = terms.literal (values.str text)
term_of (t.Bool truth) = terms.literal (values.boolean truth)
term_of (t.Prog variable) = terms.variable (var_of variable)
term_of (t.Logic variable) = terms.variable (logic_var_of variable)
term_of (t.Add' p left q right) = terms.sum (term_of left) (term_of right)
term_of (t.Sub' p left q right) = terms.difference (term_of left) (term_of right)
term_of (t.Cat' p left q right) = terms.appended (term_of left) (term_of right)
