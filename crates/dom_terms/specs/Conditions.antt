-- Needn't be believed: the program's promise doesn't speak of it. The conditions of the definitions
-- that those of the program stand for.
use Rattle.model_terms.specs.Conditions as model
use Rattle.dom_terms.specs.declared.conditions.Cond.{Cond}
use Rattle.dom_terms.specs.declared.conditions.Cond.TheVariants as c
use Rattle.dom_terms.specs.Terms.{prog_var_of, term_of}

-- the condition
abbrev pub cond_of : Cond → model.Cond
cond_of c.True = model.cond_true
cond_of c.False = model.cond_false
cond_of (c.Holds variable) = model.cond_variable (prog_var_of variable)
cond_of (c.Eq left right) = model.cond_equal (term_of left) (term_of right)
cond_of (c.Le left right) = model.cond_at_most (term_of left) (term_of right)
cond_of (c.Not' p inner) = model.cond_not (cond_of inner)
cond_of (c.And' p left q right) = model.cond_and (cond_of left) (cond_of right)
cond_of (c.Or' p left q right) = model.cond_or (cond_of left) (cond_of right)
