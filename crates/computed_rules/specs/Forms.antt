-- Needn't be believed: the program's promise doesn't speak of it. The linear forms of the
-- definitions that those of the program stand for: how often the integer variables count, and what
-- is left without them.
use Rattle.std.specs.Prelude.{◌≡◌, ◌+ℤ◌, ◌&&◌, ℤ, pos, ℕ, List, Bool, true, unwrap_or, bytes_eq}
use Rattle.indexmap.specs.IndexMap.{get_by}
use Rattle.model_shapes.specs.Sorts.{value, int_sort}
use Rattle.model_shapes.specs.Tests.{int_eq}
use Rattle.model_terms.specs.Variables.{prog, logic}
use Rattle.model_terms.specs.Terms.{Term, variable, sum, difference}
use Rattle.rule_table.specs.Linear.{Form, coefficient, constant}
use Rattle.computed_rules.specs.declared.forms.Counts.{Counts}
use Rattle.computed_rules.specs.declared.forms.LinearForm.{LinearForm}

-- how often the variable of that name counts
abbrev pub count_in : Counts → List ℕ → ℤ
count_in counts name = unwrap_or (get_by (λ k. bytes_eq name k.now) counts.counts) (pos 0)

-- the program's form is the definitions' one
pub record StandsFor (form : LinearForm) (f : Form) : Type 0 where
  pub progs : (name : List ℕ) → count_in form.progs name ≡ coefficient (prog name int_sort) f
  pub logics : (name : List ℕ)
      → count_in form.logics name ≡ coefficient (logic name (value int_sort)) f
  pub constant_is : form.constant ≡ constant f

-- one more form was added
pub record Adds (old new : LinearForm) (f : Form) : Type 0 where
  pub progs : (name : List ℕ)
      → count_in new.progs name ≡ count_in old.progs name +ℤ coefficient (prog name int_sort) f
  pub logics : (name : List ℕ)
      → count_in new.logics name
      ≡ count_in old.logics name +ℤ coefficient (logic name (value int_sort)) f
  pub constant_is : new.constant ≡ old.constant +ℤ constant f

-- no variable of the term counts
abbrev pub cancels_in : LinearForm → Term → Bool
cancels_in form (variable (prog name s)) = int_eq (count_in form.progs name) (pos 0)
cancels_in form (variable (logic name s)) = int_eq (count_in form.logics name) (pos 0)
cancels_in form (sum a b) = cancels_in form a && cancels_in form b
cancels_in form (difference a b) = cancels_in form a && cancels_in form b
cancels_in form a = true
