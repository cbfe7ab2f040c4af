-- Needn't be believed: the program's promise doesn't speak of it. Formulas that are spelled where a
-- list of variables is declared: each variable of the formula has the sort of the first of the list
-- that is of its kind and has its name, and sort node where none is.
use Rattle.std.specs.Prelude.{◌≡◌, List, [], ◌∷◌}
use Rattle.std.specs.List.{flat_map}
use Rattle.model_terms.specs.Variables.{Var}
use Rattle.model_terms.specs.Stores.{ProgVar}
use Rattle.model_formulas.specs.Formulas.{Named}
use Rattle.model_text.specs.Lexemes.{Lexeme}
use Rattle.model_grammar.specs.Formulas.{SpellsFormula}
use Rattle.model_grammar.specs.Sorts.{Declared, sorted_formula}
use Rattle.dom_terms.specs.Terms.{prog_var_of, logic_var_of}
use Rattle.formula_syntax.specs.declared.variables.AnyVar.{AnyVar}
use Rattle.formula_syntax.specs.declared.variables.AnyVar.TheVariants as v

-- the variable, if it is one of the program
abbrev pub if_prog_var : AnyVar → List ProgVar
if_prog_var (v.Prog variable) = prog_var_of variable ∷ []
if_prog_var (v.Logic variable) = []

-- the variable, if it is one of the logic
abbrev pub if_logic_var : AnyVar → List Var
if_logic_var (v.Prog variable) = []
if_logic_var (v.Logic variable) = logic_var_of variable ∷ []

-- what is declared by the list: its program variables and its logic variables, in order
abbrev pub declared_vars : List AnyVar → Declared
declared_vars vars = record {
  variables = flat_map if_prog_var vars;
  logics = flat_map if_logic_var vars;
}

-- The lexemes spell the formula where this is declared: they spell some raw formula, and the
-- formula is that with its sorts.
pub record SpellsFormulaWith (declared : Declared) (formula : Named) (lexemes : List Lexeme)
    : Type 0 where
  pub raw : Named
  pub spelled : SpellsFormula raw lexemes
  pub sorted : formula ≡ sorted_formula declared raw
