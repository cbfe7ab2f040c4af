-- Needn't be believed: the promises speak of the table of rules. What a choice of the letters makes
-- of the pattern of an axiom's line, and that this is the table's line.
use Rattle.std.specs.Prelude.{◌≡◌, true, List, [], ◌∷◌, Option, Some, None}
use Rattle.model_terms.specs.Terms.{Term}
use Rattle.model_terms.specs.Stores.{ProgVar}
use Rattle.model_formulas.specs.Formulas.{Formula}
use Rattle.model_commands.specs.Commands.{Command, create_node, node_name, child_nodes, parent_node, list_item}
use Rattle.model_commands.specs.Theories.{Judgement, triple}
use Rattle.rule_table.specs.Conditions.{Condition, assigned, assigned_term}
use Rattle.rule_table.specs.Entries.{Row}
use Rattle.rule_table.specs.Letters.{Letters}
use Rattle.rule_table.specs.Lines.{Line, always}
use Rattle.rule_table.specs.Notation.{prog_term, hoare}
use Rattle.rule_patterns.specs.Patterns.{LinePattern, entails_p, data_sort, formula_of, data_of}
use Rattle.letter_bindings.proofs.RowTests.{row_ready}
use Rattle.small_axioms.specs.declared.rows.Kind.{Kind}
use Rattle.small_axioms.specs.declared.rows.Kind.TheVariants as k
use Rattle.small_axioms.specs.Commands.{command_at, letters_of}
use Rattle.small_axioms.specs.Parts.{held, name_in, new_root}
use Rattle.small_axioms.specs.Patterns.{AxiomPattern}

-- THE CONDITIONS of a line: what is asked of the variable that the command sets
abbrev pub not_in_name : ProgVar → Option Term → List Condition
not_in_name x None = []
not_in_name x (Some t) = assigned_term x t ∷ []

abbrev pub asked_of : Command → Formula → Formula → List Condition
asked_of (create_node x e) p q = not_in_name x (name_in p)
asked_of (node_name x e) p q = assigned x (held q) ∷ []
asked_of (child_nodes x e) p q = assigned x (held q) ∷ []
asked_of (parent_node x e) p q = assigned x (held q) ∷ []
asked_of (list_item x e f) p q = assigned x (held q) ∷ []
asked_of c p q = []

abbrev pub asked : Judgement → List Condition
asked (triple p c q d) = asked_of c p q
asked j = []

-- THE LINE with the conclusion
abbrev pub line_for : Judgement → Line
line_for j = record (always j) { conditions = asked j }

-- what a choice makes of the pattern, with this variable
abbrev pub conclusion_at : AxiomPattern → ProgVar → Letters → Judgement
conclusion_at a x l =
    hoare (formula_of l a.pre) (command_at a.kind x l) (formula_of l a.post) (data_of l a.sort)

-- The letters that stand in the pattern for more than themselves: N is the variable, where the
-- command sets one, and Q is the formula after the command, where it creates a node.
abbrev pub own : Kind → ProgVar → Letters → Letters
own k.Create x l = record l { N = prog_term x; Q = new_root l.T (prog_term x) }
own k.Name x l = record l { N = prog_term x }
own k.Children x l = record l { N = prog_term x }
own k.Parent x l = record l { N = prog_term x }
own k.Item x l = record l { N = prog_term x }
own kind x l = l

-- the pattern as that of an entailment whose arguments are the terms of the command
abbrev pub as_entailment : AxiomPattern → LinePattern
as_entailment a = record {
  arguments = letters_of a.kind;
  requirements = [];
  premises = [];
  conclusion = entails_p a.pre a.post (data_sort a.sort);
  conditions = [];
}

-- of a line whose command creates a node: T and Q stand where they are read
abbrev pub ReadsNew : Kind → AxiomPattern → Type 0
ReadsNew k.Create a = (l : Letters)
    → (name_in (formula_of l a.pre) ≡ Some l.T) × (formula_of l a.post ≡ l.Q)
ReadsNew kind a = Unit {0}

-- THE PATTERN IS THE ROW of the table, and a walk can be over it
pub record IsTied (row : Row) (a : AxiomPattern) : Type 0 where
  pub again : (l : Letters) (x : ProgVar)
      → row (record l { v = x }) ≡ line_for (conclusion_at a x (own a.kind x l))
  pub ready : row_ready (as_entailment a) ≡ true
  pub reads_new : ReadsNew a.kind a

abbrev pub AllTied : List Row → List AxiomPattern → Type 0
AllTied [] [] = Unit {0}
AllTied (row ∷ rows) (a ∷ ps) = IsTied row a × AllTied rows ps
AllTied rows ps = ⊥
