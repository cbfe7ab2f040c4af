-- Needn't be believed: the program's promise doesn't speak of it. What has a spelling, of what can
-- be written: no text is too long, no list has too many items, and no term, condition, formula or
-- command stands inside more than 200 others.
use Rattle.model_limits.specs.Limits.{standard_limits}
use Rattle.std.specs.Prelude.{◌≡◌, ℕ, zero, suc, []}
use Rattle.model_shapes.specs.Values.{str}
use Rattle.model_terms.specs.Variables.{Var, prog, logic, bound, var_sort}
use Rattle.model_terms.specs.Terms.{Term, literal, variable, sum, difference, appended}
use Rattle.model_terms.specs.Stores.{ProgVar, as_var}
use Rattle.model_terms.specs.Conditions.{Cond, cond_true, cond_false, cond_variable, cond_equal, cond_at_most, cond_not, cond_and, cond_or}
use Rattle.model_formulas.specs.Formulas.{Named, truth, falsity, conjunction, disjunction, implication, negation, existential, universal, equality, at_most, empty, bare_hole, node_formula, one_tree, one_root, concatenation, grove_sum, grove_sum_hole, application, hole_adjoint, context_adjoint, same_as, length_is, value_meets}
use Rattle.model_commands.specs.Commands.{Command, skip, block, assign, create_node, node_name, child_nodes, parent_node, list_item, append_child, remove_child, insert_before, if_else, while_do, local, call, Block, stop, ◌then◌}
use Rattle.model_commands.specs.Theories.{JudgementOf, entails, triple, Reason, auto, by_rule, StepOf, ProcedureOf, Theory}
use Rattle.model_certificates.specs.Numbers.{IsNumber, IsText, IsNameText, IsList}
use Rattle.model_certificates.specs.Commands.{count}

abbrev pub VarFits : Var → Type 0
VarFits (prog name s) = IsNameText name
VarFits (logic name s) = IsNameText name
VarFits (bound i s) = ⊥

abbrev pub ProgVarFits : ProgVar → Type 0
ProgVarFits x = VarFits (as_var x)

-- so many levels, the term's own included
abbrev pub TermFits : ℕ → Term → Type 0
TermFits zero a = ⊥
TermFits (suc n) (literal (str text)) = IsText standard_limits.text_bytes text
TermFits (suc n) (literal v) = Unit
TermFits (suc n) (variable x) = VarFits x
TermFits (suc n) (sum a b) = TermFits n a × TermFits n b
TermFits (suc n) (difference a b) = TermFits n a × TermFits n b
TermFits (suc n) (appended a b) = TermFits n a × TermFits n b

abbrev pub CondFits : ℕ → Cond → Type 0
CondFits zero c = ⊥
CondFits (suc n) cond_true = Unit
CondFits (suc n) cond_false = Unit
CondFits (suc n) (cond_variable x) = ProgVarFits x
CondFits (suc n) (cond_equal a b) = TermFits n a × TermFits n b
CondFits (suc n) (cond_at_most a b) = TermFits n a × TermFits n b
CondFits (suc n) (cond_not c) = CondFits n c
CondFits (suc n) (cond_and c d) = CondFits n c × CondFits n d
CondFits (suc n) (cond_or c d) = CondFits n c × CondFits n d

-- the variable that a formula is
abbrev pub SubjectFits : Term → Type 0
SubjectFits (variable x) = VarFits x
SubjectFits a = ⊥

-- the same where a formula speaks of its value: the sort is the variable's
abbrev pub HasSubject : Term → (Var → Type 0) → Type 0
HasSubject (variable x) Asked = Asked x
HasSubject a Asked = ⊥

abbrev pub FormulaFits : ℕ → Named → Type 0
FormulaFits zero p = ⊥
FormulaFits (suc n) truth = Unit
FormulaFits (suc n) falsity = Unit
FormulaFits (suc n) (conjunction p q) = FormulaFits n p × FormulaFits n q
FormulaFits (suc n) (disjunction p q) = FormulaFits n p × FormulaFits n q
FormulaFits (suc n) (implication p q) = FormulaFits n p × FormulaFits n q
FormulaFits (suc n) (negation p) = FormulaFits n p
FormulaFits (suc n) (existential x p) = VarFits x × FormulaFits n p
FormulaFits (suc n) (universal x p) = VarFits x × FormulaFits n p
FormulaFits (suc n) (equality a b) = TermFits n a × TermFits n b
FormulaFits (suc n) (at_most a b) = TermFits n a × TermFits n b
FormulaFits (suc n) (empty k) = Unit
FormulaFits (suc n) (bare_hole k) = Unit
FormulaFits (suc n) (node_formula a b p c) =
    TermFits n a × TermFits n b × FormulaFits n p × TermFits n c
FormulaFits (suc n) (one_tree p) = FormulaFits n p
FormulaFits (suc n) (one_root p) = FormulaFits n p
FormulaFits (suc n) (concatenation side p q) = FormulaFits n p × FormulaFits n q
FormulaFits (suc n) (grove_sum p q) = FormulaFits n p × FormulaFits n q
FormulaFits (suc n) (grove_sum_hole p q) = FormulaFits n p × FormulaFits n q
FormulaFits (suc n) (application k p q) = FormulaFits n p × FormulaFits n q
FormulaFits (suc n) (hole_adjoint p q) = FormulaFits n p × FormulaFits n q
FormulaFits (suc n) (context_adjoint k p q) = FormulaFits n p × FormulaFits n q
FormulaFits (suc n) (same_as a) = SubjectFits a
FormulaFits (suc n) (length_is a) = TermFits n a
FormulaFits (suc n) (value_meets s a p) =
    HasSubject a (λ x. VarFits x × (var_sort x ≡ s)) × FormulaFits n p

abbrev mutual
  pub CommandFits : ℕ → Command → Type 0
  CommandFits zero c = ⊥
  CommandFits (suc n) skip = Unit
  CommandFits (suc n) (block b) = IsNumber (count b) × CommandsFit n b
  CommandFits (suc n) (assign x a) = ProgVarFits x × TermFits n a
  CommandFits (suc n) (create_node x a) = ProgVarFits x × TermFits n a
  CommandFits (suc n) (node_name x a) = ProgVarFits x × TermFits n a
  CommandFits (suc n) (parent_node x a) = ProgVarFits x × TermFits n a
  CommandFits (suc n) (child_nodes x a) = ProgVarFits x × TermFits n a
  CommandFits (suc n) (list_item x a b) = ProgVarFits x × TermFits n a × TermFits n b
  CommandFits (suc n) (append_child a b) = TermFits n a × TermFits n b
  CommandFits (suc n) (remove_child a b) = TermFits n a × TermFits n b
  CommandFits (suc n) (insert_before a b c) = TermFits n a × TermFits n b × TermFits n c
  CommandFits (suc n) (if_else c a b) =
      CondFits n c × (IsNumber (count a) × CommandsFit n a) × (IsNumber (count b) × CommandsFit n b)
  CommandFits (suc n) (while_do c b) = CondFits n c × (IsNumber (count b) × CommandsFit n b)
  CommandFits (suc n) (local x b) = ProgVarFits x × (IsNumber (count b) × CommandsFit n b)
  CommandFits (suc n) (call results name arguments) =
      IsList ProgVarFits results × IsNameText name × IsList (TermFits n) arguments

  -- each command of a block
  pub CommandsFit : ℕ → Block → Type 0
  CommandsFit n stop = Unit
  CommandsFit n (c then b) = CommandFits n c × CommandsFit n b

-- what stands in nothing: its own level, and 200 below it
abbrev pub levels : ℕ
levels = 201

abbrev pub ReasonFits : Reason → Type 0
ReasonFits auto = Unit
ReasonFits (by_rule name premises arguments) =
    IsNameText name × IsList IsNumber premises × IsList (TermFits levels) arguments

abbrev pub JudgementFits : JudgementOf Named → Type 0
JudgementFits (entails p q s) = FormulaFits levels p × FormulaFits levels q
JudgementFits (triple p c q k) =
    FormulaFits levels p × CommandFits levels c × FormulaFits levels q

pub record StepFits (step : StepOf Named) : Type 0 where
  pub number : IsNumber step.number
  pub line : IsNumber step.line
  pub reason : ReasonFits step.reason
  pub judgement : JudgementFits step.judgement

-- of a head, so without a proof
pub record ProcedureFits (procedure : ProcedureOf Named) : Type 0 where
  pub name : IsNameText procedure.name
  pub params : IsList ProgVarFits procedure.params
  pub results : IsList ProgVarFits procedure.results
  pub pre : FormulaFits levels procedure.pre
  pub post : FormulaFits levels procedure.post
  pub body : CommandFits levels procedure.body
  pub proof : procedure.proof ≡ []

-- a theory without its proofs
pub record HeadFits (theory : Theory) : Type 0 where
  pub version : IsNumber theory.version
  pub logic : IsList VarFits theory.logic
  pub procedures : IsList ProcedureFits theory.procedures
