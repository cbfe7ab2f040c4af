-- Judgements, steps of proofs, procedures and theories, as a file spells them: the language's own.
-- With the names of bound variables they are as written; without, as the meaning takes them.
use Rattle.std.specs.Prelude.{ℕ, List, Option, bytes_eq, map}
use Rattle.std.specs.List.{find}
use Rattle.model_shapes.specs.Values.{Name}
use Rattle.model_shapes.specs.Sorts.{DataSort, Sort}
use Rattle.model_terms.specs.Variables.{Var}
use Rattle.model_terms.specs.Terms.{Term}
use Rattle.model_formulas.specs.Formulas.{Named, Formula}
use Rattle.model_formulas.specs.Nameless.{nameless}
use Rattle.model_terms.specs.Stores.{ProgVar}
use Rattle.model_commands.specs.Commands.{Command}

-- `F` is the type of formulas: those with names, or the nameless ones.
-- P entails Q at a sort; or a triple at a data sort
pub data JudgementOf (F : Type 0) : Type 0 where
  entails : F → F → Sort → JudgementOf F
  triple : F → Command → F → DataSort → JudgementOf F

-- why a step holds: a gap to be filled, or a rule with its premises, the numbers of the steps that
-- it cites, and its arguments
pub data Reason : Type 0 where
  auto : Reason
  by_rule : Name → List ℕ → List Term → Reason

-- a step of a proof: its number, the line on which it begins, its reason and its judgement
pub record StepOf (F : Type 0) : Type 0 where
  pub number : ℕ
  pub line : ℕ
  pub reason : Reason
  pub judgement : JudgementOf F

-- a procedure: its requires and ensures, its body, and the proof of the triple of these
pub record ProcedureOf (F : Type 0) : Type 0 where
  pub name : Name
  pub params : List ProgVar
  pub results : List ProgVar
  pub sort : DataSort
  pub pre : F
  pub post : F
  pub body : Command
  pub proof : List (StepOf F)

-- a theory: the version of the language, the logic variables declared, and the procedures
pub record TheoryOf (F : Type 0) : Type 0 where
  pub version : ℕ
  pub logic : List Var
  pub procedures : List (ProcedureOf F)

-- the procedure's own triple: its requires, its body, its ensures and its sort
abbrev pub own_triple : {F : Type 0} → ProcedureOf F → JudgementOf F
own_triple f = triple f.pre f.body f.post f.sort

-- without the names of bound variables
abbrev pub Judgement : Type 0
Judgement = JudgementOf Formula

-- a step without them
abbrev pub Step : Type 0
Step = StepOf Formula

-- a procedure without them
abbrev pub Procedure : Type 0
Procedure = ProcedureOf Formula

-- what calls may enter
abbrev pub Procedures : Type 0
Procedures = List Procedure

-- a theory as it is written
abbrev pub Theory : Type 0
Theory = TheoryOf Named

-- a judgement, a step and a procedure as they are written, without them
abbrev pub nameless_judgement : JudgementOf Named → Judgement
nameless_judgement (entails p q s) = entails (nameless p) (nameless q) s
nameless_judgement (triple p c q d) = triple (nameless p) c (nameless q) d

-- of a step
abbrev pub nameless_step : StepOf Named → Step
nameless_step step = record {
  number = step.number;
  line = step.line;
  reason = step.reason;
  judgement = nameless_judgement step.judgement;
}

-- of a procedure
abbrev pub nameless_procedure : ProcedureOf Named → Procedure
nameless_procedure procedure = record {
  name = procedure.name;
  params = procedure.params;
  results = procedure.results;
  sort = procedure.sort;
  pre = nameless procedure.pre;
  post = nameless procedure.post;
  body = procedure.body;
  proof = map nameless_step procedure.proof;
}

-- the procedures of a theory, without the names of bound variables
abbrev pub procedures_of : Theory → Procedures
procedures_of theory = map nameless_procedure theory.procedures

-- the first procedure of the name
abbrev pub procedure_named : {F : Type 0} → Name → List (ProcedureOf F) → Option (ProcedureOf F)
procedure_named name = find (λ f. bytes_eq name f.name)
