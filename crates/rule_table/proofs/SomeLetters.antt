-- What proofs about verdicts begin with: a choice of the letters, the parts of an entailment, and
-- the rows of a rule of entailment.
use Rattle.std.proofs.Common.{Bool, true, false, pos, List, [], Some, None, codes}
use Rattle.model_shapes.specs.Values.{Name, null}
use Rattle.model_shapes.specs.Sorts.{Sort, value, shape, tree, grove, node_sort}
use Rattle.model_terms.specs.Terms.{Term, literal}
use Rattle.model_formulas.specs.Formulas.{Formula, truth}
use Rattle.model_terms.specs.Stores.{named}
use Rattle.model_commands.specs.Commands.{skip, stop}
use Rattle.model_terms.specs.Conditions.{cond_true}
use Rattle.model_commands.specs.Theories.{Judgement, entails, triple}
use Rattle.rule_table.specs.Linear.{order}
use Rattle.rule_table.specs.Letters.{Letters}
use Rattle.rule_table.specs.Entries.{Row}
use Rattle.rule_table.specs.Table.{entailments}
use Rattle.rule_table.specs.Verdicts.{Written, readings_in}

-- true for each formula, null for each term
abbrev pub plain_letters : Letters
plain_letters = record {
  P = truth;
  Q = truth;
  R = truth;
  A = truth;
  B = truth;
  K = truth;
  H = truth;
  E = literal null;
  F = literal null;
  S = literal null;
  I = literal null;
  L = literal null;
  T = literal null;
  J = literal null;
  M = literal null;
  G = literal null;
  V = literal null;
  Y = literal null;
  N = literal null;
  x = record { name = codes "x"; sort = value node_sort };
  v = named [] node_sort;
  W = order (pos 0) (literal null) (literal null);
  C = skip;
  c = cond_true;
  b = stop;
  b' = stop;
  links = [];
  f = record {
    name = [];
    params = [];
    results = [];
    sort = tree;
    pre = truth;
    post = truth;
    body =
        skip;
    proof = [];
  };
  rs = [];
  es = [];
  s = shape grove;
  o = None;
  h = tree;
  k = grove;
  j = tree;
}

-- the left formula, the right one, and the sort
abbrev pub left_in : Judgement → Formula
left_in (entails p q s) = p
left_in (triple p c q d) = p

abbrev pub right_in : Judgement → Formula
right_in (entails p q s) = q
right_in (triple p c q d) = q

abbrev pub sort_in : Judgement → Sort
sort_in (entails p q s) = s
sort_in (triple p c q d) = shape d

-- a triple is no entailment
abbrev pub is_entailment : Judgement → Bool
is_entailment (entails p q s) = true
is_entailment (triple p c q d) = false

-- the rows of the rule of entailment of that name
abbrev pub readings_of : Name → List Row
readings_of = readings_in entailments

-- both
abbrev pub ◌&◌ : {A B : Type 0} → A → B → A × B
a & b = (a, b)

infixr 10 ◌&◌
-- a step with these arguments, these premises and this conclusion
abbrev pub a_step : List Term → List Judgement → Judgement → Written
a_step arguments premises conclusion =
    record { arguments = arguments; premises = Some premises; conclusion = conclusion }
