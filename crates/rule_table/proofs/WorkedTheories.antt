-- Worked theories: accepted ones, and first bad places.
use Rattle.std.proofs.Common.{◌≡◌, ℕ, List, [], ◌∷◌, Some, refl, ap, subst, inl, inr, ⊎_elim, codes, pos}
use Rattle.model_shapes.specs.Sorts.{value, shape, DataSort, grove, int_sort}
use Rattle.model_shapes.specs.Values.{int}
use Rattle.model_terms.specs.Variables.{Var, logic, bound}
use Rattle.model_terms.specs.Terms.{Term, literal, variable, sum}
use Rattle.model_formulas.specs.Formulas.{Named, Formula, falsity, equality, existential, empty, grove_sum}
use Rattle.model_formulas.specs.Substitution.{formula_with, replacing}
use Rattle.model_formulas.specs.Nameless.{nameless}
use Rattle.model_terms.specs.Stores.{ProgVar, named, as_var}
use Rattle.model_commands.specs.Commands.{Command, skip, assign, block, stop, ◌then◌, call}
use Rattle.model_commands.specs.Theories.{JudgementOf, entails, triple, auto, by_rule, StepOf, ProcedureOf, Theory, nameless_procedure}
use Rattle.rule_table.specs.Letters.{Letters, Link}
use Rattle.rule_table.specs.Notation.{prog_term}
use Rattle.rule_table.specs.Rules.{chain, block_of}
use Rattle.rule_table.specs.Verdicts.{shape_verdict, premises_verdict}
use Rattle.rule_table.specs.Accepted.{IsAccepted, IsFirstBad, gap, fails, no_proof}
use Rattle.rule_table.proofs.SomeLetters.{plain_letters, left_in, right_in}
use Rattle.rule_table.proofs.WorkedTriples.{command_of}

-- a theory of one procedure
abbrev pub one_procedure : ProcedureOf Named → Theory
one_procedure f = record { version = 1; logic = []; procedures = f ∷ [] }

abbrev procedure : List ℕ → List ProgVar → List ProgVar → Named → Named → Command
    → List (StepOf Named) → ProcedureOf Named
procedure name params results pre post body proof = record {
  name = name;
  params = params;
  results = results;
  sort = grove;
  pre = pre;
  post = post;
  body = body;
  proof = proof;
}

abbrev step : ℕ → List ℕ → List ℕ → JudgementOf Named → StepOf Named
step n rule citations j = record {
  number = n;
  line = 0;
  reason = by_rule rule citations [];
  judgement = j;
}

-- skip
abbrev file_a : Theory
file_a = one_procedure (procedure (codes "main") [] [] (empty grove) (empty grove) skip
    (step 1 (codes "skip") [] (triple (empty grove) skip (empty grove) grove) ∷ []))

pub file_a_accepted : IsAccepted file_a
file_a_accepted = (
  record {
    steps = (
      inl (
        record plain_letters { P = empty grove; k = grove },
        (((refl, tt, refl), refl), tt),
      ),
      tt,
    );
    ends = refl;
  },
  tt,
)

-- a procedure that only calls itself, and so ensures false
abbrev looping : Command
looping = call [] (codes "loop") []

abbrev pub loop_procedure : ProcedureOf Named
loop_procedure = procedure (codes "loop") [] [] (empty grove) falsity looping
    (step 1 (codes "call") [] (triple (empty grove) looping falsity grove) ∷ [])

pub file_loop_accepted : IsAccepted (one_procedure loop_procedure)
file_loop_accepted = (
  record {
    steps = (
      inl (
        record plain_letters { f = nameless_procedure loop_procedure },
        (((refl, (refl, tt), refl), refl), tt),
      ),
      tt,
    );
    ends = refl;
  },
  tt,
)

-- an assignment whose formulas bind other names
abbrev a_int : ProgVar
a_int = named (codes "a") int_sort

abbrev x_int : ProgVar
x_int = named (codes "x") int_sort

abbrev m_int : Var
m_int = logic (codes "$m") (value int_sort)

abbrev n_int : Var
n_int = logic (codes "$n") (value int_sort)

abbrev more : ℕ → Term
more k = sum (prog_term a_int) (literal (int (pos k)))

abbrev some_equals : Var → Term → Named
some_equals v t = existential v (equality t (variable v))

abbrev file_inc : ℕ → Theory
file_inc k = one_procedure (procedure (codes "inc") (a_int ∷ []) (x_int ∷ [])
    (some_equals m_int (more 1)) (some_equals n_int (prog_term x_int)) (assign x_int (more 1))
    (step 1 (codes "assign") [] (triple (some_equals m_int (more k)) (assign x_int (more 1))
    (some_equals n_int (prog_term x_int)) grove) ∷ []))

pub file_inc_accepted : IsAccepted (file_inc 1)
file_inc_accepted = (
  record {
    steps = (
      inl (
        record plain_letters {
          Q = nameless (some_equals n_int (prog_term x_int));
          v =
              x_int;
          E = more 1;
          k = grove;
        },
        (((refl, (refl, tt), refl), refl), tt),
      ),
      tt,
    );
    ends = refl;
  },
  tt,
)

-- FIRST BAD PLACES
-- the assignment with another sum before it
pub file_inc_fails : IsFirstBad (file_inc 2) (record {
  procedure = 1;
  step = 1;
  fault = fails
      shape_verdict;
})
file_inc_fails = inl (
  refl,
  inl (
    refl,
    (
      (λ m. ⊎_elim (λ x. wrong x.0 (ap command_of x.1.2)
          (ap right_in x.1.2) (ap left_in x.1.2)) (λ z. z) m),
      (λ e. cc),
    ),
  ),
)
  where
    wrong : (l : Letters) → assign l.v l.E ≡ assign x_int (more 1) → l.Q
        ≡ nameless (some_equals n_int (prog_term x_int))
        → formula_with (replacing (as_var l.v) l.E) l.Q ≡ nameless (some_equals m_int (more 2)) → ⊥
    wrong l c q p =
        let variable_is : l.v ≡ x_int = cc in
        let term_is : l.E ≡ more 1 = cc in
        let now : formula_with (replacing (as_var x_int) (more 1))
        (nameless (some_equals n_int (prog_term x_int)))
        ≡ nameless (some_equals m_int (more 2)) =
        subst (λ v. formula_with (replacing (as_var v) (more 1))
        (nameless (some_equals n_int (prog_term x_int)))
        ≡ nameless (some_equals m_int (more 2))) variable_is
        (subst (λ t. formula_with (replacing (as_var l.v) t)
        (nameless (some_equals n_int (prog_term x_int)))
        ≡ nameless (some_equals m_int (more 2))) term_is
        (subst (λ r. formula_with (replacing (as_var l.v) l.E) r
        ≡ nameless (some_equals m_int (more 2))) q p)) in
        apart now
      where
        apart : existential (value int_sort) (equality (more 1)
            (variable (bound 0 (value int_sort)))) ≡ nameless (some_equals m_int (more 2)) → ⊥
        apart e = cc

-- two commands, and between them another formula than the one cited
abbrev two_skips : Command
two_skips = block (skip then skip then stop)

abbrev file_two : Theory
file_two = one_procedure (procedure (codes "two") (a_int ∷ []) []
    (some_equals m_int (prog_term a_int)) (some_equals n_int (prog_term a_int)) two_skips
    (step 1 (codes "skip") [] (triple (some_equals m_int (prog_term a_int)) skip
    (some_equals m_int (prog_term a_int)) grove) ∷
    step 2 (codes "skip") [] (triple (empty grove) skip (empty grove) grove) ∷
    step 3 (codes "seq") (1 ∷ 2 ∷ []) (triple (some_equals m_int (prog_term a_int)) two_skips
    (some_equals n_int (prog_term a_int)) grove) ∷ []))

abbrev equals_a : Formula
equals_a = nameless (some_equals m_int (prog_term a_int))

pub file_two_fails : IsFirstBad file_two (record {
  procedure = 1;
  step = 3;
  fault = fails
      premises_verdict;
})
file_two_fails = inl (
  refl,
  inr (
    inl (record plain_letters { P = equals_a; k = grove }, (((refl, tt, refl), refl), tt)),
    inr (
      inl (
        record plain_letters { P = empty grove; k = grove },
        (((refl, tt, refl), refl), tt),
      ),
      inl (
        refl,
        (
          (
            inl (
              record plain_letters {
                P = equals_a;
                C = skip;
                Q = equals_a;
                links = record { command = skip; behind = equals_a } ∷ [];
                k = grove;
              },
              (refl, tt, refl),
            ),
            λ m. ⊎_elim (λ x. wrong x.0.P x.0.Q x.0.C x.0.k x.0.links (ap command_of x.1.0.2) x.1.1)
                (λ z. z) m,
          ),
          (λ e. cc),
        ),
      ),
    ),
  ),
)
  where
    wrong : (p q : Formula) (c : Command) (k : DataSort) (links : List Link)
        → block (c then block_of links) ≡ two_skips
        → Some (triple p c q k ∷ chain q links k)
        ≡ Some (triple equals_a skip equals_a grove ∷ triple (empty grove) skip (empty grove) grove
        ∷ []) → ⊥
    wrong p q c k [] b e = cc
    wrong p q c k (y ∷ []) b e =
        let one : q ≡ equals_a = cc in
        let other : q ≡ empty grove = cc in
        cc
    wrong p q c k (y ∷ z ∷ links) b e = cc

-- a gap
abbrev file_same : Theory
file_same = one_procedure (procedure (codes "same") [] [] (empty grove)
    (grove_sum (empty grove) (empty grove)) skip
    (step 1 (codes "skip") [] (triple (empty grove) skip (empty grove) grove) ∷
    record {
      number = 2;
      line = 0;
      reason = auto;
      judgement = entails (empty grove)
          (grove_sum (empty grove) (empty grove)) (shape grove);
    } ∷ []))

pub file_same_has_a_gap : IsFirstBad file_same (record { procedure = 1; step = 2; fault = gap })
file_same_has_a_gap = inl (
  refl,
  inr (
    inl (record plain_letters { P = empty grove; k = grove }, (((refl, tt, refl), refl), tt)),
    inl (refl, refl),
  ),
)

-- a procedure without a proof
abbrev file_unproved : Theory
file_unproved = one_procedure (procedure (codes "app") [] [] (empty grove) (empty grove) skip [])

pub file_unproved_has_no_proof : IsFirstBad file_unproved (record
    { procedure = 1; step = 1; fault = no_proof })
file_unproved_has_no_proof = inl (refl, (refl, refl, λ e. cc))
