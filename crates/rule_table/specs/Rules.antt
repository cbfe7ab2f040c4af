-- The rules for triples, after PODS 2008 and Hoare's logic.
use Rattle.std.specs.Prelude.{◌≡◌, List, [], ◌∷◌, map, codes}
use Rattle.model_shapes.specs.Sorts.{shape, DataSort}
use Rattle.model_terms.specs.Variables.{Var}
use Rattle.model_terms.specs.VariableTests.{var_eq}
use Rattle.model_terms.specs.Terms.{Term, literal, variable, Substitution}
use Rattle.model_terms.specs.Stores.{ProgVar, as_var, sort_of, default}
use Rattle.model_formulas.specs.Formulas.{Formula, falsity, negation, application}
use Rattle.model_formulas.specs.Substitution.{formula_with, replacing}
use Rattle.model_commands.specs.ConditionFormulas.{formula_of as condition_formula}
use Rattle.model_commands.specs.Commands.{skip, block, assign, if_else, while_do, local, call, Block, stop, ◌then◌}
use Rattle.model_commands.specs.Theories.{Judgement, Procedures}
use Rattle.rule_table.specs.Letters.{Letters, Link, as_term}
use Rattle.rule_table.specs.Notation.{◌⊢◌, ◌at◌, hoare, ◌and◌, ◌or◌, ◌equals◌, for_some, instead, prog_term}
use Rattle.rule_table.specs.Conditions.{not_in, unchanged, unchanged_term, computes, of_sort, means}
use Rattle.rule_table.specs.Lines.{Line, always, ◌⟹◌, ◌provided◌, ◌given◌, ◌with_arguments◌}
use Rattle.rule_table.specs.Entries.{Entry, ◌is◌}

-- BLOCKS: the triples of the commands, each from the formula behind the one before
abbrev pub chain : Formula → List Link → DataSort → List Judgement
chain p [] k = []
chain p (link ∷ links) k = hoare p link.command link.behind k ∷ chain link.behind links k

-- the commands, as a block
abbrev pub block_of : List Link → Block
block_of [] = stop
block_of (link ∷ links) = link.command then block_of links

-- the formula behind the last
abbrev pub last_of : Formula → List Link → Formula
last_of p [] = p
last_of p (link ∷ links) = last_of link.behind links

-- CALLS: where the decision says that the variable is the one passed, the term, and else the other
abbrev pub passed_at : {x y : Var} → Term → Term → Dec (y ≡ x) → Term
passed_at t u (yes e) = t
passed_at t u (no n) = u

-- All at once: each of the variables becomes the term at its place, and any other variable what
-- the substitution makes of it.
abbrev pub passing : List ProgVar → List Term → Substitution → Substitution
passing (x ∷ xs) (t ∷ ts) f y = passed_at t (passing xs ts f y) (var_eq y (as_var x))
passing xs ts f y = f y

-- every variable for itself
abbrev pub itself : Substitution
itself y = variable y

module _ (letters : Letters) where
  open letters use {P, Q, A, B, K, E, x, v, C, c, b, b', links, f, rs, es, h, k}

  -- {P} skip {P}
  abbrev pub skip_rule : Line
  skip_rule = always (hoare P skip P k)

  -- {Q with E for x} x := E {Q}
  abbrev pub assign_rule : Line
  assign_rule = always (hoare (formula_with (replacing (as_var v) E) Q) (assign v E) Q k)
      given computes (sort_of v) E

  -- {P} C {Q}, and then of each further command a triple from the formula behind the one before
  -- it ==> {P} { C ; .. } {the formula behind the last}
  abbrev pub seq_rule : Line
  seq_rule = hoare P C Q k ∷ chain Q links k
      ⟹ hoare P (block (C then block_of links)) (last_of Q links) k

  -- {(P and B^)} BL1 {Q}, {(P and (not B^))} BL2 {Q} ==> {P} if B BL1 else BL2 {Q}
  abbrev pub if_rule : Line
  if_rule =
      hoare (P and condition_formula c) (block b) Q k ∷
      hoare (P and negation (condition_formula c)) (block b') Q k ∷ []
      ⟹ hoare P (if_else c b b') Q k

  -- {(P and B^)} BL {P} ==> {P} while B BL {(P and (not B^))}
  abbrev pub while_rule : Line
  while_rule = hoare (P and condition_formula c) (block b) P k ∷ []
      ⟹ hoare P (while_do c b) (P and negation (condition_formula c)) k

  -- {(P and x = d)} BL {Q} ==> {P} local x : s BL {Q}, d the default literal of s;
  -- free: x not in P or Q
  abbrev pub local_rule : Line
  local_rule = hoare (P and (prog_term v equals literal (default (sort_of v)))) (block b) Q k ∷ []
      ⟹ hoare P (local v b) Q k
      provided not_in v P
      provided not_in v Q

  -- {requires of f with the arguments for the parameters} call (r..) := f(E..) {ensures of f with
  -- the arguments for the parameters and r.. for the results}, at the sort of f, which is the
  -- procedure that the call means
  abbrev pub call_rule : Procedures → Line
  call_rule procedures = always (hoare
      (formula_with (passing f.params es itself) f.pre)
      (call rs f.name es)
      (formula_with (passing f.params es (passing f.results (map prog_term rs) itself)) f.post)
      f.sort)
      given means procedures f

  -- {P} C {Q} at h ==> {(K @h P)} C {(K @h Q)} at k;
  -- modified: C changes no program variable of K
  abbrev pub frame_rule : Line
  frame_rule = hoare P C Q h ∷ [] ⟹ hoare (application h K P) C (application h K Q) k
      provided unchanged C K

  -- P entails A, {A} C {B}, B entails Q ==> {P} C {Q}
  abbrev pub consequence_rule : Line
  consequence_rule =
      (P ⊢ A at shape k) ∷ hoare A C B k ∷ (B ⊢ Q at shape k) ∷ [] ⟹ hoare P C Q k

  -- {P} C {Q} ==> {(exists $x . P)} C {(exists $x . Q)}
  abbrev pub eliminate_rule : Line
  eliminate_rule = hoare P C Q k ∷ [] ⟹ hoare (for_some x P) C (for_some x Q) k

  -- {P} C {Q}, {A} C {Q} ==> {(P or A)} C {Q}
  abbrev pub disjunction_rule : Line
  disjunction_rule = hoare P C Q k ∷ hoare A C Q k ∷ [] ⟹ hoare (P or A) C Q k

  -- {false} C {Q}
  abbrev pub absurd_rule : Line
  absurd_rule = always (hoare falsity C Q k)

  -- with ($x, E): {P} C {Q} ==> {P with E for $x} C {Q with E for $x};
  -- modified: C changes no program variable of E
  abbrev pub instance_rule : Line
  instance_rule = hoare P C Q k ∷ [] ⟹ hoare (instead E x P) C (instead E x Q) k
      with_arguments (as_term x ∷ E ∷ [])
      given of_sort x.sort (as_term x)
      given of_sort x.sort E
      provided unchanged_term C E

-- THE RULES of a theory with these procedures
abbrev pub rules : Procedures → List Entry
rules procedures =
    (codes "skip" is skip_rule ∷ []) ∷
    (codes "assign" is assign_rule ∷ []) ∷
    (codes "seq" is seq_rule ∷ []) ∷
    (codes "if" is if_rule ∷ []) ∷
    (codes "while" is while_rule ∷ []) ∷
    (codes "local" is local_rule ∷ []) ∷
    (codes "call" is (λ letters. call_rule letters procedures) ∷ []) ∷
    (codes "frame" is frame_rule ∷ []) ∷
    (codes "consequence" is consequence_rule ∷ []) ∷
    (codes "eliminate" is eliminate_rule ∷ []) ∷
    (codes "disjunction" is disjunction_rule ∷ []) ∷
    (codes "absurd" is absurd_rule ∷ []) ∷
    (codes "instance" is instance_rule ∷ []) ∷ []
