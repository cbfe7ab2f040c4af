-- The generated theory is accepted: each of the eight steps of a procedure is an instance of its
-- rule, whatever the procedure's number is and whatever procedures the theory has.
use Rattle.std.proofs.Common.{ℕ, zero, suc, ◌+◌, refl, inl, inr, codes, map}
use Rattle.model_shapes.specs.Sorts.{value, grove, forest, node_sort, list_sort}
use Rattle.model_shapes.specs.Values.{null}
use Rattle.model_terms.specs.Variables.{bound}
use Rattle.model_terms.specs.Terms.{literal, variable}
use Rattle.model_terms.specs.Stores.{as_var}
use Rattle.model_formulas.specs.Formulas.{Formula, existential, equality, empty, node_formula, one_root}
use Rattle.model_formulas.specs.Nameless.{nameless}
use Rattle.model_formulas.specs.Substitution.{FreeIn}
use Rattle.model_commands.specs.Commands.{stop, ◌then◌}
use Rattle.model_commands.specs.Theories.{Procedures, nameless_procedure}
use Rattle.model_generator.specs.Generated.{generated_theory, makers, maker, tag, creation, beginning, new_root, nothing_yet, same_tag, some_root, x, x_term, some_node}
use Rattle.rule_table.specs.Letters.{Letters, LogicVar}
use Rattle.rule_table.specs.Accepted.{IsAccepted, IsProved, Each}
use Rattle.rule_table.proofs.SomeLetters.{◌&◌, plain_letters}

-- the formula where the body begins, without the names of bound variables
abbrev start : Formula
start = nameless beginning

-- the variable of the node's number
abbrev $n : LogicVar
$n = record { name = codes "$n"; sort = value node_sort }

module _ (k : ℕ) where
  -- (exists $m . ["tK"#$n[0f]%$m]), where $n is free
  abbrev open_root : Formula
  open_root = existential (value list_sort) (one_root (node_formula (tag k) (variable some_node)
      (empty forest) (variable (bound 0 (value list_sort)))))

  -- the choices for the eight steps
  abbrev create_letters : Letters
  create_letters = record plain_letters { E = tag k; T = tag k; v = x }

  abbrev left_letters : Letters
  left_letters = record plain_letters { P = empty grove; Q = equality x_term (literal null) }

  abbrev same_letters : Letters
  same_letters = record plain_letters { P = start; E = tag k }

  abbrev both_letters : Letters
  both_letters =
      record plain_letters { P = start; Q = empty grove; R = nameless (same_tag k) }

  abbrev number_letters : Letters
  number_letters = record plain_letters { P = open_root; E = x_term; x = $n }

  abbrev consequence_letters : Letters
  consequence_letters = record plain_letters {
    P = start;
    Q = nameless (some_root k);
    A = nameless (nothing_yet k);
    B = nameless (new_root k x_term);
    C = creation k;
  }

  abbrev block_letters : Letters
  block_letters =
      record plain_letters { P = start; Q = nameless (some_root k); C = creation k }

  abbrev local_letters : Letters
  local_letters = record plain_letters {
    P = empty grove;
    Q = nameless (some_root k);
    v = x;
    b = creation k then stop;
  }

  -- the local variable isn't free in what is promised
  hidden : FreeIn (as_var x) (nameless (some_root k)) → ⊥
  hidden (inl e) = e
  hidden (inr (inl e)) = cc
  hidden (inr (inr (inl e))) = e
  hidden (inr (inr (inr e))) = cc

  -- the procedure is proved among any
  maker_proved : (procedures : Procedures) → IsProved procedures (nameless_procedure (maker k))
  maker_proved procedures = record {
    steps =
        inl (create_letters, (((refl, tt, refl), refl), ((λ e. e), tt)))
        & inl (left_letters, (((refl, tt, refl), refl), tt))
        & inl (same_letters, (((refl, tt, refl), refl), tt))
        & inl (both_letters, (((refl, tt, refl), refl), tt))
        & inl (number_letters, (((refl, (refl, tt), refl), refl), tt))
        & inl (consequence_letters, (((refl, tt, refl), refl), tt))
        & inl (block_letters, (((refl, tt, refl), refl), tt))
        & inl (local_letters, (((refl, tt, refl), refl), ((λ e. e), (hidden, tt))))
        & tt;
    ends = refl;
  }

-- so are so many of them
makers_proved : (procedures : Procedures) (first n : ℕ)
    → Each (IsProved procedures) (map nameless_procedure (makers first n))
makers_proved procedures first zero = tt
makers_proved procedures first (suc n) =
    (maker_proved first procedures, makers_proved procedures (first + 1) n)

pub generated-accepted : (n : ℕ) → IsAccepted (generated_theory n)
generated-accepted n = makers_proved (map nameless_procedure (makers 1 n)) 1 n
