-- Terms and conditions are read exactly.
use Rattle.model_limits.specs.Limits.{standard_limits}
use Rattle.std.proofs.Common.{◌≡◌, ◌≤◌, ℕ, zero, suc, ℤ, pos, negsuc, Bool, true, false, ◌&&◌, List, ◌∷◌, ◌++◌, Some, refl, sym, ◌∙◌, arith}
use Rattle.model_shapes.specs.Sorts.{ValueSort}
use Rattle.model_shapes.specs.Values.{null, nolist, node_number, list_number, int, str, boolean}
use Rattle.model_terms.specs.Variables.{Var, prog, logic, bound}
use Rattle.model_terms.specs.Terms.{Term, literal, variable, sum, difference, appended}
use Rattle.model_terms.specs.Stores.{ProgVar, named}
use Rattle.model_terms.specs.Conditions.{Cond, cond_true, cond_false, cond_variable, cond_equal, cond_at_most, cond_not, cond_and, cond_or}
use Rattle.model_grammar.specs.Terms.{Place, in_formula, in_command}
use Rattle.model_grammar.specs.Words.{the}
use Rattle.model_grammar.specs.Writing.{name_lexemes, term_lexemes, cond_lexemes}
use Rattle.model_grammar.specs.Writable.{IsWritableName, IsWritableTerm, IsWritableCondition}
use Rattle.model_certificates.specs.Terms.{var_bytes, prog_var_bytes, term_bytes, cond_bytes}
use Rattle.model_certificates.specs.Bounds.{VarFits, ProgVarFits, TermFits, CondFits}
use Rattle.model_certificates.specs.Reading.{both, logic_var_at, logic_at, as_term, term_at, cond_at}
use Rattle.model_certificates.proofs.Words.{are_of, before_sign, between, in_round, in_braces}
use Rattle.model_certificates.proofs.Exact.{Spelling, Taken, Exact, every, pair, none_some, made_again, both_exact, never_exact, no_more, ◌or◌, tagged_takes, variant, alone}
use Rattle.model_certificates.proofs.Leaves.{integer_exact, IsWritten, text_exact, truth_exact, prog_var_exact, logic_vars, logic_var_exact}

abbrev pub terms : ℕ → Place → ℕ → Spelling Term
terms v place n = record {
  bytes = term_bytes;
  Writes = IsWritableTerm place;
  Fits = TermFits n;
  words = λ a. are_of v (term_lexemes a);
}

abbrev IsLogicAt : Place → Var → Type 0
IsLogicAt place (logic name s) = IsWritableTerm place (variable (logic name s))
IsLogicAt place x = ⊥

-- a variable of the logic, where one may stand
abbrev logics : Place → Spelling Var
logics place =
    record { bytes = var_bytes; Writes = IsLogicAt place; Fits = VarFits; words = every }

no_logic : (x : Var) → IsLogicAt in_command x → ⊥
no_logic (logic name s) w = w
no_logic (prog name s) w = w
no_logic (bound i s) w = w

logic_again : (x : Var) (rest : List ℕ) → IsLogicAt in_formula x → VarFits x
    → logic_var_at (var_bytes x ++ rest) ≡ Some (x, rest)
logic_again (logic name s) rest w f = logic_var_exact.again (logic name s) rest w f refl
logic_again (prog name s) rest w f = absurd w
logic_again (bound i s) rest w f = absurd w

logic_exact : (place : Place) → Exact (logic_at place) (logics place)
logic_exact in_formula = record {
  again = λ x rest w f o. logic_again x rest w f;
  takes = λ bs x rest e. by_var bs x rest (logic_var_exact.takes bs x rest e);
}
  where
    by_var : (bs : List ℕ) (x : Var) (rest : List ℕ) → Taken logic_vars bs x rest
        → Taken (logics in_formula) bs x rest
    by_var bs (logic name s) rest t = t
    by_var bs (prog name s) rest t = absurd t.1
    by_var bs (bound i s) rest t = absurd t.1
logic_exact in_command = never_exact (logics in_command) no_logic

logic_is_term : (place : Place) (x : Var) → IsLogicAt place x
    → term_bytes (variable x) ≡ 6 ∷ var_bytes x
logic_is_term place (logic name s) w = refl
logic_is_term place (prog name s) w = absurd w
logic_is_term place (bound i s) w = absurd w

logic_writes : (place : Place) (x : Var) → IsLogicAt place x → IsWritableTerm place (variable x)
logic_writes place (logic name s) w = w
logic_writes place (prog name s) w = absurd w
logic_writes place (bound i s) w = absurd w

as_term_bytes : (x : ProgVar) → term_bytes (as_term x) ≡ 5 ∷ prog_var_bytes x
as_term_bytes (named name s) = refl

as_term_writes : (place : Place) (x : ProgVar) → IsWritableName x
    → IsWritableTerm place (as_term x)
as_term_writes in_formula (named name s) w = w
as_term_writes in_command (named name s) w = w

as_term_words : (v : ℕ) (x : ProgVar)
    → are_of v (term_lexemes (as_term x)) ≡ are_of v (name_lexemes x)
as_term_words v (named name s) = refl

logic_words : (v : ℕ) (place : Place) (x : Var) → IsLogicAt place x
    → are_of v (term_lexemes (variable x)) ≡ true
logic_words v place (logic name s) w = refl
logic_words v place (prog name s) w = absurd w
logic_words v place (bound i s) w = absurd w

integer_words : (v : ℕ) (z : ℤ) → are_of v (term_lexemes (literal (int z))) ≡ true
integer_words v (pos n) = refl
integer_words v (negsuc n) = refl

truth_words : (v : ℕ) (b : Bool) → are_of v (term_lexemes (literal (boolean b))) ≡ true
truth_words v true = refl
truth_words v false = refl

as_term_fits : (n : ℕ) (x : ProgVar) → ProgVarFits x → TermFits (suc n) (as_term x)
as_term_fits n (named name s) f = f

integer_writes : (place : Place) (z : ℤ) → IsWritten z → IsWritableTerm place (literal (int z))
integer_writes place (pos n) w = w
integer_writes place (negsuc n) w = w

integer_written : (place : Place) (z : ℤ) → IsWritableTerm place (literal (int z)) → IsWritten z
integer_written place (pos n) w = w
integer_written place (negsuc n) w = w

prog_writes : (place : Place) (name : List ℕ) (s : ValueSort)
    → IsWritableTerm place (variable (prog name s)) → IsWritableName (named name s)
prog_writes in_formula name s w = w
prog_writes in_command name s w = w

small_text : standard_limits.text_bytes ≤ standard_limits.numeral
small_text = omega arith

module _ (v : ℕ) (place : Place) (n : ℕ) (T : Exact (term_at v place n) (terms v place n)) where
  two : Exact (both (term_at v place n) (term_at v place n))
      (pair (terms v place n) (terms v place n))
  two = both_exact T T

  sum_words : (a b : Term) → are_of v (term_lexemes (sum a b))
      ≡ (are_of v (term_lexemes a) && are_of v (term_lexemes b))
  sum_words a b = in_braces v (term_lexemes a) (the "+") (term_lexemes b) refl

  difference_words : (a b : Term) → are_of v (term_lexemes (difference a b))
      ≡ (are_of v (term_lexemes a) && are_of v (term_lexemes b))
  difference_words a b = in_braces v (term_lexemes a) (the "-") (term_lexemes b) refl

  appended_words : (a b : Term) → are_of v (term_lexemes (appended a b))
      ≡ (are_of v (term_lexemes a) && are_of v (term_lexemes b))
  appended_words a b = in_braces v (term_lexemes a) (the "++") (term_lexemes b) refl

  term_again : (a : Term) (rest : List ℕ) → IsWritableTerm place a → TermFits (suc n) a
      → are_of v (term_lexemes a) ≡ true
      → term_at v place (suc n) (term_bytes a ++ rest) ≡ Some (a, rest)
  unfolding term_at
  term_again (literal null) rest w f o = refl
  term_again (literal nolist) rest w f o = refl
  term_again (literal (int z)) rest w f o =
      made_again (λ z. literal (int z)) integer_exact z rest (integer_written place z w) tt refl
  term_again (literal (str t)) rest w f o =
      made_again (λ t. literal (str t)) (text_exact standard_limits.text_bytes small_text) t rest tt
      f refl
  term_again (literal (boolean b)) rest w f o =
      made_again (λ b. literal (boolean b)) truth_exact b rest tt tt refl
  term_again (literal (node_number k)) rest w f o = absurd w
  term_again (literal (list_number k)) rest w f o = absurd w
  term_again (variable (prog name s)) rest w f o =
      made_again as_term (prog_var_exact v) (named name s) rest (prog_writes place name s w) f o
  term_again (variable (logic name s)) rest w f o =
      made_again variable (logic_exact place) (logic name s) rest w f refl
  term_again (variable (bound i s)) rest w f o = absurd w
  term_again (sum a b) rest w f o =
      made_again (λ x. sum x.0 x.1) two (a, b) rest w f (sym (sum_words a b) ∙ o)
  term_again (difference a b) rest w f o =
      made_again (λ x. difference x.0 x.1) two (a, b) rest w f (sym (difference_words a b) ∙ o)
  term_again (appended a b) rest w f o =
      made_again (λ x. appended x.0 x.1) two (a, b) rest w f (sym (appended_words a b) ∙ o)

  term_takes : (bs : List ℕ) (a : Term) (rest : List ℕ)
      → term_at v place (suc n) bs ≡ Some (a, rest) → Taken (terms v place (suc n)) bs a rest
  unfolding term_at
  term_takes = tagged_takes (terms v place (suc n)) _ (
      alone (literal null) refl tt tt refl
      or alone (literal nolist) refl tt tt refl
      or variant (λ z. literal (int z)) integer_exact (λ z w. refl) (integer_writes place)
      (λ z f. tt) (λ z w. integer_words v z)
      or variant (λ t. literal (str t)) (text_exact standard_limits.text_bytes small_text)
      (λ t w. refl) (λ t w. tt) (λ t f. f) (λ t w. refl)
      or variant (λ b. literal (boolean b)) truth_exact (λ b w. refl) (λ b w. tt) (λ b f. tt)
      (λ b w. truth_words v b)
      or variant as_term (prog_var_exact v) (λ x w. as_term_bytes x) (as_term_writes place)
      (as_term_fits n) (λ x w. as_term_words v x)
      or variant variable (logic_exact place) (logic_is_term place) (logic_writes place)
      (λ x f. f) (logic_words v place)
      or variant (λ x. sum x.0 x.1) two (λ x w. refl) (λ x w. w) (λ x f. f)
      (λ x w. sum_words x.0 x.1)
      or variant (λ x. difference x.0 x.1) two (λ x w. refl) (λ x w. w) (λ x f. f)
      (λ x w. difference_words x.0 x.1)
      or variant (λ x. appended x.0 x.1) two (λ x w. refl) (λ x w. w) (λ x f. f)
      (λ x w. appended_words x.0 x.1)
      or no_more)

pub term_exact : (v : ℕ) (place : Place) (n : ℕ) → Exact (term_at v place n) (terms v place n)
unfolding term_at
term_exact v place zero = record {
  again = λ a rest w f o. absurd f;
  takes = λ bs a rest e. absurd (none_some (a, rest) e);
}
term_exact v place (suc n) = record {
  again = term_again v place n (term_exact v place n);
  takes = term_takes v place n (term_exact v place n);
}

-- ---- conditions

abbrev pub conds : ℕ → ℕ → Spelling Cond
conds v n = record {
  bytes = cond_bytes;
  Writes = IsWritableCondition;
  Fits = CondFits n;
  words = λ c. are_of v (cond_lexemes c);
}

module _ (v : ℕ) (n : ℕ) (C : Exact (cond_at v n) (conds v n)) where
  two_terms : Exact (both (term_at v in_command n) (term_at v in_command n))
      (pair (terms v in_command n) (terms v in_command n))
  two_terms = both_exact (term_exact v in_command n) (term_exact v in_command n)

  two_conds : Exact (both (cond_at v n) (cond_at v n)) (pair (conds v n) (conds v n))
  two_conds = both_exact C C

  equal_words : (a b : Term) → are_of v (cond_lexemes (cond_equal a b))
      ≡ (are_of v (term_lexemes a) && are_of v (term_lexemes b))
  equal_words a b = between v (term_lexemes a) (the "=") (term_lexemes b) refl

  at_most_words : (a b : Term) → are_of v (cond_lexemes (cond_at_most a b))
      ≡ (are_of v (term_lexemes a) && are_of v (term_lexemes b))
  at_most_words a b = between v (term_lexemes a) (the "<=") (term_lexemes b) refl

  not_words : (c : Cond) → are_of v (cond_lexemes (cond_not c)) ≡ are_of v (cond_lexemes c)
  not_words c = before_sign v (cond_lexemes c) (the ")") refl

  and_words : (c d : Cond) → are_of v (cond_lexemes (cond_and c d))
      ≡ (are_of v (cond_lexemes c) && are_of v (cond_lexemes d))
  and_words c d = in_round v (cond_lexemes c) (the "and") (cond_lexemes d) refl

  or_words : (c d : Cond) → are_of v (cond_lexemes (cond_or c d))
      ≡ (are_of v (cond_lexemes c) && are_of v (cond_lexemes d))
  or_words c d = in_round v (cond_lexemes c) (the "or") (cond_lexemes d) refl

  cond_again : (c : Cond) (rest : List ℕ) → IsWritableCondition c → CondFits (suc n) c
      → are_of v (cond_lexemes c) ≡ true
      → cond_at v (suc n) (cond_bytes c ++ rest) ≡ Some (c, rest)
  unfolding cond_at
  cond_again cond_true rest w f o = refl
  cond_again cond_false rest w f o = refl
  cond_again (cond_variable x) rest w f o =
      made_again cond_variable (prog_var_exact v) x rest w f o
  cond_again (cond_equal a b) rest w f o =
      made_again (λ x. cond_equal x.0 x.1) two_terms (a, b) rest w f (sym (equal_words a b) ∙ o)
  cond_again (cond_at_most a b) rest w f o =
      made_again (λ x. cond_at_most x.0 x.1) two_terms (a, b) rest w f
      (sym (at_most_words a b) ∙ o)
  cond_again (cond_not c) rest w f o =
      made_again cond_not C c rest w f (sym (not_words c) ∙ o)
  cond_again (cond_and c d) rest w f o =
      made_again (λ x. cond_and x.0 x.1) two_conds (c, d) rest w f (sym (and_words c d) ∙ o)
  cond_again (cond_or c d) rest w f o =
      made_again (λ x. cond_or x.0 x.1) two_conds (c, d) rest w f (sym (or_words c d) ∙ o)

  cond_takes : (bs : List ℕ) (c : Cond) (rest : List ℕ) → cond_at v (suc n) bs ≡ Some (c, rest)
      → Taken (conds v (suc n)) bs c rest
  unfolding cond_at
  cond_takes = tagged_takes (conds v (suc n)) _ (
      alone cond_true refl tt tt refl
      or alone cond_false refl tt tt refl
      or variant cond_variable (prog_var_exact v) (λ x w. refl) (λ x w. w) (λ x f. f)
      (λ x w. refl)
      or variant (λ x. cond_equal x.0 x.1) two_terms (λ x w. refl) (λ x w. w) (λ x f. f)
      (λ x w. equal_words x.0 x.1)
      or variant (λ x. cond_at_most x.0 x.1) two_terms (λ x w. refl) (λ x w. w) (λ x f. f)
      (λ x w. at_most_words x.0 x.1)
      or variant cond_not C (λ x w. refl) (λ x w. w) (λ x f. f) (λ x w. not_words x)
      or variant (λ x. cond_and x.0 x.1) two_conds (λ x w. refl) (λ x w. w) (λ x f. f)
      (λ x w. and_words x.0 x.1)
      or variant (λ x. cond_or x.0 x.1) two_conds (λ x w. refl) (λ x w. w) (λ x f. f)
      (λ x w. or_words x.0 x.1)
      or no_more)

pub cond_exact : (v : ℕ) (n : ℕ) → Exact (cond_at v n) (conds v n)
unfolding cond_at
cond_exact v zero = record {
  again = λ c rest w f o. absurd f;
  takes = λ bs c rest e. absurd (none_some (c, rest) e);
}
cond_exact v (suc n) = record {
  again = cond_again v n (cond_exact v n);
  takes = cond_takes v n (cond_exact v n);
}
