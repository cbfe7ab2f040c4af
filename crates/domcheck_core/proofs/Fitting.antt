-- Arguments that read have the sorts of the parameters.
use Rattle.std.proofs.Common.{◌≡◌, ℕ, zero, suc, Bool, true, false, cond, List, [], ◌∷◌, length, Option, Some, None, option_map, refl, subst, arith, bytes_eq, codes, pos, negsuc}
use Rattle.std.specs.Prelude.{nat_le, ◌==◌}
use Rattle.model_shapes.specs.Sorts.{ValueSort, node_sort, list_sort, int_sort, str_sort, bool_sort}
use Rattle.model_shapes.specs.Values.{Value, null, nolist, node_number, list_number, int, str, boolean, FitsValue}
use Rattle.model_formulas.specs.Formulas.{Named}
use Rattle.model_terms.specs.Stores.{ProgVar, sort_of}
use Rattle.model_machine.specs.Fitting.{ValuesFit}
use Rattle.model_commands.specs.Theories.{ProcedureOf, Theory, procedure_named}
use Rattle.model_limits.specs.Limits.{standard_limits}
use Rattle.model_answers.specs.Words.{decimal_of}
use Rattle.model_answers.specs.Arguments.{number_sign, percent, minus, positive_of, marked, negative_of, integer_of, argument_of, value_before, arguments_of, with_arguments, called}

abbrev Fits : ValueSort → Option Value → Type 0
Fits s o = (v : Value) → o ≡ Some v → FitsValue s v

some_fits : (s : ValueSort) (w : Value) → FitsValue s w → Fits s (Some w)
some_fits s w h v e = let same : w ≡ v = cc in subst (FitsValue s) same h

none_fits : (s : ValueSort) → Fits s None
none_fits s v e = absurd cc

cond_fits : (s : ValueSort) (b : Bool) (x y : Option Value) → Fits s x → Fits s y
    → Fits s (cond b x y)
cond_fits s true x y h k = h
cond_fits s false x y h k = k

module _ (s : ValueSort) (name : ℕ → Value) (fits : (n : ℕ) → FitsValue s (name (suc n))) where
  positive_fits : (o : Option ℕ) → Fits s (positive_of name o)
  positive_fits None = none_fits s
  positive_fits (Some zero) = none_fits s
  positive_fits (Some (suc n)) = some_fits s (name (suc n)) (fits n)

  marked_fits : (mark : ℕ) (word : List ℕ) → Fits s (marked mark name word)
  marked_fits mark [] = none_fits s
  marked_fits mark (first ∷ digits) =
      cond_fits s (first == mark) (positive_of name (decimal_of standard_limits.identifier digits))
      None (positive_fits (decimal_of standard_limits.identifier digits)) (none_fits s)

negative_fits : (o : Option ℕ) → Fits int_sort (negative_of o)
negative_fits None = none_fits int_sort
negative_fits (Some zero) = none_fits int_sort
negative_fits (Some (suc n)) = some_fits int_sort (int (negsuc n)) tt

plain_fits : (o : Option ℕ) → Fits int_sort (option_map (λ n. int (pos n)) o)
plain_fits None = none_fits int_sort
plain_fits (Some n) = some_fits int_sort (int (pos n)) tt

integer_fits : (word : List ℕ) → Fits int_sort (integer_of word)
integer_fits [] = none_fits int_sort
integer_fits (first ∷ rest) =
    cond_fits int_sort (first == minus) (negative_of (decimal_of standard_limits.integer rest))
    (option_map (λ n. int (pos n)) (decimal_of standard_limits.integer (first ∷ rest)))
    (negative_fits (decimal_of standard_limits.integer rest))
    (plain_fits (decimal_of standard_limits.integer (first ∷ rest)))

argument_fits : (s : ValueSort) (word : List ℕ) → Fits s (argument_of s word)
argument_fits node_sort word =
    cond_fits node_sort (bytes_eq word (codes "null")) (Some null)
    (marked number_sign node_number word) (some_fits node_sort null tt)
    (marked_fits node_sort node_number (λ n. omega arith) number_sign word)
argument_fits list_sort word =
    cond_fits list_sort (bytes_eq word (codes "nolist")) (Some nolist)
    (marked percent list_number word) (some_fits list_sort nolist tt)
    (marked_fits list_sort list_number (λ n. omega arith) percent word)
argument_fits int_sort word = integer_fits word
argument_fits str_sort word = cond_fits str_sort (nat_le (length word) standard_limits.text_bytes)
    (Some (str word)) None (some_fits str_sort (str word) tt) (none_fits str_sort)
argument_fits bool_sort word =
    cond_fits bool_sort (bytes_eq word (codes "yes")) (Some (boolean true))
    (cond (bytes_eq word (codes "no")) (Some (boolean false)) None)
    (some_fits bool_sort (boolean true) tt)
    (cond_fits bool_sort (bytes_eq word (codes "no")) (Some (boolean false)) None
    (some_fits bool_sort (boolean false) tt) (none_fits bool_sort))

before_fits : (x : ProgVar) (xs : List ProgVar) (v : Option Value) (vs : Option (List Value))
    → Fits (sort_of x) v → ((us : List Value) → vs ≡ Some us → ValuesFit xs us)
    → (us : List Value) → value_before v vs ≡ Some us → ValuesFit (x ∷ xs) us
before_fits x xs (Some v) (Some vs) h k us e =
    let same : v ∷ vs ≡ us = cc in
    subst (ValuesFit (x ∷ xs)) same (h v refl, k vs refl)
before_fits x xs (Some v) None h k us e = absurd cc
before_fits x xs None vs h k us e = absurd cc

arguments_fit : (xs : List ProgVar) (words : List (List ℕ)) (us : List Value)
    → arguments_of xs words ≡ Some us → ValuesFit xs us
arguments_fit [] [] us e = let same : [] ≡ us = cc in subst (ValuesFit []) same tt
arguments_fit [] (w ∷ ws) us e = absurd cc
arguments_fit (x ∷ xs) [] us e = absurd cc
arguments_fit (x ∷ xs) (w ∷ ws) us e =
    before_fits x xs (argument_of (sort_of x) w) (arguments_of xs ws) (argument_fits (sort_of x) w)
    (arguments_fit xs ws) us e

with_fits : (g : ProcedureOf Named) (vs : Option (List Value))
    → ((us : List Value) → vs ≡ Some us → ValuesFit g.params us)
    → (f : ProcedureOf Named) (us : List Value) → option_map {U = ProcedureOf Named × List Value}
    (λ us. (g, us)) vs ≡ Some (f, us) → ValuesFit f.params us
with_fits g (Some vs) h f us e =
    let pair : (g, vs) ≡ (f, us) = cc in
    subst (λ (z : ProcedureOf Named × List Value). ValuesFit z.0.params z.1) pair (h vs refl)
with_fits g None h f us e = absurd cc

pub called_fits : (theory : Theory) (name : List ℕ) (words : List (List ℕ)) (f : ProcedureOf Named)
    (us : List Value)
    → called theory name words ≡ Some (f, us) → ValuesFit f.params us
called_fits theory name words f us e =
    found_fits (procedure_named name theory.procedures) e
  where
    found_fits : (o : Option (ProcedureOf Named)) → with_arguments o words ≡ Some (f, us)
        → ValuesFit f.params us
    found_fits None e = absurd cc
    found_fits (Some g) e = with_fits g (arguments_of g.params words)
        (arguments_fit g.params words) f us e
