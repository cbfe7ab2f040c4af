-- The header of a procedure of a well-formed theory: what is asked of its ensures and its body.
use Rattle.std.proofs.Common.{◌≡◌, ◌∙◌, ℕ, zero, suc, ◌+◌, List, slice_get, Option, [], ◌∷◌, ◌++◌, map, Bool, true, false, cond, refl, sym, ap, subst, Some, None, bytes_eq, is_none}
use Rattle.std.specs.Prelude.{not, ◌&&◌, ◌||◌}
use Rattle.std.specs.List.{list_all, list_any, position_from}
use Rattle.std.proofs.lemmas.List.Folds.{list_all-append}
use Rattle.model_shapes.specs.Sorts.{Sort, shape, context, forest, tree, grove, inner, outer, with_outer}
use Rattle.model_shapes.specs.Values.{Name}
use Rattle.model_shapes.proofs.Truth.{both_true, and_from}
use Rattle.model_terms.specs.Variables.{Var, prog, logic, bound}
use Rattle.model_terms.specs.Stores.{ProgVar, named, as_var}
use Rattle.model_formulas.specs.Formulas.{Named, truth, falsity, conjunction, disjunction, implication, negation, existential, universal, equality, at_most, empty, bare_hole, node_formula, one_tree, one_root, concatenation, grove_sum, grove_sum_hole, application, hole_adjoint, context_adjoint, same_as, length_is, value_meets, left_sort, right_sort}
use Rattle.model_formulas.specs.WellSorted.{flags, is_form, may_bind, first_fault}
use Rattle.model_formulas.specs.Substitution.{gathered}
use Rattle.model_commands.specs.CommandParts.{variables_of, variables_of_command}
use Rattle.model_commands.specs.SortTests.{is_sorted}
use Rattle.model_commands.specs.Theories.{ProcedureOf, Theory, procedures_of, procedure_named, nameless_procedure}
use Rattle.model_files.specs.FileFaults.{FileKind, unknown_kind, sort_kind, share_name, is_known, is_judged_at, scope_of, declared_by, declarations, header, head_kind, steps_from, procedures_from, first_fault_at, IsWellFormedTheory}
use Rattle.model_files.proofs.Places.{passes-each, first-none, both-none}
use Rattle.model_files.proofs.WellFormedTheories.{well-formed-bodies}
use Rattle.model_weakest.specs.Written.{has_name, is_declared, is_named, is_logic, AreNamed}

some_same : {A : Type 0} (x y : A) → Some x ≡ Some y → x ≡ y
some_same x y e = cc

-- DECLARED NAMES
-- the names of program variables are no logic ones
no-program : (xs : List ProgVar) (declared : List Var) (name : Name) (s : Sort)
    → list_any (share_name (logic name s)) (map as_var xs ++ declared)
    ≡ list_any (share_name (logic name s)) declared
no-program [] declared name s = refl
no-program (named x v ∷ xs) declared name s = no-program xs declared name s

one-name : (name : Name) (s : Sort) (x : Var) → share_name (logic name s) x ≡ has_name name x
one-name name s (prog other u) = refl
one-name name s (logic other u) = refl
one-name name s (bound i u) = refl

same-names : (declared : List Var) (name : Name) (s : Sort)
    → list_any (share_name (logic name s)) declared ≡ is_declared declared name
same-names [] name s = refl
same-names (x ∷ declared) name s =
    λ j. one-name name s x j || same-names declared name s j

-- what is known in a procedure is named
known-named : (xs : List ProgVar) (declared : List Var) (x : Var)
    → is_known (map as_var xs ++ declared) x ≡ true → is_named declared x ≡ true
known-named xs declared (logic name s) e =
    sym (same-names declared name s) ∙ sym (no-program xs declared name s) ∙ e
known-named xs declared (prog name s) e = refl
known-named xs declared (bound i s) e = refl

all-named : (xs : List ProgVar) (declared vars : List Var)
    → list_all (is_known (map as_var xs ++ declared)) vars ≡ true
    → list_all (is_named declared) vars ≡ true
all-named xs declared [] e = refl
all-named xs declared (x ∷ vars) e =
    let both = both_true (is_known (map as_var xs ++ declared) x) _ e in
    and_from _ _ (known-named xs declared x both.0) (all-named xs declared vars both.1)

-- BOUND VARIABLES
all-flags : (xs : List Bool) (n : ℕ) → is_none (position_from not n xs) ≡ true
    → list_all (λ flag. flag) xs ≡ true
all-flags [] n e = refl
all-flags (true ∷ xs) n e = all-flags xs _ e
all-flags (false ∷ xs) n e = absurd cc

abbrev All : List Bool → Type 0
All xs = list_all (λ b. b) xs ≡ true

-- the variables that its quantifiers bind
abbrev bound_in : Named → List Var
bound_in = gathered [] ◌++◌ (λ a. []) ◌∷◌

abbrev AreLogic : List Var → Type 0
AreLogic xs = list_all is_logic xs ≡ true

rest : (b : Bool) (xs : List Bool) → All (b ∷ xs) → All xs
rest b xs e = (both_true b (list_all (λ c. c) xs) e).1

both-logic : (xs ys : List Var) → AreLogic xs → AreLogic ys → AreLogic (xs ++ ys)
both-logic xs ys e d = list_all-append is_logic xs ys ∙ and_from _ _ e d

two : (b : Bool) (xs ys : List Bool) (p q : Named) → (All xs → AreLogic (bound_in p))
    → (All ys → AreLogic (bound_in q)) → All (b ∷ xs ++ ys)
    → AreLogic (bound_in p ++ bound_in q)
two b xs ys p q f g e =
    let h = both_true (list_all (λ c. c) xs) (list_all (λ c. c) ys)
    (sym (list_all-append (λ c. c) xs ys) ∙ rest b (xs ++ ys) e) in
    both-logic (bound_in p) (bound_in q) (f h.0) (g h.1)

binder : (s : Sort) (x : Var) (xs : List Bool) (p : List Var)
    → All ((is_form s && may_bind x) ∷ xs) → AreLogic p → AreLogic (x ∷ p)
binder s (logic name u) xs p e d = d
binder s (prog name u) xs p e d =
    let f = both_true (is_form s && false) (list_all (λ c. c) xs) e in
    let g = both_true (is_form s) false f.0 in absurd cc
binder s (bound i u) xs p e d =
    let f = both_true (is_form s && false) (list_all (λ c. c) xs) e in
    let g = both_true (is_form s) false f.0 in absurd cc

-- where a formula may be judged, its quantifiers bind logic variables
quantified : (p : Named) (s : Sort) → All (flags p s) → AreLogic (bound_in p)
quantified truth s e = refl
quantified falsity s e = refl
quantified (conjunction p q) s e =
    two _ (flags p s) (flags q s) p q (quantified p s) (quantified q s) e
quantified (disjunction p q) s e =
    two _ (flags p s) (flags q s) p q (quantified p s) (quantified q s) e
quantified (implication p q) s e =
    two _ (flags p s) (flags q s) p q (quantified p s) (quantified q s) e
quantified (negation p) s e = quantified p s (rest _ (flags p s) e)
quantified (existential x p) s e =
    binder s x (flags p s) (bound_in p) e (quantified p s (rest _ (flags p s) e))
quantified (universal x p) s e =
    binder s x (flags p s) (bound_in p) e (quantified p s (rest _ (flags p s) e))
quantified (equality a b) s e = refl
quantified (at_most a b) s e = refl
quantified (empty k) s e = refl
quantified (bare_hole h) s e = refl
quantified (node_formula name number p list) s e =
    both-logic (bound_in p) []
    (quantified p (with_outer forest s) (rest _ (flags p (with_outer forest s)) e)) refl
quantified (one_tree p) s e =
    quantified p (with_outer tree s) (rest _ (flags p (with_outer tree s)) e)
quantified (one_root p) s e =
    quantified p (with_outer tree s) (rest _ (flags p (with_outer tree s)) e)
quantified (concatenation side p q) s e =
    two _ (flags p (left_sort side s)) (flags q (right_sort side s)) p q
    (quantified p (left_sort side s)) (quantified q (right_sort side s)) e
quantified (grove_sum p q) s e =
    two _ (flags p s) (flags q s) p q (quantified p s) (quantified q s) e
quantified (grove_sum_hole p q) s e =
    two _ (flags p s) (flags q (shape grove)) p q (quantified p s) (quantified q (shape grove)) e
quantified (application h p q) s e =
    two _ (flags p (context h (outer s))) (flags q (with_outer h s)) p q
    (quantified p (context h (outer s))) (quantified q (with_outer h s)) e
quantified (hole_adjoint p q) s e =
    two _ (flags p (shape (inner s))) (flags q (shape (outer s))) p q
    (quantified p (shape (inner s))) (quantified q (shape (outer s))) e
quantified (context_adjoint k p q) s e =
    two _ (flags p (context (outer s) k)) (flags q (shape k)) p q
    (quantified p (context (outer s) k)) (quantified q (shape k)) e
quantified (same_as a) s e = refl
quantified (length_is a) s e = refl
quantified (value_meets u a p) s e = quantified p u (rest _ (flags p u) e)

-- HEADERS
module _ (theory : Theory) where
  -- the header of a procedure that is found by its name has no fault
  record Head (f : ProcedureOf Named) : Type 0 where
    earlier : List (ProcedureOf Named)
    no_fault : head_kind theory earlier f ≡ None

  found-head : (earlier : List (ProcedureOf Named)) (n : ℕ) (ps : List (ProcedureOf Named))
      → first_fault_at (procedures_from theory earlier n ps) ≡ None
      → (name : Name) (f : ProcedureOf Named) → procedure_named name ps ≡ Some f → Head f
  found-head earlier n [] e name f q = absurd cc
  found-head earlier n (p ∷ ps) e name f q =
      let a = first-none n 0 (header theory earlier p) (steps_from theory n p 1 p.proof
      ++ procedures_from theory (p ∷ earlier) (n + 1) ps) e in
      let b = both-none (steps_from theory n p 1 p.proof) _ a.1 in
      by_name (bytes_eq name p.name) q a.0 (found-head (p ∷ earlier) (n + 1) ps b.1 name f)
    where
      by_name : (t : Bool) → cond t (Some p) (procedure_named name ps) ≡ Some f
          → head_kind theory earlier p ≡ None → (procedure_named name ps ≡ Some f → Head f)
          → Head f
      by_name true q here later =
          subst Head (some_same p f q) (record { earlier = earlier; no_fault = here })
      by_name false q here later = later q

  placed-head : (earlier : List (ProcedureOf Named)) (n : ℕ) (ps : List (ProcedureOf Named))
      → first_fault_at (procedures_from theory earlier n ps) ≡ None
      → (place : ℕ) (f : ProcedureOf Named) → slice_get ps place ≡ Some f → Head f
  placed-head earlier n [] e place f q = absurd cc
  placed-head earlier n (p ∷ ps) e place f q =
      let a = first-none n 0 (header theory earlier p) (steps_from theory n p 1 p.proof
      ++ procedures_from theory (p ∷ earlier) (n + 1) ps) e in
      let b = both-none (steps_from theory n p 1 p.proof) _ a.1 in
      by_place place q a.0 (placed-head (p ∷ earlier) (n + 1) ps b.1)
    where
      by_place : (at : ℕ) → slice_get (p ∷ ps) at ≡ Some f → head_kind theory earlier p ≡ None
          → ((later : ℕ) (g : ProcedureOf Named) → slice_get ps later ≡ Some g → Head g) → Head f
      by_place zero q here later =
          subst Head (some_same p f q) (record { earlier = earlier; no_fault = here })
      by_place (suc at) q here later = later at f q

  no_fault-in : (found : Option ℕ) → is_none found ≡ true → found ≡ None
  no_fault-in None e = refl
  no_fault-in (Some n) e = absurd cc

  -- the formulas of a procedure at a place may be judged at its sort
  module _ (formed : IsWellFormedTheory theory) (place : ℕ) (f : ProcedureOf Named)
      (there : slice_get theory.procedures place ≡ Some f) where
    both-judged : (is_judged_at (shape f.sort) f.pre && is_judged_at (shape f.sort) f.post) ≡ true
    both-judged =
        let head = placed-head [] 1 theory.procedures
        (first-none 0 0 (declarations theory) (procedures_from theory [] 1 theory.procedures)
        formed).1 place f there in
        (both_true _ _ (passes-each (header theory head.earlier f) head.no_fault sort_kind)).0

    pub pre-sorted : first_fault f.pre (shape f.sort) ≡ None
    pre-sorted = no_fault-in _ (both_true (is_judged_at (shape f.sort) f.pre) _ both-judged).0

    pub post-sorted : first_fault f.post (shape f.sort) ≡ None
    post-sorted = no_fault-in _ (both_true (is_judged_at (shape f.sort) f.pre) _ both-judged).1

  module _ (formed : IsWellFormedTheory theory) (name : Name) (f : ProcedureOf Named)
      (there : procedure_named name theory.procedures ≡ Some f) where
    passes : (earlier : List (ProcedureOf Named)) × ((kind : FileKind)
        → header theory earlier f kind ≡ true)
    passes =
        let head = found-head [] 1 theory.procedures
        (first-none 0 0 (declarations theory) (procedures_from theory [] 1 theory.procedures)
        formed).1 name f there in
        (head.earlier, passes-each (header theory head.earlier f) head.no_fault)

    -- the logic variables of its ensures are declared
    pub post-known : list_all (is_named theory.logic) (variables_of f.post) ≡ true
    post-known =
        let all = both_true (list_all (is_known (scope_of theory f))
        (variables_of f.pre ++ (variables_of f.post ++ variables_of_command f.body))) _
        (passes.1 unknown_kind) in
        let behind = both_true _ _ (sym (list_all-append (is_known (scope_of theory f))
        (variables_of f.pre) (variables_of f.post ++ variables_of_command f.body)) ∙ all.0) in
        let here = both_true _ _ (sym (list_all-append (is_known (scope_of theory f))
        (variables_of f.post) (variables_of_command f.body)) ∙ behind.1) in
        all-named (declared_by f) theory.logic (variables_of f.post) here.0

    -- and its quantifiers bind such
    pub post-named : AreNamed theory.logic f.post
    post-named =
        let sorted = both_true (is_judged_at (shape f.sort) f.pre
        && is_judged_at (shape f.sort) f.post) _ (passes.1 sort_kind) in
        let both = both_true (is_judged_at (shape f.sort) f.pre) _ sorted.0 in record {
          known = post-known;
          quantified = quantified f.post (shape f.sort) (all-flags (flags f.post (shape f.sort)) 0
              both.1);
        }

    -- its formulas may be judged at its sort
    named-judged : (is_judged_at (shape f.sort) f.pre && is_judged_at (shape f.sort) f.post) ≡ true
    named-judged = (both_true _ _ (passes.1 sort_kind)).0

    pub named-pre : first_fault f.pre (shape f.sort) ≡ None
    named-pre = no_fault-in _ (both_true (is_judged_at (shape f.sort) f.pre) _ named-judged).0

    pub named-post : first_fault f.post (shape f.sort) ≡ None
    named-post = no_fault-in _ (both_true (is_judged_at (shape f.sort) f.pre) _ named-judged).1

    -- it is found without the names of its formulas' variables
    pub nameless-there : procedure_named name (procedures_of theory) ≡ Some (nameless_procedure f)
    nameless-there = nameless theory.procedures there
      where
        nameless : (ps : List (ProcedureOf Named)) → procedure_named name ps ≡ Some f
            → procedure_named name (map nameless_procedure ps) ≡ Some (nameless_procedure f)
        nameless [] e = absurd cc
        nameless (p ∷ ps) e = by_name (bytes_eq name p.name) e (nameless ps)
          where
            by_name : (t : Bool) → cond t (Some p) (procedure_named name ps) ≡ Some f
                → (procedure_named name ps ≡ Some f
                → procedure_named name (map nameless_procedure ps) ≡ Some (nameless_procedure f))
                → cond t (Some (nameless_procedure p))
                (procedure_named name (map nameless_procedure ps)) ≡ Some (nameless_procedure f)
            by_name true e later =
                ap (λ (z : ProcedureOf Named). Some (nameless_procedure z)) (some_same p f e)
            by_name false e later = later e

    -- its body has parts of the right sorts
    pub body-sorted : is_sorted (procedures_of theory) f.body ≡ true
    body-sorted =
        well-formed-bodies theory formed name (nameless_procedure f) nameless-there
