-- Variables that are declared, with the sorts that they have, get those sorts again when a file is
-- read; so formulas, commands and theories that are well formed keep theirs.
use Rattle.std.proofs.Common.{◌≡◌, ◌∙◌, ℕ, Bool, true, false, ◌||◌, cond, List, [], ◌∷◌, ◌++◌, map, refl, sym, ap, ap₂, bytes_eq}
use Rattle.std.specs.List.{list_all, flat_map}
use Rattle.model_shapes.specs.Sorts.{Sort, value, shape, context, ValueSort, node_sort, forest, tree, grove, outer, inner, with_outer}
use Rattle.model_shapes.specs.Tests.{same_sort}
use Rattle.model_shapes.proofs.Truth.{both_true, false≢true}
use Rattle.model_shapes.proofs.Tests.{same_sort-is}
use Rattle.model_terms.specs.Variables.{Var, prog, logic, bound}
use Rattle.model_terms.specs.Terms.{Term, literal, variable, sum, difference, appended}
use Rattle.model_terms.specs.Stores.{ProgVar, named, as_var}
use Rattle.model_terms.specs.Conditions.{Cond, cond_true, cond_false, cond_variable, cond_equal, cond_at_most, cond_not, cond_and, cond_or, terms_of_cond}
use Rattle.model_formulas.specs.Formulas.{Named, left_sort, right_sort, truth, falsity, conjunction, disjunction, implication, negation, existential, universal, equality, at_most, empty, bare_hole, node_formula, one_tree, one_root, concatenation, grove_sum, grove_sum_hole, application, hole_adjoint, context_adjoint, same_as, length_is, value_meets}
use Rattle.model_formulas.specs.WellSorted.{flags, is_form, may_bind, variable_at}
use Rattle.model_commands.specs.Commands.{Command, skip, block, assign, create_node, node_name, child_nodes, parent_node, list_item, append_child, remove_child, insert_before, if_else, while_do, local, call, Block, stop, ◌then◌}
use Rattle.model_commands.specs.CommandParts.{commands_in, commands_of, targets, terms_of, own_variables, variables_of, variables_of_term}
use Rattle.model_commands.specs.Each.{Each}
use Rattle.model_files.specs.FileFaults.{is_known, is_as_declared}
use Rattle.model_grammar.specs.Sorts.{Declared, sort_among, logic_sort_among, sort_of_variable, sorted_name, sorted_var, sorted_term, sorted_formula, sorted_cond, sorted_command, sorted_block}
use Rattle.filled_theory_laws.proofs.Declared.{each-parts}
use Rattle.filled_theory_laws.proofs.Flags.{AllPass, passes-parts}

-- NAMES: a logic variable among declarations of the logic, and a program variable before those
prog-not-logic : (logics : List Var) → list_all may_bind logics ≡ true → (name : List ℕ)
    (s : ValueSort) → is_known logics (prog name s) ≡ true → false ≡ true
prog-not-logic [] h name s e = e
prog-not-logic (logic other u ∷ rest) h name s e =
    prog-not-logic rest (both_true (may_bind (logic other u)) _ h).1 name s e
prog-not-logic (prog other u ∷ rest) h name s e = (both_true false (list_all may_bind rest) h).0
prog-not-logic (bound i u ∷ rest) h name s e = (both_true false (list_all may_bind rest) h).0

logic-again : (logics : List Var) (name : List ℕ) (s : Sort)
    → is_known logics (logic name s) ≡ true → is_as_declared logics (logic name s) ≡ true
    → logic_sort_among logics name ≡ s
logic-again [] name s e f = false≢true e
logic-again (logic other u ∷ rest) name s e f =
    at (bytes_eq name other) e f (logic-again rest name s)
  where
    at : (b : Bool) → (b || is_known rest (logic name s)) ≡ true
        → cond b (same_sort u s) (is_as_declared rest (logic name s)) ≡ true
        → (is_known rest (logic name s) ≡ true → is_as_declared rest (logic name s) ≡ true
        → logic_sort_among rest name ≡ s)
        → cond b u (logic_sort_among rest name) ≡ s
    at true e f later = same_sort-is u s f
    at false e f later = later e f
logic-again (prog other u ∷ rest) name s e f = logic-again rest name s e f
logic-again (bound i u ∷ rest) name s e f = logic-again rest name s e f

module _ (logics : List Var) (bind : list_all may_bind logics ≡ true) where
  prog-again : (xs : List ProgVar) (name : List ℕ) (s : ValueSort)
      → is_known (map as_var xs ++ logics) (prog name s) ≡ true
      → is_as_declared (map as_var xs ++ logics) (prog name s) ≡ true
      → sort_among xs name ≡ s
  prog-again [] name s e f = false≢true (prog-not-logic logics bind name s e)
  prog-again (named other u ∷ rest) name s e f =
      at (bytes_eq name other) e f (prog-again rest name s)
    where
      value_in_sort : Sort → ValueSort
      value_in_sort (value v) = v
      value_in_sort t = node_sort

      at : (b : Bool) → (b || is_known (map as_var rest ++ logics) (prog name s)) ≡ true
          → cond b (same_sort (value u) (value s))
          (is_as_declared (map as_var rest ++ logics) (prog name s)) ≡ true
          → (is_known (map as_var rest ++ logics) (prog name s) ≡ true
          → is_as_declared (map as_var rest ++ logics) (prog name s) ≡ true
          → sort_among rest name ≡ s)
          → cond b u (sort_among rest name) ≡ s
      at true e f later = ap value_in_sort (same_sort-is (value u) (value s) f)
      at false e f later = later e f

  logic-after : (xs : List ProgVar) (name : List ℕ) (s : Sort)
      → is_known (map as_var xs ++ logics) (logic name s) ≡ true
      → is_as_declared (map as_var xs ++ logics) (logic name s) ≡ true
      → logic_sort_among logics name ≡ s
  logic-after [] name s e f = logic-again logics name s e f
  logic-after (named other u ∷ rest) name s e f = logic-after rest name s e f

  abbrev pub declared : List ProgVar → Declared
  declared xs = record { variables = xs; logics = logics }

  pub var-again : (xs : List ProgVar) (x : Var) → is_known (map as_var xs ++ logics) x ≡ true
      → is_as_declared (map as_var xs ++ logics) x ≡ true → sorted_var (declared xs) x ≡ x
  var-again xs (prog name s) e f = ap (prog name) (prog-again xs name s e f)
  var-again xs (logic name s) e f = ap (logic name) (logic-after xs name s e f)
  var-again xs (bound i s) e f = refl

  pub vars-again : (xs : List ProgVar) (ys : List Var)
      → list_all (is_known (map as_var xs ++ logics)) ys ≡ true
      → list_all (is_as_declared (map as_var xs ++ logics)) ys ≡ true
      → Each (λ y. sorted_var (declared xs) y ≡ y) ys
  vars-again xs [] e f = tt
  vars-again xs (y ∷ ys) e f =
      let a = both_true (is_known (map as_var xs ++ logics) y) _ e in
      let b = both_true (is_as_declared (map as_var xs ++ logics) y) _ f in
      (var-again xs y a.0 b.0, vars-again xs ys a.1 b.1)

-- WHAT IS MADE OF SUCH VARIABLES
module _ (d : Declared) where
  abbrev pub Again : Var → Type 0
  Again x = sorted_var d x ≡ x

  pub term-again : (a : Term) → Each Again (variables_of_term a) → sorted_term d a ≡ a
  term-again (literal v) h = refl
  term-again (variable x) h = ap variable h.0
  term-again (sum a b) h =
      let x = each-parts Again (variables_of_term a) (variables_of_term b) h in
      ap₂ sum (term-again a x.0) (term-again b x.1)
  term-again (difference a b) h =
      let x = each-parts Again (variables_of_term a) (variables_of_term b) h in
      ap₂ difference (term-again a x.0) (term-again b x.1)
  term-again (appended a b) h =
      let x = each-parts Again (variables_of_term a) (variables_of_term b) h in
      ap₂ appended (term-again a x.0) (term-again b x.1)

  two-again : (a b : Term) → Each Again (variables_of_term a ++ variables_of_term b)
      → (sorted_term d a ≡ a) × (sorted_term d b ≡ b)
  two-again a b h = let x = each-parts Again (variables_of_term a) (variables_of_term b) h in
      (term-again a x.0, term-again b x.1)

  -- the sort that `is` gets from its variable
  is-again : (u : Sort) (a b : Term) → variable_at u a ≡ true → b ≡ a → sort_of_variable b u ≡ u
  is-again u (variable (logic name v)) b e same =
      ap (λ c. sort_of_variable c u) same ∙ sym (same_sort-is u v e)
  is-again u a b e same = false≢true e

  pub formula-again : (p : Named) (s : Sort) → AllPass (flags p s) → Each Again (variables_of p)
      → sorted_formula d p ≡ p
  formula-again truth s e h = refl
  formula-again falsity s e h = refl
  formula-again (conjunction p q) s e h =
      let f = passes-parts (λ flag. flag) (flags p s) (flags q s) (both_true _ _ e).1 in
      let x = each-parts Again (variables_of p) (variables_of q) h in
      ap₂ conjunction (formula-again p s f.0 x.0) (formula-again q s f.1 x.1)
  formula-again (disjunction p q) s e h =
      let f = passes-parts (λ flag. flag) (flags p s) (flags q s) (both_true _ _ e).1 in
      let x = each-parts Again (variables_of p) (variables_of q) h in
      ap₂ disjunction (formula-again p s f.0 x.0) (formula-again q s f.1 x.1)
  formula-again (implication p q) s e h =
      let f = passes-parts (λ flag. flag) (flags p s) (flags q s) (both_true _ _ e).1 in
      let x = each-parts Again (variables_of p) (variables_of q) h in
      ap₂ implication (formula-again p s f.0 x.0) (formula-again q s f.1 x.1)
  formula-again (negation p) s e h = ap negation (formula-again p s (both_true _ _ e).1 h)
  formula-again (existential x p) s e h =
      ap₂ existential h.0 (formula-again p s (both_true _ _ e).1 h.1)
  formula-again (universal x p) s e h =
      ap₂ universal h.0 (formula-again p s (both_true _ _ e).1 h.1)
  formula-again (equality a b) s e h = let x = two-again a b h in ap₂ equality x.0 x.1
  formula-again (at_most a b) s e h = let x = two-again a b h in ap₂ at_most x.0 x.1
  formula-again (empty k) s e h = refl
  formula-again (bare_hole k) s e h = refl
  formula-again (node_formula name number p list) s e h =
      let v = each-parts Again (variables_of_term name) _ h in
      let w = each-parts Again (variables_of_term number) _ v.1 in
      let x = each-parts Again (variables_of p) (variables_of_term list) w.1 in
      let a = term-again name v.0 in
      let b = term-again number w.0 in
      let r = formula-again p (with_outer forest s) (both_true _ _ e).1 x.0 in
      let c = term-again list x.1 in
      λ j. node_formula (a j) (b j) (r j) (c j)
  formula-again (one_tree p) s e h =
      ap one_tree (formula-again p (with_outer tree s) (both_true _ _ e).1 h)
  formula-again (one_root p) s e h =
      ap one_root (formula-again p (with_outer tree s) (both_true _ _ e).1 h)
  formula-again (concatenation side p q) s e h =
      let f = passes-parts (λ flag. flag) (flags p (left_sort side s)) (flags q (right_sort side s))
      (both_true _ _ e).1 in
      let x = each-parts Again (variables_of p) (variables_of q) h in
      ap₂ (concatenation side) (formula-again p (left_sort side s) f.0 x.0)
      (formula-again q (right_sort side s) f.1 x.1)
  formula-again (grove_sum p q) s e h =
      let f = passes-parts (λ flag. flag) (flags p s) (flags q s) (both_true _ _ e).1 in
      let x = each-parts Again (variables_of p) (variables_of q) h in
      ap₂ grove_sum (formula-again p s f.0 x.0) (formula-again q s f.1 x.1)
  formula-again (grove_sum_hole p q) s e h =
      let f = passes-parts (λ flag. flag) (flags p s) (flags q (shape grove)) (both_true _ _ e).1 in
      let x = each-parts Again (variables_of p) (variables_of q) h in
      ap₂ grove_sum_hole (formula-again p s f.0 x.0) (formula-again q (shape grove) f.1 x.1)
  formula-again (application k p q) s e h =
      let f = passes-parts (λ flag. flag) (flags p (context k (outer s))) (flags q (with_outer k s))
      (both_true _ _ e).1 in
      let x = each-parts Again (variables_of p) (variables_of q) h in
      ap₂ (application k) (formula-again p (context k (outer s)) f.0 x.0)
      (formula-again q (with_outer k s) f.1 x.1)
  formula-again (hole_adjoint p q) s e h =
      let f = passes-parts (λ flag. flag) (flags p (shape (inner s))) (flags q (shape (outer s)))
      (both_true _ _ e).1 in
      let x = each-parts Again (variables_of p) (variables_of q) h in
      ap₂ hole_adjoint (formula-again p (shape (inner s)) f.0 x.0)
      (formula-again q (shape (outer s)) f.1 x.1)
  formula-again (context_adjoint k p q) s e h =
      let f = passes-parts (λ flag. flag) (flags p (context (outer s) k)) (flags q (shape k))
      (both_true _ _ e).1 in
      let x = each-parts Again (variables_of p) (variables_of q) h in
      ap₂ (context_adjoint k) (formula-again p (context (outer s) k) f.0 x.0)
      (formula-again q (shape k) f.1 x.1)
  formula-again (same_as a) s e h = ap same_as (term-again a h)
  formula-again (length_is a) s e h = ap length_is (term-again a h)
  formula-again (value_meets u a p) s e h =
      let f = both_true _ _ e in
      let form = both_true (is_form s) _ f.0 in
      let x = each-parts Again (variables_of_term a) (variables_of p) h in
      let b = term-again a x.0 in
      let sort = is-again u a (sorted_term d a) (both_true (is_form u) _ form.1).1 b in
      let r = formula-again p u f.1 x.1 in
      λ j. value_meets (sort j) (b j) (r j)

  -- COMMANDS
  abbrev as_name : Var → ProgVar
  as_name (prog name s) = named name s
  as_name x = named [] node_sort

  name-again : (x : ProgVar) → Again (as_var x) → sorted_name d x ≡ x
  name-again (named name s) h = ap as_name h

  names-again : (xs : List ProgVar) → Each Again (map as_var xs) → map (sorted_name d) xs ≡ xs
  names-again [] h = refl
  names-again (x ∷ xs) h = ap₂ (λ y ys. y ∷ ys) (name-again x h.0) (names-again xs h.1)

  pub terms-again : (es : List Term) → Each Again (flat_map variables_of_term es)
      → map (sorted_term d) es ≡ es
  terms-again [] h = refl
  terms-again (a ∷ es) h =
      let x = each-parts Again (variables_of_term a) (flat_map variables_of_term es) h in
      ap₂ (λ b bs. b ∷ bs) (term-again a x.0) (terms-again es x.1)

  of-terms : (es : List Term) → Each Again (flat_map variables_of_term es)
      → Each (λ a. sorted_term d a ≡ a) es
  of-terms [] h = tt
  of-terms (a ∷ es) h =
      let x = each-parts Again (variables_of_term a) (flat_map variables_of_term es) h in
      (term-again a x.0, of-terms es x.1)

  condition-again : (c : Cond) → Each (λ a. sorted_term d a ≡ a) (terms_of_cond c)
      → sorted_cond d c ≡ c
  condition-again cond_true h = refl
  condition-again cond_false h = refl
  condition-again (cond_variable x) h = variable-again x h.0
    where
      var_in : Term → Var
      var_in (variable y) = y
      var_in a = bound 0 (value node_sort)

      variable-again : (x : ProgVar) → sorted_term d (variable (as_var x)) ≡ variable (as_var x)
          → cond_variable (sorted_name d x) ≡ cond_variable x
      variable-again x e = ap cond_variable (name-again x (ap var_in e))
  condition-again (cond_equal a b) h = ap₂ cond_equal h.0 h.1.0
  condition-again (cond_at_most a b) h = ap₂ cond_at_most h.0 h.1.0
  condition-again (cond_not c) h = ap cond_not (condition-again c h)
  condition-again (cond_and c e) h =
      let x = each-parts (λ a. sorted_term d a ≡ a) (terms_of_cond c) (terms_of_cond e) h in
      ap₂ cond_and (condition-again c x.0) (condition-again e x.1)
  condition-again (cond_or c e) h =
      let x = each-parts (λ a. sorted_term d a ≡ a) (terms_of_cond c) (terms_of_cond e) h in
      ap₂ cond_or (condition-again c x.0) (condition-again e x.1)

  -- the command by itself
  pub record IsAgain (c : Command) : Type 0 where
    pub targets : Each Again (map as_var (targets c))
    pub terms : Each (λ a. sorted_term d a ≡ a) (terms_of c)

  alone-again : (c : Command) → Each Again (own_variables c) → IsAgain c
  alone-again c h =
      let x = each-parts Again (map as_var (targets c)) (flat_map variables_of_term (terms_of c)) h
      in
      record { targets = x.0; terms = of-terms (terms_of c) x.1 }

  pub all-again : (cs : List Command) → Each Again (flat_map own_variables cs) → Each IsAgain cs
  all-again [] h = tt
  all-again (c ∷ cs) h =
      let x = each-parts Again (own_variables c) (flat_map own_variables cs) h in
      (alone-again c x.0, all-again cs x.1)

  map-each : (es : List Term) → Each (λ a. sorted_term d a ≡ a) es → map (sorted_term d) es ≡ es
  map-each [] h = refl
  map-each (a ∷ es) h = ap₂ (λ b bs. b ∷ bs) h.0 (map-each es h.1)

  mutual
    pub command-again : (c : Command) → Each IsAgain (commands_in c) → sorted_command d c ≡ c
    command-again skip h = refl
    command-again (block b) h = ap block (block-again b h.1)
    command-again (assign x a) h = ap₂ assign (name-again x h.0.targets.0) h.0.terms.0
    command-again (create_node x a) h = ap₂ create_node (name-again x h.0.targets.0) h.0.terms.0
    command-again (node_name x a) h = ap₂ node_name (name-again x h.0.targets.0) h.0.terms.0
    command-again (child_nodes x a) h = ap₂ child_nodes (name-again x h.0.targets.0) h.0.terms.0
    command-again (parent_node x a) h = ap₂ parent_node (name-again x h.0.targets.0) h.0.terms.0
    command-again (list_item x a b) h =
        let y = name-again x h.0.targets.0 in
        λ j. list_item (y j) (h.0.terms.0 j) (h.0.terms.1.0 j)
    command-again (append_child a b) h = ap₂ append_child h.0.terms.0 h.0.terms.1.0
    command-again (remove_child a b) h = ap₂ remove_child h.0.terms.0 h.0.terms.1.0
    command-again (insert_before a b c) h =
        λ j. insert_before (h.0.terms.0 j) (h.0.terms.1.0 j) (h.0.terms.1.1.0 j)
    command-again (if_else c a b) h =
        let x = each-parts IsAgain (commands_of a) (commands_of b) h.1 in
        let test = condition-again c h.0.terms in
        let first = block-again a x.0 in
        let other = block-again b x.1 in
        λ j. if_else (test j) (first j) (other j)
    command-again (while_do c b) h =
        ap₂ while_do (condition-again c h.0.terms) (block-again b h.1)
    command-again (local x b) h = ap (local x) (block-again b h.1)
    command-again (call results name arguments) h =
        ap₂ (λ xs es. call xs name es) (names-again results h.0.targets)
        (map-each arguments h.0.terms)

    block-again : (b : Block) → Each IsAgain (commands_of b) → sorted_block d b ≡ b
    block-again stop h = refl
    block-again (c then b) h =
        let x = each-parts IsAgain (commands_in c) (commands_of b) h in
        ap₂ (λ c b. c then b) (command-again c x.0) (block-again b x.1)
