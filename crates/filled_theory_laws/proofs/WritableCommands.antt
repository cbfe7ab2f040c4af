-- Commands that pass the tests of files, with variables that can be written and integers that have
-- literals, can be written.
use Rattle.std.proofs.Common.{◌≡◌, ℕ, Bool, true, false, ◌&&◌, List, [], ◌∷◌, map, Option, Some, None, is_some, refl, subst, sym, cond, bytes_eq}
use Rattle.model_shapes.specs.Sorts.{ValueSort, node_sort, list_sort, int_sort, str_sort, bool_sort}
use Rattle.model_shapes.proofs.Truth.{both_true, false≢true}
use Rattle.model_shapes.proofs.Tests.{bytes-is}
use Rattle.model_terms.specs.Terms.{Term, variable}
use Rattle.model_terms.specs.TermSorts.{evaluates, evaluate_alike, has_sort}
use Rattle.model_terms.specs.Stores.{ProgVar, named, as_var, sort_of}
use Rattle.model_terms.specs.Conditions.{Cond, cond_true, cond_false, cond_variable, cond_equal, cond_at_most, cond_not, cond_and, cond_or, terms_of_cond, condition_sorted}
use Rattle.model_formulas.specs.Formulas.{Named}
use Rattle.model_commands.specs.Commands.{Command, skip, block, assign, create_node, node_name, child_nodes, parent_node, list_item, append_child, remove_child, insert_before, if_else, while_do, local, call, Block, stop, ◌then◌}
use Rattle.model_commands.specs.CommandParts.{commands_in, commands_of, targets, terms_of}
use Rattle.model_commands.specs.Each.{Each}
use Rattle.model_commands.specs.SortTests.{feeds, call_fits, has_command, parts_fit, callee_known}
use Rattle.model_commands.specs.Theories.{Procedure, ProcedureOf, Procedures, procedure_named, nameless_procedure}
use Rattle.model_files.specs.FileFaults.{is_of_version}
use Rattle.model_grammar.specs.Terms.{in_command}
use Rattle.model_grammar.specs.Writable.{IsWritableName, IsWritableTerm, IsWritableCondition, IsWritableCommand, IsWritableBlock, AreWritable}
use Rattle.filled_theory_laws.proofs.Declared.{either_true, each-parts, FitsName, Fits}
use Rattle.filled_theory_laws.proofs.WritableFormulas.{sorted-stands, IsFitTerm, term-writable, plain-writable}

-- a procedure that is found has one of the names
pub found-name : (P : List ℕ → Type 0) (fs : List (ProcedureOf Named)) → Each (λ f. P f.name) fs
    → (name : List ℕ) → is_some (procedure_named name (map nameless_procedure fs)) ≡ true → P name
found-name P [] h name e = false≢true e
found-name P (f ∷ fs) h name e =
    at (bytes_eq name f.name) refl (found-name P fs h.1 name) e
  where
    at : (b : Bool) → bytes_eq name f.name ≡ b
        → (is_some (procedure_named name (map nameless_procedure fs)) ≡ true → P name)
        → is_some (cond b (Some (nameless_procedure f))
        (procedure_named name (map nameless_procedure fs))) ≡ true → P name
    at true same rest e = subst P (sym (bytes-is name f.name same)) h.0
    at false other rest e = rest e

module _ (version : ℕ) (procedures : Procedures) where
  -- the command by itself passes the tests, and what stands in it fits
  pub record IsFitAlone (c : Command) : Type 0 where
    pub targets : Each (Fits version) (map as_var (targets c))
    pub terms : Each (IsFitTerm version) (terms_of c)
    pub parts : parts_fit procedures c ≡ true
    pub callee : callee_known procedures c ≡ true
    pub of_version : is_of_version version c ≡ true

  name-writable : (x : ProgVar) → Fits version (as_var x) → IsWritableName x
  name-writable (named name s) h = h.0

  names-writable : (xs : List ProgVar) → Each (Fits version) (map as_var xs)
      → Each IsWritableName xs
  names-writable [] h = tt
  names-writable (x ∷ xs) h = (name-writable x h.0, names-writable xs h.1)

  evaluated : (s : ValueSort) (a : Term) → evaluates s a ≡ true → IsFitTerm version a
      → IsWritableTerm in_command a
  evaluated s a e h = let both = both_true (has_sort s a) _ e in
      plain-writable version a (term-writable version a (sorted-stands s a both.0) h) both.1

  two-evaluated : (a b : Term) → IsFitTerm version a → IsFitTerm version b → (s : ValueSort)
      → (evaluates s a && evaluates s b) ≡ true
      → IsWritableTerm in_command a × IsWritableTerm in_command b
  two-evaluated a b h k s e = let both = both_true (evaluates s a) (evaluates s b) e in
      (evaluated s a both.0 h, evaluated s b both.1 k)

  alike-evaluated : (a b : Term) → IsFitTerm version a → IsFitTerm version b
      → evaluate_alike a b ≡ true → IsWritableTerm in_command a × IsWritableTerm in_command b
  alike-evaluated a b h k =
      let one = two-evaluated a b h k in
      either_true _ _ (one node_sort)
      (either_true _ _ (one list_sort)
      (either_true _ _ (one int_sort)
      (either_true _ _ (one str_sort) (either_true _ _ (one bool_sort) (λ e. false≢true e)))))

  -- CONDITIONS
  condition-writable : (c : Cond) → condition_sorted c ≡ true
      → Each (IsFitTerm version) (terms_of_cond c) → IsWritableCondition c
  condition-writable cond_true e h = tt
  condition-writable cond_false e h = tt
  condition-writable (cond_variable x) e h = variable-writable x h.0
    where
      variable-writable : (x : ProgVar) → IsFitTerm version (variable (as_var x)) → IsWritableName x
      variable-writable (named name s) h = h.variables.0.0
  condition-writable (cond_equal a b) e h = alike-evaluated a b h.0 h.1.0 e
  condition-writable (cond_at_most a b) e h = two-evaluated a b h.0 h.1.0 int_sort e
  condition-writable (cond_not c) e h = condition-writable c e h
  condition-writable (cond_and c d) e h =
      let both = both_true (condition_sorted c) _ e in
      let x = each-parts (IsFitTerm version) (terms_of_cond c) (terms_of_cond d) h in
      (condition-writable c both.0 x.0, condition-writable d both.1 x.1)
  condition-writable (cond_or c d) e h =
      let both = both_true (condition_sorted c) _ e in
      let x = each-parts (IsFitTerm version) (terms_of_cond c) (terms_of_cond d) h in
      (condition-writable c both.0 x.0, condition-writable d both.1 x.1)

  -- CALLS
  fed-writable : (xs : List ProgVar) (es : List Term) → feeds xs es ≡ true
      → Each (IsFitTerm version) es → Each (IsWritableTerm in_command) es
  fed-writable [] [] e h = tt
  fed-writable [] (a ∷ es) e h = false≢true e
  fed-writable (x ∷ xs) [] e h = tt
  fed-writable (x ∷ xs) (a ∷ es) e h =
      let both = both_true (evaluates (sort_of x) a) _ e in
      (evaluated (sort_of x) a both.0 h.0, fed-writable xs es both.1 h.1)

  called-writable : (o : Option Procedure) (results : List ProgVar) (es : List Term)
      → is_some o ≡ true → call_fits o results es ≡ true → Each (IsFitTerm version) es
      → Each (IsWritableTerm in_command) es
  called-writable None results es there e h = false≢true there
  called-writable (Some f) results es there e h =
      fed-writable f.params es (both_true (feeds f.params es) _ e).0 h

  module _ (named-here : (name : List ℕ) → is_some (procedure_named name procedures) ≡ true
      → FitsName version name) where
    abbrev AreFit : List Command → Type 0
    AreFit = Each IsFitAlone

    -- a variable that is set, and the term of the sort that it is set to
    set-writable : (x : ProgVar) (s : ValueSort) (a : Term) → Each (Fits version) (as_var x ∷ [])
        → evaluates s a ≡ true → IsFitTerm version a
        → IsWritableName x × IsWritableTerm in_command a
    set-writable x s a h e k = (name-writable x h.0, evaluated s a e k)

    mutual
      pub command-writable : (c : Command) → AreFit (commands_in c) → IsWritableCommand c
      command-writable skip h = tt
      command-writable (block b) h = block-writable b h.0.parts h.1
      command-writable (assign x a) h =
          set-writable x (sort_of x) a h.0.targets h.0.parts h.0.terms.0
      command-writable (create_node x a) h =
          set-writable x str_sort a h.0.targets (both_true _ _ h.0.parts).1 h.0.terms.0
      command-writable (node_name x a) h =
          set-writable x node_sort a h.0.targets (both_true _ _ h.0.parts).1 h.0.terms.0
      command-writable (child_nodes x a) h =
          set-writable x node_sort a h.0.targets (both_true _ _ h.0.parts).1 h.0.terms.0
      command-writable (parent_node x a) h =
          set-writable x node_sort a h.0.targets (both_true _ _ h.0.parts).1 h.0.terms.0
      command-writable (list_item x a b) h =
          let both = both_true (evaluates list_sort a) (evaluates int_sort b)
          (both_true _ _ h.0.parts).1 in (
            name-writable x h.0.targets.0,
            evaluated list_sort a both.0 h.0.terms.0,
            evaluated int_sort b both.1 h.0.terms.1.0,
          )
      command-writable (append_child a b) h =
          two-evaluated a b h.0.terms.0 h.0.terms.1.0 node_sort h.0.parts
      command-writable (remove_child a b) h =
          two-evaluated a b h.0.terms.0 h.0.terms.1.0 node_sort h.0.parts
      command-writable (insert_before a b c) h =
          let first = both_true (evaluates node_sort a) _ h.0.parts in
          let both = both_true (evaluates node_sort b) (evaluates node_sort c) first.1 in (
            evaluated node_sort a first.0 h.0.terms.0,
            evaluated node_sort b both.0 h.0.terms.1.0,
            evaluated node_sort c both.1 h.0.terms.1.1.0,
          )
      command-writable (if_else c a b) h =
          let e = both_true (condition_sorted c) _ h.0.parts in
          let f = both_true (has_command a) (has_command b) e.1 in
          let x = each-parts IsFitAlone (commands_of a) (commands_of b) h.1 in (
            condition-writable c e.0 h.0.terms,
            block-writable a f.0 x.0,
            block-writable b f.1 x.1,
          )
      command-writable (while_do c b) h =
          let e = both_true (condition_sorted c) _ h.0.parts in
          (condition-writable c e.0 h.0.terms, block-writable b e.1 h.1)
      command-writable (local x b) h =
          (name-writable x h.0.targets.0, block-writable b h.0.parts h.1)
      command-writable (call results name arguments) h = (
        names-writable results h.0.targets,
        (named-here name h.0.callee).0,
        called-writable (procedure_named name procedures) results arguments h.0.callee h.0.parts
            h.0.terms,
      )

      block-writable : (b : Block) → has_command b ≡ true → AreFit (commands_of b)
          → IsWritableBlock b
      block-writable stop e h = false≢true e
      block-writable (c then b) e h =
          let x = each-parts IsFitAlone (commands_in c) (commands_of b) h in
          (command-writable c x.0, further-writable b x.1)

      further-writable : (b : Block) → AreFit (commands_of b) → AreWritable b
      further-writable stop h = tt
      further-writable (c then b) h =
          let x = each-parts IsFitAlone (commands_in c) (commands_of b) h in
          (command-writable c x.0, further-writable b x.1)
