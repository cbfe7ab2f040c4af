-- The words of formulas, commands and steps are those of the version, where their names are and
-- their commands.
use Rattle.std.proofs.Common.{◌≡◌, ℕ, true, false, not, ◌&&◌, ◌==◌, List, [], ◌∷◌, ◌++◌, map, pos, negsuc, refl, ap, sym, subst, bytes_eq, codes, is_some}
use Rattle.model_shapes.specs.Sorts.{ValueSort, node_sort, list_sort, int_sort, str_sort, bool_sort, DataSort, tree, forest, grove, Sort, value, shape, context}
use Rattle.model_shapes.specs.Values.{null, nolist, node_number, list_number, int, str, boolean}
use Rattle.model_terms.specs.Variables.{Var, prog, logic, bound}
use Rattle.model_terms.specs.Terms.{Term, literal, variable, sum, difference, appended}
use Rattle.model_terms.specs.Stores.{ProgVar, named, as_var}
use Rattle.model_terms.specs.Conditions.{Cond, cond_true, cond_false, cond_variable, cond_equal, cond_at_most, cond_not, cond_and, cond_or, terms_of_cond}
use Rattle.model_formulas.specs.Formulas.{Named, Side, whole, hole_left, hole_right, truth, falsity, conjunction, disjunction, implication, negation, existential, universal, equality, at_most, empty, bare_hole, node_formula, one_tree, one_root, concatenation, grove_sum, grove_sum_hole, application, hole_adjoint, context_adjoint, same_as, length_is, value_meets}
use Rattle.model_commands.specs.Commands.{Command, skip, block, assign, create_node, node_name, child_nodes, parent_node, list_item, append_child, remove_child, insert_before, if_else, while_do, local, call, Block, stop, ◌then◌}
use Rattle.model_commands.specs.CommandParts.{commands_in, commands_of, variables_of, variables_of_term}
use Rattle.model_commands.specs.Each.{Each}
use Rattle.model_commands.specs.Theories.{Procedures, procedure_named, entails, triple, by_rule}
use Rattle.model_text.specs.Lexemes.{Lexeme, terminal, name_lexeme, word_lexeme}
use Rattle.model_text.specs.Versions.{insert_word, IsOfVersion}
use Rattle.model_grammar.specs.Words.{the, ◌⌢◌}
use Rattle.model_grammar.specs.Writing.{name_lexemes, var_lexemes, term_lexemes, bracketed, cond_lexemes, value_sort_lexemes, behind_commas, listed, in_brackets, command_lexemes, block_lexemes, further_commands}
use Rattle.model_grammar.specs.TheoryWriting.{empty_sign, hole_sign, star_sign, at_sign, into_sign, formula_lexemes, data_sort_lexemes, sort_lexemes, number_lexemes, argument_lexemes, word_lexemes, reason_lexemes, judgement_lexemes}
use Rattle.model_round_trip.proofs.Versions.{one_by_one, rule_of_version}
use Rattle.filled_theory_laws.proofs.Declared.{each-both, each-parts, FitsName, Fits}
use Rattle.filled_theory_laws.proofs.WritableFormulas.{IsFitTerm}
use Rattle.filled_theory_laws.proofs.WritableCommands.{IsFitAlone}

module _ (version : ℕ) where
  abbrev pub AreWords : List Lexeme → Type 0
  AreWords = Each (IsOfVersion version)

  -- another word than the one that versions differ in
  word : (text : List ℕ) → bytes_eq text insert_word ≡ false → IsOfVersion version (terminal text)
  word text e = λ j. e j && not (version == 2)

  name : (text : List ℕ) → bytes_eq text insert_word ≡ false
      → IsOfVersion version (name_lexeme text)
  name text e = λ j. e j && (version == 2)

  one : (text : List ℕ) → bytes_eq text insert_word ≡ false → AreWords (terminal text ∷ [])
  one text e = (word text e, tt)

  both : (xs ys : List Lexeme) → AreWords xs → AreWords ys → AreWords (xs ++ ys)
  both = each-both (IsOfVersion version)

  in_round : (left sign right : List Lexeme) → AreWords left → AreWords sign → AreWords right
      → AreWords (bracketed left sign right)
  in_round left sign right h k l = (
    word (codes "(") refl,
    both left _ h (both sign _ k (both right _ l (one (codes ")") refl))),
  )

  -- TERMS
  var-words : (x : Var) → Fits version x → AreWords (var_lexemes x)
  var-words (prog name s) h = (h.1, tt)
  var-words (logic name s) h = (tt, tt)
  var-words (bound i s) h = tt

  braces-words : (sign : List ℕ) → bytes_eq sign insert_word ≡ false → (left right : List Lexeme)
      → AreWords left → AreWords right
      → AreWords (the "{" ⌢ left ⌢ (terminal sign ∷ []) ⌢ right ⌢ the "}")
  braces-words sign e left right h k = (
    word (codes "{") refl,
    both left _ h (word sign e, both right _ k (one (codes "}") refl)),
  )

  pub term-words : (a : Term) → Each (Fits version) (variables_of_term a)
      → AreWords (term_lexemes a)
  term-words (literal null) h = one (codes "null") refl
  term-words (literal nolist) h = one (codes "nolist") refl
  term-words (literal (node_number n)) h = tt
  term-words (literal (list_number n)) h = tt
  term-words (literal (int (pos n))) h = (tt, tt)
  term-words (literal (int (negsuc n))) h = (word (codes "-") refl, (tt, tt))
  term-words (literal (str text)) h = (tt, tt)
  term-words (literal (boolean true)) h = one (codes "yes") refl
  term-words (literal (boolean false)) h = one (codes "no") refl
  term-words (variable x) h = var-words x h.0
  term-words (sum a b) h =
      let x = each-parts (Fits version) (variables_of_term a) (variables_of_term b) h in
      braces-words (codes "+") refl (term_lexemes a) (term_lexemes b) (term-words a x.0)
      (term-words b x.1)
  term-words (difference a b) h =
      let x = each-parts (Fits version) (variables_of_term a) (variables_of_term b) h in
      braces-words (codes "-") refl (term_lexemes a) (term_lexemes b) (term-words a x.0)
      (term-words b x.1)
  term-words (appended a b) h =
      let x = each-parts (Fits version) (variables_of_term a) (variables_of_term b) h in
      braces-words (codes "++") refl (term_lexemes a) (term_lexemes b) (term-words a x.0)
      (term-words b x.1)

  -- FORMULAS
  empty-words : (k : DataSort) → AreWords (empty_sign k)
  empty-words tree = tt
  empty-words forest = one (codes "0f") refl
  empty-words grove = one (codes "0g") refl

  hole-words : (k : DataSort) → AreWords (hole_sign k)
  hole-words tree = one (codes "?t") refl
  hole-words forest = one (codes "?f") refl
  hole-words grove = one (codes "?g") refl

  at-words : (k : DataSort) → AreWords (at_sign k)
  at-words tree = one (codes "@t") refl
  at-words forest = one (codes "@f") refl
  at-words grove = one (codes "@g") refl

  into-words : (k : DataSort) → AreWords (into_sign k)
  into-words tree = one (codes "o-t") refl
  into-words forest = one (codes "o-f") refl
  into-words grove = one (codes "o-g") refl

  star-words : (side : Side) → AreWords (star_sign side)
  star-words whole = one (codes "*") refl
  star-words hole_left = one (codes ".*") refl
  star-words hole_right = one (codes "*.") refl

  binder-words : (kind : List ℕ) → bytes_eq kind insert_word ≡ false → (x : Var) → Fits version x
      → (inner : List Lexeme) → AreWords inner
      → AreWords (the "(" ⌢ (terminal kind ∷ []) ⌢ var_lexemes x ⌢ the "." ⌢ inner ⌢ the ")")
  binder-words kind e x h inner k = (
    word (codes "(") refl,
    (
      word kind e,
      both (var_lexemes x) _ (var-words x h)
          (word (codes ".") refl, both inner _ k (one (codes ")") refl)),
    ),
  )

  comparison-words : (sign : List ℕ) → bytes_eq sign insert_word ≡ false → (a b : Term)
      → Each (Fits version) (variables_of_term a ++ variables_of_term b)
      → AreWords (term_lexemes a ⌢ (terminal sign ∷ []) ⌢ term_lexemes b)
  comparison-words sign e a b h =
      let x = each-parts (Fits version) (variables_of_term a) (variables_of_term b) h in
      both (term_lexemes a) _ (term-words a x.0) (word sign e, term-words b x.1)

  pub formula-words : (p : Named) → Each (Fits version) (variables_of p)
      → AreWords (formula_lexemes p)
  formula-words truth h = one (codes "true") refl
  formula-words falsity h = one (codes "false") refl
  formula-words (conjunction p q) h =
      let x = each-parts (Fits version) (variables_of p) (variables_of q) h in
      in_round (formula_lexemes p) (the "and") (formula_lexemes q) (formula-words p x.0)
      (one (codes "and") refl) (formula-words q x.1)
  formula-words (disjunction p q) h =
      let x = each-parts (Fits version) (variables_of p) (variables_of q) h in
      in_round (formula_lexemes p) (the "or") (formula_lexemes q) (formula-words p x.0)
      (one (codes "or") refl) (formula-words q x.1)
  formula-words (implication p q) h =
      let x = each-parts (Fits version) (variables_of p) (variables_of q) h in
      in_round (formula_lexemes p) (the "->") (formula_lexemes q) (formula-words p x.0)
      (one (codes "->") refl) (formula-words q x.1)
  formula-words (negation p) h = (
    word (codes "(") refl,
    (
      word (codes "not") refl,
      both (formula_lexemes p) _ (formula-words p h) (one (codes ")") refl),
    ),
  )
  formula-words (existential x p) h =
      binder-words (codes "exists") refl x h.0 _ (formula-words p h.1)
  formula-words (universal x p) h =
      binder-words (codes "forall") refl x h.0 _ (formula-words p h.1)
  formula-words (equality a b) h = comparison-words (codes "=") refl a b h
  formula-words (at_most a b) h = comparison-words (codes "<=") refl a b h
  formula-words (empty k) h = empty-words k
  formula-words (bare_hole k) h = hole-words k
  formula-words (node_formula a b p c) h =
      let v = each-parts (Fits version) (variables_of_term a) _ h in
      let w = each-parts (Fits version) (variables_of_term b) _ v.1 in
      let x = each-parts (Fits version) (variables_of p) (variables_of_term c) w.1 in
      both (term_lexemes a) _ (term-words a v.0) (
        word (codes "#") refl,
        both (term_lexemes b) _ (term-words b w.0) (
          word (codes "[") refl,
          both (formula_lexemes p) _ (formula-words p x.0)
              (word (codes "]") refl, (word (codes "%") refl, term-words c x.1)),
        ),
      )
  formula-words (one_tree p) h = (
    word (codes "<") refl,
    both (formula_lexemes p) _ (formula-words p h) (one (codes ">") refl),
  )
  formula-words (one_root p) h = (
    word (codes "[") refl,
    both (formula_lexemes p) _ (formula-words p h) (one (codes "]") refl),
  )
  formula-words (concatenation side p q) h =
      let x = each-parts (Fits version) (variables_of p) (variables_of q) h in
      in_round (formula_lexemes p) (star_sign side) (formula_lexemes q) (formula-words p x.0)
      (star-words side) (formula-words q x.1)
  formula-words (grove_sum p q) h =
      let x = each-parts (Fits version) (variables_of p) (variables_of q) h in
      in_round (formula_lexemes p) (the "+") (formula_lexemes q) (formula-words p x.0)
      (one (codes "+") refl) (formula-words q x.1)
  formula-words (grove_sum_hole p q) h =
      let x = each-parts (Fits version) (variables_of p) (variables_of q) h in
      in_round (formula_lexemes p) (the ".+") (formula_lexemes q) (formula-words p x.0)
      (one (codes ".+") refl) (formula-words q x.1)
  formula-words (application k p q) h =
      let x = each-parts (Fits version) (variables_of p) (variables_of q) h in
      in_round (formula_lexemes p) (at_sign k) (formula_lexemes q) (formula-words p x.0)
      (at-words k) (formula-words q x.1)
  formula-words (hole_adjoint p q) h =
      let x = each-parts (Fits version) (variables_of p) (variables_of q) h in
      in_round (formula_lexemes p) (the "-o") (formula_lexemes q) (formula-words p x.0)
      (one (codes "-o") refl) (formula-words q x.1)
  formula-words (context_adjoint k p q) h =
      let x = each-parts (Fits version) (variables_of p) (variables_of q) h in
      in_round (formula_lexemes p) (into_sign k) (formula_lexemes q) (formula-words p x.0)
      (into-words k) (formula-words q x.1)
  formula-words (same_as a) h = term-words a h
  formula-words (length_is a) h = (word (codes "len") refl, term-words a h)
  formula-words (value_meets s a p) h =
      let x = each-parts (Fits version) (variables_of_term a) (variables_of p) h in
      in_round (term_lexemes a) (the "is") (formula_lexemes p) (term-words a x.0)
      (one (codes "is") refl) (formula-words p x.1)

  -- WORDS FOR SORTS
  value-words : (s : ValueSort) → AreWords (value_sort_lexemes s)
  value-words node_sort = (name (codes "node") refl, tt)
  value-words list_sort = (name (codes "list") refl, tt)
  value-words int_sort = (name (codes "int") refl, tt)
  value-words str_sort = (name (codes "str") refl, tt)
  value-words bool_sort = (name (codes "bool") refl, tt)

  data-words : (k : DataSort) → AreWords (data_sort_lexemes k)
  data-words tree = (name (codes "t") refl, tt)
  data-words forest = (name (codes "f") refl, tt)
  data-words grove = (name (codes "g") refl, tt)

  sort-words : (s : Sort) → AreWords (sort_lexemes s)
  sort-words (value s) = value-words s
  sort-words (shape k) = data-words k
  sort-words (context tree tree) = (name (codes "tt") refl, tt)
  sort-words (context tree forest) = (name (codes "tf") refl, tt)
  sort-words (context tree grove) = (name (codes "tg") refl, tt)
  sort-words (context forest tree) = (name (codes "ft") refl, tt)
  sort-words (context forest forest) = (name (codes "ff") refl, tt)
  sort-words (context forest grove) = (name (codes "fg") refl, tt)
  sort-words (context grove tree) = tt
  sort-words (context grove forest) = tt
  sort-words (context grove grove) = (name (codes "gg") refl, tt)

  -- LISTS
  further-words : (parts : List (List Lexeme)) → Each AreWords parts
      → AreWords (behind_commas parts)
  further-words [] h = tt
  further-words (x ∷ xs) h = (word (codes ",") refl, both x _ h.0 (further-words xs h.1))

  listed-words : (parts : List (List Lexeme)) → Each AreWords parts → AreWords (listed parts)
  listed-words [] h = tt
  listed-words (x ∷ xs) h = both x _ h.0 (further-words xs h.1)

  pub brackets-words : (parts : List (List Lexeme)) → Each AreWords parts
      → AreWords (in_brackets parts)
  brackets-words parts h = (
    word (codes "(") refl,
    both (listed parts) _ (listed-words parts h) (one (codes ")") refl),
  )

  pub terms-words : (es : List Term) → Each (λ a. Each (Fits version) (variables_of_term a)) es
      → Each AreWords (map term_lexemes es)
  terms-words [] h = tt
  terms-words (a ∷ es) h = (term-words a h.0, terms-words es h.1)

  fit-words : (es : List Term) → Each (IsFitTerm version) es → Each AreWords (map term_lexemes es)
  fit-words [] h = tt
  fit-words (a ∷ es) h = (term-words a h.0.variables, fit-words es h.1)

  names-words : (xs : List ProgVar) → Each (Fits version) (map as_var xs)
      → Each AreWords (map name_lexemes xs)
  names-words [] h = tt
  names-words (named name s ∷ xs) h = ((h.0.1, tt), names-words xs h.1)

  pub numbers-words : (ns : List ℕ) → Each AreWords (map number_lexemes ns)
  numbers-words [] = tt
  numbers-words (n ∷ ns) = ((tt, tt), numbers-words ns)

  -- CONDITIONS
  equal-words : (sign : List ℕ) → bytes_eq sign insert_word ≡ false → (a b : Term)
      → IsFitTerm version a → IsFitTerm version b
      → AreWords (term_lexemes a ⌢ (terminal sign ∷ []) ⌢ term_lexemes b)
  equal-words sign e a b h k =
      both (term_lexemes a) _ (term-words a h.variables) (word sign e, term-words b k.variables)

  condition-words : (c : Cond) → Each (IsFitTerm version) (terms_of_cond c)
      → AreWords (cond_lexemes c)
  condition-words cond_true h = one (codes "true") refl
  condition-words cond_false h = one (codes "false") refl
  condition-words (cond_variable (named name s)) h = (h.0.variables.0.1, tt)
  condition-words (cond_equal a b) h = equal-words (codes "=") refl a b h.0 h.1.0
  condition-words (cond_at_most a b) h = equal-words (codes "<=") refl a b h.0 h.1.0
  condition-words (cond_not c) h = (
    word (codes "(") refl,
    (
      word (codes "not") refl,
      both (cond_lexemes c) _ (condition-words c h) (one (codes ")") refl),
    ),
  )
  condition-words (cond_and c d) h =
      let x = each-parts (IsFitTerm version) (terms_of_cond c) (terms_of_cond d) h in
      in_round (cond_lexemes c) (the "and") (cond_lexemes d) (condition-words c x.0)
      (one (codes "and") refl) (condition-words d x.1)
  condition-words (cond_or c d) h =
      let x = each-parts (IsFitTerm version) (terms_of_cond c) (terms_of_cond d) h in
      in_round (cond_lexemes c) (the "or") (cond_lexemes d) (condition-words c x.0)
      (one (codes "or") refl) (condition-words d x.1)

  -- COMMANDS
  module _ (procedures : Procedures)
      (named-here : (name : List ℕ) → is_some (procedure_named name procedures) ≡ true
      → FitsName version name) where
    abbrev AreFit : List Command → Type 0
    AreFit = Each (IsFitAlone version procedures)

    set-words : (x : ProgVar) → Fits version (as_var x) → (right : List Lexeme) → AreWords right
        → AreWords (name_lexemes x ⌢ the ":=" ⌢ right)
    set-words (named name s) h right k = (h.1, (word (codes ":=") refl, k))

    query-words : (query : List ℕ) → bytes_eq query insert_word ≡ false → (x : ProgVar) (a : Term)
        → Fits version (as_var x) → Each (IsFitTerm version) (a ∷ [])
        → AreWords (name_lexemes x ⌢ the ":=" ⌢ (terminal query ∷ [])
        ⌢ in_brackets (term_lexemes a ∷ []))
    query-words query e x a h k =
        set-words x h _ (
          word query e,
          brackets-words (map term_lexemes (a ∷ []))
              (fit-words (a ∷ []) k),
        )

    mutual
      pub command-words : (c : Command) → AreFit (commands_in c) → AreWords (command_lexemes c)
      command-words skip h = one (codes "skip") refl
      command-words (block b) h = block-words b h.1
      command-words (assign x a) h =
          set-words x h.0.targets.0 _ (term-words a h.0.terms.0.variables)
      command-words (create_node x a) h =
          query-words (codes "createNode") refl x a h.0.targets.0 h.0.terms
      command-words (node_name x a) h =
          query-words (codes "nodeName") refl x a h.0.targets.0 h.0.terms
      command-words (child_nodes x a) h =
          query-words (codes "childNodes") refl x a h.0.targets.0 h.0.terms
      command-words (parent_node x a) h =
          query-words (codes "parentNode") refl x a h.0.targets.0 h.0.terms
      command-words (list_item x a b) h =
          set-words x h.0.targets.0 _ (
            word (codes "item") refl,
            brackets-words (map term_lexemes (a ∷ b ∷ [])) (fit-words (a ∷ b ∷ []) h.0.terms),
          )
      command-words (append_child a b) h = (
        word (codes "appendChild") refl,
        brackets-words (map term_lexemes (a ∷ b ∷ [])) (fit-words (a ∷ b ∷ []) h.0.terms),
      )
      command-words (remove_child a b) h = (
        word (codes "removeChild") refl,
        brackets-words (map term_lexemes (a ∷ b ∷ [])) (fit-words (a ∷ b ∷ []) h.0.terms),
      )
      command-words (insert_before a b c) h = (
        ap (λ second. bytes_eq insert_word insert_word && not second) h.0.of_version,
        brackets-words (map term_lexemes (a ∷ b ∷ c ∷ [])) (fit-words (a ∷ b ∷ c ∷ []) h.0.terms),
      )
      command-words (if_else c a b) h =
          let x = each-parts (IsFitAlone version procedures) (commands_of a) (commands_of b) h.1
          in (
            word (codes "if") refl,
            both (cond_lexemes c) _ (condition-words c h.0.terms)
                (both (block_lexemes a) _ (block-words a x.0)
                (word (codes "else") refl, block-words b x.1)),
          )
      command-words (while_do c b) h = (
        word (codes "while") refl,
        both (cond_lexemes c) _ (condition-words c h.0.terms) (block-words b h.1),
      )
      command-words (local (named name s) b) h = (
        word (codes "local") refl,
        (
          h.0.targets.0.1,
          (
            word (codes ":") refl,
            both (value_sort_lexemes s) _ (value-words s) (block-words b h.1),
          ),
        ),
      )
      command-words (call xs name es) h = (
        word (codes "call") refl,
        both (in_brackets (map name_lexemes xs)) _
            (brackets-words (map name_lexemes xs) (names-words xs h.0.targets)) (
              word (codes ":=") refl,
              (
                (named-here name h.0.callee).1,
                brackets-words (map term_lexemes es) (fit-words es h.0.terms),
              ),
            ),
      )

      block-words : (b : Block) → AreFit (commands_of b) → AreWords (block_lexemes b)
      block-words stop h = (word (codes "{") refl, one (codes "}") refl)
      block-words (c then b) h =
          let x = each-parts (IsFitAlone version procedures) (commands_in c) (commands_of b) h in (
            word (codes "{") refl,
            both (command_lexemes c) _ (command-words c x.0)
                (both (further_commands b) _ (further-commands b x.1) (one (codes "}") refl)),
          )

      further-commands : (b : Block) → AreFit (commands_of b) → AreWords (further_commands b)
      further-commands stop h = tt
      further-commands (c then b) h =
          let x = each-parts (IsFitAlone version procedures) (commands_in c) (commands_of b) h in (
            word (codes ";") refl,
            both (command_lexemes c) _ (command-words c x.0) (further-commands b x.1),
          )

  -- STEPS
  pub reason-words : (rule : List ℕ) (citations : List ℕ) (arguments : List Term)
      → AreWords (argument_lexemes arguments)
      → AreWords (reason_lexemes version (by_rule rule citations arguments))
  reason-words rule citations arguments h = (
    word (codes "by") refl,
    both (word_lexemes version rule) _
        (subst AreWords (sym (one_by_one version (word_lexeme rule 0 ∷ [])))
        (rule_of_version version rule, tt))
        (both (in_brackets (map number_lexemes citations)) (argument_lexemes arguments)
        (brackets-words (map number_lexemes citations) (numbers-words citations)) h),
  )

  pub arguments-words : (es : List Term) → Each (λ a. Each (Fits version) (variables_of_term a)) es
      → AreWords (argument_lexemes es)
  arguments-words [] h = tt
  arguments-words (a ∷ es) h = (
    word (codes "with") refl,
    brackets-words (map term_lexemes (a ∷ es))
        (terms-words (a ∷ es) h),
  )

  pub entails-words : (p q : Named) (s : Sort) → AreWords (formula_lexemes p)
      → AreWords (formula_lexemes q) → AreWords (judgement_lexemes (entails p q s))
  entails-words p q s h k =
      both (formula_lexemes p) _ h (
        word (codes "entails") refl,
        both (formula_lexemes q) _ k (word (codes "at") refl, sort-words s),
      )

  pub triple-words : (p : Named) (c : Command) (q : Named) (k : DataSort)
      → AreWords (formula_lexemes p) → AreWords (command_lexemes c)
      → AreWords (formula_lexemes q) → AreWords (judgement_lexemes (triple p c q k))
  triple-words p c q k h l m = (
    word (codes "pre") refl,
    both (formula_lexemes p) _ h (
      word (codes "do") refl,
      both (command_lexemes c) _ l (
        word (codes "post") refl,
        both (formula_lexemes q) _ m (word (codes "at") refl, data-words k),
      ),
    ),
  )
