-- Procedures and heads are read exactly.
use Rattle.std.proofs.Common.{◌≡◌, ℕ, Bool, true, false, ◌&&◌, List, [], ◌∷◌, map, refl, sym, ap, ◌∙◌}
use Rattle.std.specs.List.{list_all}
use Rattle.model_shapes.specs.Sorts.{DataSort, is_sort}
use Rattle.model_terms.specs.Variables.{Var, var_sort}
use Rattle.model_terms.specs.Stores.{ProgVar, named}
use Rattle.model_formulas.specs.Formulas.{Named}
use Rattle.model_commands.specs.Each.{Each}
use Rattle.model_commands.specs.Commands.{Command}
use Rattle.model_commands.specs.Theories.{ProcedureOf, Theory}
use Rattle.model_text.specs.Lexemes.{Lexeme, name_lexeme}
use Rattle.model_text.specs.Versions.{IsOfVersion}
use Rattle.model_grammar.specs.Words.{the, ◌⌢◌}
use Rattle.model_grammar.specs.Writing.{name_lexemes, var_lexemes, value_sort_lexemes, in_brackets, command_lexemes}
use Rattle.model_grammar.specs.TheoryWriting.{formula_lexemes, data_sort_lexemes, sort_lexemes, declaration_lexemes, logic_line, procedure_lines, procedures_lines}
use Rattle.model_round_trip.specs.Writable.{IsNumeral, IsDeclarable, IsWritableProcedure, HasOne, IsWritableTheory}
use Rattle.model_certificates.specs.Commands.{procedure_bytes, head_bytes}
use Rattle.model_certificates.specs.Bounds.{levels, ProcedureFits, HeadFits}
use Rattle.model_certificates.specs.Reading.{is_free, formula_at}
use Rattle.model_certificates.specs.CommandReading.{has_one, procedure_at, declared_at, head_at}
use Rattle.model_certificates.proofs.Words.{and_true, are_of, are_said, are_held, before_sign, behind_sign, between, value_sort_words, data_sort_words, sort_words, mapped, each_both, each_parts}
use Rattle.model_certificates.proofs.Exact.{both_true, are_true, Spelling, Exact, made_exact, both_exact, linked_exact, kept_exact}
use Rattle.model_certificates.proofs.Leaves.{name_exact, data_sort_exact, prog_var_exact, logic_vars, logic_var_exact, listed_exact}
use Rattle.model_certificates.proofs.FormulaReaders.{formulas, formula_exact, logic_words}
use Rattle.model_certificates.proofs.CommandReaders.{numeral_exact, command_exact}

-- ---- procedures

-- of a procedure without a proof
without_proof : (p : ProcedureOf Named) → [] ≡ p.proof → ◌≡◌ {A = ProcedureOf Named} (record {
  name = p.name;
  params = p.params;
  results = p.results;
  sort = p.sort;
  pre = p.pre;
  post = p.post;
  body = p.body;
  proof = [];
}) p
without_proof p e = λ i. record {
  name = p.name;
  params = p.params;
  results = p.results;
  sort = p.sort;
  pre = p.pre;
  post = p.post;
  body = p.body;
  proof = e i;
}

module _ (v : ℕ) where
  -- the words of lines
  abbrev pub lines_of : List (List Lexeme) → Bool
  lines_of lines = list_all (are_of v) lines

  abbrev pub procedures : Spelling (ProcedureOf Named)
  procedures = record {
    bytes = procedure_bytes;
    Writes = IsWritableProcedure;
    Fits = ProcedureFits;
    words = λ p. lines_of (procedure_lines v p);
  }

  abbrev names_are : List ProgVar → Bool
  names_are xs = list_all (λ x. are_of v (name_lexemes x)) xs

  declaration_words : (x : ProgVar)
      → are_of v (declaration_lexemes x) ≡ are_of v (name_lexemes x)
  declaration_words (named name s) =
      before_sign v (name_lexeme name ∷ []) (the ":" ⌢ value_sort_lexemes s) (value_sort_words v s)

  declarations_words : (xs : List ProgVar)
      → are_of v (in_brackets (map declaration_lexemes xs)) ≡ names_are xs
  declarations_words xs =
      mapped v declaration_lexemes (λ x. are_of v (name_lexemes x)) declaration_words xs

  heading_words : (name : List ℕ) (params results : List ProgVar) (k : DataSort)
      → are_of v (the "proc" ⌢ name_lexeme name ∷ [] ⌢ in_brackets (map declaration_lexemes params)
      ⌢ the "returns" ⌢ in_brackets (map declaration_lexemes results) ⌢ the "sort"
      ⌢ data_sort_lexemes k) ≡ (is_free v name && (names_are params && names_are results))
  heading_words name params results k =
      ap (λ z. is_free v name && z)
      (between v (in_brackets (map declaration_lexemes params)) (the "returns")
      (in_brackets (map declaration_lexemes results) ⌢ the "sort" ⌢ data_sort_lexemes k) refl
      ∙ (λ j. declarations_words params j && (before_sign v
      (in_brackets (map declaration_lexemes results)) (the "sort" ⌢ data_sort_lexemes k)
      (data_sort_words v k) ∙ declarations_words results) j))

  regrouped : (n p r a b c : Bool) → ((n && (p && r)) && (a && (b && (c && true))))
      ≡ ((n && true) && (p && (r && (a && (b && c)))))
  regrouped true true true a b c = ap (λ z. a && (b && z)) (and_true c)
  regrouped true true false a b c = refl
  regrouped true false r a b c = refl
  regrouped false p r a b c = refl

  procedure_words : (name : List ℕ) (params results : List ProgVar) (k : DataSort)
      (pre post : Named) (body : Command) → lines_of (procedure_lines v (record {
        name = name;
        params = params;
        results = results;
        sort = k;
        pre = pre;
        post = post;
        body = body;
        proof = [];
      })) ≡ ((is_free v name && true) && (names_are params && (names_are results
      && (are_of v (formula_lexemes pre) && (are_of v (formula_lexemes post)
      && are_of v (command_lexemes body))))))
  procedure_words name params results k pre post body =
      ap (λ z. z && (are_of v (formula_lexemes pre) && (are_of v (formula_lexemes post)
      && (are_of v (command_lexemes body) && true)))) (heading_words name params results k)
      ∙ regrouped (is_free v name) (names_are params) (names_are results)
      (are_of v (formula_lexemes pre)) (are_of v (formula_lexemes post))
      (are_of v (command_lexemes body))

  P : Exact (formula_at v levels) (formulas v levels)
  P = formula_exact v levels

  pub procedure_exact : Exact (procedure_at v) procedures
  unfolding procedure_at
  procedure_exact =
      made_exact procedures _
      (λ p. (p.name, (p.params, (p.results, (p.sort, (p.pre, (p.post, p.body)))))))
      (λ p f. without_proof p (sym f.proof))
      (both_exact (name_exact v) (both_exact (listed_exact (prog_var_exact v))
      (both_exact (listed_exact (prog_var_exact v)) (both_exact data_sort_exact
      (both_exact P (both_exact P (command_exact v levels)))))))
      (λ x. refl)
      (λ x w. record {
        name = w.0;
        params = w.1.0;
        results = w.1.1.0;
        pre = w.1.1.1.1.0;
        post = w.1.1.1.1.1.0;
        body = w.1.1.1.1.1.1;
        proof = tt;
      })
      (λ x f. record {
        name = f.0;
        params = f.1.0;
        results = f.1.1.0;
        pre = f.1.1.1.1.0;
        post = f.1.1.1.1.1.0;
        body = f.1.1.1.1.1.1;
        proof = refl;
      })
      (λ p w. (w.name, (w.params, (w.results, (tt, (w.pre, (w.post, w.body)))))))
      (λ p f. (f.name, (f.params, (f.results, (tt, (f.pre, (f.post, f.body)))))))
      (λ x w. procedure_words x.0 x.1.0 x.1.1.0 x.1.1.1.0 x.1.1.1.1.0 x.1.1.1.1.1.0
      x.1.1.1.1.1.1)

-- ---- heads

declared_exact : Exact declared_at (record {
  bytes = logic_vars.bytes;
  Writes = IsDeclarable;
  Fits = logic_vars.Fits;
  words = logic_vars.words;
})
unfolding declared_at
declared_exact = kept_exact (λ x. is_sort (var_sort x)) IsDeclarable (λ x w e. (w, e)) (λ x w. w.0)
    (λ x w. w.1) logic_var_exact

some_procedure : {A : Type 0} (xs : List A) → has_one xs ≡ true → HasOne xs
some_procedure [] e = absurd cc
some_procedure (x ∷ xs) e = tt

has_procedure : {A : Type 0} (xs : List A) → HasOne xs → has_one xs ≡ true
has_procedure [] w = absurd w
has_procedure (x ∷ xs) w = refl

-- a head but for its words, and these
pub record IsHead (t : Theory) : Type 0 where
  pub version : IsNumeral t.version
  pub logic : Each IsDeclarable t.logic
  pub some : HasOne t.procedures
  pub procedures : Each IsWritableProcedure t.procedures

abbrev pub head_words : Theory → Bool
head_words t = list_all (λ p. lines_of t.version (procedure_lines t.version p)) t.procedures

abbrev pub heads : Spelling Theory
heads = record { bytes = head_bytes; Writes = IsHead; Fits = HeadFits; words = head_words }

every_variable : (xs : List Var) → list_all logic_vars.words xs ≡ true
every_variable [] = refl
every_variable (x ∷ xs) = every_variable xs

pub head_exact : Exact head_at heads
unfolding head_at
head_exact =
    made_exact heads _ (λ t. (t.version, (t.logic, t.procedures))) (λ t f. refl)
    (linked_exact numeral_exact (λ v. both_exact (listed_exact declared_exact)
    (kept_exact has_one (λ ps. Each IsWritableProcedure ps × HasOne ps)
    (λ ps w e. (w, some_procedure ps e)) (λ ps w. w.0) (λ ps w. has_procedure ps w.1)
    (listed_exact (procedure_exact v)))))
    (λ x. refl)
    (λ x w. record { version = w.0; logic = w.1.0; some = w.1.1.1; procedures = w.1.1.0 })
    (λ x f. record { version = f.0; logic = f.1.0; procedures = f.1.1 })
    (λ t w. (w.version, (w.logic, (w.procedures, w.some))))
    (λ t f. (f.version, (f.logic, f.procedures)))
    (λ x w. ap (λ b. b && list_all (λ p. lines_of x.0 (procedure_lines x.0 p)) x.1.1)
    (sym (every_variable x.1.0)))

-- ---- what is read of a head can be written, and the other way round

module _ (v : ℕ) where
  lines_said : (lines : List (List Lexeme)) → lines_of v lines ≡ true
      → Each (Each (IsOfVersion v)) lines
  lines_said [] e = tt
  lines_said (line ∷ lines) e =
      let own = both_true (are_of v line) (lines_of v lines) e in
      (are_said v line own.0, lines_said lines own.1)

  lines_held : (lines : List (List Lexeme)) → Each (Each (IsOfVersion v)) lines
      → lines_of v lines ≡ true
  lines_held [] h = refl
  lines_held (line ∷ lines) h =
      are_true (are_of v line) (lines_of v lines) (are_held v line h.0) (lines_held lines h.1)

  procedures_said : (ps : List (ProcedureOf Named))
      → list_all (λ p. lines_of v (procedure_lines v p)) ps ≡ true
      → Each (Each (IsOfVersion v)) (procedures_lines v ps)
  procedures_said [] e = tt
  procedures_said (p ∷ ps) e =
      let own = both_true (lines_of v (procedure_lines v p)) _ e in
      each_both (Each (IsOfVersion v)) (procedure_lines v p) (procedures_lines v ps)
      (lines_said (procedure_lines v p) own.0) (procedures_said ps own.1)

  procedures_held : (ps : List (ProcedureOf Named))
      → Each (Each (IsOfVersion v)) (procedures_lines v ps)
      → list_all (λ p. lines_of v (procedure_lines v p)) ps ≡ true
  procedures_held [] h = refl
  procedures_held (p ∷ ps) h =
      let own = each_parts (Each (IsOfVersion v)) (procedure_lines v p) (procedures_lines v ps) h in
      are_true (lines_of v (procedure_lines v p)) _ (lines_held (procedure_lines v p) own.0)
      (procedures_held ps own.1)

  logic_lines : (xs : List Var) → Each IsDeclarable xs
      → Each (Each (IsOfVersion v)) (map logic_line xs)
  logic_lines [] w = tt
  logic_lines (x ∷ xs) w =
      let sort = sort_lexemes (var_sort x) in
      let own : are_of v (logic_line x) ≡ true =
      behind_sign v sort (var_lexemes x ⌢ the ";") (sort_words v (var_sort x))
      ∙ before_sign v (var_lexemes x) (the ";") refl ∙ logic_words v x w.0.0 in
      (are_said v (logic_line x) own, logic_lines xs w.1)

pub head_written : (t : Theory) → IsHead t → head_words t ≡ true → IsWritableTheory t
head_written t w e = record {
  version = w.version;
  logic = w.logic;
  some = w.some;
  procedures = w.procedures;
  words = (
    (refl, (tt, tt)),
    each_both (Each (IsOfVersion t.version)) (map logic_line t.logic)
        (procedures_lines t.version t.procedures) (logic_lines t.version t.logic w.logic)
        (procedures_said t.version t.procedures e),
  );
}

pub head_of : (t : Theory) → IsWritableTheory t → IsHead t
head_of t w = record {
  version = w.version;
  logic = w.logic;
  some = w.some;
  procedures = w.procedures;
}

pub head_words_of : (t : Theory) → IsWritableTheory t → head_words t ≡ true
head_words_of t w =
    procedures_held t.version t.procedures
    (each_parts (Each (IsOfVersion t.version)) (map logic_line t.logic)
    (procedures_lines t.version t.procedures) w.words.1).1
