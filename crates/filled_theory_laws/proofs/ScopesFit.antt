-- What is declared in a theory that can be written can be written, as a name in its version.
use Rattle.std.proofs.Common.{ℕ, List, [], ◌∷◌, ◌++◌, map, sym, subst}
use Rattle.std.specs.List.{flat_map}
use Rattle.std.proofs.lemmas.Grind.{flat_map-append}
use Rattle.model_terms.specs.Variables.{Var, prog, logic, bound}
use Rattle.model_terms.specs.Stores.{ProgVar, named, as_var}
use Rattle.model_formulas.specs.Formulas.{Named}
use Rattle.model_commands.specs.Commands.{Command, block, if_else, while_do, local, Block, stop, ◌then◌}
use Rattle.model_commands.specs.CommandParts.{commands_in, commands_of, locals, locals_of}
use Rattle.model_commands.specs.Each.{Each}
use Rattle.model_commands.specs.Theories.{ProcedureOf, Theory}
use Rattle.model_files.specs.FileFaults.{declared_by, scope_of}
use Rattle.model_text.specs.Lexemes.{Lexeme}
use Rattle.model_text.specs.Versions.{IsOfVersion}
use Rattle.model_grammar.specs.Words.{the}
use Rattle.model_grammar.specs.Writing.{value_sort_lexemes, cond_lexemes, behind_commas, listed, in_brackets, command_lexemes, block_lexemes, further_commands}
use Rattle.model_grammar.specs.TheoryWriting.{declaration_lexemes, procedure_lines}
use Rattle.model_grammar.specs.Writable.{IsWritableName, IsWritableCommand, IsWritableBlock, AreWritable}
use Rattle.model_round_trip.specs.Writable.{IsDeclarable, IsWritableProcedure}
use Rattle.filled_theory_laws.proofs.Declared.{each-both, each-parts, FitsName, Fits, names-fit}
use Rattle.filled_theory_laws.proofs.Words.{AreWords}

module _ (version : ℕ) where
  words-parts : (xs ys : List Lexeme) → AreWords version (xs ++ ys)
      → AreWords version xs × AreWords version ys
  words-parts = each-parts (IsOfVersion version)

  -- WORDS IN BRACKETS
  further-words : (parts : List (List Lexeme)) → AreWords version (behind_commas parts)
      → Each (AreWords version) parts
  further-words [] h = tt
  further-words (x ∷ xs) h = let both = words-parts x (behind_commas xs) h.1 in
      (both.0, further-words xs both.1)

  in-brackets : (parts : List (List Lexeme)) → AreWords version (in_brackets parts)
      → Each (AreWords version) parts
  in-brackets [] h = tt
  in-brackets (x ∷ xs) h =
      let both = words-parts (listed (x ∷ xs)) (the ")") h.1 in
      let first = words-parts x (behind_commas xs) both.0 in
      (first.0, further-words xs first.1)

  declared-fit : (xs : List ProgVar) → Each IsWritableName xs
      → Each (AreWords version) (map declaration_lexemes xs)
      → Each (λ x. Fits version (as_var x)) xs
  declared-fit [] h k = tt
  declared-fit (named name s ∷ xs) h k = ((h.0, k.0.0), declared-fit xs h.1 k.1)

  -- THE LOCAL VARIABLES of a command
  abbrev AreFitNames : List ProgVar → Type 0
  AreFitNames = Each (λ x. Fits version (as_var x))

  both-locals : (cs bs : List Command) → AreFitNames (flat_map locals cs)
      → AreFitNames (flat_map locals bs) → AreFitNames (flat_map locals (cs ++ bs))
  both-locals cs bs h k =
      subst AreFitNames (sym (flat_map-append locals cs bs))
      (each-both (λ x. Fits version (as_var x)) (flat_map locals cs) (flat_map locals bs) h k)

  mutual
    locals-fit : (c : Command) → IsWritableCommand c → AreWords version (command_lexemes c)
        → AreFitNames (flat_map locals (commands_in c))
    locals-fit (block b) h k = block-locals b h k
    locals-fit (if_else c a b) h k =
        let test = words-parts (cond_lexemes c) _ k.1 in
        let first = words-parts (block_lexemes a) _ test.1 in
        both-locals (commands_of a) (commands_of b) (block-locals a h.1 first.0)
        (block-locals b h.2 first.1.1)
    locals-fit (while_do c b) h k =
        block-locals b h.1 (words-parts (cond_lexemes c) _ k.1).1
    locals-fit (local (named name s) b) h k = (
      (h.0, k.1.0),
      block-locals b h.1 (words-parts (value_sort_lexemes s) _ k.1.1.1).1,
    )
    locals-fit c h k = tt

    block-locals : (b : Block) → IsWritableBlock b → AreWords version (block_lexemes b)
        → AreFitNames (flat_map locals (commands_of b))
    block-locals stop h k = tt
    block-locals (c then b) h k =
        let first = words-parts (command_lexemes c) _ k.1 in
        both-locals (commands_in c) (commands_of b) (locals-fit c h.0 first.0)
        (further-locals b h.1 (words-parts (further_commands b) (the "}") first.1).0)

    further-locals : (b : Block) → AreWritable b → AreWords version (further_commands b)
        → AreFitNames (flat_map locals (commands_of b))
    further-locals stop h k = tt
    further-locals (c then b) h k =
        let first = words-parts (command_lexemes c) _ k.1 in
        both-locals (commands_in c) (commands_of b) (locals-fit c h.0 first.0)
        (further-locals b h.1 first.1)

  -- A PROCEDURE that can be written, in words of the version
  pub record IsReadable (f : ProcedureOf Named) : Type 0 where
    pub writable : IsWritableProcedure f
    pub words : Each (AreWords version) (procedure_lines version f)

  pub own-name-fits : (f : ProcedureOf Named) → IsReadable f → FitsName version f.name
  own-name-fits f h = (h.writable.name, h.words.0.1.0)

  declared-all : (f : ProcedureOf Named) → IsReadable f → AreFitNames (declared_by f)
  declared-all f h =
      let params = words-parts (in_brackets (map declaration_lexemes f.params)) _ h.words.0.1.1 in
      let results = words-parts (in_brackets (map declaration_lexemes f.results)) _ params.1.1 in
      each-both (λ x. Fits version (as_var x)) f.params (f.results ++ locals_of f.body)
      (declared-fit f.params h.writable.params (in-brackets (map declaration_lexemes f.params)
      params.0))
      (each-both (λ x. Fits version (as_var x)) f.results (locals_of f.body)
      (declared-fit f.results h.writable.results
      (in-brackets (map declaration_lexemes f.results) results.0))
      (locals-fit f.body h.writable.body h.words.1.1.1.0.1))

logics-fit : (version : ℕ) (xs : List Var) → Each IsDeclarable xs → Each (Fits version) xs
logics-fit version [] h = tt
logics-fit version (logic name s ∷ xs) h = (h.0.0, logics-fit version xs h.1)
logics-fit version (prog name s ∷ xs) h = absurd h.0.0
logics-fit version (bound i s ∷ xs) h = absurd h.0.0

-- what may be named in it
pub scope-fits : (theory : Theory) (f : ProcedureOf Named) → Each IsDeclarable theory.logic
    → IsReadable theory.version f → Each (Fits theory.version) (scope_of theory f)
scope-fits theory f logics h =
    each-both (Fits theory.version) (map as_var (declared_by f)) theory.logic
    (names-fit theory.version (declared_by f) (declared-all theory.version f h))
    (logics-fit theory.version theory.logic logics)
