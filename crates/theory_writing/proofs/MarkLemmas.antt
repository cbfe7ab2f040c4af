-- Parts of which each stands behind a mark: lists in brackets, blocks, and a loop over the parts.
use Rattle.std.proofs.Common.{◌≡◌, ℕ, ◌+◌, ◌<◌, List, [], ◌∷◌, ◌++◌, length, get_or, drop, map, codes, refl, sym, ap, ◌∙◌, append_assoc, append-nil, ◌≤◌}
use Rattle.std.proofs.lemmas.List.{drop_all}
use Rattle.model_commands.specs.Commands as commands
use Rattle.dom_terms.specs.declared.terms.ProgVar.{ProgVar}
use Rattle.dom_terms.specs.declared.terms.Term.{Term}
use Rattle.dom_terms.specs.Terms.{prog_var_of, term_of}
use Rattle.model_text.specs.Lexemes.{Lexeme, terminal, name_lexeme}
use Rattle.model_grammar.specs.Words.{the, ◌⌢◌}
use Rattle.model_grammar.specs.Writing.{spaced, name_lexemes, term_lexemes, behind_commas, in_brackets, command_lexemes, block_lexemes, further_commands}
use Rattle.model_grammar.proofs.Spaced.{spaced_append, spaced_rules}
use Rattle.logic_text.proofs.ListLemmas.{drop_item}
use Rattle.theory_syntax.specs.declared.commands.Command.{Command}
use Rattle.theory_syntax.specs.declared.commands.Command.TheOpen.{Command-F}
use Rattle.theory_syntax.specs.declared.commands.Command.{roll-Command, map-Command}
use Rattle.theory_syntax.specs.declared.commands.Command.TheVariants.{the_data}
use Rattle.theory_syntax.specs.declared.commands.Command.TheFolds.{fold-roll-Command}
use Rattle.theory_syntax.specs.Commands.{command_step, command_of, block_of}
use Rattle.theory_writing.specs.Marked.{marked}

-- a part behind its mark, and the others
marked_spaced : (mark next : List ℕ) (part : List Lexeme) (parts : List (List Lexeme))
    → spaced (marked mark next (part ∷ parts)) ≡ spaced (terminal mark ∷ [])
    ++ (spaced part ++ spaced (marked next next parts))
marked_spaced mark next part parts = simp spaced_rules refl

-- a turn of a loop
pub goes_on : {T : Type 0} (f : T → List Lexeme) (mark next : List ℕ) (items : List T) (i : ℕ)
    (item : T) (text whole : List ℕ) → i < length items → item ≡ get_or items i item
    → text ++ spaced (marked mark next (map f (drop i items))) ≡ whole
    → ((text ++ spaced (terminal mark ∷ [])) ++ spaced (f item))
    ++ spaced (marked next next (map f (drop (i + 1) items))) ≡ whole
goes_on {T} f mark next items i item text whole lt is so_far =
    append_assoc (text ++ spaced (terminal mark ∷ [])) (spaced (f item)) _
    ∙ append_assoc text (spaced (terminal mark ∷ [])) _
    ∙ ap (λ (z : List ℕ). text ++ z)
    (sym (ap (λ (z : List T). spaced (marked mark next (map f z))) (drop_item items i item lt is)
    ∙ marked_spaced mark next (f item) (map f (drop (i + 1) items))))
    ∙ so_far

-- the end of the loop
pub ends : {T : Type 0} (f : T → List Lexeme) (mark next : List ℕ) (items : List T) (i : ℕ)
    (text whole : List ℕ) → length items ≤ i
    → text ++ spaced (marked mark next (map f (drop i items))) ≡ whole → text ≡ whole
ends {T} f mark next items i text whole le so_far =
    sym (append-nil text)
    ∙ ap (λ (z : List T). text ++ spaced (marked mark next (map f z)))
    (sym (drop_all i items le)) ∙ so_far

commas_marked : (parts : List (List Lexeme))
    → behind_commas parts ≡ marked (codes ",") (codes ",") parts
commas_marked [] = refl
commas_marked (part ∷ parts) =
    ap (λ (z : List Lexeme). terminal (codes ",") ∷ (part ++ z)) (commas_marked parts)

-- some parts in brackets
pub brackets_marked : (part : List Lexeme) (parts : List (List Lexeme))
    → in_brackets (part ∷ parts) ≡ marked (codes "(") (codes ",") (part ∷ parts) ++ the ")"
brackets_marked part parts = rw (commas_marked parts) refl

-- and their text
pub brackets_text : {T : Type 0} (f : T → List Lexeme) (items : List T) → (items ≡ [] → ⊥)
    → (text : List ℕ)
    → (text ++ spaced (marked (codes "(") (codes ",") (map f items))) ++ spaced (the ")")
    ≡ text ++ spaced (in_brackets (map f items))
brackets_text f [] some text = absurd (some refl)
brackets_text f (item ∷ items) some text =
    append_assoc text _ _
    ∙ ap (λ (z : List ℕ). text ++ z)
    (sym (spaced_append (marked (codes "(") (codes ",") (f item ∷ map f items)) (the ")"))
    ∙ ap spaced (sym (brackets_marked (f item) (map f items))))

-- the lexemes of a command of the program
abbrev pub lexemes_of_command : Command → List Lexeme
lexemes_of_command command = command_lexemes (command_of command)

further_marked : (block : List Command) → further_commands (block_of block)
    ≡ marked (codes ";") (codes ";") (map lexemes_of_command block)
further_marked [] = refl
further_marked (command ∷ block) =
    ap (λ (z : List Lexeme). terminal (codes ";") ∷ (lexemes_of_command command ++ z))
    (further_marked block)

-- a block with a command
block_marked : (command : Command) (block : List Command)
    → block_lexemes (block_of (command ∷ block))
    ≡ marked (codes "{") (codes ";") (map lexemes_of_command (command ∷ block)) ++ the "}"
block_marked command block = rw (further_marked block)
    (ap (λ (z : List Lexeme). terminal (codes "{") ∷ z)
    (sym (append_assoc (lexemes_of_command command)
    (marked (codes ";") (codes ";") (map lexemes_of_command block)) (the "}"))))

-- and its text
pub block_text : (block : List Command) → (block ≡ [] → ⊥) → (text : List ℕ)
    → (text ++ spaced (marked (codes "{") (codes ";") (map lexemes_of_command block)))
    ++ spaced (the "}") ≡ text ++ spaced (block_lexemes (block_of block))
block_text [] some text = absurd (some refl)
block_text (command ∷ block) some text =
    append_assoc text _ _
    ∙ ap (λ (z : List ℕ). text ++ z)
    (sym (spaced_append (marked (codes "{") (codes ";") (map lexemes_of_command (command ∷ block)))
    (the "}")) ∙ ap spaced (sym (block_marked command block)))

-- what a command of this form stands for
pub seen : (command : Command) (form : Command-F Command) → command ≡ roll-Command form
    → command_of command ≡ command_step (map-Command the_data commands.Command command_of form)
seen command form e = ap command_of e ∙ fold-roll-Command commands.Command command_step form

-- ---- a call

pub fused : {A B C : Type 0} (f : B → C) (g : A → B) (xs : List A)
    → map (λ x. f (g x)) xs ≡ map f (map g xs)
fused f g [] = refl
fused {C = C} f g (x ∷ xs) = ap (λ (z : List C). f (g x) ∷ z) (fused f g xs)

pub call_text : (results : List ProgVar) (name : List ℕ) (arguments : List Term)
    (text : List ℕ)
    → ((((text ++ spaced (the "call"))
    ++ spaced (in_brackets (map (λ x. name_lexemes (prog_var_of x)) results)))
    ++ spaced (the ":=")) ++ spaced (name_lexeme name ∷ []))
    ++ spaced (in_brackets (map (λ t. term_lexemes (term_of t)) arguments))
    ≡ text ++ spaced (command_lexemes
    (commands.call (map prog_var_of results) name (map term_of arguments)))
call_text results name arguments text =
    rw (fused name_lexemes prog_var_of results, fused term_lexemes term_of arguments)
    (regroup (in_brackets (map name_lexemes (map prog_var_of results)))
    (in_brackets (map term_lexemes (map term_of arguments))))
  where
    regroup : (a b : List Lexeme)
        → ((((text ++ spaced (the "call")) ++ spaced a) ++ spaced (the ":="))
        ++ spaced (name_lexeme name ∷ [])) ++ spaced b
        ≡ text ++ spaced (the "call" ⌢ a ⌢ the ":=" ⌢ name_lexeme name ∷ [] ⌢ b)
    regroup a b = simp spaced_rules refl
