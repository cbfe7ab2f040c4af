-- The room for parts of which each stands after a mark: lists in brackets and blocks.
use Rattle.std.proofs.Common.{◌≡◌, ◌∙◌, ℕ, ◌+◌, ◌<◌, ◌≤◌, List, [], ◌∷◌, ◌++◌, length, get_or, drop, map, codes, refl, sym, ap, append_assoc, add-one}
use Rattle.std.proofs.Math.Seq.{drop-cons}
use Rattle.std.proofs.lemmas.List.{drop_all}
use Rattle.model_commands.specs.Commands as commands
use Rattle.dom_terms.specs.declared.terms.ProgVar.{ProgVar}
use Rattle.dom_terms.specs.declared.terms.Term.{Term}
use Rattle.dom_terms.specs.Terms.{prog_var_of, term_of}
use Rattle.model_text.specs.Lexemes.{Lexeme, terminal, name_lexeme}
use Rattle.model_grammar.specs.Words.{the, ◌⌢◌}
use Rattle.model_grammar.specs.Writing.{name_lexemes, term_lexemes, in_brackets, command_lexemes, block_lexemes, further_commands}
use Rattle.theory_syntax.specs.declared.commands.Command.{Command}
use Rattle.theory_syntax.specs.Commands.{block_of}
use Rattle.theory_writing.specs.Marked.{marked}
use Rattle.theory_writing.proofs.MarkLemmas.{brackets_marked, lexemes_of_command, fused}
use Rattle.gap_filling.specs.declared.meters.Meter.{Meter}
use Rattle.gap_filling.specs.Measured.{after, measured}
use Rattle.gap_filling.proofs.Measures.{measured-append, measured_rules}

-- the item of this turn of a loop and those of the later ones
pub drop_at : {T : Type 0} (items : List T) (i : ℕ) (other item : T) → i < length items
    → item ≡ get_or items i other → drop i items ≡ item ∷ drop (i + 1) items
drop_at {T} items i other item lt is =
    drop-cons items i other lt
    ∙ ap (λ (k : ℕ). get_or items i other ∷ drop k items) (sym (add-one i))
    ∙ ap (λ (z : T). z ∷ drop (i + 1) items) (sym is)

-- a turn of a loop
pub goes_on : {T : Type 0} (f : T → List Lexeme) (mark next : List ℕ) (items : List T) (i : ℕ)
    (other item : T) (meter whole : Meter) → i < length items → item ≡ get_or items i other
    → measured meter (marked mark next (map f (drop i items))) ≡ whole
    → measured (measured (measured meter (terminal mark ∷ [])) (f item))
    (marked next next (map f (drop (i + 1) items))) ≡ whole
goes_on {T} f mark next items i other item meter whole lt is so_far =
    sym (measured-append (after meter (terminal mark)) (f item)
    (marked next next (map f (drop (i + 1) items))))
    ∙ (sym (ap (λ (z : List T). measured meter (marked mark next (map f z)))
    (drop_at items i other item lt is)) ∙ so_far)

-- the end of the loop
pub ends : {T : Type 0} (f : T → List Lexeme) (mark next : List ℕ) (items : List T) (i : ℕ)
    (meter whole : Meter) → length items ≤ i
    → measured meter (marked mark next (map f (drop i items))) ≡ whole → meter ≡ whole
ends {T} f mark next items i meter whole le so_far =
    sym (ap (λ (z : List T). measured meter (marked mark next (map f z))) (drop_all i items le))
    ∙ so_far

-- some parts in brackets
pub brackets_room : {T : Type 0} (f : T → List Lexeme) (items : List T) → (items ≡ [] → ⊥)
    → (meter : Meter)
    → measured (measured meter (marked (codes "(") (codes ",") (map f items))) (the ")")
    ≡ measured meter (in_brackets (map f items))
brackets_room f [] some meter = absurd (some refl)
brackets_room f (item ∷ items) some meter =
    sym (measured-append meter (marked (codes "(") (codes ",") (f item ∷ map f items)) (the ")"))
    ∙ ap (measured meter) (sym (brackets_marked (f item) (map f items)))

further_marked : (block : List Command) → further_commands (block_of block)
    ≡ marked (codes ";") (codes ";") (map lexemes_of_command block)
further_marked [] = refl
further_marked (command ∷ block) =
    ap (λ (z : List Lexeme). terminal (codes ";") ∷ (lexemes_of_command command ++ z))
    (further_marked block)

block_marked : (command : Command) (block : List Command)
    → block_lexemes (block_of (command ∷ block))
    ≡ marked (codes "{") (codes ";") (map lexemes_of_command (command ∷ block)) ++ the "}"
block_marked command block = rw (further_marked block)
    (ap (λ (z : List Lexeme). terminal (codes "{") ∷ z)
    (sym (append_assoc (lexemes_of_command command)
    (marked (codes ";") (codes ";") (map lexemes_of_command block)) (the "}"))))

-- a block with a command
pub block_room : (block : List Command) → (block ≡ [] → ⊥) → (meter : Meter)
    → measured (measured meter (marked (codes "{") (codes ";") (map lexemes_of_command block)))
    (the "}") ≡ measured meter (block_lexemes (block_of block))
block_room [] some meter = absurd (some refl)
block_room (command ∷ block) some meter =
    sym (measured-append meter
    (marked (codes "{") (codes ";") (map lexemes_of_command (command ∷ block))) (the "}"))
    ∙ ap (measured meter) (sym (block_marked command block))

-- a call
pub call_room : (results : List ProgVar) (name : List ℕ) (arguments : List Term) (meter : Meter)
    → measured (measured (measured (measured (measured meter (the "call"))
    (in_brackets (map (λ x. name_lexemes (prog_var_of x)) results))) (the ":="))
    (name_lexeme name ∷ [])) (in_brackets (map (λ t. term_lexemes (term_of t)) arguments))
    ≡ measured meter (command_lexemes
    (commands.call (map prog_var_of results) name (map term_of arguments)))
call_room results name arguments meter =
    rw (fused name_lexemes prog_var_of results, fused term_lexemes term_of arguments)
    (regroup (in_brackets (map name_lexemes (map prog_var_of results)))
    (in_brackets (map term_lexemes (map term_of arguments))))
  where
    regroup : (a b : List Lexeme)
        → measured (measured (measured (measured (measured meter (the "call")) a) (the ":="))
        (name_lexeme name ∷ [])) b
        ≡ measured meter (the "call" ⌢ a ⌢ the ":=" ⌢ name_lexeme name ∷ [] ⌢ b)
    regroup a b = simp measured_rules refl
