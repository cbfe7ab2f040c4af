-- What is written closes the brackets that it opens, piece by piece.
use Rattle.std.proofs.Common.{◌≡◌, ℕ, suc, ◌+◌, ◌-◌, ◌==◌, Bool, true, false, not, ◌&&◌, ◌||◌, cond, List, [], ◌∷◌, ◌++◌, map, refl, sym, subst, codes, bytes_eq, append_assoc}
use Rattle.std.specs.Prelude.{max}
use Rattle.std.specs.List.{list_all, list_any}
use Rattle.model_shapes.proofs.Truth.{both_true, false≢true}
use Rattle.model_shapes.proofs.Tests.{bytes-is}
use Rattle.model_shapes.specs.Sorts.{DataSort, ValueSort, value, shape}
use Rattle.model_terms.specs.Terms.{Term}
use Rattle.model_terms.specs.Stores.{ProgVar, named}
use Rattle.model_terms.specs.Conditions.{Cond, cond_true, cond_false, cond_variable, cond_equal, cond_at_most, cond_not, cond_and, cond_or}
use Rattle.model_formulas.specs.Formulas.{Named}
use Rattle.model_commands.specs.Commands.{Command, skip, block, assign, create_node, node_name, child_nodes, parent_node, list_item, append_child, remove_child, insert_before, if_else, while_do, local, call, Block, stop, ◌then◌}
use Rattle.model_commands.specs.Each.{Each}
use Rattle.model_commands.specs.Theories.{JudgementOf, entails, triple, Reason, auto, by_rule, StepOf}
use Rattle.model_text.specs.Lexemes.{Lexeme, terminal, step_word, name_lexeme, number_lexeme, word_lexeme, reserved_words, is_reserved}
use Rattle.model_text.specs.Versions.{insert_word}
use Rattle.model_text.specs.Nesting.{opens, closes, open_behind}
use Rattle.model_grammar.specs.Words.{the, ◌⌢◌}
use Rattle.model_grammar.specs.Writing.{name_lexemes, term_lexemes, bracketed, cond_lexemes, value_sort_lexemes, behind_commas, listed, in_brackets, command_lexemes, block_lexemes, further_commands}
use Rattle.model_grammar.specs.TheoryWriting.{formula_lexemes, data_sort_lexemes, sort_lexemes, declaration_lexemes, number_lexemes, argument_lexemes, word_lexemes, reason_lexemes, judgement_lexemes, step_line}
use Rattle.model_round_trip.proofs.Tokens.{word_by}
use Rattle.model_round_trip.proofs.Versions.{seen, one_by_one}
use Rattle.model_filling.proofs.Depths.{term_depth, depth, HasDepth, no-lexeme, one-lexeme, two, then-one, in-brackets, bracketed-depth, term-depth, formula-depth, sort-depth}

abbrev pub Balanced : List Lexeme → Type 0
Balanced xs = (d : ℕ) × HasDepth d xs

pub nothing : Balanced []
nothing = (0, no-lexeme)

pub alone : (x : Lexeme) → ((before : ℕ) → open_behind before x ≡ before) → Balanced (x ∷ [])
alone x same = (0, one-lexeme x same)

pub beside : (xs ys : List Lexeme) → Balanced xs → Balanced ys → Balanced (xs ++ ys)
beside xs ys h k = (max h.0 k.0, two h.0 k.0 xs ys h.1 k.1)

pub after-one : (x : Lexeme) → ((before : ℕ) → open_behind before x ≡ before)
    → (xs : List Lexeme) → Balanced xs → Balanced (x ∷ xs)
after-one x same xs h = (h.0, then-one h.0 x xs (one-lexeme x same) h.1)

enclosed : (opening closing : Lexeme) → ((before : ℕ) → open_behind before opening ≡ before + 1)
    → ((before : ℕ) → open_behind before closing ≡ before - 1) → (xs ys : List Lexeme)
    → Balanced xs → Balanced ys → Balanced (opening ∷ (xs ++ (closing ∷ ys)))
enclosed opening closing up down xs ys h k =
    (max (suc h.0) k.0, in-brackets h.0 k.0 opening closing xs ys up down h.1 k.1)

round-brackets : (xs : List Lexeme) → Balanced xs → Balanced (the "(" ⌢ xs ⌢ the ")")
round-brackets xs h =
    enclosed (terminal (codes "(")) (terminal (codes ")")) (λ before. refl) (λ before. refl) xs [] h
    nothing

-- TERMS AND FORMULAS
pub term-balanced : (a : Term) → Balanced (term_lexemes a)
term-balanced a = (term_depth a, term-depth a)

pub formula-balanced : (p : Named) → Balanced (formula_lexemes p)
formula-balanced p = (depth p, formula-depth p)

pub value-balanced : (s : ValueSort) → Balanced (value_sort_lexemes s)
value-balanced s = (0, sort-depth (value s))

pub data-balanced : (k : DataSort) → Balanced (data_sort_lexemes k)
data-balanced k = (0, sort-depth (shape k))

name-balanced : (x : ProgVar) → Balanced (name_lexemes x)
name-balanced (named name s) = alone (name_lexeme name) (λ before. refl)

-- LISTS
further-balanced : (parts : List (List Lexeme)) → Each Balanced parts
    → Balanced (behind_commas parts)
further-balanced [] h = nothing
further-balanced (x ∷ xs) h =
    after-one (terminal (codes ",")) (λ before. refl) (x ++ behind_commas xs)
    (beside x (behind_commas xs) h.0 (further-balanced xs h.1))

listed-balanced : (parts : List (List Lexeme)) → Each Balanced parts → Balanced (listed parts)
listed-balanced [] h = nothing
listed-balanced (x ∷ xs) h = beside x (behind_commas xs) h.0 (further-balanced xs h.1)

pub brackets-balanced : (parts : List (List Lexeme)) → Each Balanced parts
    → Balanced (in_brackets parts)
brackets-balanced parts h = round-brackets (listed parts) (listed-balanced parts h)

each-balanced : {A : Type 0} (lexemes : A → List Lexeme) → ((x : A) → Balanced (lexemes x))
    → (xs : List A) → Each Balanced (map lexemes xs)
each-balanced lexemes one [] = tt
each-balanced lexemes one (x ∷ xs) = (one x, each-balanced lexemes one xs)

terms-balanced : (es : List Term) → Balanced (in_brackets (map term_lexemes es))
terms-balanced es =
    brackets-balanced (map term_lexemes es) (each-balanced term_lexemes term-balanced es)

pub numbers-balanced : (ns : List ℕ) → Balanced (in_brackets (map number_lexemes ns))
numbers-balanced ns =
    brackets-balanced (map number_lexemes ns)
    (each-balanced number_lexemes (λ n. alone (number_lexeme n) (λ before. refl)) ns)

declaration-balanced : (x : ProgVar) → Balanced (declaration_lexemes x)
declaration-balanced (named name s) =
    after-one (name_lexeme name) (λ before. refl) (terminal (codes ":") ∷ value_sort_lexemes s)
    (after-one (terminal (codes ":")) (λ before. refl) (value_sort_lexemes s) (value-balanced s))

pub declarations-balanced : (xs : List ProgVar)
    → Balanced (in_brackets (map declaration_lexemes xs))
declarations-balanced xs =
    brackets-balanced (map declaration_lexemes xs)
    (each-balanced declaration_lexemes declaration-balanced xs)

pub arguments-balanced : (es : List Term) → Balanced (argument_lexemes es)
arguments-balanced [] = nothing
arguments-balanced (a ∷ es) =
    after-one (terminal (codes "with")) (λ before. refl) (in_brackets (map term_lexemes (a ∷ es)))
    (terms-balanced (a ∷ es))

-- CONDITIONS
signed-balanced : (sign : List ℕ) → ((before : ℕ) → open_behind before (terminal sign) ≡ before)
    → (xs ys : List Lexeme) → Balanced xs → Balanced ys
    → Balanced (xs ++ (terminal sign ∷ ys))
signed-balanced sign same xs ys h k =
    beside xs (terminal sign ∷ ys) h (after-one (terminal sign) same ys k)

joined-balanced : (sign : List ℕ) → ((before : ℕ) → open_behind before (terminal sign) ≡ before)
    → (xs ys : List Lexeme) → Balanced xs → Balanced ys
    → Balanced (bracketed xs (terminal sign ∷ []) ys)
joined-balanced sign same xs ys h k =
    subst (λ (l : List Lexeme). Balanced (terminal (codes "(") ∷ l))
    (append_assoc xs (terminal sign ∷ ys) (the ")"))
    (round-brackets (xs ++ (terminal sign ∷ ys)) (signed-balanced sign same xs ys h k))

condition-balanced : (c : Cond) → Balanced (cond_lexemes c)
condition-balanced cond_true = alone (terminal (codes "true")) (λ before. refl)
condition-balanced cond_false = alone (terminal (codes "false")) (λ before. refl)
condition-balanced (cond_variable x) = name-balanced x
condition-balanced (cond_equal a b) =
    signed-balanced (codes "=") (λ before. refl) (term_lexemes a) (term_lexemes b) (term-balanced a)
    (term-balanced b)
condition-balanced (cond_at_most a b) =
    signed-balanced (codes "<=") (λ before. refl) (term_lexemes a) (term_lexemes b)
    (term-balanced a)
    (term-balanced b)
condition-balanced (cond_not c) =
    round-brackets (terminal (codes "not") ∷ cond_lexemes c)
    (after-one (terminal (codes "not")) (λ before. refl) (cond_lexemes c) (condition-balanced c))
condition-balanced (cond_and c d) =
    joined-balanced (codes "and") (λ before. refl) (cond_lexemes c) (cond_lexemes d)
    (condition-balanced c) (condition-balanced d)
condition-balanced (cond_or c d) =
    joined-balanced (codes "or") (λ before. refl) (cond_lexemes c) (cond_lexemes d)
    (condition-balanced c) (condition-balanced d)

-- COMMANDS
set-balanced : (x : ProgVar) (xs : List Lexeme) → Balanced xs
    → Balanced (name_lexemes x ⌢ the ":=" ⌢ xs)
set-balanced x xs h =
    signed-balanced (codes ":=") (λ before. refl) (name_lexemes x) xs (name-balanced x) h

asked-balanced : (word : List ℕ) → ((before : ℕ) → open_behind before (terminal word) ≡ before)
    → (es : List Term) → Balanced (terminal word ∷ in_brackets (map term_lexemes es))
asked-balanced word same es =
    after-one (terminal word) same (in_brackets (map term_lexemes es)) (terms-balanced es)

mutual
  pub command-balanced : (c : Command) → Balanced (command_lexemes c)
  command-balanced skip = alone (terminal (codes "skip")) (λ before. refl)
  command-balanced (block b) = block-balanced b
  command-balanced (assign x a) = set-balanced x (term_lexemes a) (term-balanced a)
  command-balanced (create_node x a) =
      set-balanced x _ (asked-balanced (codes "createNode") (λ before. refl) (a ∷ []))
  command-balanced (node_name x a) =
      set-balanced x _ (asked-balanced (codes "nodeName") (λ before. refl) (a ∷ []))
  command-balanced (child_nodes x a) =
      set-balanced x _ (asked-balanced (codes "childNodes") (λ before. refl) (a ∷ []))
  command-balanced (parent_node x a) =
      set-balanced x _ (asked-balanced (codes "parentNode") (λ before. refl) (a ∷ []))
  command-balanced (list_item x a b) =
      set-balanced x _ (asked-balanced (codes "item") (λ before. refl) (a ∷ b ∷ []))
  command-balanced (append_child a b) =
      asked-balanced (codes "appendChild") (λ before. refl) (a ∷ b ∷ [])
  command-balanced (remove_child a b) =
      asked-balanced (codes "removeChild") (λ before. refl) (a ∷ b ∷ [])
  command-balanced (insert_before a b c) =
      asked-balanced (codes "insertBefore") (λ before. refl) (a ∷ b ∷ c ∷ [])
  command-balanced (if_else c a b) =
      after-one (terminal (codes "if")) (λ before. refl) _
      (beside (cond_lexemes c) _ (condition-balanced c)
      (beside (block_lexemes a) _ (block-balanced a)
      (after-one (terminal (codes "else")) (λ before. refl) (block_lexemes b) (block-balanced b))))
  command-balanced (while_do c b) =
      after-one (terminal (codes "while")) (λ before. refl) _
      (beside (cond_lexemes c) (block_lexemes b) (condition-balanced c) (block-balanced b))
  command-balanced (local (named name s) b) =
      after-one (terminal (codes "local")) (λ before. refl) _
      (after-one (name_lexeme name) (λ before. refl) _
      (after-one (terminal (codes ":")) (λ before. refl) _
      (beside (value_sort_lexemes s) (block_lexemes b) (value-balanced s) (block-balanced b))))
  command-balanced (call xs name es) =
      after-one (terminal (codes "call")) (λ before. refl) _
      (beside (in_brackets (map name_lexemes xs)) _
      (brackets-balanced (map name_lexemes xs) (each-balanced name_lexemes name-balanced xs))
      (after-one (terminal (codes ":=")) (λ before. refl) _
      (after-one (name_lexeme name) (λ before. refl) (in_brackets (map term_lexemes es))
      (terms-balanced es))))

  block-balanced : (b : Block) → Balanced (block_lexemes b)
  block-balanced stop =
      enclosed (terminal (codes "{")) (terminal (codes "}")) (λ before. refl) (λ before. refl) [] []
      nothing nothing
  block-balanced (c then b) =
      subst (λ (l : List Lexeme). Balanced (terminal (codes "{") ∷ l))
      (append_assoc (command_lexemes c) (further_commands b) (the "}"))
      (enclosed (terminal (codes "{")) (terminal (codes "}")) (λ before. refl) (λ before. refl)
      (command_lexemes c ++ further_commands b) []
      (beside (command_lexemes c) (further_commands b) (command-balanced c) (further-balanced-of b))
      nothing)

  further-balanced-of : (b : Block) → Balanced (further_commands b)
  further-balanced-of stop = nothing
  further-balanced-of (c then b) =
      after-one (terminal (codes ";")) (λ before. refl) _
      (beside (command_lexemes c) (further_commands b) (command-balanced c) (further-balanced-of b))

-- STEPS a word is no bracket
no_bracket : List ℕ → Bool
no_bracket word = not (opens (terminal word)) && not (closes (terminal word))

reserved-plain : list_all no_bracket reserved_words ≡ true
unfolding reserved_words no_bracket
reserved-plain = refl

plain-open : (before : ℕ) (up down : Bool) → (not up && not down) ≡ true
    → cond up (before + 1) (cond down (before - 1) before) ≡ before
plain-open before true down e = false≢true e
plain-open before false true e = false≢true e
plain-open before false false e = refl

one-of-plain : (words : List (List ℕ)) → list_all no_bracket words ≡ true → (word : List ℕ)
    → list_any (bytes_eq word) words ≡ true → no_bracket word ≡ true
one-of-plain [] all word e = false≢true e
one-of-plain (x ∷ xs) all word e =
    let both = both_true (no_bracket x) (list_all no_bracket xs) all in
    by_test (bytes_eq word x) refl both.0 (one-of-plain xs both.1 word) e
  where
    by_test : (b : Bool) → bytes_eq word x ≡ b → no_bracket x ≡ true
        → (list_any (bytes_eq word) xs ≡ true → no_bracket word ≡ true)
        → (b || list_any (bytes_eq word) xs) ≡ true → no_bracket word ≡ true
    by_test true same here later e =
        subst (λ w. no_bracket w ≡ true) (sym (bytes-is word x same)) here
    by_test false same here later e = later e

pub reserved-open : (word : List ℕ) → is_reserved word ≡ true → (before : ℕ)
    → open_behind before (terminal word) ≡ before
unfolding no_bracket
reserved-open word e before =
    plain-open before (opens (terminal word)) (closes (terminal word))
    (one-of-plain reserved_words reserved-plain word e)

rule-open : (version : ℕ) (name : List ℕ) (before : ℕ)
    → open_behind before (seen version (word_lexeme name 0)) ≡ before
rule-open version name before =
    by_tests (bytes_eq name (codes "step")) (is_reserved name) refl
  where
    by_second : (second : Bool) (x : Lexeme) → open_behind before x ≡ before
        → open_behind before (cond second x x) ≡ before
    by_second true x e = e
    by_second false x e = e

    by_name : (is second : Bool) → bytes_eq name insert_word ≡ is
        → open_behind before
        (cond second (cond is (terminal name) (name_lexeme name)) (name_lexeme name)) ≡ before
    by_name true true e =
        subst (λ w. open_behind before (terminal w) ≡ before) (sym (bytes-is name insert_word e))
        refl
    by_name true false e = refl
    by_name false true e = refl
    by_name false false e = refl

    by_tests : (step reserved : Bool) → is_reserved name ≡ reserved
        → open_behind before (seen version (word_by step reserved name 0)) ≡ before
    by_tests true reserved e = by_second (version == 2) (step_word 0) refl
    by_tests false true e =
        by_second (version == 2) (terminal name) (reserved-open name e before)
    by_tests false false e = by_name (bytes_eq name insert_word) (version == 2) refl

pub rule-flat : (version : ℕ) (name : List ℕ) → HasDepth 0 (word_lexemes version name)
rule-flat version name =
    subst (HasDepth 0) (sym (one_by_one version (word_lexeme name 0 ∷ [])))
    (one-lexeme (seen version (word_lexeme name 0)) (rule-open version name))

pub rule-balanced : (version : ℕ) (name : List ℕ) → Balanced (word_lexemes version name)
rule-balanced version name = (0, rule-flat version name)

further-flat : (ns : List ℕ) → HasDepth 0 (behind_commas (map number_lexemes ns))
further-flat [] = no-lexeme
further-flat (n ∷ ns) =
    then-one 0 (terminal (codes ",")) _ (one-lexeme (terminal (codes ",")) (λ before. refl))
    (then-one 0 (number_lexeme n) _ (one-lexeme (number_lexeme n) (λ before. refl))
    (further-flat ns))

listed-flat : (ns : List ℕ) → HasDepth 0 (listed (map number_lexemes ns))
listed-flat [] = no-lexeme
listed-flat (n ∷ ns) =
    then-one 0 (number_lexeme n) _ (one-lexeme (number_lexeme n) (λ before. refl))
    (further-flat ns)

-- numbers in brackets
pub numbers-flat : (ns : List ℕ) → HasDepth 1 (in_brackets (map number_lexemes ns))
numbers-flat ns =
    bracketed-depth 0 (terminal (codes "(")) (terminal (codes ")"))
    (listed (map number_lexemes ns)) (λ before. refl) (λ before. refl) (listed-flat ns)

pub reason-balanced : (version : ℕ) (r : Reason) → Balanced (reason_lexemes version r)
reason-balanced version auto = alone (terminal (codes "auto")) (λ before. refl)
reason-balanced version (by_rule name citations arguments) =
    after-one (terminal (codes "by")) (λ before. refl) _
    (beside (word_lexemes version name) _ (rule-balanced version name)
    (beside (in_brackets (map number_lexemes citations)) (argument_lexemes arguments)
    (numbers-balanced citations) (arguments-balanced arguments)))

pub judgement-balanced : (j : JudgementOf Named) → Balanced (judgement_lexemes j)
judgement-balanced (entails p q s) =
    beside (formula_lexemes p) _ (formula-balanced p)
    (after-one (terminal (codes "entails")) (λ before. refl) _
    (beside (formula_lexemes q) _ (formula-balanced q)
    (after-one (terminal (codes "at")) (λ before. refl) (sort_lexemes s) (0, sort-depth s))))
judgement-balanced (triple p c q k) =
    after-one (terminal (codes "pre")) (λ before. refl) _
    (beside (formula_lexemes p) _ (formula-balanced p)
    (after-one (terminal (codes "do")) (λ before. refl) _
    (beside (command_lexemes c) _ (command-balanced c)
    (after-one (terminal (codes "post")) (λ before. refl) _
    (beside (formula_lexemes q) _ (formula-balanced q)
    (after-one (terminal (codes "at")) (λ before. refl) (data_sort_lexemes k)
    (data-balanced k)))))))

pub step-balanced : (version : ℕ) (step : StepOf Named) → Balanced (step_line version step)
step-balanced version step =
    after-one (step_word step.line) (λ before. refl) _
    (after-one (number_lexeme step.number) (λ before. refl) _
    (beside (reason_lexemes version step.reason) _ (reason-balanced version step.reason)
    (after-one (terminal (codes ":")) (λ before. refl) _
    (beside (judgement_lexemes step.judgement) (the ";") (judgement-balanced step.judgement)
    (alone (terminal (codes ";")) (λ before. refl))))))
