-- A theory that is spelled by few lexemes has few logic variables, and its bodies have few
-- commands: each has a lexeme of its own. So few variables are new in the precondition of a body.
use Rattle.std.proofs.Common.{◌≡◌, ◌∙◌, ℕ, suc, ◌≤◌, ◌+◌, ◌*◌, List, [], ◌∷◌, ◌++◌, map, length, Bool, true, false, cond, Some, refl, sym, ap, subst, arith, length-append, bytes_eq}
use Rattle.std.proofs.lemmas.List.{length-map}
use Rattle.model_shapes.specs.Values.{Name}
use Rattle.model_terms.specs.Variables.{Var, logic}
use Rattle.model_terms.specs.Terms.{Term}
use Rattle.model_terms.specs.Stores.{ProgVar}
use Rattle.model_formulas.specs.Formulas.{Named}
use Rattle.model_commands.specs.Commands.{Command, skip, block, assign, create_node, node_name, child_nodes, parent_node, list_item, append_child, remove_child, insert_before, if_else, while_do, local, call, Block, stop, ◌then◌}
use Rattle.model_commands.specs.CommandParts.{commands_in, commands_of}
use Rattle.model_commands.specs.Theories.{ProcedureOf, Theory, procedure_named}
use Rattle.model_text.specs.Lexemes.{Lexeme}
use Rattle.model_weakest.specs.Written.{new_sorts, new_sorts_of}
use Rattle.model_text.proofs.Versions.{version_length}
use Rattle.model_grammar.specs.Words.{the, ◌⌢◌}
use Rattle.model_grammar.specs.Terms.{SpellsLogicName, a_logic_name}
use Rattle.model_grammar.specs.Commands as grammar
use Rattle.model_grammar.specs.Commands.{Listed, SpellsQuery, SpellsChange, SpellsSetting, SpellsCommand, SpellsBlock, SpellsCommands}
use Rattle.model_grammar.specs.Theories as files
use Rattle.model_grammar.specs.Theories.{SpellsLogicLine, SpellsLogicLines, SpellsProcedure, SpellsProcedures, SpellsRaw, SpellsTheory}
use Rattle.model_grammar.specs.Sorts.{Declared, sorted_command, sorted_block, declared_in, sorted_procedure, with_sorts}

-- how many commands stand in a command, and in a block
abbrev many : Command → ℕ
many c = length (commands_in c)

abbrev many_of : Block → ℕ
many_of b = length (commands_of b)

-- the length of two lists behind one another
two : (s t : List Lexeme) → length (s ⌢ t) ≡ length s + length t
two s t = length-append s t

-- the commands of two blocks, and of a command before a block
both : (a b : Block) → length (commands_of a ++ commands_of b) ≡ many_of a + many_of b
both a b = length-append (commands_of a) (commands_of b)

before : (c : Command) (b : Block) → length (commands_in c ++ commands_of b) ≡ many c + many_of b
before c b = length-append (commands_in c) (commands_of b)

-- a logic name is one lexeme
name_length : {name : Name} {s : List Lexeme} → SpellsLogicName name s → length s ≡ 1
name_length (a_logic_name name) = refl

-- what is set is one command
one_query : {query : ProgVar → Term → Command} {s : List Lexeme} (x : ProgVar) (a : Term)
    → SpellsQuery query s → many (query x a) ≡ 1
one_query x a grammar.create_word = refl
one_query x a grammar.name_word = refl
one_query x a grammar.parent_word = refl
one_query x a grammar.children_word = refl

one_setting : {x : ProgVar} {c : Command} {s : List Lexeme} → SpellsSetting x c s → many c ≡ 1
one_setting (grammar.to_value l) = refl
one_setting {x = x} (grammar.to_answer {a = a} q l) = one_query x a q
one_setting (grammar.to_item l m) = refl

-- so is a change, and it has a lexeme
record OneChange (count : ℕ) (s : List Lexeme) : Type 0 where
  one : count ≡ 1
  some : 1 ≤ length s

one_change : {operation : Term → Term → Command} {s : List Lexeme} (a b : Term)
    → SpellsChange operation s → OneChange (many (operation a b)) s
one_change a b grammar.append_word = record { one = refl; some = omega arith }
one_change a b grammar.remove_word = record { one = refl; some = omega arith }

mutual
  few_in : {c : Command} {s : List Lexeme} → SpellsCommand c s → many c ≤ length s
  few_in grammar.skip_word = omega arith
  few_in (grammar.braces l) = omega (arith, few_in_block l)
  few_in (grammar.choice {a = a} {b = b} {test = t} {first = f} {second = s} lc la lb) =
      omega (
        arith,
        few_in_block la,
        few_in_block lb,
        both a b,
        two t (f ⌢ the "else" ⌢ s),
        two f (the "else" ⌢ s),
      )
  few_in (grammar.loop {test = t} {inner = s} lc lb) =
      omega (arith, few_in_block lb, two t s)
  few_in (grammar.with_local {word = w} {sort = t} {inner = s} lw ls lb) =
      omega (arith, few_in_block lb, two w (the ":" ⌢ t ⌢ s), two t s)
  few_in (grammar.a_call lr lw la) = omega arith
  few_in (grammar.change {a = a} {b = b} {word = w} {parent = p} {child = c} lw lp lc) =
      let one = one_change a b lw in
      omega (arith, one.one, one.some, two w (the "(" ⌢ p ⌢ the "," ⌢ c ⌢ the ")"))
  few_in (grammar.insertion lp lc ln) = omega arith
  few_in (grammar.setting {word = w} {right = r} lx ls) =
      omega (arith, one_setting ls, two w (the ":=" ⌢ r))

  few_in_block : {b : Block} {s : List Lexeme} → SpellsBlock b s → many_of b + 2 ≤ length s
  few_in_block (grammar.in_braces {inner = s} l) = omega (arith, few_of l, two s (the "}"))

  few_of : {b : Block} {s : List Lexeme} → SpellsCommands b s → many_of b ≤ length s
  few_of (grammar.last_command {c = c} l) = omega (arith, few_in l, before c stop)
  few_of (grammar.more_commands {c = c} {b = b} {first = f} {others = o} l ls) =
      omega (arith, few_in l, few_of ls, before c b, two f (the ";" ⌢ o))

-- sorts change no commands
mutual
  kept : (d : Declared) (c : Command) → many (sorted_command d c) ≡ many c
  kept d skip = refl
  kept d (block b) = λ j. suc (kept_of d b j)
  kept d (assign x e) = refl
  kept d (create_node x e) = refl
  kept d (node_name x e) = refl
  kept d (child_nodes x e) = refl
  kept d (parent_node x e) = refl
  kept d (list_item x e f) = refl
  kept d (append_child e f) = refl
  kept d (remove_child e f) = refl
  kept d (insert_before e f g) = refl
  kept d (if_else c a b) =
      ap suc (both (sorted_block d a) (sorted_block d b)
      ∙ (λ j. kept_of d a j + kept_of d b j) ∙ sym (both a b))
  kept d (while_do c b) = λ j. suc (kept_of d b j)
  kept d (local x b) = λ j. suc (kept_of d b j)
  kept d (call results name arguments) = refl

  kept_of : (d : Declared) (b : Block) → many_of (sorted_block d b) ≡ many_of b
  kept_of d stop = refl
  kept_of d (c then b) =
      before (sorted_command d c) (sorted_block d b)
      ∙ (λ j. kept d c j + kept_of d b j) ∙ sym (before c b)

-- the body of a procedure
few_in_procedure : (logics : List Var) {f : ProcedureOf Named} {s : List Lexeme}
    → SpellsProcedure f s → many (sorted_procedure logics f).body ≤ length s
few_in_procedure logics {f = f} (files.procedure {c = c} {name = name} {params = params}
    {results = results} {sort = sort} {requires_ = pre} {ensures_ = post} {body = body}
    {proof = proof} ln lps lrs lk lp lq lc lxs) =
    let m = two body (the "proof" ⌢ proof ⌢ the "end") in
    let k = two post (the "body" ⌢ body ⌢ the "proof" ⌢ proof ⌢ the "end") in
    let g = two pre (the "ensures" ⌢ post ⌢ the "body" ⌢ body ⌢ the "proof" ⌢ proof ⌢ the "end") in
    let e = two sort (the "requires" ⌢ pre ⌢ the "ensures" ⌢ post ⌢ the "body" ⌢ body
    ⌢ the "proof" ⌢ proof ⌢ the "end") in
    let r = two results (the "sort" ⌢ sort ⌢ the "requires" ⌢ pre ⌢ the "ensures" ⌢ post
    ⌢ the "body" ⌢ body ⌢ the "proof" ⌢ proof ⌢ the "end") in
    let b = two params (the "returns" ⌢ results ⌢ the "sort" ⌢ sort ⌢ the "requires" ⌢ pre
    ⌢ the "ensures" ⌢ post ⌢ the "body" ⌢ body ⌢ the "proof" ⌢ proof ⌢ the "end") in
    let a = two name (params ⌢ the "returns" ⌢ results ⌢ the "sort" ⌢ sort ⌢ the "requires" ⌢ pre
    ⌢ the "ensures" ⌢ post ⌢ the "body" ⌢ body ⌢ the "proof" ⌢ proof ⌢ the "end") in
    omega (arith, a, b, r, e, g, k, m, few_in lc, kept (declared_in logics f) c)

some_same : {A : Type 0} (x y : A) → Some x ≡ Some y → x ≡ y
some_same x y e = cc

module _ (logics : List Var) (name : Name) (f : ProcedureOf Named) where
  -- that of the first of some procedures, or of a later one
  found : (p : ProcedureOf Named) (ps : List (ProcedureOf Named)) (most : ℕ)
      → many (sorted_procedure logics p).body ≤ most
      → (procedure_named name (map (sorted_procedure logics) ps) ≡ Some f
      → many f.body ≤ most)
      → procedure_named name (map (sorted_procedure logics) (p ∷ ps)) ≡ Some f
      → many f.body ≤ most
  found p ps most here later e = by_name (bytes_eq name p.name) e
    where
      by_name : (t : Bool) → cond t (Some (sorted_procedure logics p))
          (procedure_named name (map (sorted_procedure logics) ps)) ≡ Some f
          → many f.body ≤ most
      by_name true e =
          subst (λ (z : ProcedureOf Named). many z.body ≤ most) (some_same _ f e) here
      by_name false e = later e

  few_in_procedures : {ps : List (ProcedureOf Named)} {s : List Lexeme} → SpellsProcedures ps s
      → procedure_named name (map (sorted_procedure logics) ps) ≡ Some f
      → many f.body ≤ length s
  few_in_procedures {s = s} (files.last_procedure {f = p} l) e =
      found p [] (length s) (few_in_procedure logics l) (λ d. absurd cc) e
  few_in_procedures {s = s} (files.more_procedures {f = p} {fs = ps} {first = a} {others = b} l ls)
      e =
      found p ps (length s) (omega (arith, few_in_procedure logics l, two a b))
      (λ d. omega (arith, few_in_procedures ls d, two a b)) e

-- LOGIC VARIABLES
named_few : {names : List Name} {s : List Lexeme} → Listed SpellsLogicName names s
    → length names ≤ length s
named_few (grammar.last_item l) = omega (arith, name_length l)
named_few (grammar.more_items {item = a} {others = b} l ls) =
    omega (arith, name_length l, named_few ls, two a (the "," ⌢ b))

line_few : {xs : List Var} {s : List Lexeme} → SpellsLogicLine xs s → length xs ≤ length s
line_few (files.logic_line {s = u} {names = names} {sort = k} {words = w} ls ln) =
    omega (
      arith,
      named_few ln,
      length-map names (λ name. logic name u),
      two k (w ⌢ the ";"),
      two w (the ";"),
    )

lines_few : {xs : List Var} {s : List Lexeme} → SpellsLogicLines xs s → length xs ≤ length s
lines_few files.no_line = omega arith
lines_few (files.one_line {xs = xs} {ys = ys} {first = a} {others = b} l ls) =
    omega (arith, line_few l, lines_few ls, two a b, length-append xs ys)

raw_few : {t : Theory} {s : List Lexeme} → SpellsRaw t s
    → length (with_sorts t).logic ≤ length s
raw_few (files.theory {version = v} {lines = l} {procedures = ps} lv ll lps) =
    omega (arith, lines_few ll, two v (l ⌢ ps), two l ps)

pub few_logic : (t : Theory) (s : List Lexeme) → SpellsTheory t s → length t.logic ≤ length s
few_logic t s spelled =
    subst (λ (z : Theory). length z.logic ≤ length s) (sym spelled.sorted)
    (omega (arith, raw_few spelled.spelled, version_length s))

-- NEW VARIABLES
-- a command brings at most nineteen, and a block as many as its commands
mutual
  pub few_sorts : (c : Command) → length (new_sorts c) ≤ 19 * length (commands_in c)
  few_sorts skip = omega arith
  few_sorts (block b) = omega (arith, few_sorts_of b)
  few_sorts (assign x e) = omega arith
  few_sorts (create_node x e) = omega arith
  few_sorts (node_name x e) = omega arith
  few_sorts (child_nodes x e) = omega arith
  few_sorts (parent_node x e) = omega arith
  few_sorts (list_item x e f) = omega arith
  few_sorts (append_child e f) = omega arith
  few_sorts (remove_child e f) = omega arith
  few_sorts (insert_before e f g) = omega arith
  few_sorts (if_else c a b) = omega arith
  few_sorts (while_do c b) = omega arith
  few_sorts (local x b) = omega arith
  few_sorts (call results name arguments) = omega arith

  few_sorts_of : (b : Block) → length (new_sorts_of b) ≤ 19 * length (commands_of b)
  few_sorts_of stop = omega arith
  few_sorts_of (c then b) =
      omega (
        arith,
        few_sorts c,
        few_sorts_of b,
        before c b,
        length-append (new_sorts_of b) (new_sorts c),
      )

module _ (name : Name) (f : ProcedureOf Named) where
  few_in_raw : {t : Theory} {s : List Lexeme} → SpellsRaw t s
      → procedure_named name (with_sorts t).procedures ≡ Some f → many f.body ≤ length s
  few_in_raw (files.theory {xs = xs} {version = v} {lines = l} {procedures = ps} lv ll lps) e =
      omega (arith, few_in_procedures xs name f lps e, two v (l ⌢ ps), two l ps)

  pub few_commands : (t : Theory) (s : List Lexeme) → SpellsTheory t s
      → procedure_named name t.procedures ≡ Some f → length (commands_in f.body) ≤ length s
  few_commands t s spelled e =
      let few = few_in_raw spelled.spelled
      (subst (λ (z : Theory). procedure_named name z.procedures ≡ Some f) spelled.sorted e) in
      omega (arith, few, version_length s)
