-- The reader of commands reads what the grammar spells, and only that.
use Rattle.std.proofs.Common.{◌≡◌, ℕ, zero, suc, ◌≤◌, List, [], ◌∷◌, ◌++◌, refl, sym, ap, subst, codes, arith, Ok}
use Rattle.model_terms.specs.Terms.{Term}
use Rattle.model_terms.specs.Stores.{ProgVar, named}
use Rattle.model_commands.specs.Commands as model
use Rattle.model_commands.specs.Commands.{Command, Block, skip, assign, create_node, node_name, child_nodes, parent_node, list_item, append_child, remove_child, insert_before, if_else, while_do, local, call}
use Rattle.theory_syntax.specs.Commands.{block_with}
use Rattle.model_text.specs.Lexemes.{Lexeme, terminal}
use Rattle.model_grammar.specs.Words.{the}
use Rattle.model_grammar.specs.Terms.{used_name, in_command, a_name, SpellsTerm, program_variable, text_literal, number_literal, negative_literal, constant, operation, null_word, nolist_word, yes_word, no_word}
use Rattle.model_grammar.specs.Commands as g
use Rattle.model_grammar.specs.Commands.{Bracketed, SpellsVariable, a_variable, SpellsCondition, SpellsSetting, to_value, to_answer, to_item, SpellsCommand, skip_word, braces, choice, loop, with_local, a_call, change, insertion, setting, SpellsBlock, in_braces, SpellsCommands, last_command, more_commands}
use Rattle.model_text.proofs.Usual.{is_seen}
use Rattle.token_readers.specs.Reading.{Answer, Read, ◌>>=◌, ret, then, when, leaf}
use Rattle.logic_text.specs.TermReaders.{term_at}
use Rattle.logic_text.proofs.TermReader.{term_sound, term_only}
use Rattle.logic_text.proofs.FormulaReader.{ends_with}
use Rattle.proof_text.specs.Lists.{leaf_variable, bracketed_at}
use Rattle.proof_text.specs.Commands.{cond_at, semicolon, block_rest, block_at, one_at, two_at, three_at, setting_at, choice_at, loop_at, local_at, call_at, change_at, command_at}
use Rattle.token_readers.proofs.Sound.{Sound, After, s_ret, s_then, s_when, s_case, s_deep, s_expect, s_expect_up, s_close}
use Rattle.token_readers.proofs.Only.{Only, OrDeep, deep, read, Prefix_free, o_last, o_then}
use Rattle.token_readers.proofs.Lists.{SpellsList, last, more, s_list, list_only}
use Rattle.proof_text.proofs.ListReader.{name_sound, name_only, variable_sound, variable_only, value_sort_sound, value_sort_only, bracketed_sound, bracketed_only}
use Rattle.proof_text.proofs.ConditionReader.{cond_sound, cond_only}

-- a block as a list of commands, and as the grammar has it
block_of : {cs : List Command} {s : List Lexeme} → SpellsList semicolon SpellsCommand cs s
    → SpellsCommands (block_with cs) s
block_of (last l) = last_command l
block_of (more l ls) = more_commands l (block_of ls)

listed : {b : Block} {s : List Lexeme} → SpellsCommands b s
    → (cs : List Command) × (block_with cs ≡ b) × SpellsList semicolon SpellsCommand cs s
listed (last_command {c = c} l) = (c ∷ [], refl, last l)
listed (more_commands {c = c} l ls) = let x = listed ls in
    (c ∷ x.0, ap (model.◌then◌ c) x.1, more l x.2)

-- what is read by a reader is of any wider language
s_wider : {A : Type 0} {n : ℕ} {r : Read A} {L : A → List Lexeme → Type 0}
    (M : A → List Lexeme → Type 0) → ((a : A) (s : List Lexeme) → L a s → M a s) → Sound n r L
    → Sound n r M
s_wider M f S = record {
  some = (S.some.0, S.some.1, f S.some.0 S.some.1 S.some.2, S.some.3);
  found = λ ts a rest e. let x = S.found ts a rest e in (x.0, x.1, f a x.0 x.2);
  viable = λ ts k e. let v = S.viable ts k e in (
    v.0,
    v.1,
    v.2,
    v.3,
    v.4,
    v.5,
    f v.4
        (v.0 ++ v.5) v.6,
    v.7,
  );
  local_ok = S.local_ok;
  local_err = S.local_err;
  ends = S.ends;
}

-- WHAT IS READ IS SPELLED
rest_sound : (most n : ℕ) → n ≤ most → (command : Read Command) → Sound n command SpellsCommand
    → Sound n (block_rest most command) (After (terminal (codes "{")) SpellsBlock)
unfolding block_rest
rest_sound most n h command S =
    s_then _ (s_list semicolon most n h S) λ cs s ls. s_close n (codes "}") refl (block_with cs) _
    (in_braces (block_of ls))

block_sound : (most n : ℕ) → n ≤ most → (command : Read Command) → Sound n command SpellsCommand
    → Sound n (block_at most command) SpellsBlock
unfolding block_at
block_sound most n h command S = s_expect (codes "{") refl _ (rest_sound most n h command S)

T : (n : ℕ) → Sound n (term_at in_command n) (SpellsTerm in_command)
T n = term_sound in_command n

one_sound : (n : ℕ) (make : Term → Command) (L : Command → List Lexeme → Type 0)
    → ((a : Term) (s : List Lexeme) → SpellsTerm in_command a s
    → L (make a) (terminal (codes "(") ∷ (s ++ the ")")))
    → Sound n (one_at (term_at in_command n) make) L
unfolding one_at
one_sound n make L spelled = s_expect (codes "(") refl L
    (s_then _ (T n) λ a s la. s_close n (codes ")") refl (make a) _ (spelled a s la))

two_sound : (n : ℕ) (make : Term → Term → Command) (L : Command → List Lexeme → Type 0)
    → ((a b : Term) (s t : List Lexeme) → SpellsTerm in_command a s → SpellsTerm in_command b t
    → L (make a b) (terminal (codes "(") ∷ (s ++ (terminal (codes ",") ∷ (t ++ the ")")))))
    → Sound n (two_at (term_at in_command n) make) L
unfolding two_at
two_sound n make L spelled =
    s_expect (codes "(") refl L (s_then _ (T n) λ a s la. s_expect (codes ",") refl _
    (s_then _ (T n) λ b t lb.
    s_close n (codes ")") refl (make a b) _ (spelled a b s t la lb)))

three_sound : (n : ℕ) (make : Term → Term → Term → Command) (L : Command → List Lexeme → Type 0)
    → ((a b c : Term) (s t u : List Lexeme) → SpellsTerm in_command a s
    → SpellsTerm in_command b t → SpellsTerm in_command c u
    → L (make a b c) (terminal (codes "(") ∷ (s ++ (terminal (codes ",") ∷ (t
    ++ (terminal (codes ",") ∷ (u ++ the ")")))))))
    → Sound n (three_at (term_at in_command n) make) L
unfolding three_at
three_sound n make L spelled =
    s_expect (codes "(") refl L (s_then _ (T n) λ a s la. s_expect (codes ",") refl _
    (s_then _ (T n) λ b t lb. s_expect (codes ",") refl _ (s_then _ (T n) λ c u lc.
    s_close n (codes ")") refl (make a b c) _ (spelled a b c s t u la lb lc))))

setting_sound : (n : ℕ) (x : ProgVar) → Sound n (setting_at (term_at in_command n) x)
    (SpellsSetting x)
unfolding setting_at
setting_sound n x =
    s_case (codes "createNode") (one_sound n (create_node x) _ λ a s la. to_answer g.create_word la)
    (s_case (codes "nodeName") (one_sound n (node_name x) _ λ a s la. to_answer g.name_word la)
    (s_case (codes "parentNode") (one_sound n (parent_node x) _ λ a s la.
    to_answer g.parent_word la)
    (s_case (codes "childNodes") (one_sound n (child_nodes x) _ λ a s la.
    to_answer g.children_word la)
    (s_case (codes "item") (two_sound n (list_item x) _ λ a b s t la lb. to_item la lb)
    (s_then _ (T n) λ a s la. s_ret n (assign x a) _ (to_value
    (ends_with (SpellsTerm in_command) la)))))))

change_sound : (n : ℕ) → Sound (suc n) (change_at (term_at in_command n)) SpellsCommand
unfolding change_at
change_sound n =
    s_when n (codes "appendChild") (two_sound n append_child _ λ a b s t la lb.
    change g.append_word la lb)
    (s_when n (codes "removeChild") (two_sound n remove_child _ λ a b s t la lb.
    change g.remove_word la lb)
    (s_when n (codes "insertBefore") (three_sound n insert_before _ λ a b c s t u la lb lc.
    insertion la lb lc)
    (s_then _ (variable_sound (suc n)) λ x s lx. s_expect_up n (codes ":=") refl _
    (s_wider _ (λ c t l. setting lx l) (setting_sound n x)))))

module _ (most n : ℕ) (h : n ≤ most) (command : Read Command)
    (S : Sound n command SpellsCommand) where
  B : Sound n (block_at most command) SpellsBlock
  B = block_sound most n h command S

  choice_sound : Sound n (choice_at (cond_at n) (block_at most command))
      (After (terminal (codes "if")) SpellsCommand)
  unfolding choice_at
  choice_sound =
      s_then _ (cond_sound n) λ c s lc. s_then _ B λ a t la. s_expect (codes "else") refl _
      (s_then _ B λ b u lb.
      s_ret n (if_else c a b) _ (choice lc la (ends_with SpellsBlock lb)))

  loop_sound : Sound n (loop_at (cond_at n) (block_at most command))
      (After (terminal (codes "while")) SpellsCommand)
  unfolding loop_at
  loop_sound = s_then _ (cond_sound n) λ c s lc. s_then _ B λ b t lb. s_ret n (while_do c b) _
      (loop lc (ends_with SpellsBlock lb))

  local_sound : Sound n (local_at (block_at most command))
      (After (terminal (codes "local")) SpellsCommand)
  unfolding local_at
  local_sound =
      s_then _ (name_sound n) λ name s ln. s_expect (codes ":") refl _
      (s_then _ (value_sort_sound n) λ v t lv. s_then _ B λ b u lb.
      s_ret n (local (named name v) b) _ (with_local ln lv (ends_with SpellsBlock lb)))

  call_sound : Sound n (call_at most (term_at in_command n))
      (After (terminal (codes "call")) SpellsCommand)
  unfolding call_at
  call_sound =
      s_then _ (bracketed_sound (leaf leaf_variable) SpellsVariable most n h (variable_sound n)) λ
      xs s lxs.
      s_expect (codes ":=") refl _ (s_then _ (name_sound n) λ name t ln.
      s_then _ (bracketed_sound (term_at in_command n) (SpellsTerm in_command) most n h (T n)) λ es
      u les.
      s_ret n (call xs name es) _ (a_call lxs ln (ends_with
      (Bracketed (SpellsTerm in_command)) les)))

pub command_sound : (most n : ℕ) → n ≤ most → Sound n (command_at most n) SpellsCommand
unfolding command_at
command_sound most zero h = s_deep _ _ (λ ts. refl) skip (the "skip") skip_word
    (is_seen (codes "skip") refl, tt)
command_sound most (suc n) h =
    let k : n ≤ most = omega arith in
    let S : Sound n (command_at most n) SpellsCommand = command_sound most n k in
    s_when n (codes "skip") (s_ret n skip _ skip_word)
    (s_when n (codes "{") (s_then _ (rest_sound most n k (command_at most n) S) λ b s lb. s_ret n
    (model.block b) _ (braces (ends_with SpellsBlock lb)))
    (s_when n (codes "if") (choice_sound most n k (command_at most n) S)
    (s_when n (codes "while") (loop_sound most n k (command_at most n) S)
    (s_when n (codes "local") (local_sound most n k (command_at most n) S)
    (s_when n (codes "call") (call_sound most n k (command_at most n) S)
    (change_sound n))))))

-- WHAT IS SPELLED IS READ
O : (n : ℕ) → Only (term_at in_command n) (SpellsTerm in_command) Prefix_free
O n = term_only in_command n

variables_only : (most : ℕ) → Only (bracketed_at (leaf leaf_variable) most)
    (Bracketed SpellsVariable) Prefix_free
variables_only = bracketed_only (leaf leaf_variable) SpellsVariable variable_only opens
  where
    opens : (a : ProgVar) (s rest : List Lexeme) (r other : Read (List ProgVar))
        → SpellsVariable a s → when (codes ")") r other (s ++ rest) ≡ other (s ++ rest)
    opens a s rest r other (a_variable (a_name name)) = refl

terms_only : (n most : ℕ) → Only (bracketed_at (term_at in_command n) most)
    (Bracketed (SpellsTerm in_command)) Prefix_free
terms_only n = bracketed_only (term_at in_command n) (SpellsTerm in_command) (O n) opens
  where
    opens : (a : Term) (s rest : List Lexeme) (r other : Read (List Term))
        → SpellsTerm in_command a s → when (codes ")") r other (s ++ rest) ≡ other (s ++ rest)
    opens a s rest r other (program_variable name) = refl
    opens a s rest r other (text_literal text) = refl
    opens a s rest r other (number_literal m h) = refl
    opens a s rest r other (negative_literal m h) = refl
    opens a s rest r other (constant null_word) = refl
    opens a s rest r other (constant nolist_word) = refl
    opens a s rest r other (constant yes_word) = refl
    opens a s rest r other (constant no_word) = refl
    opens a s rest r other (operation la lo lb) = refl

rest_reads : (most : ℕ) (command : Read Command) → Only command SpellsCommand Prefix_free
    → (b : Block) (s rest : List Lexeme) → SpellsCommands b s
    → OrDeep (block_rest most command ((s ++ the "}") ++ rest)) b rest
unfolding block_rest
rest_reads most command C b s rest l =
    let x = listed l in
    subst (λ z. OrDeep (block_rest most command ((s ++ the "}") ++ rest)) z rest) x.1
    (o_then _ _ rest (list_only semicolon command SpellsCommand C most) x.2 refl read)

block_only : (most : ℕ) (command : Read Command) → Only command SpellsCommand Prefix_free
    → Only (block_at most command) SpellsBlock Prefix_free
unfolding block_at
block_only most command C = record { only = λ b s rest l st. reads b s rest l }
  where
    reads : (b : Block) (s rest : List Lexeme) → SpellsBlock b s
        → OrDeep (block_at most command (s ++ rest)) b rest
    reads b s rest (in_braces {inner = inner} l) = rest_reads most command C b inner rest l

-- what is set to a term
term_first : (n : ℕ) (x : ProgVar) (a : Term) (s rest : List Lexeme) → SpellsTerm in_command a s
    → setting_at (term_at in_command n) x (s ++ rest) ≡ then (term_at in_command n)
    (λ b. ret (assign x b)) (s ++ rest)
unfolding setting_at
term_first n x a s rest (program_variable name) = refl
term_first n x a s rest (text_literal text) = refl
term_first n x a s rest (number_literal m h) = refl
term_first n x a s rest (negative_literal m h) = refl
term_first n x a s rest (constant null_word) = refl
term_first n x a s rest (constant nolist_word) = refl
term_first n x a s rest (constant yes_word) = refl
term_first n x a s rest (constant no_word) = refl
term_first n x a s rest (operation la lo lb) = refl

setting_reads : (n : ℕ) (x : ProgVar) (c : Command) (s rest : List Lexeme) → SpellsSetting x c s
    → OrDeep (setting_at (term_at in_command n) x (s ++ rest)) c rest
unfolding setting_at one_at two_at
setting_reads n x c s rest (to_value {a = a} la) =
    subst (λ z. OrDeep z (assign x a) rest) (sym (term_first n x a s rest la))
    (o_last _ rest (O n) la refl read)
setting_reads n x c s rest (to_answer g.create_word la) = o_then _ _ rest (O n) la refl read
setting_reads n x c s rest (to_answer g.name_word la) = o_then _ _ rest (O n) la refl read
setting_reads n x c s rest (to_answer g.parent_word la) = o_then _ _ rest (O n) la refl read
setting_reads n x c s rest (to_answer g.children_word la) = o_then _ _ rest (O n) la refl read
setting_reads n x c s rest (to_item la lb) = o_then _ _ rest (O n) la refl
    (o_then _ _ rest (O n) lb refl read)

command_reads : (most n : ℕ) (c : Command) (s rest : List Lexeme) → SpellsCommand c s
    → OrDeep (command_at most n (s ++ rest)) c rest
unfolding command_at choice_at loop_at local_at call_at change_at two_at three_at block_at
command_reads most zero c s rest l = deep
command_reads most (suc n) c s rest skip_word = read
command_reads most (suc n) c s rest (braces (in_braces {b = b} {inner = inner} l)) =
    let C : Only (command_at most n) SpellsCommand Prefix_free = record
    { only = λ c s rest l st. command_reads most n c s rest l } in
    block_reads b (block_rest most (command_at most n) ((inner ++ the "}") ++ rest)) rest
    (rest_reads most (command_at most n) C b inner rest l)
  where
    block_reads : (b : Block) (x : Answer Block) (rest : List Lexeme) → OrDeep x b rest
        → OrDeep (x >>= λ z. Ok (model.block z.0, z.1)) (model.block b) rest
    block_reads b x rest deep = deep
    block_reads b x rest read = read
command_reads most (suc n) c s rest (choice lc (in_braces la) lb) =
    let B = block_only most (command_at most n) (record
    { only = λ c s rest l st. command_reads most n c s rest l }) in
    o_then _ _ rest (cond_only n) lc refl (o_then _ _ rest B (in_braces la) refl
    (o_last _ rest B lb refl read))
command_reads most (suc n) c s rest (loop lc (in_braces lb)) =
    let B = block_only most (command_at most n) (record
    { only = λ c s rest l st. command_reads most n c s rest l }) in
    o_then _ _ rest (cond_only n) lc refl (o_last _ rest B (in_braces lb) refl read)
command_reads most (suc n) c s rest (with_local (a_name name) lv lb) =
    let B = block_only most (command_at most n) (record
    { only = λ c s rest l st. command_reads most n c s rest l }) in
    o_then _ _ rest value_sort_only lv refl (o_last _ rest B lb refl read)
command_reads most (suc n) c s rest (a_call lxs ln les) =
    o_then _ _ rest (variables_only most) lxs refl (o_then _ _ rest name_only ln refl
    (o_last _ rest (terms_only n most) les refl read))
command_reads most (suc n) c s rest (change g.append_word la lb) = o_then _ _ rest (O n) la refl
    (o_then _ _ rest (O n) lb refl read)
command_reads most (suc n) c s rest (change g.remove_word la lb) = o_then _ _ rest (O n) la refl
    (o_then _ _ rest (O n) lb refl read)
command_reads most (suc n) c s rest (insertion la lb lc) = o_then _ _ rest (O n) la refl
    (o_then _ _ rest (O n) lb refl (o_then _ _ rest (O n) lc refl read))
command_reads most (suc n) c s rest (setting {right = t} (a_variable (a_name name)) l) =
    setting_reads n (used_name name) c t rest l

pub command_only : (most n : ℕ) → Only (command_at most n) SpellsCommand Prefix_free
command_only most n = record { only = λ c s rest l st. command_reads most n c s rest l }
