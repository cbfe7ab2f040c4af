-- The test of commands decides their equality.
use Rattle.std.proofs.Common.{◌≡◌, Bool, true, false, ◌&&◌, List, [], ◌∷◌, refl, bytes_eq, IsTrue}
use Rattle.std.specs.Prelude.{◌↔◌}
use Rattle.std.proofs.lemmas.Slice.Eq.{bytes_eq-Decides}
use Rattle.model_shapes.proofs.Truth.{both_true}
use Rattle.model_terms.specs.Terms.{Term}
use Rattle.model_formulas.specs.Formulas.{length_is}
use Rattle.model_formulas.specs.SameFormulas.{same_term}
use Rattle.model_formulas.proofs.SameFormulas.{term-is, same_formula-both}
use Rattle.model_terms.specs.Stores.{ProgVar, same_name}
use Rattle.model_terms.proofs.StoreLaws.{same_name-is, same_name-refl}
use Rattle.model_terms.specs.Conditions.{Cond, cond_true, cond_false, cond_variable, cond_equal, cond_at_most, cond_not, cond_and, cond_or}
use Rattle.model_commands.specs.Commands.{Command, skip, block, assign, create_node, node_name, child_nodes, parent_node, list_item, append_child, remove_child, insert_before, if_else, while_do, local, call, Block, stop, ◌then◌}
use Rattle.theory_syntax.specs.SameCommands.{same_terms, same_vars, same_cond, same_command, same_block}

term-refl : (t : Term) → same_term t t ≡ true
term-refl t = (same_formula-both (length_is t) (length_is t)).1 refl

join : (a b : Bool) → a ≡ true → b ≡ true → (a && b) ≡ true
join a b e f = rw (e, f) refl

terms-is : (ts us : List Term) → same_terms ts us ≡ true → ts ≡ us
terms-is [] [] e = refl
terms-is (t ∷ ts) (u ∷ us) e =
    let h = both_true (same_term t u) (same_terms ts us) e in
    rw (term-is t u h.0, terms-is ts us h.1) refl
terms-is ts us e = absurd cc

terms-refl : (ts : List Term) → same_terms ts ts ≡ true
terms-refl [] = refl
terms-refl (t ∷ ts) = join (same_term t t) (same_terms ts ts) (term-refl t) (terms-refl ts)

vars-is : (xs ys : List ProgVar) → same_vars xs ys ≡ true → xs ≡ ys
vars-is [] [] e = refl
vars-is (x ∷ xs) (y ∷ ys) e =
    let h = both_true (same_name x y) (same_vars xs ys) e in
    rw (same_name-is x y h.0, vars-is xs ys h.1) refl
vars-is xs ys e = absurd cc

vars-refl : (xs : List ProgVar) → same_vars xs xs ≡ true
vars-refl [] = refl
vars-refl (x ∷ xs) = join (same_name x x) (same_vars xs xs) (same_name-refl x) (vars-refl xs)

two-terms : (a b c d : Term) → (same_term a c && same_term b d) ≡ true → (a ≡ c) × (b ≡ d)
two-terms a b c d e = let h = both_true (same_term a c) (same_term b d) e in
    (term-is a c h.0, term-is b d h.1)

cond-is : (a b : Cond) → same_cond a b ≡ true → a ≡ b
cond-is cond_true cond_true e = refl
cond-is cond_false cond_false e = refl
cond-is (cond_variable x) (cond_variable y) e = rw (same_name-is x y e) refl
cond-is (cond_equal a b) (cond_equal c d) e = let h = two-terms a b c d e in rw (h.0, h.1) refl
cond-is (cond_at_most a b) (cond_at_most c d) e = let h = two-terms a b c d e in rw (h.0, h.1) refl
cond-is (cond_not a) (cond_not b) e = rw (cond-is a b e) refl
cond-is (cond_and a b) (cond_and c d) e =
    let h = both_true (same_cond a c) (same_cond b d) e in
    rw (cond-is a c h.0, cond-is b d h.1) refl
cond-is (cond_or a b) (cond_or c d) e =
    let h = both_true (same_cond a c) (same_cond b d) e in
    rw (cond-is a c h.0, cond-is b d h.1) refl
cond-is a b e = absurd cc

cond-refl : (a : Cond) → same_cond a a ≡ true
cond-refl cond_true = refl
cond-refl cond_false = refl
cond-refl (cond_variable x) = same_name-refl x
cond-refl (cond_equal a b) = join (same_term a a) (same_term b b) (term-refl a) (term-refl b)
cond-refl (cond_at_most a b) = join (same_term a a) (same_term b b) (term-refl a) (term-refl b)
cond-refl (cond_not a) = cond-refl a
cond-refl (cond_and a b) = join (same_cond a a) (same_cond b b) (cond-refl a) (cond-refl b)
cond-refl (cond_or a b) = join (same_cond a a) (same_cond b b) (cond-refl a) (cond-refl b)

set-is : (x y : ProgVar) (t u : Term) → (same_name x y && same_term t u) ≡ true → (x ≡ y) × (t ≡ u)
set-is x y t u e = let h = both_true (same_name x y) (same_term t u) e in
    (same_name-is x y h.0, term-is t u h.1)

set-refl : (x : ProgVar) (t : Term) → (same_name x x && same_term t t) ≡ true
set-refl x t = join (same_name x x) (same_term t t) (same_name-refl x) (term-refl t)

mutual
  command-is : (c d : Command) → same_command c d ≡ true → c ≡ d
  command-is skip skip e = refl
  command-is (block a) (block b) e = rw (block-is a b e) refl
  command-is (assign x t) (assign y u) e = let h = set-is x y t u e in rw (h.0, h.1) refl
  command-is (create_node x t) (create_node y u) e = let h = set-is x y t u e in rw (h.0, h.1) refl
  command-is (node_name x t) (node_name y u) e = let h = set-is x y t u e in rw (h.0, h.1) refl
  command-is (child_nodes x t) (child_nodes y u) e = let h = set-is x y t u e in rw (h.0, h.1) refl
  command-is (parent_node x t) (parent_node y u) e = let h = set-is x y t u e in rw (h.0, h.1) refl
  command-is (list_item x t i) (list_item y u j) e =
      let h = both_true (same_name x y) (same_term t u && same_term i j) e in
      let k = two-terms t i u j h.1 in rw (same_name-is x y h.0, k.0, k.1) refl
  command-is (append_child t i) (append_child u j) e = let h = two-terms t i u j e in
      rw (h.0, h.1) refl
  command-is (remove_child t i) (remove_child u j) e = let h = two-terms t i u j e in
      rw (h.0, h.1) refl
  command-is (insert_before t i o) (insert_before u j q) e =
      let h = both_true (same_term t u) (same_term i j && same_term o q) e in
      let k = two-terms i o j q h.1 in rw (term-is t u h.0, k.0, k.1) refl
  command-is (if_else c a b) (if_else d a' b') e =
      let h = both_true (same_cond c d) (same_block a a' && same_block b b') e in
      let k = both_true (same_block a a') (same_block b b') h.1 in
      rw (cond-is c d h.0, block-is a a' k.0, block-is b b' k.1) refl
  command-is (while_do c a) (while_do d b) e =
      let h = both_true (same_cond c d) (same_block a b) e in
      rw (cond-is c d h.0, block-is a b h.1) refl
  command-is (local x a) (local y b) e =
      let h = both_true (same_name x y) (same_block a b) e in
      rw (same_name-is x y h.0, block-is a b h.1) refl
  command-is (call xs f ts) (call ys g us) e =
      let h = both_true (same_vars xs ys) (bytes_eq f g && same_terms ts us) e in
      let k = both_true (bytes_eq f g) (same_terms ts us) h.1 in
      rw (vars-is xs ys h.0, (bytes_eq-Decides f g).0 k.0, terms-is ts us k.1) refl
  command-is c d e = absurd cc

  block-is : (a b : Block) → same_block a b ≡ true → a ≡ b
  block-is stop stop e = refl
  block-is (c then a) (d then b) e =
      let h = both_true (same_command c d) (same_block a b) e in
      rw (command-is c d h.0, block-is a b h.1) refl
  block-is a b e = absurd cc

mutual
  command-refl : (c : Command) → same_command c c ≡ true
  command-refl skip = refl
  command-refl (block a) = block-refl a
  command-refl (assign x t) = set-refl x t
  command-refl (create_node x t) = set-refl x t
  command-refl (node_name x t) = set-refl x t
  command-refl (child_nodes x t) = set-refl x t
  command-refl (parent_node x t) = set-refl x t
  command-refl (list_item x t i) =
      join (same_name x x) _ (same_name-refl x)
      (join (same_term t t) (same_term i i) (term-refl t) (term-refl i))
  command-refl (append_child t i) = join (same_term t t) (same_term i i) (term-refl t) (term-refl i)
  command-refl (remove_child t i) = join (same_term t t) (same_term i i) (term-refl t) (term-refl i)
  command-refl (insert_before t i o) =
      join (same_term t t) _ (term-refl t)
      (join (same_term i i) (same_term o o) (term-refl i) (term-refl o))
  command-refl (if_else c a b) =
      join (same_cond c c) _ (cond-refl c)
      (join (same_block a a) (same_block b b) (block-refl a) (block-refl b))
  command-refl (while_do c a) = join (same_cond c c) (same_block a a) (cond-refl c) (block-refl a)
  command-refl (local x a) = join (same_name x x) (same_block a a) (same_name-refl x) (block-refl a)
  command-refl (call xs f ts) =
      join (same_vars xs xs) _ (vars-refl xs)
      (join (bytes_eq f f) (same_terms ts ts) ((bytes_eq-Decides f f).1 refl) (terms-refl ts))

  block-refl : (a : Block) → same_block a a ≡ true
  block-refl stop = refl
  block-refl (c then a) = join (same_command c c) (same_block a a) (command-refl c) (block-refl a)

pub same_command-is : (c d : Command) → same_command c d ≡ true → c ≡ d
same_command-is = command-is

pub same_command-refl : (c : Command) → same_command c c ≡ true
same_command-refl = command-refl

pub same_command-Decides : (c d : Command) → IsTrue (same_command c d) ↔ (c ≡ d)
same_command-Decides c d = (
  command-is c d,
  λ e. Rattle.std.proofs.Common.subst
      (λ z. same_command c z ≡ true) e (command-refl c),
)

pub ruleset command_rules = (same_command-Decides)
