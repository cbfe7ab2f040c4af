-- The terms of a command are the letters of its kind.
use Rattle.std.proofs.Common.{◌≡◌, refl, sym, ap, ap₂, true, [], Some}
use Rattle.model_shapes.specs.Sorts.{node_sort}
use Rattle.model_shapes.proofs.Truth.{false≢true}
use Rattle.model_terms.specs.Stores.{ProgVar, named}
use Rattle.model_commands.specs.Commands.{Command, create_node, node_name, child_nodes, parent_node, list_item, append_child, remove_child, insert_before}
use Rattle.rule_table.specs.Letters.{Letters}
use Rattle.rule_table.specs.Notation.{prog_term}
use Rattle.rule_patterns.specs.Patterns.{terms_of}
use Rattle.letter_bindings.specs.Known.{nothing}
use Rattle.letter_bindings.specs.Matching.{match_terms}
use Rattle.small_axioms.specs.declared.rows.Kind.{Kind}
use Rattle.small_axioms.specs.declared.rows.Kind.TheVariants as k
use Rattle.small_axioms.specs.Commands.{command_at, letters_of, terms_in, known_of}
use Rattle.small_axioms.specs.Lines.{own}
use Rattle.small_axioms.specs.Parts.{new_root}
use Rattle.small_axioms.specs.Tests.{is_kind}

-- the variable that a command of the document sets
abbrev pub target : Command → ProgVar
target (create_node x e) = x
target (node_name x e) = x
target (child_nodes x e) = x
target (parent_node x e) = x
target (list_item x e f) = x
target c = named [] node_sort

-- A WALK over the terms knows them
pub terms-known : (kind : Kind) (c : Command) → is_kind kind c ≡ true
    → match_terms (letters_of kind) (terms_in c) nothing ≡ Some (known_of c)
terms-known k.Create (create_node x e) h = refl
terms-known k.Name (node_name x e) h = refl
terms-known k.Children (child_nodes x e) h = refl
terms-known k.Parent (parent_node x e) h = refl
terms-known k.Item (list_item x e f) h = refl
terms-known k.Append (append_child e f) h = refl
terms-known k.Remove (remove_child e f) h = refl
terms-known k.InsertBefore (insert_before e f g) h = refl
terms-known kind c h = false≢true h

-- THE LETTERS that stand for more than themselves
-- N is the variable, where the command sets one
abbrev pub IsTarget : Kind → ProgVar → Letters → Type 0
IsTarget k.Append x l = Unit {0}
IsTarget k.Remove x l = Unit {0}
IsTarget k.InsertBefore x l = Unit {0}
IsTarget kind x l = l.N ≡ prog_term x

-- Q is the formula after the command, where it creates a node
abbrev pub IsNew : Kind → ProgVar → Letters → Type 0
IsNew k.Create x l = new_root l.T (prog_term x) ≡ l.Q
IsNew kind x l = Unit {0}

pub own-again : (kind : Kind) (x : ProgVar) (l : Letters) → IsTarget kind x l → IsNew kind x l
    → own kind x l ≡ l
own-again k.Create x l e f = λ i. record l { N = sym e i; Q = f i }
own-again k.Name x l e f = λ i. record l { N = sym e i }
own-again k.Children x l e f = λ i. record l { N = sym e i }
own-again k.Parent x l e f = λ i. record l { N = sym e i }
own-again k.Item x l e f = λ i. record l { N = sym e i }
own-again k.Append x l e f = refl
own-again k.Remove x l e f = refl
own-again k.InsertBefore x l e f = refl

-- THE COMMAND that letters make is of the kind, and they are its terms
pub kind-self : (kind : Kind) (x : ProgVar) (l : Letters)
    → is_kind kind (command_at kind x l) ≡ true
kind-self k.Create x l = refl
kind-self k.Name x l = refl
kind-self k.Children x l = refl
kind-self k.Parent x l = refl
kind-self k.Item x l = refl
kind-self k.Append x l = refl
kind-self k.Remove x l = refl
kind-self k.InsertBefore x l = refl

pub terms-self : (kind : Kind) (x : ProgVar) (l : Letters)
    → terms_of (own kind x l) (letters_of kind) ≡ terms_in (command_at kind x (own kind x l))
terms-self k.Create x l = refl
terms-self k.Name x l = refl
terms-self k.Children x l = refl
terms-self k.Parent x l = refl
terms-self k.Item x l = refl
terms-self k.Append x l = refl
terms-self k.Remove x l = refl
terms-self k.InsertBefore x l = refl

-- a command of the kind is made by letters that are its terms
pub command-from : (kind : Kind) (c : Command) → is_kind kind c ≡ true → (l : Letters)
    → terms_of l (letters_of kind) ≡ terms_in c
    → (command_at kind (target c) l ≡ c) × IsTarget kind (target c) l
command-from k.Create (create_node x e) h l t =
    let f : l.E ≡ e = cc in let g : l.N ≡ prog_term x = cc in (ap (create_node x) f, g)
command-from k.Name (node_name x e) h l t =
    let f : l.E ≡ e = cc in let g : l.N ≡ prog_term x = cc in (ap (node_name x) f, g)
command-from k.Children (child_nodes x e) h l t =
    let f : l.E ≡ e = cc in let g : l.N ≡ prog_term x = cc in (ap (child_nodes x) f, g)
command-from k.Parent (parent_node x e) h l t =
    let f : l.E ≡ e = cc in let g : l.N ≡ prog_term x = cc in (ap (parent_node x) f, g)
command-from k.Item (list_item x e i) h l t =
    let f : l.E ≡ e = cc in let j : l.F ≡ i = cc in let g : l.N ≡ prog_term x = cc in
    (ap₂ (list_item x) f j, g)
command-from k.Append (append_child a b) h l t =
    let f : l.E ≡ a = cc in let g : l.F ≡ b = cc in (ap₂ append_child f g, tt)
command-from k.Remove (remove_child a b) h l t =
    let f : l.E ≡ a = cc in let g : l.F ≡ b = cc in (ap₂ remove_child f g, tt)
command-from k.InsertBefore (insert_before a b o) h l t =
    let f : l.E ≡ a = cc in let g : l.F ≡ b = cc in let m : l.G ≡ o = cc in
    ((λ i. insert_before (f i) (g i) (m i)), tt)
command-from kind c h l t = false≢true h
