-- Needn't be believed: the promises speak of the table of rules. The terms of a command of the
-- document and the variable that it sets, as the letters of its axioms.
use Rattle.std.specs.Prelude.{List, [], ◌∷◌, Option, Some, None}
use Rattle.model_terms.specs.Terms.{Term}
use Rattle.model_terms.specs.Stores.{ProgVar}
use Rattle.model_commands.specs.Commands.{Command, create_node, node_name, child_nodes, parent_node, list_item, append_child, remove_child, insert_before}
use Rattle.rule_table.specs.Letters.{Letters}
use Rattle.rule_table.specs.Notation.{prog_term}
use Rattle.rule_patterns.specs.Letter.{E', F', G', N'}
use Rattle.rule_patterns.specs.Patterns.{TermPattern, some_term}
use Rattle.letter_bindings.specs.Known.{Known, nothing, no_terms}
use Rattle.small_axioms.specs.declared.rows.Kind.{Kind}
use Rattle.small_axioms.specs.declared.rows.Kind.TheVariants as k

-- the command of the kind, with these letters and this variable
abbrev pub command_at : Kind → ProgVar → Letters → Command
command_at k.Create x l = create_node x l.E
command_at k.Name x l = node_name x l.E
command_at k.Children x l = child_nodes x l.E
command_at k.Parent x l = parent_node x l.E
command_at k.Item x l = list_item x l.E l.F
command_at k.Append x l = append_child l.E l.F
command_at k.Remove x l = remove_child l.E l.F
command_at k.InsertBefore x l = insert_before l.E l.F l.G

-- its letters, and its terms in that order; the variable stands in the place of N
abbrev pub letters_of : Kind → List TermPattern
letters_of k.Item = some_term E' ∷ some_term F' ∷ some_term N' ∷ []
letters_of k.Append = some_term E' ∷ some_term F' ∷ []
letters_of k.Remove = some_term E' ∷ some_term F' ∷ []
letters_of k.InsertBefore = some_term E' ∷ some_term F' ∷ some_term G' ∷ []
letters_of kind = some_term E' ∷ some_term N' ∷ []

abbrev pub terms_in : Command → List Term
terms_in (create_node x e) = e ∷ prog_term x ∷ []
terms_in (node_name x e) = e ∷ prog_term x ∷ []
terms_in (child_nodes x e) = e ∷ prog_term x ∷ []
terms_in (parent_node x e) = e ∷ prog_term x ∷ []
terms_in (list_item x e f) = e ∷ f ∷ prog_term x ∷ []
terms_in (append_child e f) = e ∷ f ∷ []
terms_in (remove_child e f) = e ∷ f ∷ []
terms_in (insert_before e f g) = e ∷ f ∷ g ∷ []
terms_in c = []

-- what is known of the letters E, F, G and N
abbrev pub known_terms : Option Term → Option Term → Option Term → Option Term → Known
known_terms e f g n = record nothing {
  terms = record no_terms { E = e; F = f; G = g; N = n };
}

abbrev pub reading : ProgVar → Term → Known
reading x e = known_terms (Some e) None None (Some (prog_term x))

abbrev pub known_of : Command → Known
known_of (create_node x e) = reading x e
known_of (node_name x e) = reading x e
known_of (child_nodes x e) = reading x e
known_of (parent_node x e) = reading x e
known_of (list_item x e f) = known_terms (Some e) (Some f) None (Some (prog_term x))
known_of (append_child e f) = known_terms (Some e) (Some f) None None
known_of (remove_child e f) = known_terms (Some e) (Some f) None None
known_of (insert_before e f g) = known_terms (Some e) (Some f) (Some g) None
known_of c = nothing
