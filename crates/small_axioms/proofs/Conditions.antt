-- What is asked of the variable that a command sets holds where the test says so.
use Rattle.std.proofs.Common.{◌≡◌, refl, sym, ◌∙◌, true, false, List, [], ◌∷◌, Option, Some, None}
use Rattle.model_shapes.proofs.Truth.{false≢true}
use Rattle.model_terms.specs.Stores.{ProgVar, named, as_var}
use Rattle.model_terms.specs.Terms.{Term}
use Rattle.model_formulas.specs.Formulas.{Formula, length_is}
use Rattle.model_commands.specs.Commands.{Command, create_node, node_name, child_nodes, parent_node, list_item}
use Rattle.rule_table.specs.Conditions.{Condition, assigned, assigned_side}
use Rattle.rule_table.specs.Verdicts.{AllHold, first, side_at}
use Rattle.letter_bindings.specs.Shifts.{is_free}
use Rattle.letter_bindings.proofs.FreeTests.{is_free-is, is-is_free}
use Rattle.small_axioms.specs.Commands.{known_of}
use Rattle.small_axioms.specs.Lines.{not_in_name, asked_of}
use Rattle.small_axioms.specs.Parts.{held, name_in}
use Rattle.small_axioms.specs.Tests.{is_in_name, is_assigned}

-- the test says that they don't hold: the first fails, and has the name
abbrev pub Fails : List Condition → Type 0
Fails cs = (side_at 0 cs ≡ Some assigned_side) × (AllHold (first 1 cs) → ⊥)

-- IN A FORMULA
out-holds : (x : ProgVar) (p : Formula) → is_free (as_var x) p ≡ false
    → AllHold (assigned x p ∷ [])
out-holds x p h = (λ m. false≢true (sym h ∙ is-is_free p (as_var x) m), tt)

in-fails : (x : ProgVar) (p : Formula) → is_free (as_var x) p ≡ true → Fails (assigned x p ∷ [])
in-fails x p h = (refl, λ m. m.0 (is_free-is p (as_var x) h))

-- in a name
out-of-name : (x : ProgVar) (o : Option Term) → is_in_name (as_var x) o ≡ false
    → AllHold (not_in_name x o)
out-of-name x None h = tt
out-of-name x (Some t) h = (λ m. false≢true (sym h ∙ is-is_free (length_is t) (as_var x) m), tt)

in-name-fails : (x : ProgVar) (o : Option Term) → is_in_name (as_var x) o ≡ true
    → Fails (not_in_name x o)
in-name-fails x None h = false≢true h
in-name-fails x (Some t) h = (refl, λ m. m.0 (is_free-is (length_is t) (as_var x) h))

-- OF A COMMAND
pub unset-holds : (c : Command) (p q : Formula) → is_assigned c (known_of c) p q ≡ false
    → AllHold (asked_of c p q)
unset-holds (create_node (named n s) e) p q h = out-of-name (named n s) (name_in p) h
unset-holds (node_name (named n s) e) p q h = out-holds (named n s) (held q) h
unset-holds (child_nodes (named n s) e) p q h = out-holds (named n s) (held q) h
unset-holds (parent_node (named n s) e) p q h = out-holds (named n s) (held q) h
unset-holds (list_item (named n s) e f) p q h = out-holds (named n s) (held q) h
unset-holds c p q h = tt

pub set-fails : (c : Command) (p q : Formula) → is_assigned c (known_of c) p q ≡ true
    → Fails (asked_of c p q)
set-fails (create_node (named n s) e) p q h = in-name-fails (named n s) (name_in p) h
set-fails (node_name (named n s) e) p q h = in-fails (named n s) (held q) h
set-fails (child_nodes (named n s) e) p q h = in-fails (named n s) (held q) h
set-fails (parent_node (named n s) e) p q h = in-fails (named n s) (held q) h
set-fails (list_item (named n s) e f) p q h = in-fails (named n s) (held q) h
set-fails c p q h = false≢true h
