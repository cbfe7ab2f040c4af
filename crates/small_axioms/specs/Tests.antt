-- Needn't be believed: the promises speak of the table of rules. Whether a triple is that of an
-- axiom's line, and the verdict that follows, as tests that compute.
use Rattle.std.specs.Prelude.{◌≡◌, ◌↔◌, IsTrue, Bool, true, false, ◌&&◌, ◌||◌, List, [], ◌∷◌, Option, Some, None, is_some}
use Rattle.model_shapes.specs.Sorts.{DataSort}
use Rattle.model_shapes.specs.Values.{Name}
use Rattle.model_terms.specs.Variables.{Var, prog}
use Rattle.model_terms.specs.Terms.{Term, variable}
use Rattle.model_formulas.specs.Formulas.{Formula}
use Rattle.model_formulas.specs.SameFormulas.{same_formula}
use Rattle.model_commands.specs.Commands.{Command, create_node, node_name, child_nodes, parent_node, list_item, append_child, remove_child, insert_before}
use Rattle.model_commands.specs.Theories.{Judgement}
use Rattle.rule_table.specs.Axioms.{axioms}
use Rattle.rule_table.specs.Conditions.{assigned_side}
use Rattle.rule_table.specs.Verdicts.{Verdict, IsVerdict, readings_in, instance_verdict, premises_verdict, shape_verdict, side_verdict}
use Rattle.letter_bindings.specs.Known.{Known}
use Rattle.letter_bindings.specs.Matching.{then, match_data, match_formula}
use Rattle.letter_bindings.specs.Settled.{settle}
use Rattle.letter_bindings.specs.Shifts.{is_free, is_in_term}
use Rattle.small_axioms.specs.declared.rows.Kind.{Kind}
use Rattle.small_axioms.specs.declared.rows.Kind.TheVariants as k
use Rattle.small_axioms.specs.Parts.{held, name_in, new_root}
use Rattle.small_axioms.specs.Patterns.{AxiomPattern}

-- the command is of the kind
abbrev pub is_kind : Kind → Command → Bool
is_kind k.Create (create_node x e) = true
is_kind k.Name (node_name x e) = true
is_kind k.Children (child_nodes x e) = true
is_kind k.Parent (parent_node x e) = true
is_kind k.Item (list_item x e f) = true
is_kind k.Append (append_child e f) = true
is_kind k.Remove (remove_child e f) = true
is_kind k.InsertBefore (insert_before e f g) = true
is_kind kind c = false

-- the formulas are those of the pattern, where this is known of its letters
abbrev pub walked : AxiomPattern → Known → Formula → Formula → DataSort → Option Known
walked a k p q d =
    then (match_formula a.pre p k) (λ n. then (match_formula a.post q n) (match_data a.sort d))

abbrev pub settles : Option Known → Bool
settles None = false
settles (Some k) = is_some (settle k)

abbrev pub walks : AxiomPattern → Known → Formula → Formula → DataSort → Bool
walks a k p q d = settles (walked a k p q d)

-- the formula after a command that creates a node says of the new node what it is to say
abbrev pub is_new : Option Term → Option Term → Formula → Bool
is_new (Some x) (Some t) q = same_formula (new_root t x) q
is_new x t q = false

abbrev pub says_new : Kind → Known → Formula → Formula → Bool
says_new k.Create k p q = is_new k.terms.N (name_in p) q
says_new kind k p q = true

-- the triple is that of one of the lines
abbrev pub fits : AxiomPattern → Command → Known → Formula → Formula → DataSort → Bool
fits a c k p q d = is_kind a.kind c && (walks a k p q d && says_new a.kind k p q)

abbrev pub fits_one : List AxiomPattern → Command → Known → Formula → Formula → DataSort → Bool
fits_one [] c k p q d = false
fits_one (a ∷ ps) c k p q d = fits a c k p q d || fits_one ps c k p q d

-- the variable stands in what the command finds there
abbrev pub is_in_name : Var → Option Term → Bool
is_in_name x None = false
is_in_name x (Some t) = is_in_term x t

abbrev pub sets_letters : Command → Var → Formula → Formula → Bool
sets_letters (create_node y e) x p q = is_in_name x (name_in p)
sets_letters c x p q = is_free x (held q)

-- the variable that the command sets does
abbrev pub sets_known : Option Term → Command → Formula → Formula → Bool
sets_known (Some (variable (prog x s))) c p q = sets_letters c (prog x s) p q
sets_known t c p q = false

abbrev pub is_assigned : Command → Known → Formula → Formula → Bool
is_assigned c k p q = sets_known k.terms.N c p q

-- the verdict where the triple is that of a line or not, nothing is cited or something, and the
-- variable stands there or not
abbrev pub verdict_where : Bool → Bool → Bool → Verdict
verdict_where false cites_nothing assigned = shape_verdict
verdict_where true false assigned = premises_verdict
verdict_where true true false = instance_verdict
verdict_where true true true = side_verdict assigned_side

-- THE VERDICT on the judgement by the axiom of that name, at any step that has no arguments and
-- cites nothing or something
abbrev pub IsVerdictAt : Name → Bool → Judgement → Verdict → Type 0
IsVerdictAt name cites_nothing j v = (premises : Option (List Judgement))
    → IsTrue cites_nothing ↔ (Some [] ≡ premises)
    → IsVerdict (readings_in axioms name)
    (record { arguments = []; premises = premises; conclusion = j }) v
