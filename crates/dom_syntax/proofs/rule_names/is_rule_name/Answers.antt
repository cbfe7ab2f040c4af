-- The two tables in the other order.
use Rattle.std.proofs.Common.{◌≡◌, ◌∙◌, ◌||◌, ℕ, List, Bool, true, false, bytes_eq, refl, sym, ap}
use Rattle.std.specs.List.{list_any}
use Rattle.std.proofs.lemmas.List.Folds.{list_any-append}
use Rattle.model_files.specs.RuleNames.{is_rule_name, entailment_rule_names, triple_rule_names}
use Rattle.dom_syntax.proofs.rule_names.is_rule_name.Goals as goal

swapped : (x y : Bool) → (x || y) ≡ (y || x)
swapped true true = refl
swapped true false = refl
swapped false true = refl
swapped false false = refl

triples_first : (name : List ℕ) → (list_any (bytes_eq name) triple_rule_names
    || list_any (bytes_eq name) entailment_rule_names) ≡ is_rule_name name
triples_first name =
    swapped (list_any (bytes_eq name) triple_rule_names)
    (list_any (bytes_eq name) entailment_rule_names)
    ∙ sym (list_any-append (bytes_eq name) entailment_rule_names triple_rule_names)

of_the_first : (text name : List ℕ) (found b : Bool) → text ≡ name
    → found ≡ list_any (bytes_eq text) triple_rule_names → found ≡ b
    → (b || list_any (bytes_eq name) entailment_rule_names) ≡ is_rule_name name
of_the_first text name found b same e is =
    ap (λ t. t || list_any (bytes_eq name) entailment_rule_names)
    (sym is ∙ e ∙ ap (λ n. list_any (bytes_eq n) triple_rule_names) same)
    ∙ triples_first name

pub returns-then-is_among : goal.returns-then-is_among
returns-then-is_among c =
    c.if-is_among.true
    ∙ of_the_first c.as_str-name.result.now c.args.name.now c.is_among.result true
    c.as_str-name.ensures c.is_among.ensures c.if-is_among.true

pub returns-else-is_among : goal.returns-else-is_among
returns-else-is_among c =
    c.is_among-else-is_among.ensures
    ∙ ap (λ n. list_any (bytes_eq n) entailment_rule_names) c.as_str-name.ensures
    ∙ of_the_first c.as_str-name.result.now c.args.name.now c.is_among.result false
    c.as_str-name.ensures c.is_among.ensures c.if-is_among.false
