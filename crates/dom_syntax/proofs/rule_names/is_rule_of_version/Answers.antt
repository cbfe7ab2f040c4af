-- A name of a rule, in another version than the second.
use Rattle.std.proofs.Common.{◌∙◌, sym, ap, ◌&&◌, ◌||◌, not, bytes_eq}
use Rattle.std.proofs.lemmas.Bool.{ne_eqb}
use Rattle.std.specs.List.{list_any}
use Rattle.model_files.specs.RuleNames.{second_version_names}
use Rattle.dom_syntax.proofs.rule_names.is_rule_of_version.Goals as goal

pub returns-else-version-eq2 : goal.returns-else-version-eq2
returns-else-version-eq2 c =
    let known = sym c.if-is_rule_name.true ∙ c.is_rule_name.ensures in
    let other = ne_eqb c.args.version 2 c.if-version-eq2.false in
    (λ j. not ((c.is_among.ensures
    ∙ ap (λ n. list_any (bytes_eq n) second_version_names) c.as_str.ensures) j))
    ∙ (λ j. known j
    && (sym other j || not (list_any (bytes_eq c.args.name.now) second_version_names)))
