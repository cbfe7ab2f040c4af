use Rattle.std.proofs.Common.{map}
use Rattle.dom_terms.specs.Terms.{term_of}
use Rattle.computed_rules.specs.Steps.{judged}
use Rattle.computed_rules.specs.Texts.{by_texts, concat_verdict}
use Rattle.computed_rules.proofs.Written.{respelled, texts-written}
use Rattle.computed_rules.proofs.texts.by_concat.Goals as goal

pub returns-in-empty-Eq : goal.returns-in-empty-Eq
returns-in-empty-Eq c =
    respelled c.by_texts.result
    (by_texts (term_of c.in-empty-Eq.left) (term_of c.in-empty-Eq.right))
    (concat_verdict (map term_of c.args.arguments.now) (judged c.args.conclusion.now))
    (texts-written c.args.arguments.now c.args.conclusion.now c.in-empty-Eq.left
    c.in-empty-Eq.right c.in-empty-Eq.len_below c.in-empty-Eq.is-1)
    c.by_texts.ensures
