use Rattle.std.proofs.Common.{arith, ◌∙◌, sym}
use Rattle.domcheck_core.proofs.Tested.{few_text}
use Rattle.domcheck_core.proofs.texts.source_of.Goals as goal

pub returns-clause-whole : goal.returns-clause-whole
returns-clause-whole c = λ none.
    c.in_ok-source.ensures.whole
    (sym (few_text c.args.nesting c.args.bytes.now (omega arith)) ∙ none)

pub returns-clause-passes : goal.returns-clause-passes
returns-clause-passes c = λ no_bad.
    few_text c.args.nesting c.args.bytes.now (omega arith) ∙ c.in_ok-source.ensures.told no_bad
