use Rattle.std.proofs.Common.{◌∙◌, ap}
use Rattle.model_formulas.specs.Nameless.{nameless}
use Rattle.dom_terms.specs.Sorts.{data_sort_of}
use Rattle.dom_terms.specs.Terms.{logic_var_of, term_of}
use Rattle.formula_syntax.specs.Formulas.{formula_of}
use Rattle.theory_syntax.specs.Commands.{command_of}
use Rattle.cited_steps.specs.Earlier.{steps_in}
use Rattle.triple_rules.specs.InstanceTests.{gives_by}
use Rattle.triple_rules.proofs.InstanceVerdicts.{pair-puts}
use Rattle.triple_rules.proofs.instancing.becomes.Goals as goal

pub returns : goal.returns
returns c =
    c.is_given-is_given.ensures
    ∙ ap (gives_by (steps_in c.args.written.now.earlier.now) c.args.written.now.citations.now
    (nameless (formula_of c.args.written.now.triple.now.pre))
    (command_of c.args.written.now.triple.now.command)
    (nameless (formula_of c.args.written.now.triple.now.post))
    (data_sort_of c.args.written.now.triple.now.sort))
    (pair-puts (logic_var_of c.in_ok-variable.variable) (logic_var_of c.args.variable.now)
    (term_of c.in_ok-variable.term) (term_of c.args.term.now) c.in_ok-variable.ensures.first
    c.in_ok-variable.ensures.second)
