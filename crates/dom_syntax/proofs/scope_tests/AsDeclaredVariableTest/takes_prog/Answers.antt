use Rattle.std.proofs.Common.{◌∙◌, sym, Some, None}
use Rattle.dom_terms.specs.Sorts.{value_sort_of}
use Rattle.dom_syntax.proofs.ScopeTestLaws.{prog-passes, found-passes, absent-passes}
use Rattle.dom_syntax.proofs.scope_tests.AsDeclaredVariableTest.takes_prog.Goals as goal

pub returns-in-Some : goal.returns-in-Some
returns-in-Some c =
    c.same_value_sort.ensures ∙ sym (found-passes c.args.self.now.takes_unknown _)
    ∙ prog-passes c.args.self.now.scope.now c.requires c.args.variable.now.name
    c.args.self.now.takes_unknown (value_sort_of c.args.variable.now.sort)
    (Some c.in-Some.sort) (cc)

pub returns-in-None : goal.returns-in-None
returns-in-None c =
    sym (absent-passes c.args.self.now.takes_unknown)
    ∙ prog-passes c.args.self.now.scope.now c.requires c.args.variable.now.name
    c.args.self.now.takes_unknown (value_sort_of c.args.variable.now.sort) None (cc)
