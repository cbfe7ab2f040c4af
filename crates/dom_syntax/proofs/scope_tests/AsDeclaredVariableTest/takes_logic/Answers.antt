use Rattle.std.proofs.Common.{◌∙◌, sym, Some, None}
use Rattle.dom_terms.specs.Sorts.{sort_of}
use Rattle.dom_syntax.proofs.ScopeTestLaws.{logic-passes, found-passes, absent-passes}
use Rattle.dom_syntax.proofs.scope_tests.AsDeclaredVariableTest.takes_logic.Goals as goal

pub returns-in-Some : goal.returns-in-Some
returns-in-Some c =
    c.same_sort.ensures ∙ sym (found-passes c.args.self.now.takes_unknown _)
    ∙ logic-passes c.args.self.now.scope.now c.requires c.args.variable.now.name
    c.args.self.now.takes_unknown (sort_of c.args.variable.now.sort)
    (Some c.in-Some.sort) (cc)

pub returns-in-None : goal.returns-in-None
returns-in-None c =
    sym (absent-passes c.args.self.now.takes_unknown)
    ∙ logic-passes c.args.self.now.scope.now c.requires c.args.variable.now.name
    c.args.self.now.takes_unknown (sort_of c.args.variable.now.sort) None (cc)
