use Rattle.std.proofs.Common.{rules}
use Rattle.dom_terms.specs.Terms.{term_of}
use Rattle.computed_rules.proofs.SumLaws.{on-ok, adds-sum, adds-difference}
use Rattle.computed_rules.proofs.forms.LinearForm.+add.Goals as goal

pub returns-in_ok-add-in-Add : goal.returns-in_ok-add-in-Add
returns-in_ok-add-in-Add t c =
    on-ok c.add-in-Add-2.result
    (adds-sum c.args.self.now c.add-in-Add.new.self c.add-in-Add-2.new.self c.args.number
    (term_of c.in-Add.left.value) (term_of c.in-Add.right.value) (term_of c.args.term.now)
    (search rules) (search rules))
    (search rules)

pub returns-in_ok-negative-in-Sub : goal.returns-in_ok-negative-in-Sub
returns-in_ok-negative-in-Sub t c =
    on-ok c.add-in-Sub-2.result
    (adds-difference c.args.self.now c.add-in-Sub.new.self c.add-in-Sub-2.new.self c.args.number
    c.in_ok-negative-in-Sub.field-0 (term_of c.in-Sub.left.value) (term_of c.in-Sub.right.value)
    (term_of c.args.term.now)
    (search rules) (search rules) (search rules))
    (search rules)
