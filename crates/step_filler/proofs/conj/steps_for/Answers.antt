use Rattle.assistant_laws.specs.ConjunctPlans.{gather}
use Rattle.dom_terms.specs.Sorts.{sort_of}
use Rattle.formula_syntax.specs.Formulas.{formula_of}
use Rattle.step_filler.proofs.Drafting.{finished-is-given}
use Rattle.step_filler.proofs.conj.steps_for.Goals as goal

pub returns : goal.returns
returns c = finished-is-given
    (gather (sort_of c.args.asked.now.sort) (formula_of c.args.asked.now.left)
    (formula_of c.args.asked.now.right))
    c.args.number c.new-draft.result c.gather-written.new.draft c.gather-written.result
    c.finish.result
    c.new-draft.ensures.none c.new-draft.ensures.first c.gather-written.ensures c.finish.ensures
