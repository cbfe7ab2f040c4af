use Rattle.formula_syntax.specs.Formulas.{formula_of}
use Rattle.model_grammar.specs.TheoryWriting.{formula_lexemes}
use Rattle.theory_writing.proofs.LineLemmas.{precondition_text}
use Rattle.theory_writing.proofs.preconditions.write_precondition.Goals as goal

pub returns : goal.returns
returns c = rw (
  c.in_ok-push_str.ensures,
  c.in_ok-append.ensures.ok,
  c.in_ok-written.ensures.written,
  c.in_ok-push_each.ensures,
  c.new-text.ensures,
  c.as_slice.ensures,
) (precondition_text c.args.variables.now (formula_lexemes (formula_of c.args.formula.now)))
