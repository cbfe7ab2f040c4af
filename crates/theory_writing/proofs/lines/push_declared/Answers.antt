use Rattle.std.proofs.Common.{refl}
use Rattle.model_grammar.specs.TheoryWriting.{declaration_lexemes}
use Rattle.dom_terms.specs.Terms.{prog_var_of}
use Rattle.theory_writing.proofs.MarkLemmas.{fused}
use Rattle.theory_writing.proofs.lines.push_declared.Goals as goal

pub returns : goal.returns
returns c = rw (
  c.in_ok-push_bracketed.ensures,
  c.as_slice.ensures,
  fused declaration_lexemes prog_var_of c.args.variables.now,
) refl
