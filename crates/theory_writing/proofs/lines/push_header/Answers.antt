use Rattle.std.proofs.Common.{map}
use Rattle.model_grammar.specs.Writing.{in_brackets}
use Rattle.model_grammar.specs.TheoryWriting.{declaration_lexemes, data_sort_lexemes}
use Rattle.dom_terms.specs.Sorts.{data_sort_of}
use Rattle.dom_terms.specs.Terms.{prog_var_of}
use Rattle.theory_writing.proofs.LineLemmas.{header_text}
use Rattle.theory_writing.proofs.lines.push_header.Goals as goal

pub returns : goal.returns
returns c = rw (
  c.in_ok-push_str-2.ensures,
  c.in_ok-push_data_sort.ensures,
  c.in_ok-push_token-3.ensures,
  c.in_ok-push_declared-2.ensures,
  c.in_ok-push_token-2.ensures,
  c.in_ok-push_declared.ensures,
  c.in_ok-push_token.ensures,
  c.in_ok-push_str.ensures,
  c.as_str.ensures,
) (header_text c.args.procedure.now.name
    (in_brackets (map declaration_lexemes (map prog_var_of c.args.procedure.now.params)))
    (in_brackets (map declaration_lexemes (map prog_var_of c.args.procedure.now.results)))
    (data_sort_lexemes (data_sort_of c.args.procedure.now.sort)) c.args.text.now)
