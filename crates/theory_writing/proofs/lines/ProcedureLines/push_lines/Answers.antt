use Rattle.std.proofs.Common.{◌∷◌, codes}
use Rattle.model_text.specs.Lexemes.{terminal}
use Rattle.model_grammar.specs.Writing.{command_lexemes}
use Rattle.model_grammar.specs.TheoryWriting.{formula_lexemes}
use Rattle.theory_syntax.specs.Theories.{procedure_of}
use Rattle.theory_writing.specs.Marked.{header_line}
use Rattle.theory_writing.proofs.LineLemmas.{procedure_text}
use Rattle.theory_writing.proofs.lines.ProcedureLines.push_lines.Goals as goal

pub returns : goal.returns
returns c = let f = procedure_of c.args.self.now in rw (
  c.in_ok-push_str-2.ensures,
  c.in_ok-push_each.ensures,
  c.in_ok-push_str.ensures,
  c.in_ok-push_body.ensures,
  c.in_ok-push_condition_line-2.ensures,
  c.in_ok-push_condition_line.ensures,
  c.in_ok-push_header.ensures,
  c.as_slice.ensures,
) (procedure_text (header_line f) (terminal (codes "requires") ∷ formula_lexemes f.pre)
    (terminal (codes "ensures") ∷ formula_lexemes f.post)
    (terminal (codes "body") ∷ command_lexemes f.body) c.args.self.now.proof c.args.text.now)
