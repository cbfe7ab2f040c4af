use Rattle.std.proofs.Common.{map}
use Rattle.dom_terms.specs.Terms.{term_of}
use Rattle.theory_writing.proofs.LineLemmas.{reason_text}
use Rattle.theory_writing.proofs.lines.push_reason.Goals as goal

pub returns-in_ok-push_arguments-in-Rule : goal.returns-in_ok-push_arguments-in-Rule
returns-in_ok-push_arguments-in-Rule c = rw (
  c.in-Rule.is,
  c.in_ok-push_arguments-in-Rule.ensures,
  c.in_ok-push_bracketed-in-Rule.ensures,
  c.in_ok-push_token-in-Rule-2.ensures,
  c.in_ok-push_token-in-Rule.ensures,
  c.as_slice.ensures,
  c.as_str.ensures,
) (reason_text c.in-Rule.name c.in-Rule.premises (map term_of c.in-Rule.arguments)
    c.args.text.now)
