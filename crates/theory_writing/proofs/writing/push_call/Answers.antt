use Rattle.theory_writing.proofs.MarkLemmas.{call_text}
use Rattle.theory_writing.proofs.writing.push_call.Goals as goal

pub returns : goal.returns
returns c = rw (
  c.in_ok-push_bracketed-2.ensures,
  c.in_ok-push_token-3.ensures,
  c.in_ok-push_token-2.ensures,
  c.in_ok-push_bracketed.ensures,
  c.in_ok-push_token.ensures,
  c.as_slice.ensures,
  c.as_slice-2.ensures,
  c.as_str.ensures,
) (call_text c.args.results.now c.args.name.now c.args.arguments.now c.args.text.now)
