use Rattle.std.proofs.Common.{ap, subst}
use Rattle.dom_terms.specs.Limits.{NamesLimit}
use Rattle.model_text.specs.Nesting.{token_limit}
use Rattle.text_tokens.proofs.AsciiLemmas.{all_left}
use Rattle.text_tokens.proofs.SourceLemmas.{listed_all}
use Rattle.text_tokens.proofs.limits.bytes_limit.Goals as goal

pub returns-then-is_ascii : goal.returns-then-is_ascii
returns-then-is_ascii c = subst (NamesLimit c.ascii_limit.result)
    (ap (token_limit c.args.nesting 0) (all_left c.args.bytes.now c.if-is_ascii.ensures))
    c.ascii_limit.ensures

pub returns : goal.returns
returns c = subst (NamesLimit c.token_limit.result)
    (ap (token_limit c.args.nesting 0)
    (listed_all c.in_ok-tokens.tokens c.args.bytes.now c.in_ok-tokens.ensures))
    c.token_limit.ensures
