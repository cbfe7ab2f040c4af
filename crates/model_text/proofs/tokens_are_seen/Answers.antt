use Rattle.model_text.proofs.Seen.{tokens_seen}
use Rattle.model_text.proofs.tokens_are_seen.Goals as goal

pub returns : goal.returns
returns c = tokens_seen
