use Rattle.logic_text.proofs.EscapeLemmas.{escaped_plain}
use Rattle.logic_text.proofs.grove_writing.escape_of.Goals as goal

pub returns : goal.returns
returns c = escaped_plain c.args.character c.if-character-eq34.false c.if-character-eq92.false
    c.if-character-eq10.false
