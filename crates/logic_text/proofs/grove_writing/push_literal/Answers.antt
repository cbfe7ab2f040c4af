use Rattle.logic_text.proofs.EscapeLemmas.{goes_on, ends}
use Rattle.logic_text.proofs.grove_writing.push_literal.Goals as goal

pub returns : goal.returns
returns c = ends c.loop-character.text _ _ c.args.text.now c.args.other.now
    c.in_ok-push-2.ensures.ok c.in-None.ensures.steps.0.0 c.loop-character.invariant

pub loop-character-preserved : goal.loop-character-preserved
loop-character-preserved c = goes_on c.loop-character.text _ _ _ _ c.in-Some.character
    c.in_ok-push_escaped.ensures c.in-Some.ensures.steps.0 c.loop-character.invariant
