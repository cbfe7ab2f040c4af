use Rattle.text_tokens.specs.Tokens.{kind_of}
use Rattle.text_tokens.proofs.AsciiLemmas.{token_in}
use Rattle.text_tokens.proofs.LimitLemmas.{gap_leads, token_leads, token_passes, end_limit}
use Rattle.text_tokens.proofs.ascii_limits.step_at.Goals as goal

pub part-requires : goal.part-requires
part-requires c =
    let p = token_in c.args.bytes.now c.args.place c.in-Token.length (kind_of c.in-Token.kind)
    c.requires.within c.in-Token.ensures in p.1

pub returns-in-Gap : goal.returns-in-Gap
returns-in-Gap c = gap_leads c.args.bytes.now c.args.place c.in-Gap.length c.args.most
    c.args.before c.requires.within c.requires.few c.in-Gap.ensures

pub returns-in-Nothing : goal.returns-in-Nothing
returns-in-Nothing c = end_limit c.args.bytes.now c.args.place c.args.most c.args.before
    c.requires.few c.in-Nothing.ensures

pub returns-in-Ok : goal.returns-in-Ok
returns-in-Ok c = token_leads c.args.bytes.now c.part.result.now c.args.place
    c.in-Token.length c.args.most c.args.before c.in-Ok.behind c.in-Token.kind c.requires.within
    c.in-Token.ensures c.part.ensures c.in-Ok.ensures.few c.in-Ok.ensures.ok

pub returns-in-Err : goal.returns-in-Err
returns-in-Err c = token_passes c.args.bytes.now c.part.result.now c.args.place
    c.in-Token.length c.args.most c.args.before c.in-Token.kind _ c.requires.within
    c.in-Token.ensures c.part.ensures c.in-Err.ensures.err
