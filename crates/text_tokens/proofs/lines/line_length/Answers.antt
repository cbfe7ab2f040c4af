use Rattle.std.proofs.Common.{refl, inl}
use Rattle.text_tokens.proofs.LineLemmas.{line_at}
use Rattle.text_tokens.proofs.lines.line_length.Goals as goal

pub returns-in-Some-clause-is : goal.returns-in-Some-clause-is
returns-in-Some-clause-is c =
    let found = c.in-Some.ensures.cases in
    line_at c.args.text.now c.in-Some.place found.0 c.utf8.text found.1.1 found.3

pub returns-in-None-clause-is : goal.returns-in-None-clause-is
returns-in-None-clause-is c = inl refl
