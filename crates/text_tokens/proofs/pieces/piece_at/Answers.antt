use Rattle.std.proofs.Common.{map, ap, ◌∙◌}
use Rattle.model_text.specs.Tokens.{symbol_token, word_token, logic_token, literal_token, token_piece, no_piece, longer_token}
use Rattle.text_tokens.specs.declared.pieces.Start.TheVariants.{Blank, Symbol, Word, LogicName, Literal, Digit}
use Rattle.text_tokens.proofs.StartLemmas.{nothing_at, at_start, one_character}
use Rattle.text_tokens.proofs.pieces.piece_at.Goals as goal

pub returns-in_default : goal.returns-in_default
returns-in_default g c = nothing_at g.C.Letter.code c.args.text.now c.in_default.len_below

pub returns-in-Blank : goal.returns-in-Blank
returns-in-Blank g c =
    at_start g.C.Letter.code c.args.text.now c.first-item.result c.character.result Blank
    c.in-len1-up.len_at_least c.first-item.is c.character.ensures c.in-Blank.ensures

pub returns-in-Opening : goal.returns-in-Opening
returns-in-Opening g c =
    one_character c.start_of.result (map g.C.Letter.code c.args.text.now) c.in-Opening.is
    ∙ at_start g.C.Letter.code c.args.text.now c.first-item.result c.character.result
    c.start_of.result c.in-len1-up.len_at_least c.first-item.is c.character.ensures
    c.start_of.ensures

pub returns-in-Digit : goal.returns-in-Digit
returns-in-Digit g c = c.digits_token.ensures
    ∙ at_start g.C.Letter.code c.args.text.now c.first-item.result c.character.result Digit
    c.in-len1-up.len_at_least c.first-item.is c.character.ensures c.in-Digit.ensures

pub returns-in-Symbol : goal.returns-in-Symbol
returns-in-Symbol g c = c.only_token.ensures
    ∙ ap (λ n. longer_token symbol_token n no_piece) c.symbol_length.ensures
    ∙ at_start g.C.Letter.code c.args.text.now c.first-item.result c.character.result Symbol
    c.in-len1-up.len_at_least c.first-item.is c.character.ensures c.in-Symbol.ensures

pub returns-in-Word : goal.returns-in-Word
returns-in-Word g c = ap (token_piece word_token) c.begun_length.ensures.value
    ∙ at_start g.C.Letter.code c.args.text.now c.first-item.result c.character.result Word
    c.in-len1-up.len_at_least c.first-item.is c.character.ensures c.in-Word.ensures

pub returns-in-LogicName : goal.returns-in-LogicName
returns-in-LogicName g c = c.only_token-in-LogicName.ensures
    ∙ ap (λ n. longer_token logic_token n no_piece) c.logic_length.ensures.value
    ∙ at_start g.C.Letter.code c.args.text.now c.first-item.result c.character.result LogicName
    c.in-len1-up.len_at_least c.first-item.is c.character.ensures c.in-LogicName.ensures

pub returns-in-Literal : goal.returns-in-Literal
returns-in-Literal g c = c.only_token-in-Literal.ensures
    ∙ ap (λ n. longer_token literal_token n no_piece) c.literal_length.ensures.value
    ∙ at_start g.C.Letter.code c.args.text.now c.first-item.result c.character.result Literal
    c.in-len1-up.len_at_least c.first-item.is c.character.ensures c.in-Literal.ensures
