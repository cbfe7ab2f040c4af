-- Needn't be believed: the program's promise doesn't speak of it. The token of the definition that
-- a token stands for.
use Rattle.model_text.specs.Tokens as model
use Rattle.model_text.specs.Tokens.{word_token, logic_token, number_token, literal_token, symbol_token, bad_token}
use Rattle.text_tokens.specs.declared.tokens.Token.{Token}
use Rattle.text_tokens.specs.declared.tokens.TokenKind.{TokenKind}
use Rattle.text_tokens.specs.declared.tokens.TokenKind.TheVariants.{Word, LogicName, Number, Literal, Symbol, Bad}

-- the kind
abbrev pub kind_of : TokenKind → model.TokenKind
kind_of Word = word_token
kind_of LogicName = logic_token
kind_of Number = number_token
kind_of Literal = literal_token
kind_of Symbol = symbol_token
kind_of Bad = bad_token

-- the token
abbrev pub token_of : Token → model.Token
token_of token = record {
  kind = kind_of token.kind;
  text = token.text;
  start = token.start;
  finish = token.«end»;
  line = token.line;
}
