-- One name to unfold where a proof computes tokens and lexemes.
use Rattle.std.specs.Char.{encode_utf8}
use Rattle.std.specs.Str.{chars, is_utf8}
use Rattle.std.specs.Str.Lossy.{utf8_valid_len}
use Rattle.unicode_ident.proofs.Computing.{unicode_ident}
use Rattle.model_text.specs.Lexemes.{reserved_words}
use Rattle.model_text.specs.Tokens.{symbols, piece_at, characters, tokens_from, tokens_of}

-- `unfolding lexing` lets `refl` compute the tokens and the lexemes of bytes that are written out
unfoldable pub lexing : Unit {0}
unfolding encode_utf8 chars is_utf8 utf8_valid_len unicode_ident reserved_words symbols piece_at
    characters tokens_from tokens_of
lexing = tt
