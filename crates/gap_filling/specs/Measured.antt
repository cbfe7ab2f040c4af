-- Needn't be believed: the definition of usable offers says how large they may be. What is left of
-- the room for the text of an offer after each of its lexemes.
use Rattle.std.specs.Prelude.{ℕ, ◌+◌, ◌-◌, Bool, true, false, ◌&&◌, cond, nat_le, List, [], ◌∷◌, length}
use Rattle.model_limits.specs.Limits.{standard_limits}
use Rattle.model_text.specs.Lexemes.{Lexeme, number_lexeme}
use Rattle.model_text.specs.Nesting.{open_behind, text_within}
use Rattle.model_grammar.specs.Writing.{printed}
use Rattle.gap_filling.specs.declared.meters.Meter.{Meter}

-- a number is in the range of a literal
abbrev pub number_fits : Lexeme → Bool
number_fits (number_lexeme n) = nat_le n standard_limits.integer
number_fits lexeme = true

-- the room after a token of so many bytes, with so many brackets open after it, where it is one
-- that may stand there
abbrev pub spent : Meter → ℕ → ℕ → Bool → Meter
spent meter bytes brackets may =
    cond (meter.fits && (nat_le (bytes + 1) meter.bytes
    && (nat_le brackets standard_limits.file_nesting && may)))
    (record { bytes = meter.bytes - (bytes + 1); brackets = brackets; fits = true })
    (record { bytes = meter.bytes; brackets = meter.brackets; fits = false })

-- after a lexeme
unfoldable pub after : Meter → Lexeme → Meter
after meter lexeme =
    spent meter (length (printed lexeme)) (open_behind meter.brackets lexeme)
    (text_within lexeme && number_fits lexeme)

-- after some lexemes
abbrev pub measured : Meter → List Lexeme → Meter
measured meter [] = meter
measured meter (lexeme ∷ rest) = measured (after meter lexeme) rest
