-- The room for lexemes, part by part.
use Rattle.std.proofs.Common.{◌≡◌, ◌∙◌, Bool, true, false, List, [], ◌∷◌, ◌++◌, refl, append_assoc}
use Rattle.model_text.specs.Lexemes.{Lexeme}
use Rattle.gap_filling.specs.declared.meters.Meter.{Meter}
use Rattle.gap_filling.specs.Measured.{after, measured}

pub measured-append : (m : Meter) (a b : List Lexeme)
    → measured m (a ++ b) ≡ measured (measured m a) b
measured-append m [] b = refl
measured-append m (lexeme ∷ a) b = measured-append (after m lexeme) a b

-- where a token doesn't fit, nothing after it counts
stopped : (m : Meter) (lexeme : Lexeme) → m.fits ≡ false → after m lexeme ≡ m
unfolding after
stopped m lexeme e = rw e cc

pub unfit : (m : Meter) (lexemes : List Lexeme) → m.fits ≡ false → measured m lexemes ≡ m
unfit m [] e = refl
unfit m (lexeme ∷ rest) e = rw (stopped m lexeme e) (unfit m rest e)

-- for a text that is measured part by part
pub ruleset measured_rules = (measured-append, append_assoc)
