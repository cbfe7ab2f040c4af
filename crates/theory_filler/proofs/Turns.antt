-- Fillers that were asked some times or not at all, and then again.
use Rattle.std.proofs.Common.{List, [], ◌∷◌}
use Rattle.model_filling.specs.Offers.{Voice}
use Rattle.theory_filler.specs.Answers.{WasAsked, WereAsked, not_at_all, once_more}

was-then : (first : Voice) {between last : Voice} → WasAsked first between → WasAsked between last
    → WasAsked first last
was-then first before not_at_all = before
was-then first before (once_more after) = once_more (was-then first before after)

pub were-none : (voices : List Voice) → WereAsked voices voices
were-none [] = tt
were-none (voice ∷ voices) = (not_at_all, were-none voices)

pub were-then : (first between last : List Voice) → WereAsked first between
    → WereAsked between last → WereAsked first last
were-then [] [] [] before after = tt
were-then (a ∷ first) (b ∷ between) (c ∷ last) before after =
    (was-then a before.0 after.0, were-then first between last before.1 after.1)
were-then [] (b ∷ between) last before after = absurd before
were-then (a ∷ first) [] last before after = absurd before
were-then [] [] (c ∷ last) before after = absurd after
were-then (a ∷ first) (b ∷ between) [] before after = absurd after
