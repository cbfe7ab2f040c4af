use Rattle.std.proofs.Common.{[], ◌∷◌, refl, map, ◌∙◌, arith}
use Rattle.std.proofs.lemmas.Bool.Decides.{nat_tests}
use Rattle.model_text.specs.Tokens.{symbols}
use Rattle.text_tokens.proofs.SymbolLemmas.{one_or_two, none_or_two, none_or_three, one_or_none}
use Rattle.text_tokens.proofs.symbols.length_from.Goals as goal

pub returns-in-60 : goal.returns-in-60
unfolding symbols
returns-in-60 g c = c.one_or_two.ensures
    ∙ one_or_two (61 ∷ []) (60 ∷ 58 ∷ []) refl c.args.first (grind (arith, nat_tests))
    (map g.C.Letter.code c.args.rest.now)

pub returns-in-46 : goal.returns-in-46
unfolding symbols
returns-in-46 g c = c.one_or_two-in-46.ensures
    ∙ one_or_two (42 ∷ 43 ∷ []) (46 ∷ []) refl c.args.first (grind (arith, nat_tests))
    (map g.C.Letter.code c.args.rest.now)

pub returns-in-43 : goal.returns-in-43
unfolding symbols
returns-in-43 g c = c.one_or_two-in-43.ensures
    ∙ one_or_two (43 ∷ []) (43 ∷ []) refl c.args.first (grind (arith, nat_tests))
    (map g.C.Letter.code c.args.rest.now)

pub returns-in-45 : goal.returns-in-45
unfolding symbols
returns-in-45 g c = c.one_or_two-in-45.ensures
    ∙ one_or_two (111 ∷ 62 ∷ []) (45 ∷ []) refl c.args.first (grind (arith, nat_tests))
    (map g.C.Letter.code c.args.rest.now)

pub returns-in-42 : goal.returns-in-42
unfolding symbols
returns-in-42 g c = c.one_or_two-in-42.ensures
    ∙ one_or_two (46 ∷ []) (42 ∷ []) refl c.args.first (grind (arith, nat_tests))
    (map g.C.Letter.code c.args.rest.now)

pub returns-in-64 : goal.returns-in-64
unfolding symbols
returns-in-64 g c = c.none_or_two.ensures
    ∙ none_or_two (116 ∷ 102 ∷ 103 ∷ []) (64 ∷ []) refl c.args.first
    (grind (arith, nat_tests))
    (map g.C.Letter.code c.args.rest.now)

pub returns-in-63 : goal.returns-in-63
unfolding symbols
returns-in-63 g c = c.none_or_two-in-63.ensures
    ∙ none_or_two (116 ∷ 102 ∷ 103 ∷ []) (63 ∷ []) refl c.args.first
    (grind (arith, nat_tests))
    (map g.C.Letter.code c.args.rest.now)

pub returns-in-o : goal.returns-in-o
unfolding symbols
returns-in-o g c = c.none_or_three.ensures
    ∙ none_or_three (116 ∷ 102 ∷ 103 ∷ []) (111 ∷ []) refl c.args.first
    (grind (arith, nat_tests))
    (map g.C.Letter.code c.args.rest.now)

pub returns-in_default : goal.returns-in_default
returns-in_default g c = c.lone_length.ensures
    ∙ one_or_none c.args.first (grind (arith, nat_tests)) (map g.C.Letter.code c.args.rest.now)
