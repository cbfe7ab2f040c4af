-- Needn't be believed: laws say that the test decides equality, and that this is the verdict. The
-- verdict by the rule on texts, as it is computed.
use Rattle.std.specs.Prelude.{Bool, true, false, ◌&&◌, ◌==◌, List, [], ◌∷◌, cond}
use Rattle.model_shapes.specs.Sorts.{str_sort}
use Rattle.model_terms.specs.VariableTests.{same_var}
use Rattle.model_terms.specs.Terms.{Term}
use Rattle.model_terms.specs.TermSorts.{both_have}
use Rattle.model_formulas.specs.Formulas.{equality}
use Rattle.model_commands.specs.Theories.{Judgement, entails}
use Rattle.rule_table.specs.Conditions.{texts_side}
use Rattle.rule_table.specs.Texts.{Piece, character, text_of_variable, pieces}
use Rattle.rule_table.specs.Verdicts.{Verdict, instance_verdict, shape_verdict, side_verdict}

-- equal pieces
abbrev pub same_piece : Piece → Piece → Bool
same_piece (character c) (character d) = c == d
same_piece (text_of_variable x) (text_of_variable y) = same_var x y
same_piece p q = false

abbrev pub same_pieces : List Piece → List Piece → Bool
same_pieces [] [] = true
same_pieces (p ∷ ps) (q ∷ qs) = same_piece p q && same_pieces ps qs
same_pieces ps qs = false

-- where the terms are said to be equal
abbrev pub by_texts : Term → Term → Verdict
by_texts a b =
    cond (both_have str_sort a b)
    (cond (same_pieces (pieces a) (pieces b)) instance_verdict (side_verdict texts_side))
    shape_verdict

-- of `concat`
abbrev pub concat_verdict : List Term → Judgement → Verdict
concat_verdict [] (entails p (equality a b) s) = by_texts a b
concat_verdict ts j = shape_verdict
