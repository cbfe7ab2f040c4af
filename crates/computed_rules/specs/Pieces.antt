-- Needn't be believed: the program's promise doesn't speak of it. What is left of a text, as a walk
-- goes through its pieces.
use Rattle.std.specs.Prelude.{List, [], ◌∷◌, ◌++◌}
use Rattle.std.specs.List.{flat_map}
use Rattle.rule_table.specs.Texts as model
use Rattle.dom_terms.specs.Terms.{logic_var_of, term_of, var_of}
use Rattle.dom_terms.specs.declared.terms.Term.{Term}
use Rattle.computed_rules.specs.declared.texts.Leaf.{Leaf}
use Rattle.computed_rules.specs.declared.texts.Leaf.TheVariants as l
use Rattle.computed_rules.specs.declared.texts.Piece.{Piece}
use Rattle.computed_rules.specs.declared.texts.Piece.TheVariants as p
use Rattle.computed_rules.specs.declared.texts.Rest.{Rest}

-- the piece
abbrev pub piece_of : Piece → model.Piece
piece_of (p.Byte byte) = model.character byte
piece_of (p.Prog variable) = model.text_of_variable (var_of variable.now)
piece_of (p.Logic variable) = model.text_of_variable (logic_var_of variable.now)

-- those of a term
abbrev pub pieces_of : Term → List model.Piece
pieces_of term = model.pieces (term_of term)

-- those of a literal or a variable
abbrev pub leaf_pieces : Leaf → List model.Piece
leaf_pieces (l.Text bytes) = model.characters bytes.now
leaf_pieces (l.Prog variable) = model.text_of_variable (var_of variable.now) ∷ []
leaf_pieces (l.Logic variable) = model.text_of_variable (logic_var_of variable.now) ∷ []

-- the pieces that are left
abbrev pub pieces_left : Rest → List model.Piece
pieces_left rest = model.characters rest.text.now ++ flat_map leaf_pieces rest.leaves.now
