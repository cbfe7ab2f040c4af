-- The text of a grove has the lexemes that spell it.
use Rattle.std.proofs.Common.{◌≡◌, ℕ, ◌≤◌, List, [], ◌∷◌, ◌++◌, map, codes, refl, sym, subst, subst₂, append_assoc}
use Rattle.std.proofs.lemmas.List.{append-nil}
use Rattle.std.specs.Str.{IsUtf8}
use Rattle.model_limits.specs.Limits.{standard_limits}
use Rattle.model_shapes.specs.Values.{Name}
use Rattle.model_shapes.specs.Trees.{Trees, none, node, hole}
use Rattle.model_text.specs.Lexemes.{Lexeme, terminal}
use Rattle.model_text.specs.Tokens.{symbol_token, token_piece, piece_at}
use Rattle.model_text.specs.Nesting.{lexemes_of}
use Rattle.model_text.proofs.Computing.{lexing}
use Rattle.model_documents.specs.Printed.{tree_text, forest_text, further_trees, further_roots, grove_text}
use Rattle.model_documents.specs.Grammar.{one, SpellsGrove}
use Rattle.model_printing.specs.Printable.{ArePrintableTrees, without_line}
use Rattle.model_printing.proofs.Ended.{digits_before}
use Rattle.model_printing.proofs.Found.{lines_kept}
use Rattle.model_printing.proofs.Printing.{HasToken}
use Rattle.model_printing.proofs.Backwards.{Reads, First, ReadsFrom, nothing_reads, token_reads, read_back}
use Rattle.model_printing.proofs.GroveLexemes.{tree_lexemes, between, forest_lexemes, tree_lexemes_behind, root_lexemes_behind, grove_lexemes, grove_spelled, grove_plain}
use Rattle.model_printing.proofs.GroveTokens.{NoDigit, Quote, Any, IsSymbol, any, number_reads, literal_reads, symbol_reads, hash, percent, left_bracket, right_bracket, right_angle, left_angle, star, plus, sign_reads, anywhere}

-- TREES
-- the bytes, which begin so, have these lexemes before any others that begin so
abbrev ReadBefore : (ℕ → Type 0) → (ℕ → Type 0) → List ℕ → List Lexeme → Type 0
ReadBefore Next Is own seen = (bytes : List ℕ) (lexemes : List Lexeme)
    → ReadsFrom Next bytes lexemes → ReadsFrom Is (own ++ bytes) (seen ++ lexemes)

empty_reads : ReadBefore NoDigit Any (codes "0f") (one (codes "0f"))
unfolding lexing
empty_reads bytes lexemes rest = let so : HasToken (terminal (codes "0f")) = record {
  kind = symbol_token;
  own = codes "0f";
  valid = refl;
  token = refl;
  bytes = refl;
  seen = refl;
} in
    any (token_reads so rest.reads (before rest.reads.own rest.first))
  where
    before : (own : List ℕ) → First NoDigit own
        → piece_at (codes "0f" ++ own) ≡ token_piece symbol_token 2
    before [] first = refl
    before (c ∷ own) first = digits_before symbol_token 48 (102 ∷ []) own c first refl refl

tree_reads : (name : Name) (number list : ℕ) (own : List ℕ) (seen : List Lexeme) → IsUtf8 name
    → number ≤ standard_limits.integer → list ≤ standard_limits.integer
    → ReadBefore NoDigit Any own seen
    → ReadBefore NoDigit Quote (tree_text name number own list)
    (tree_lexemes name number seen list)
tree_reads name number list own seen valid number_fits list_fits inner bytes lexemes rest =
    let behind = symbol_reads right_bracket NoDigit right_bracket.no_digit
    (symbol_reads percent Any tt (any (number_reads list list_fits rest))) in
    let whole = literal_reads name valid (symbol_reads hash Any tt
    (any (number_reads number number_fits (symbol_reads left_bracket NoDigit
    left_bracket.no_digit (inner _ _ behind))))).reads in
    simp append_assoc (simp append_assoc at whole)

-- a tree between brackets, before others
between_reads : (left right : ℕ) → IsSymbol Quote left → IsSymbol Any right
    → (own others : List ℕ) (seen rest : List Lexeme)
    → ReadBefore NoDigit Quote own seen → ReadBefore Any Any others rest
    → ReadBefore Any Any (left ∷ (own ++ right ∷ others))
    (between (left ∷ []) seen (right ∷ []) rest)
between_reads left right begins ends own others seen rest inner behind bytes lexemes after =
    let whole = symbol_reads begins Any tt
    (inner _ _ (symbol_reads ends NoDigit ends.no_digit (behind bytes lexemes after))) in
    simp append_assoc whole

node_reads : (left right : ℕ) → IsSymbol Quote left → IsSymbol Any right
    → (name : Name) (number : ℕ) (kids : Trees) (list : ℕ) (more : Trees)
    → ArePrintableTrees (node name number kids list more)
    → ReadBefore NoDigit Any (forest_text kids) (forest_lexemes kids)
    → (others : List ℕ) (rest : List Lexeme) → ReadBefore Any Any others rest
    → ReadBefore Any Any
    (left ∷ (tree_text name number (forest_text kids) list ++ right ∷ others))
    (between (left ∷ []) (tree_lexemes name number (forest_lexemes kids) list) (right ∷ []) rest)
node_reads left right begins ends name number kids list more can inner others rest behind =
    between_reads left right begins ends (tree_text name number (forest_text kids) list) others
    (tree_lexemes name number (forest_lexemes kids) list) rest
    (tree_reads name number list (forest_text kids) (forest_lexemes kids) can.0 can.1 can.2 inner)
    behind

mutual
  forest_reads : (kids : Trees) → ArePrintableTrees kids
      → ReadBefore NoDigit Any (forest_text kids) (forest_lexemes kids)
  forest_reads none can = empty_reads
  forest_reads (node name number kids list more) can = λ bytes lexemes rest.
      node_reads 60 62 left_angle right_angle name number kids list more can
      (forest_reads kids can.3) (further_trees more) (tree_lexemes_behind more)
      (trees_behind more can.4) bytes lexemes (any rest.reads)
  forest_reads (hole more) can = absurd can

  trees_behind : (more : Trees) → ArePrintableTrees more
      → ReadBefore Any Any (further_trees more) (tree_lexemes_behind more)
  trees_behind none can = λ bytes lexemes rest. rest
  trees_behind (node name number kids list more) can = λ bytes lexemes rest.
      any (sign_reads star (node_reads 60 62 left_angle right_angle name number kids list more can
      (forest_reads kids can.3) (further_trees more) (tree_lexemes_behind more)
      (trees_behind more can.4) bytes lexemes rest).reads)
  trees_behind (hole more) can = absurd can

roots_behind : (more : Trees) → ArePrintableTrees more
    → ReadBefore Any Any (further_roots more) (root_lexemes_behind more)
roots_behind none can = λ bytes lexemes rest. rest
roots_behind (node name number kids list more) can = λ bytes lexemes rest.
    any (sign_reads plus (node_reads 91 93 (anywhere left_bracket) right_bracket name number kids
    list more can (forest_reads kids can.3) (further_roots more) (root_lexemes_behind more)
    (roots_behind more can.4) bytes lexemes rest).reads)
roots_behind (hole more) can = absurd can

-- A GROVE
grove_seen : (grove : Trees) → ArePrintableTrees grove
    → map without_line (lexemes_of (grove_text grove)) ≡ grove_lexemes grove
unfolding lexing
grove_seen none can = refl
grove_seen (node name number kids list more) can =
    read_back (subst₂ Reads (append-nil (grove_text (node name number kids list more)))
    (append-nil (grove_lexemes (node name number kids list more)))
    (node_reads 91 93 (anywhere left_bracket) right_bracket name number kids list more can
    (forest_reads kids can.3) (further_roots more) (root_lexemes_behind more)
    (roots_behind more can.4) [] [] nothing_reads).reads)
grove_seen (hole more) can = absurd can

-- so the lexemes of its text spell it
pub grove_reads_back : (grove : Trees) → ArePrintableTrees grove
    → SpellsGrove grove (lexemes_of (grove_text grove))
grove_reads_back grove can = subst (SpellsGrove grove)
    (sym (lines_kept (lexemes_of (grove_text grove)) (grove_lexemes grove) (grove_seen grove can)
    (grove_plain grove))) (grove_spelled grove can)
