-- Tokens that open and close nothing, and the bytes of literals.
use Rattle.std.proofs.Common.{◌≡◌, ◌∙◌, ◌==◌, ◌&&◌, ℕ, Bool, true, false, cond, List, [], ◌∷◌, length, map, bytes_eq, codes, refl, sym, ap}
use Rattle.std.specs.Prelude.{if◌then◌else◌}
use Rattle.std.proofs.lemmas.Slice.Eq.{bytes_eq-Decides}
use Rattle.model_text.specs.Lexemes.{Lexeme, terminal, step_word, name_lexeme, is_reserved, word_lexeme}
use Rattle.model_text.specs.Tokens.{word_token}
use Rattle.model_text.specs.Nesting.{open_behind, text_within}
use Rattle.model_text.specs.Versions.{reserving, insert_word}
use Rattle.model_grammar.specs.Writing.{printed}
use Rattle.model_grammar.specs.TheoryWriting.{word_lexemes}
use Rattle.text_tokens.proofs.BracketLemmas.{brackets}
use Rattle.gap_filling.specs.declared.meters.Meter.{Meter}
use Rattle.gap_filling.specs.Measured.{number_fits, spent, after, measured}

module _ (m : Meter) (name : List ℕ) where
  abbrev Room : Meter
  Room = spent m (length name) m.brackets true

  stays : (l : Lexeme) → printed l ≡ name → open_behind m.brackets l ≡ m.brackets
      → (text_within l && number_fits l) ≡ true → Room ≡ measured m (l ∷ [])
  unfolding after
  stays l p o t = rw (p, o, t) refl

  reserved : bytes_eq name (codes "step") ≡ false → is_reserved name ≡ true
      → open_behind m.brackets (terminal name) ≡ m.brackets
  reserved es er =
      let same : word_lexeme name 0 ≡ terminal name = rw (es, er) refl in
      ap (open_behind m.brackets) (sym same)
      ∙ brackets m.brackets word_token name 0 (λ e. cc)

  by_insert : (b : Bool) → bytes_eq name insert_word ≡ b
      → Room ≡ measured m (cond b (terminal name) (name_lexeme name) ∷ [])
  by_insert true e =
      let is : name ≡ insert_word = (bytes_eq-Decides name insert_word).0 e in
      stays (terminal name) refl (rw is refl) refl
  by_insert false e = stays (name_lexeme name) refl refl refl

  by_kind : (s r v : Bool) → bytes_eq name (codes "step") ≡ s → is_reserved name ≡ r
      → Room ≡ measured m (cond v
      (map reserving ((if s then step_word 0
      else (if r then terminal name else name_lexeme name)) ∷ []))
      ((if s then step_word 0 else (if r then terminal name else name_lexeme name)) ∷ []))
  by_kind true r true es er =
      stays (step_word 0) (sym ((bytes_eq-Decides name (codes "step")).0 es)) refl refl
  by_kind true r false es er =
      stays (step_word 0) (sym ((bytes_eq-Decides name (codes "step")).0 es)) refl refl
  by_kind false true true es er = stays (terminal name) refl (reserved es er) refl
  by_kind false true false es er = stays (terminal name) refl (reserved es er) refl
  by_kind false false true es er = by_insert (bytes_eq name insert_word) refl
  by_kind false false false es er = stays (name_lexeme name) refl refl refl

  -- the name of a rule, in a file of whatever version
  pub rule_word : (version : ℕ)
      → spent m (length name) m.brackets true ≡ measured m (word_lexemes version name)
  rule_word version =
      by_kind (bytes_eq name (codes "step")) (is_reserved name) (version == 2) refl refl
