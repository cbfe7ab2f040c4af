-- What is written for a formula reads back.
use Rattle.std.proofs.Common.{◌≡◌, ℕ, List, sym, ◌∙◌, subst}
use Rattle.std.specs.Str.{IsUtf8}
use Rattle.model_formulas.specs.Formulas.{Named}
use Rattle.model_text.specs.Nesting.{lexemes_of}
use Rattle.model_grammar.specs.Sorts.{Declared, sorted_formula}
use Rattle.model_grammar.specs.Writing.{spaced, text_of}
use Rattle.model_grammar.specs.TheoryWriting.{formula_lexemes}
use Rattle.model_grammar.specs.Writable.{undeclared, IsWritable}
use Rattle.model_round_trip.proofs.Laws.{formula_reads}
use Rattle.model_round_trip.proofs.Resorted.{formula_resorted}
use Rattle.logic_text.specs.DeclaredFormulas.{SpellsFormulaWith}
use Rattle.logic_text.proofs.Utf8Lemmas.{spaced_literals}

pub reads_back : (declared : Declared) (p : Named) (text : List ℕ) → IsUtf8 text
    → text ≡ spaced (formula_lexemes p) → IsWritable p → sorted_formula declared p ≡ p
    → SpellsFormulaWith declared p (lexemes_of (text_of (formula_lexemes p)))
reads_back declared p text utf8 e can sorted = record {
  raw = sorted_formula undeclared p;
  spelled = formula_reads p can (spaced_literals (formula_lexemes p) (subst IsUtf8 e utf8));
  sorted = sym (formula_resorted declared undeclared p ∙ sorted);
}
