use Rattle.std.proofs.Common.{◌≡◌, ℕ, List, refl, sym, subst}
use Rattle.std.proofs.lemmas.Result.{IfOk-weaker}
use Rattle.std.proofs.lemmas.Str.{IsUtf8-had}
use Rattle.model_text.specs.Lexemes.{Lexeme}
use Rattle.model_text.specs.Nesting.{lexemes_of}
use Rattle.model_grammar.specs.Writing.{spaced, text_of}
use Rattle.model_grammar.specs.TheoryWriting.{formula_lexemes}
use Rattle.formula_syntax.specs.Formulas.{formula_of}
use Rattle.logic_text.specs.DeclaredFormulas.{SpellsFormulaWith}
use Rattle.logic_text.proofs.WrittenFormulas.{reads_back}
use Rattle.logic_text.proofs.formula_writing.write_formula.Goals as goal

pub returns-clause-reads_back : goal.returns-clause-reads_back
returns-clause-reads_back c declared can sorted =
    let p = formula_of c.args.formula.now in
    let made : c.push_formula.new.text ≡ spaced (formula_lexemes p)
    = rw (c.in_ok-push_formula.ensures, c.new-text.ensures) refl in
    IfOk-weaker c.without_space.result
    (λ text. (s : List Lexeme) → c.push_formula.new.text ≡ spaced s → text ≡ text_of s)
    (λ text. SpellsFormulaWith declared p (lexemes_of text))
    (λ text is. subst (λ (z : List ℕ). SpellsFormulaWith declared p (lexemes_of z))
    (sym (is (formula_lexemes p) made))
    (reads_back declared p c.push_formula.new.text (IsUtf8-had _ c.is_utf8.ensures) made can
    sorted)) c.without_space.ensures
