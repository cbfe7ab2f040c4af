use Rattle.std.proofs.Common.{ap, subst, ◌≤◌, ◌<◌, ◌∙◌, sym}
use Rattle.model_text.specs.Lexemes.{terminal}
use Rattle.model_text.specs.Nesting.{lexeme_limit, open_behind}
use Rattle.text_tokens.specs.Ascii.{Stays, own_lexeme}
use Rattle.text_tokens.proofs.LimitLemmas.{other_stays, symbol_stays, symbol_nests}
use Rattle.text_tokens.proofs.ascii_limits.open_behind_own.Goals as goal

pub returns-then-behind-from-clause-err : goal.returns-then-behind-from-clause-err
returns-then-behind-from-clause-err c = λ line.
    ap (λ k. lexeme_limit c.args.most c.args.before (own_lexeme k c.args.own.now line))
    c.in-Symbol.is
    ∙ symbol_nests c.args.most c.args.before c.open_behind_symbol-behind.result line
    c.args.own.now c.requires.ascii
    (c.open_behind_symbol-behind.ensures
    ∙ ap (λ n. open_behind n (terminal c.text_of.result.now)) c.from.ensures
    ∙ ap (λ t. open_behind c.args.before (terminal t)) c.text_of.ensures)
    (subst (λ n. n < c.open_behind_symbol-behind.result) c.from-in-Symbol.ensures
    c.if-behind-from.true)

pub returns-else-behind-from-clause-ok : goal.returns-else-behind-from-clause-ok
returns-else-behind-from-clause-ok c = λ line.
    subst (λ k. Stays c.args.most c.args.before c.open_behind_symbol-behind.result
    (own_lexeme k c.args.own.now line)) (sym c.in-Symbol.is)
    (symbol_stays c.args.most c.args.before c.open_behind_symbol-behind.result line
    c.args.own.now c.requires.ascii
    (c.open_behind_symbol-behind.ensures
    ∙ ap (λ n. open_behind n (terminal c.text_of.result.now)) c.from.ensures
    ∙ ap (λ t. open_behind c.args.before (terminal t)) c.text_of.ensures)
    (subst (λ n. c.open_behind_symbol-behind.result ≤ n) c.from-in-Symbol.ensures
    c.if-behind-from.false))

pub returns-in_default : goal.returns-in_default
returns-in_default c = record {
  few = c.requires.few;
  ok = λ line. other_stays c.args.most c.args.before line c.args.kind c.args.own.now
      c.in_default.not-Symbol (λ e. absurd (c.in_default.not-Literal e)) c.requires.few;
  err = tt;
}
