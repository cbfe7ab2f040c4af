use Rattle.std.proofs.Common.{◌≡◌, ◌-◌, true, drop, sym, codes, arith}
use Rattle.token_readers.specs.Reading.{is_terminal}
use Rattle.token_readers.specs.Leaves.{lexeme_seen, lexemes_in}
use Rattle.logic_text.proofs.LeafFirst.{formula_of_leaf, formula_of_length, formula_of_none}
use Rattle.logic_text.proofs.formula_reading.+part.Goals as goal

pub fill-returns : goal.fill-returns
fill-returns t c = rw
    (formula_of_leaf c.args.depth (c.args.depth - 1) (lexemes_in c.args.tokens.now)
    (omega (arith, c.if-depth-eq0.false)) c.in-Some.ensures
    (c.is_word_or_symbol.ensures c.if-is_word_or_symbol.false))
    c.leaf_formula.ensures

pub fill-returns-in_default : goal.fill-returns-in_default
fill-returns-in_default t c =
    formula_of_none c.args.depth (c.args.depth - 1) (lexemes_in c.args.tokens.now)
    (omega (arith, c.if-depth-eq0.false)) c.in_default.ensures

pub part_from-returns-then-is_this-4 : goal.part_from-returns-then-is_this-4
part_from-returns-then-is_this-4 t c =
    let seen : is_terminal (codes "len") (lexeme_seen c.args.first) ≡ true = cc in
    rw c.requires
    (rw (formula_of_length c.args.depth (lexeme_seen c.args.first)
    (drop 1 (lexemes_in c.args.tokens.now)) seen)
    (rw (sym c.advance-then-is_this-4.ensures) c.length.ensures))
