use Rattle.std.proofs.Common.{◌-◌, arith}
use Rattle.token_readers.specs.Leaves.{lexemes_in}
use Rattle.logic_text.specs.Places.{place_of}
use Rattle.logic_text.proofs.LeafFirst.{term_of_leaf}
use Rattle.logic_text.proofs.term_reading.+term.Goals as goal

pub term-returns : goal.term-returns
term-returns t c = rw
    (term_of_leaf (place_of c.args.place) c.args.depth (c.args.depth - 1)
    (lexemes_in c.args.tokens.now) (omega (arith, c.if-depth-eq0.false)) c.in-Some.ensures
    (c.is_word_or_symbol.ensures c.if-is_word_or_symbol.false))
    c.leaf_term.ensures
