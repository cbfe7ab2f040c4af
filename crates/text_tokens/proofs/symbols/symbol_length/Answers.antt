use Rattle.text_tokens.proofs.SymbolLemmas.{none_in}
use Rattle.text_tokens.proofs.symbols.symbol_length.Goals as goal

pub returns-in-empty : goal.returns-in-empty
returns-in-empty g c = none_in g.C.Letter.code c.args.text.now c.in-empty.len_below
