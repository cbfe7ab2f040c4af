use Rattle.std.proofs.Common.{◌≡◌, ◌∷◌, ◌++◌}
use Rattle.model_text.specs.Tokens.{quote}
use Rattle.model_documents.specs.Printed.{escaped}
use Rattle.logic_text.proofs.grove_writing.push_literal.Given as goal

-- with the characters that are left, the quote and all of them
abbrev pub invariant-loop-character : goal.invariant-loop-character
invariant-loop-character l =
    l.text ++ escaped l.character-iterator.rest.now ≡ l.fn.text ++ (quote ∷ escaped l.other)
