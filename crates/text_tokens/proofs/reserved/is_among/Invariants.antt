-- Of the words that were compared none is the word.
use Rattle.std.proofs.Common.{◌≡◌, bytes_eq, drop}
use Rattle.std.specs.List.{list_any}
use Rattle.text_tokens.proofs.reserved.is_among.Given as goal

abbrev pub invariant-loop-other : goal.invariant-loop-other
invariant-loop-other l =
    list_any (λ w. bytes_eq l.word w.now) l.words
    ≡ list_any (λ w. bytes_eq l.word w.now) (drop l.other-index l.words)
