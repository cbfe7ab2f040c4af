use Rattle.std.proofs.Common.{not, nat_eq, codes, arith}
use Rattle.std.specs.List.{list_any}
use Rattle.std.proofs.lemmas.Bool.Decides.{nat_tests}
use Rattle.model_text.specs.Lexemes.{reserved_words}
use Rattle.text_tokens.proofs.ReservedLemmas.{decided_by_first, decided_by_letter}
use Rattle.text_tokens.proofs.reserved.words_from.Goals as goal

pub returns-in-97 : goal.returns-in-97
unfolding reserved_words
returns-in-97 c = decided_by_letter 97 c.args.first c.in-97.is

pub returns-in-98 : goal.returns-in-98
unfolding reserved_words
returns-in-98 c = decided_by_letter 98 c.args.first c.in-98.is

pub returns-in-99 : goal.returns-in-99
unfolding reserved_words
returns-in-99 c = decided_by_letter 99 c.args.first c.in-99.is

pub returns-in-100 : goal.returns-in-100
unfolding reserved_words
returns-in-100 c = decided_by_letter 100 c.args.first c.in-100.is

pub returns-in-101 : goal.returns-in-101
unfolding reserved_words
returns-in-101 c = decided_by_letter 101 c.args.first c.in-101.is

pub returns-in-102 : goal.returns-in-102
unfolding reserved_words
returns-in-102 c = decided_by_letter 102 c.args.first c.in-102.is

pub returns-in-105 : goal.returns-in-105
unfolding reserved_words
returns-in-105 c = decided_by_letter 105 c.args.first c.in-105.is

pub returns-in-108 : goal.returns-in-108
unfolding reserved_words
returns-in-108 c = decided_by_letter 108 c.args.first c.in-108.is

pub returns-in-110 : goal.returns-in-110
unfolding reserved_words
returns-in-110 c = decided_by_letter 110 c.args.first c.in-110.is

pub returns-in-111 : goal.returns-in-111
unfolding reserved_words
returns-in-111 c = decided_by_letter 111 c.args.first c.in-111.is

pub returns-in-112 : goal.returns-in-112
unfolding reserved_words
returns-in-112 c = decided_by_letter 112 c.args.first c.in-112.is

pub returns-in-114 : goal.returns-in-114
unfolding reserved_words
returns-in-114 c = decided_by_letter 114 c.args.first c.in-114.is

pub returns-in-115 : goal.returns-in-115
unfolding reserved_words
returns-in-115 c = decided_by_letter 115 c.args.first c.in-115.is

pub returns-in-116 : goal.returns-in-116
unfolding reserved_words
returns-in-116 c = decided_by_letter 116 c.args.first c.in-116.is

pub returns-in-119 : goal.returns-in-119
unfolding reserved_words
returns-in-119 c = decided_by_letter 119 c.args.first c.in-119.is

pub returns-in-121 : goal.returns-in-121
unfolding reserved_words
returns-in-121 c = decided_by_letter 121 c.args.first c.in-121.is

pub returns-in_default : goal.returns-in_default
unfolding reserved_words
returns-in_default c = λ rest. decided_by_first
    (λ b. not (list_any (nat_eq b) (codes "abcdefilnoprstwy"))) c.args.first rest
    (grind (arith, nat_tests))
