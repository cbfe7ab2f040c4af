-- What gaps bring to a number, as a sum.
use Rattle.std.proofs.Common.{◌≡◌, ◌∙◌, ℕ, ◌+◌, ◌≤◌, nat_le, cond, List, [], ◌∷◌, length, drop, ap, arith}
use Rattle.std.proofs.lemmas.List.{drop_all}
use Rattle.model_filling.specs.Renumbering.{FilledGap, moved, raised}
use Rattle.gap_filling.specs.Renumbered.{held}

-- what all of them bring
abbrev pub total : List FilledGap → ℕ
total [] = 0
total (gap ∷ gaps) = gap.more + total gaps

-- what those bring whose number isn't above this one
abbrev pub brought : ℕ → List FilledGap → ℕ
brought n [] = 0
brought n (gap ∷ gaps) = cond (nat_le gap.number n) gap.more 0 + brought n gaps

pub moved-by : (gaps : List FilledGap) (n : ℕ) → moved gaps n ≡ n + total gaps
moved-by [] n = omega arith
moved-by (gap ∷ gaps) n = omega (arith, moved-by gaps n)

pub raised-by : (gaps : List FilledGap) (n : ℕ) → raised gaps n ≡ n + brought n gaps
raised-by [] n = omega arith
raised-by (gap ∷ gaps) n = omega (arith, raised-by gaps n)

pub ruleset moved_rules = (moved-by)

pub ruleset raised_rules = (raised-by)

-- the end of a loop that adds up what each gap brings
pub ended : {A : Type 0} (sum : List A → ℕ) → sum [] ≡ 0 → (items : List A) (i new whole : ℕ)
    → length items ≤ i → held (new + sum (drop i items)) ≡ held whole → new ≤ 4294967295
    → new ≡ held whole
ended {A} sum none items i new whole le so_far small =
    let none_left : sum (drop i items) ≡ 0 = ap sum (drop_all i items le) ∙ none in
    omega (arith, none_left, so_far, small)
