-- What holds of each letter, where it holds of each of them by name.
use Rattle.rule_patterns.specs.Letter.{FormulaLetter, P', Q', R', A', B', K', H', TermLetter, E', F', S', I', L', T', J', M', G', V', Y', N'}

abbrev pub OfFormulas : (FormulaLetter → Type 0) → Type 0
OfFormulas P = P P' × P Q' × P R' × P A' × P B' × P K' × P H'

pub each-formula : (P : FormulaLetter → Type 0) → OfFormulas P → (a : FormulaLetter) → P a
each-formula P h P' = h.0
each-formula P h Q' = h.1
each-formula P h R' = h.2
each-formula P h A' = h.3
each-formula P h B' = h.4
each-formula P h K' = h.5
each-formula P h H' = h.6

abbrev pub OfTerms : (TermLetter → Type 0) → Type 0
OfTerms P =
    P E' × P F' × P S' × P I' × P L' × P T' × P J' × P M' × P G' × P V' × P Y' × P N'

pub each-term : (P : TermLetter → Type 0) → OfTerms P → (a : TermLetter) → P a
each-term P h E' = h.0
each-term P h F' = h.1
each-term P h S' = h.2
each-term P h I' = h.3
each-term P h L' = h.4
each-term P h T' = h.5
each-term P h J' = h.6
each-term P h M' = h.7
each-term P h G' = h.8
each-term P h V' = h.9
each-term P h Y' = h.10
each-term P h N' = h.11
