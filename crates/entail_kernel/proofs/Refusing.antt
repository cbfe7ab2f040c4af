-- Citations that are of no entailments, or of more than two.
use Rattle.std.proofs.Common.{◌≡◌, ◌≤◌, ℕ, refl, sym, subst, arith, false, List, [], ◌∷◌, length, get_or, Option, Some, None}
use Rattle.std.proofs.lemmas.Bool.{false≢true}
use Rattle.std.proofs.lemmas.Option.{same_Some}
use Rattle.model_commands.specs.Theories.{Judgement, entails, triple}
use Rattle.rule_table.specs.Accepted as accepted
use Rattle.rule_table.specs.Accepted.{in_front, judgement_numbered}
use Rattle.theory_syntax.specs.declared.steps.Step.{Step}
use Rattle.entail_rules.specs.declared.cited.Cited.{Cited}
use Rattle.cited_steps.specs.Earlier.{steps_in}
use Rattle.entail_rules.specs.Premises.{are_few, Cites}
use Rattle.entail_kernel.specs.Citing.{CitesOne, is_entailment}

-- judgements that are no two entailments at most
first-not : (j : Judgement) (rest : List Judgement) → is_entailment j ≡ false
    → are_few (j ∷ rest) ≡ false
first-not (entails p q s) rest h = absurd (false≢true (sym h))
first-not (triple p c q d) rest h = refl

second-not : (j k : Judgement) (rest : List Judgement) → is_entailment k ≡ false
    → are_few (j ∷ k ∷ rest) ≡ false
second-not (triple p c q d) k rest h = refl
second-not (entails p q s) (entails p' q' s') rest h = absurd (false≢true (sym h))
second-not (entails p q s) (triple p' c q' d) rest h = refl

three-not : (j k l : Judgement) (rest : List Judgement) → are_few (j ∷ k ∷ l ∷ rest) ≡ false
three-not (triple p c q d) k l rest = refl
three-not (entails p q s) (triple p' c q' d) l rest = refl
three-not (entails p q s) (entails p' q' s') l rest = refl

-- the judgement is no entailment, or there is none
abbrev Refused : Option Judgement → Type 0
Refused found = (j : Judgement) → found ≡ Some j → is_entailment j ≡ false

-- where the first cited judgement is none
first-refused : (found : Option Judgement) (rest : Option (List Judgement)) → Refused found
    → Cites None (in_front found rest)
first-refused None rest h js e = absurd cc
first-refused (Some j) None h js e = absurd cc
first-refused (Some j) (Some rest) h js e =
    subst (λ (z : List Judgement). are_few z ≡ false) (same_Some (j ∷ rest) js e)
    (first-not j rest (h j refl))

-- where the second is none
second-refused : (found next : Option Judgement) (rest : Option (List Judgement))
    → Refused next → Cites None (in_front found (in_front next rest))
second-refused None next rest h js e = absurd cc
second-refused (Some j) None rest h js e = absurd cc
second-refused (Some j) (Some k) None h js e = absurd cc
second-refused (Some j) (Some k) (Some rest) h js e =
    subst (λ (z : List Judgement). are_few z ≡ false) (same_Some (j ∷ k ∷ rest) js e)
    (second-not j k rest (h k refl))

-- where there are more
many-refused : (x y z : Option Judgement) (rest : Option (List Judgement))
    → Cites None (in_front x (in_front y (in_front z rest)))
many-refused None y z rest js e = absurd cc
many-refused (Some a) None z rest js e = absurd cc
many-refused (Some a) (Some b) None rest js e = absurd cc
many-refused (Some a) (Some b) (Some c) None js e = absurd cc
many-refused (Some a) (Some b) (Some c) (Some rest) js e =
    subst (λ (z : List Judgement). are_few z ≡ false) (same_Some (a ∷ b ∷ c ∷ rest) js e)
    (three-not a b c rest)

-- what is refused, where it is found to be
pub none-cited : (cited : Option Cited) (judgements : Option (List Judgement)) → cited ≡ None
    → Cites None judgements → Cites cited judgements
none-cited cited judgements e h =
    subst (λ (found : Option Cited). Cites found judgements) (sym e) h

-- THE NUMBERS THAT ARE CITED
-- where the first is that of no entailment
pub first-number : (earlier : List Step) (numbers : List ℕ) → 1 ≤ length numbers
    → CitesOne (get_or numbers 0 0) earlier None
    → Cites None (accepted.cited (steps_in earlier) numbers)
first-number earlier [] l h = absurd (omega arith)
first-number earlier (n ∷ ns) l h =
    first-refused (judgement_numbered n (steps_in earlier))
    (accepted.cited (steps_in earlier) ns) h

-- where the second is
pub second-number : (earlier : List Step) (numbers : List ℕ) → 2 ≤ length numbers
    → CitesOne (get_or numbers 1 0) earlier None
    → Cites None (accepted.cited (steps_in earlier) numbers)
second-number earlier [] l h = absurd (omega arith)
second-number earlier (n ∷ []) l h = absurd (omega arith)
second-number earlier (n ∷ m ∷ ns) l h =
    second-refused (judgement_numbered n (steps_in earlier))
    (judgement_numbered m (steps_in earlier)) (accepted.cited (steps_in earlier) ns) h

-- where there are more
pub many-numbers : (earlier : List Step) (numbers : List ℕ) → 3 ≤ length numbers
    → Cites None (accepted.cited (steps_in earlier) numbers)
many-numbers earlier [] l = absurd (omega arith)
many-numbers earlier (n ∷ []) l = absurd (omega arith)
many-numbers earlier (n ∷ m ∷ []) l = absurd (omega arith)
many-numbers earlier (n ∷ m ∷ k ∷ ns) l =
    many-refused (judgement_numbered n (steps_in earlier))
    (judgement_numbered m (steps_in earlier)) (judgement_numbered k (steps_in earlier))
    (accepted.cited (steps_in earlier) ns)
